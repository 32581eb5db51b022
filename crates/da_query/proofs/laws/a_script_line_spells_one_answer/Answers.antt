use Rattle.da_tabline.specs.Escapes.{line_fields}
use Rattle.da_query.specs.declared.speaker.Speaker.TheVariants.{Script}
use Rattle.da_query.proofs.AnswerReading.{one_answer}
use Rattle.da_query.proofs.laws.a_script_line_spells_one_answer.Goals as goal

pub returns : goal.returns
returns c = λ line. one_answer Script (line_fields line)
