use Rattle.da_tabline.specs.Escapes.{line_fields}
use Rattle.da_query.specs.declared.speaker.Speaker.TheVariants.{Worker}
use Rattle.da_query.proofs.AnswerReading.{answer_by-spells, answer_by-from}
use Rattle.da_query.proofs.laws.a_worker_answer_is_read_as_it_spells.Goals as goal

pub returns-clause-read : goal.returns-clause-read
returns-clause-read c = λ line n answer h. answer_by-spells Worker (line_fields line) (n, answer) h

pub returns-clause-spelled : goal.returns-clause-spelled
returns-clause-spelled c = λ line n answer s. answer_by-from Worker (line_fields line) n answer s
