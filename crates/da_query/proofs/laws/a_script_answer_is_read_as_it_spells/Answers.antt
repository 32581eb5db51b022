use Rattle.da_query.proofs.AnswerReading.{script_answer-spells, script_answer-from}
use Rattle.da_query.proofs.laws.a_script_answer_is_read_as_it_spells.Goals as goal

pub returns-clause-read : goal.returns-clause-read
returns-clause-read c = script_answer-spells

pub returns-clause-spelled : goal.returns-clause-spelled
returns-clause-spelled c = script_answer-from
