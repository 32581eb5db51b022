use Rattle.da_query.proofs.AnswerReading.{answer_to-answers, answer_to-malformed, malformed-none}
use Rattle.da_query.proofs.laws.a_line_answers_a_query_or_is_malformed.Goals as goal

pub returns-clause-answers : goal.returns-clause-answers
returns-clause-answers c = answer_to-answers

pub returns-clause-malformed : goal.returns-clause-malformed
returns-clause-malformed c = answer_to-malformed

pub returns-clause-none : goal.returns-clause-none
returns-clause-none c = malformed-none
