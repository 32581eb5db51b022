use Rattle.std.proofs.Common.{◌≡◌, drop}
use Rattle.da_fields.specs.Answers.{answer_from}
use Rattle.da_chain.proofs.answers.answer_from.Given as goal

abbrev pub invariant-loop-number : goal.invariant-loop-number
invariant-loop-number l = answer_from l.db (drop l.number-index l.answers) ≡ answer_from l.db l.answers
