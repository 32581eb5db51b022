use Rattle.std.proofs.Common.{◌≡◌, ℕ, ◌<◌, ◌^◌, Some, Result, Ok, Err, Vec, Global}
use Rattle.std.specs.Prelude.{IfOk, OnOk}
use Rattle.da_fields.specs.declared.answer.Query.{Query}
use Rattle.da_query.specs.Queries.{query_line, query_of}
use Rattle.da_query.specs.QuerySpelling.{HasItsPassword}
use Rattle.da_query.proofs.QueryReading.{query_again}
use Rattle.da_query.proofs.printing.print.Goals as goal

printed : {E : Type 0} (r : Result (Vec ℕ Global) E) (q : Query) → IfOk r (λ line. line.items ≡ query_line q)
    → OnOk r ((q.number < 2 ^ 32) × (q.db < 2 ^ 32)) → IfOk r (λ line. HasItsPassword q → query_of line.items ≡ Some q)
printed (Ok line) q is small = query_again line.items q is small
printed (Err fault) q is small = tt

pub returns-clause-again : goal.returns-clause-again
returns-clause-again c = printed c.line_of_query.result c.args.query.now c.line_of_query.ensures.line c.line_of_query.ensures.small
