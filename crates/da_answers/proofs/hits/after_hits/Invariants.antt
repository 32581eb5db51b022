use Rattle.std.proofs.Common.{◌≡◌, drop}
use Rattle.da_tables.specs.Hits.{after_hits}
use Rattle.da_answers.proofs.hits.after_hits.Given as goal

abbrev pub invariant-loop-number : goal.invariant-loop-number
invariant-loop-number l = after_hits l.settings l.continued l.tables (drop l.number-index l.hits) ≡ after_hits l.fn.settings l.fn.continued l.fn.tables l.fn.hits
