use Rattle.std.proofs.Common.{◌≡◌, ◌++◌}
use Rattle.da_tables.specs.Hits.{hits_from}
use Rattle.da_answers.proofs.hits.add_hits.Given as goal

abbrev pub invariant-loop-left : goal.invariant-loop-left
invariant-loop-left l =
    l.hits.items ++ hits_from l.left l.settings l.moment l.tables l.request
    ≡ l.fn.hits.items ++ hits_from l.fn.databases l.fn.settings l.fn.moment l.fn.tables l.fn.request

abbrev pub decreases-loop-left : goal.decreases-loop-left
decreases-loop-left l = l.left
