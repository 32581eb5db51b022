use Rattle.da_invariants.proofs.OpenQueries.{open_queries_are_asked}
use Rattle.da_invariants.proofs.invariants.open_queries_are_asked.Goals as goal

pub returns : goal.returns
returns c = open_queries_are_asked
