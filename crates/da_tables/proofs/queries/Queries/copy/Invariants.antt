use Rattle.std.proofs.Common.{◌≡◌, take}
use Rattle.da_tables.proofs.queries.Queries.copy.Given as goal

abbrev pub invariant-loop-query_row : goal.invariant-loop-query_row
invariant-loop-query_row l = l.items.items ≡ take l.query_row-index l.query_row-items
