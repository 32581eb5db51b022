use Rattle.std.proofs.Common.{◌≡◌, ◌≤◌, ◌+◌, suc, length, drop}
use Rattle.da_base.specs.Words.{numbers_where}
use Rattle.da_tables.specs.Queries.{is_running}
use Rattle.da_core.proofs.counts.running_count.Given as goal

abbrev pub invariant-loop-query_row : goal.invariant-loop-query_row
invariant-loop-query_row l = record {
  counted : length (numbers_where is_running 1 l.tables.queries) ≡ l.count + length (numbers_where is_running (suc l.query_row-index) (drop l.query_row-index l.tables.queries));
  few : l.count ≤ l.query_row-index;
}
