use Rattle.std.proofs.Common.{◌≡◌, drop}
use Rattle.da_base.specs.Words.{number_where}
use Rattle.da_tables.specs.Queries.{first_waiting}
use Rattle.da_tables.specs.Queries.{is_waiting}
use Rattle.da_tables.proofs.Rows.{further_by}
use Rattle.da_tables.proofs.queries.first_waiting.Given as goal

abbrev pub invariant-loop-query_row : goal.invariant-loop-query_row
invariant-loop-query_row l = record {
  number : first_waiting l.tables ≡ further_by l.query_row-index (number_where (is_waiting l.tables) (drop l.query_row-index l.tables.queries));
  counted : l.before ≡ l.query_row-index;
}
