use Rattle.std.proofs.Common.{◌≡◌, drop}
use Rattle.da_base.specs.Words.{number_where}
use Rattle.da_core.specs.Clock.{is_late}
use Rattle.da_tables.proofs.Rows.{further_by}
use Rattle.da_core.proofs.clock.late_number.Given as goal

abbrev pub invariant-loop-query_row : goal.invariant-loop-query_row
invariant-loop-query_row l = record {
  number : number_where (is_late l.settings l.moment) l.queries ≡ further_by l.query_row-index (number_where (is_late l.settings l.moment) (drop l.query_row-index l.queries));
  counted : l.before ≡ l.query_row-index;
}
