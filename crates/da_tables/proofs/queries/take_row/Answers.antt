use Rattle.std.proofs.Common.{sym, arith}
use Rattle.da_tables.specs.Queries.{as_taken}
use Rattle.da_tables.proofs.RowChanges.{set_changed, changed_past, changed_none}
use Rattle.da_tables.proofs.queries.take_row.Goals.{else-number-gt0-via-then-number-gt0+else-number-queries, else-number-gt0-via-else-number-gt0}
use Rattle.da_tables.proofs.queries.take_row.Goals as goal

pub returns-then-number-queries : goal.returns-then-number-queries
returns-then-number-queries c = set_changed (as_taken c.args.moment) c.args.queries.now c.args.number _ c.if-number-gt0.true c.if-number-queries.true

pub returns-else-number-gt0 : goal.returns-else-number-gt0
returns-else-number-gt0 c = elim c.else-number-gt0.branch [
  | else-number-gt0-via-then-number-gt0+else-number-queries w ↦ sym (changed_past (as_taken c.args.moment) c.args.queries.now c.args.number (omega (arith, w.if-number-queries.false)))
  | else-number-gt0-via-else-number-gt0 w ↦ sym (changed_none (as_taken c.args.moment) c.args.queries.now c.args.number (omega (arith, w.if-number-gt0.false)))
]
