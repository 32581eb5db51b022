use Rattle.std.proofs.Common.{sym, arith}
use Rattle.da_request.specs.Requests.{cancelled}
use Rattle.da_tables.proofs.RowChanges.{set_changed, changed_past, changed_none}
use Rattle.da_tables.proofs.requests.cancel.Goals.{else-number-gt0-via-then-number-gt0+else-number-requests, else-number-gt0-via-else-number-gt0}
use Rattle.da_tables.proofs.requests.cancel.Goals as goal

pub returns-then-number-requests : goal.returns-then-number-requests
returns-then-number-requests c = set_changed cancelled c.args.requests.now c.args.number _ c.if-number-gt0.true c.if-number-requests.true

pub returns-else-number-gt0 : goal.returns-else-number-gt0
returns-else-number-gt0 c = elim c.else-number-gt0.branch [
  | else-number-gt0-via-then-number-gt0+else-number-requests w ↦ sym (changed_past cancelled c.args.requests.now c.args.number (omega (arith, w.if-number-requests.false)))
  | else-number-gt0-via-else-number-gt0 w ↦ sym (changed_none cancelled c.args.requests.now c.args.number (omega (arith, w.if-number-gt0.false)))
]
