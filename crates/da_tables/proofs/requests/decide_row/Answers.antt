use Rattle.std.proofs.Common.{◌∙◌, sym, arith, ap, set}
use Rattle.da_request.specs.Requests.{with_decision}
use Rattle.da_tables.proofs.RowChanges.{set_changed, changed_past, changed_none}
use Rattle.da_tables.proofs.requests.decide_row.Goals.{else-number-gt0-via-then-number-gt0+else-number-requests, else-number-gt0-via-else-number-gt0}
use Rattle.da_tables.proofs.requests.decide_row.Goals as goal

pub returns-in_ok-decide : goal.returns-in_ok-decide
returns-in_ok-decide c =
    ap (set c.args.requests.now _) c.in_ok-decide.ensures
    ∙ set_changed (with_decision c.args.settings.now c.args.moment) c.args.requests.now c.args.number _ c.if-number-gt0.true c.if-number-requests.true

pub returns-else-number-gt0 : goal.returns-else-number-gt0
returns-else-number-gt0 c = elim c.else-number-gt0.branch [
  | else-number-gt0-via-then-number-gt0+else-number-requests w ↦ sym (changed_past (with_decision c.args.settings.now c.args.moment) c.args.requests.now c.args.number (omega (arith, w.if-number-requests.false)))
  | else-number-gt0-via-else-number-gt0 w ↦ sym (changed_none (with_decision c.args.settings.now c.args.moment) c.args.requests.now c.args.number (omega (arith, w.if-number-gt0.false)))
]
