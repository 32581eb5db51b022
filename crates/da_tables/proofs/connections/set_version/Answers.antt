use Rattle.std.proofs.Common.{sym, arith}
use Rattle.da_tables.specs.Connections.{with_version}
use Rattle.da_tables.proofs.RowChanges.{set_changed, changed_past, changed_none}
use Rattle.da_tables.proofs.connections.set_version.Goals.{else-conn-gt0-via-then-conn-gt0+else-conn-connections, else-conn-gt0-via-else-conn-gt0}
use Rattle.da_tables.proofs.connections.set_version.Goals as goal

pub returns-then-conn-connections : goal.returns-then-conn-connections
returns-then-conn-connections c = set_changed (with_version c.args.minor) c.args.connections.now c.args.conn _ c.if-conn-gt0.true c.if-conn-connections.true

pub returns-else-conn-gt0 : goal.returns-else-conn-gt0
returns-else-conn-gt0 c = elim c.else-conn-gt0.branch [
  | else-conn-gt0-via-then-conn-gt0+else-conn-connections w ↦ sym (changed_past (with_version c.args.minor) c.args.connections.now c.args.conn (omega (arith, w.if-conn-connections.false)))
  | else-conn-gt0-via-else-conn-gt0 w ↦ sym (changed_none (with_version c.args.minor) c.args.connections.now c.args.conn (omega (arith, w.if-conn-gt0.false)))
]
