use Rattle.std.proofs.Common.{◌≡◌, take}
use Rattle.da_tables.proofs.connections.Connections.copy.Given as goal

abbrev pub invariant-loop-connection : goal.invariant-loop-connection
invariant-loop-connection l = l.items.items ≡ take l.connection-index l.connection-items
