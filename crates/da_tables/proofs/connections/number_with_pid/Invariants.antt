use Rattle.std.proofs.Common.{◌≡◌, drop}
use Rattle.da_base.specs.Words.{number_where}
use Rattle.da_tables.specs.Connections.{has_pid}
use Rattle.da_tables.proofs.Rows.{further_by}
use Rattle.da_tables.proofs.connections.number_with_pid.Given as goal

abbrev pub invariant-loop-connection : goal.invariant-loop-connection
invariant-loop-connection l = record {
  number : number_where (has_pid l.pid) l.connections ≡ further_by l.connection-index (number_where (has_pid l.pid) (drop l.connection-index l.connections));
  counted : l.before ≡ l.connection-index;
}
