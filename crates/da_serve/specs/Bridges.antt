-- Words for the functions of the service: what a part of `run_serve` answers. Only the code cites them.
use Rattle.std.specs.Prelude.{◌≤◌, ⊤, Result, Ok, Err}
use Rattle.da_command.specs.declared.status.Status.{Status}
use Rattle.da_command.specs.declared.status.Status.TheVariants.{NoListen, NoMemory}
use Rattle.da_outside.specs.Causes.{Rose}
use Rattle.da_outside.specs.Listen.{ListenState}
use Rattle.da_outside.specs.Past.{Stays}
use Rattle.da_serve.specs.Serving.{BindFails}

-- ---- the sockets

module _ {C : Type 0} where
  -- by the answer of one bind: no connection was accepted, and NoListen is told only where the socket's count of faults rose
  abbrev pub Binds : ListenState C → ListenState C → Result (Unit {0}) Status → Type 0
  Binds before after (Ok done) = Stays before.left after.left × (before.faults ≤ after.faults)
  Binds before after (Err NoListen) = Stays before.left after.left × Rose before.faults after.faults
  Binds before after (Err NoMemory) = Stays before.left after.left × (before.faults ≤ after.faults)
  Binds before after (Err _) = ⊥

  -- by the answer of both binds, that of the clients' socket first
  abbrev pub BindsBoth : ListenState C → ListenState C → ListenState C → ListenState C → Result (Unit {0}) Status → Type 0
  BindsBoth clients clients_after masters masters_after (Ok done) =
      Stays clients.left clients_after.left × Stays masters.left masters_after.left
  BindsBoth clients clients_after masters masters_after (Err NoListen) = BindFails clients clients_after masters masters_after
  BindsBoth clients clients_after masters masters_after (Err NoMemory) = ⊤
  BindsBoth clients clients_after masters masters_after (Err _) = ⊥
