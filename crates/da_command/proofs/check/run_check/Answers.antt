use Rattle.std.proofs.Common.{refl}
use Rattle.da_command.proofs.CheckLemmas.{runs_off, runs_unread, runs_told}
use Rattle.da_command.proofs.check.run_check.Goals as goal

pub returns-in_default : goal.returns-in_default
returns-in_default g c = runs_off _ _ c.in_default.ensures

pub returns-in-Ok : goal.returns-in-Ok
returns-in-Ok g c =
    runs_told _ _ _ c.in-Some.path.now c.tell.result c.in-Some.ensures
    (record { settings = c.in-Ok.settings; holds = c.in-Ok.ensures; tells = c.tell.ensures })

pub returns-in-Err : goal.returns-in-Err
returns-in-Err g c = runs_unread _ _ _ c.in-Some.path.now c.in-Err.status c.in-Some.ensures c.in-Err.ensures refl
