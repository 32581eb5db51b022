use Rattle.std.proofs.Common.{refl}
use Rattle.da_app.proofs.DriveLemmas.{runs_off, runs_unread, runs_ran}
use Rattle.da_app.proofs.drive.run_drive.Goals as goal

pub returns-in_default : goal.returns-in_default
returns-in_default g c = runs_off _ _ c.in_default.ensures

pub returns-in-Ok : goal.returns-in-Ok
returns-in-Ok g c =
    runs_ran _ _ _ c.in-Some.path.now c.play_script.result c.in-Some.ensures
    (record { settings = c.in-Ok.settings; holds = c.in-Ok.ensures; ran = c.play_script.ensures })

pub returns-in-Err : goal.returns-in-Err
returns-in-Err g c =
    runs_unread _ _ _ c.in-Some.path.now c.in-Err.status c.in-Some.ensures c.in-Err.ensures (record { input = refl; output = refl })
