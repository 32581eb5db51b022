use Rattle.std.proofs.Common.{refl}
use Rattle.da_work.proofs.WorkLemmas.{runs_off, runs_unread, runs_read}
use Rattle.da_work.proofs.work.run_worker.Goals as goal

pub returns-in_default : goal.returns-in_default
returns-in_default g c = runs_off _ _ c.in_default.ensures

pub returns-in-Ok : goal.returns-in-Ok
returns-in-Ok g c = runs_read _ _ _ c.in-Some.path.now c.in-Ok.settings _ c.work_over.result c.in-Some.ensures c.in-Ok.ensures c.work_over.ensures

pub returns-in-Err : goal.returns-in-Err
returns-in-Err g c =
    runs_unread _ _ _ c.in-Some.path.now c.in-Err.status c.in-Some.ensures c.in-Err.ensures (record { input = refl; output = refl })
