-- The command `worker`, by the status of its parts.
use Rattle.std.proofs.Common.{◌≡◌, List, Option, Some, None, Err, refl, sym, ap, subst, inl, inr}
use Rattle.da_base.specs.Words.{Bytes}
use Rattle.da_outside.specs.FileReads.{ReadsNoOther}
use Rattle.da_outside.specs.Files.{FilesState}
use Rattle.da_outside.specs.Outside.{Outside, IsUntouched}
use Rattle.da_settings.specs.declared.settings.Settings.{Settings}
use Rattle.da_worker.specs.declared.worker.WorkerStatus.{WorkerStatus}
use Rattle.da_worker.specs.declared.worker.WorkerStatus.TheVariants.{Done as WorkDone, BadInput as BadLine, LongInput, ReadFault as WorkReadFault, WriteFault as WorkWriteFault, NoMemory as WorkNoMemory}
use Rattle.da_worker.specs.Run.{IsAnswered, IsGood}
use Rattle.da_worker.proofs.Complete.{completes}
use Rattle.da_command.specs.declared.status.Status.{Status}
use Rattle.da_command.specs.declared.status.Status.TheVariants.{Done, Usage, BadScript, LongScript, BadInput, NoSettings, NoListen, NoMemory, ReadFault, WriteFault, Full, BadSettings}
use Rattle.da_command.specs.SettingsFile.{HoldsSettings, ReadsSettings}
use Rattle.da_command.specs.Statuses.{IsDone}
use Rattle.da_command.specs.Words.{worker_path}
use Rattle.da_command.proofs.SettingsFileLemmas.{no_fault}
use Rattle.da_command.proofs.CommandRunLemmas.{unread}
use Rattle.da_work.specs.Work.{pass_paths, user_paths, status_of_end, RanOver, WorksOver, WorksWith, Works, IsGoodWork, CompletesWork, RunsWorker}

-- by the worker's end
works_by_end : (path : Bytes) (before after : Outside) (end : WorkerStatus) → WorksWith path before after (status_of_end end)
    → Works (Some path) before after (status_of_end end)
works_by_end path before after WorkDone works = works
works_by_end path before after (BadLine line) works = works
works_by_end path before after LongInput works = works
works_by_end path before after WorkReadFault works = works
works_by_end path before after WorkWriteFault works = works
works_by_end path before after WorkNoMemory works = inr works

-- the settings were read, and then nothing or the worker's run
works_read : (path : Bytes) (before after : Outside) (settings : Settings) (files : FilesState) (status : Status) → HoldsSettings path before.files files settings
    → WorksOver settings (record before { files = files }) after status → Works (Some path) before after status
works_read path before after settings files status holds (inl ran) =
    subst (λ (s : Status). Works (Some path) before after s) (sym ran.is_status)
    (works_by_end path before after ran.end
    (record { settings = settings; files = files; holds = holds; ran = subst (λ (s : Status). RanOver settings (record before { files = files }) after s) ran.is_status ran }))
works_read path before after settings files status holds (inr wanted) =
    let same_files : after.files ≡ files = ap (λ (o : Outside). o.files) wanted.1 in
    subst (λ (s : Status). Works (Some path) before after s) (sym wanted.0)
    (inl (
      subst (λ (f : FilesState). ReadsNoOther path before.files f) (sym same_files) (inr (_, holds.reads)),
      record { input = ap (λ (o : Outside). o.input) wanted.1; output = ap (λ (o : Outside). o.output) wanted.1 },
    ))

-- a worker that answered the whole input is done
done_by_end : (end : WorkerStatus) → IsAnswered end → IsDone (status_of_end end)
done_by_end WorkDone answered = tt
done_by_end (BadLine line) answered = answered
done_by_end LongInput answered = answered
done_by_end WorkReadFault answered = answered
done_by_end WorkWriteFault answered = answered
done_by_end WorkNoMemory answered = tt

done_with : (path : Bytes) (before after : Outside) (status : Status) → WorksWith path before after status → IsGoodWork path before after → IsDone status
done_with path before after status works good =
    let g = good.is_good in
    let sound : IsGood (record before { files = works.files }) after =
    record { input = g.input; left = g.left; are_queries = g.are_queries; short = g.short; input_sound = g.input_sound; output_sound = g.output_sound } in
    subst IsDone (sym works.ran.is_status)
    (done_by_end works.ran.end (completes (pass_paths works.settings) (user_paths works.settings) (record before { files = works.files }) after works.ran.end works.ran.ran sound))

completes_at : (path : Bytes) (before after : Outside) (status : Status) → Works (Some path) before after status → IsGoodWork path before after → IsDone status
completes_at path before after Done how good = tt
completes_at path before after NoMemory how good = tt
completes_at path before after Usage how good = how
completes_at path before after NoSettings how good = good.path_sound how.0
completes_at path before after (BadSettings fault) how good = no_fault path before.files after.files good.files good.settings good.held good.is_settings fault how.0
completes_at path before after (BadScript line) how good = done_with path before after (BadScript line) how good
completes_at path before after LongScript how good = done_with path before after LongScript how good
completes_at path before after BadInput how good = done_with path before after BadInput how good
completes_at path before after NoListen how good = done_with path before after NoListen how good
completes_at path before after ReadFault how good = done_with path before after ReadFault how good
completes_at path before after WriteFault how good = done_with path before after WriteFault how good
completes_at path before after Full how good = done_with path before after Full how good

module _ (words : List Bytes) (before after : Outside) where
  runs_at : (path : Bytes) (status : Status) → Some path ≡ worker_path words → Works (Some path) before after status → RunsWorker words before after status
  runs_at path status same how =
      record {
        works = subst (λ (p : Option Bytes). Works p before after status) same how;
        complete = subst (λ (p : Option Bytes). CompletesWork p before after status) same (completes_at path before after status how);
      }

  pub runs_unread : (path : Bytes) (status : Status) → Some path ≡ worker_path words → ReadsSettings path before.files after.files (Err status)
      → IsUntouched before after → RunsWorker words before after status
  runs_unread path status same read kept = runs_at path status same (unread WorksWith path before after status read kept)

  pub runs_read : (path : Bytes) (settings : Settings) (files : FilesState) (status : Status) → Some path ≡ worker_path words → HoldsSettings path before.files files settings
      → WorksOver settings (record before { files = files }) after status → RunsWorker words before after status
  runs_read path settings files status same holds over = runs_at path status same (works_read path before after settings files status holds over)

-- the words are off their form
pub runs_off : (words : List Bytes) (before : Outside) → None ≡ worker_path words → RunsWorker words before before Usage
runs_off words before same =
    record {
      works = subst (λ (p : Option Bytes). Works p before before Usage) same refl;
      complete = subst (λ (p : Option Bytes). CompletesWork p before before Usage) same tt;
    }
