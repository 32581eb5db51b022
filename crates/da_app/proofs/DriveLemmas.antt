-- The command `drive`, by the status of its parts.
use Rattle.std.proofs.Common.{◌≡◌, List, Option, Some, None, Err, refl, subst, inr}
use Rattle.da_base.specs.Words.{Bytes}
use Rattle.da_outside.specs.Outside.{Outside, IsUntouched}
use Rattle.da_command.specs.declared.status.Status.{Status}
use Rattle.da_command.specs.declared.status.Status.TheVariants.{Done, Usage, BadScript, LongScript, BadInput, NoSettings, NoListen, NoMemory, ReadFault, WriteFault, Full, BadSettings}
use Rattle.da_command.specs.SettingsFile.{ReadsSettings}
use Rattle.da_command.specs.Words.{drive_path}
use Rattle.da_command.proofs.CommandRunLemmas.{unread}
use Rattle.da_app.specs.Drive.{RunsWith, Drives, Completes, RunsDrive}
use Rattle.da_app.proofs.Complete.{completes}

-- the settings were read, and the script was played under them
drives_ran : (path : Bytes) (before after : Outside) (status : Status) → RunsWith path before after status → Drives (Some path) before after status
drives_ran path before after Done runs = runs
drives_ran path before after Usage runs = absurd runs.ran.ends
drives_ran path before after (BadScript line) runs = runs
drives_ran path before after LongScript runs = runs
drives_ran path before after BadInput runs = runs
drives_ran path before after NoSettings runs = absurd runs.ran.ends
drives_ran path before after NoListen runs = runs
drives_ran path before after NoMemory runs = inr runs
drives_ran path before after ReadFault runs = runs
drives_ran path before after WriteFault runs = runs
drives_ran path before after Full runs = runs
drives_ran path before after (BadSettings fault) runs = absurd runs.ran.ends

module _ (words : List Bytes) (before after : Outside) where
  runs_at : (path : Bytes) (status : Status) → Some path ≡ drive_path words → Drives (Some path) before after status → RunsDrive words before after status
  runs_at path status same how =
      record {
        drives = subst (λ (p : Option Bytes). Drives p before after status) same how;
        complete = subst (λ (p : Option Bytes). Completes p before after status) same (completes path before after status how);
      }

  pub runs_unread : (path : Bytes) (status : Status) → Some path ≡ drive_path words → ReadsSettings path before.files after.files (Err status)
      → IsUntouched before after → RunsDrive words before after status
  runs_unread path status same read kept = runs_at path status same (unread RunsWith path before after status read kept)

  pub runs_ran : (path : Bytes) (status : Status) → Some path ≡ drive_path words → RunsWith path before after status → RunsDrive words before after status
  runs_ran path status same runs = runs_at path status same (drives_ran path before after status runs)

-- the words are off their form
pub runs_off : (words : List Bytes) (before : Outside) → None ≡ drive_path words → RunsDrive words before before Usage
runs_off words before same =
    record {
      drives = subst (λ (p : Option Bytes). Drives p before before Usage) same refl;
      complete = subst (λ (p : Option Bytes). Completes p before before Usage) same tt;
    }
