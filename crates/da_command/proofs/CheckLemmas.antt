-- The check, by the status of its parts.
use Rattle.std.proofs.Common.{◌≡◌, List, Option, Some, None, Err, refl, subst, inr}
use Rattle.da_base.specs.Words.{Bytes}
use Rattle.da_command.specs.declared.status.Status.{Status}
use Rattle.da_command.specs.declared.status.Status.TheVariants.{Done, Usage, BadScript, LongScript, BadInput, NoSettings, NoListen, NoMemory, ReadFault, WriteFault, Full, BadSettings}
use Rattle.da_command.specs.Check.{CheckOutside, ChecksWith, Checks, CompletesCheck, IsGoodFile, RunsCheck}
use Rattle.da_command.specs.SettingsFile.{ReadsSettings}
use Rattle.da_command.specs.Statuses.{IsDone}
use Rattle.da_command.specs.Words.{check_path}
use Rattle.da_command.proofs.SettingsFileLemmas.{no_fault}

-- no settings were read, and nothing was written
checks_unread : (path : Bytes) (before after : CheckOutside) (status : Status)
    → ReadsSettings path before.files after.files (Err status) → after.output ≡ before.output → Checks (Some path) before after status
checks_unread path before after NoSettings read same = (read, same)
checks_unread path before after (BadSettings fault) read same = (read, same)
checks_unread path before after NoMemory read same = (read, same)
checks_unread path before after Done read same = absurd read
checks_unread path before after Usage read same = absurd read
checks_unread path before after (BadScript line) read same = absurd read
checks_unread path before after LongScript read same = absurd read
checks_unread path before after BadInput read same = absurd read
checks_unread path before after NoListen read same = absurd read
checks_unread path before after ReadFault read same = absurd read
checks_unread path before after WriteFault read same = absurd read
checks_unread path before after Full read same = absurd read

-- settings were read, and their counts told
checks_told : (path : Bytes) (before after : CheckOutside) (status : Status) → ChecksWith path before after status → Checks (Some path) before after status
checks_told path before after Done how = how
checks_told path before after WriteFault how = how
checks_told path before after NoMemory how = (inr (_, how.holds.reads), how.tells)
checks_told path before after NoSettings how = absurd how.tells
checks_told path before after (BadSettings fault) how = absurd how.tells
checks_told path before after Usage how = absurd how.tells
checks_told path before after (BadScript line) how = absurd how.tells
checks_told path before after LongScript how = absurd how.tells
checks_told path before after BadInput how = absurd how.tells
checks_told path before after NoListen how = absurd how.tells
checks_told path before after ReadFault how = absurd how.tells
checks_told path before after Full how = absurd how.tells

completes : (path : Bytes) (before after : CheckOutside) (status : Status) → Checks (Some path) before after status → IsGoodFile path before after → IsDone status
completes path before after Done how good = tt
completes path before after NoMemory how good = tt
completes path before after WriteFault how good = good.output_sound how.tells.rose
completes path before after NoSettings how good = good.files_sound how.0.rose
completes path before after (BadSettings fault) how good = no_fault path before.files after.files good.files good.settings good.held good.is_settings fault how.0
completes path before after Usage how good = how
completes path before after (BadScript line) how good = how.tells
completes path before after LongScript how good = how.tells
completes path before after BadInput how good = how.tells
completes path before after NoListen how good = how.tells
completes path before after ReadFault how good = how.tells
completes path before after Full how good = how.tells

module _ (words : List Bytes) (before after : CheckOutside) where
  runs_at : (path : Bytes) (status : Status) → Some path ≡ check_path words → Checks (Some path) before after status → RunsCheck words before after status
  runs_at path status same how =
      record {
        checks = subst (λ (p : Option Bytes). Checks p before after status) same how;
        complete = subst (λ (p : Option Bytes). CompletesCheck p before after status) same (completes path before after status how);
      }

  pub runs_unread : (path : Bytes) (status : Status) → Some path ≡ check_path words → ReadsSettings path before.files after.files (Err status)
      → after.output ≡ before.output → RunsCheck words before after status
  runs_unread path status same read kept = runs_at path status same (checks_unread path before after status read kept)

  pub runs_told : (path : Bytes) (status : Status) → Some path ≡ check_path words → ChecksWith path before after status → RunsCheck words before after status
  runs_told path status same how = runs_at path status same (checks_told path before after status how)

-- the words are off their form
pub runs_off : (words : List Bytes) (before : CheckOutside) → None ≡ check_path words → RunsCheck words before before Usage
runs_off words before same =
    record {
      checks = subst (λ (p : Option Bytes). Checks p before before Usage) same refl;
      complete = subst (λ (p : Option Bytes). CompletesCheck p before before Usage) same tt;
    }
