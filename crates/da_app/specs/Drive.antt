-- What `run_drive` does, by its words, its file and its input.
use Rattle.std.specs.Prelude.{◌≡◌, ◌≤◌, ⊤, ◌^◌, List, length, Option, Some, None, Ok}
use Rattle.da_base.specs.Words.{Bytes}
use Rattle.da_outside.specs.Causes.{Rose}
use Rattle.da_outside.specs.Files.{File, bytes_at}
use Rattle.da_outside.specs.Outside.{Outside}
use Rattle.da_settings.specs.declared.settings.Settings.{Settings}
use Rattle.da_config.specs.SettingsText.{settings_of}
use Rattle.da_stream.specs.BadLines.{first_bad_at_end}
use Rattle.da_command.specs.declared.status.Status.{Status}
use Rattle.da_command.specs.SettingsFile.{HoldsSettings}
use Rattle.da_command.specs.Statuses.{IsDone}
use Rattle.da_command.specs.Words.{drive_path}
use Rattle.da_command.specs.CommandRuns.{RunsAtPath}
use Rattle.da_app.specs.Script.{is_event, first_full}
use Rattle.da_app.specs.Play.{Ran}

-- the file's text is settings, and the script was played under them
pub record RunsWith (path : Bytes) (before after : Outside) (status : Status) : Type 0 where
  pub settings : Settings
  pub holds : HoldsSettings path before.files after.files settings
  pub ran : Ran settings before.input after.input before.output after.output status

-- the whole of it, by the path; none where the words are off their form
abbrev pub Drives : Option Bytes → Outside → Outside → Status → Type 0
Drives path before after status = RunsAtPath RunsWith path before after status

-- ---- completeness

-- a file with settings, an input of at most 1,073,741,824 bytes whose lines are all events, each ended by LF, no event
-- that meets a full history, and no fault
pub record IsGood (path : Bytes) (before after : Outside) : Type 0 where
  pub files : List File
  pub held : before.files.held ≡ Some files
  pub settings : Settings
  pub is_settings : settings_of (bytes_at files path) ≡ Ok settings
  pub input : Bytes
  pub left : before.input.left ≡ Some input
  pub short : length input ≤ 2 ^ 30
  pub events : first_bad_at_end is_event 16384 input ≡ None
  pub has_room : first_full settings input ≡ None
  pub files_sound : Rose before.files.faults after.files.faults → ⊥
  pub input_sound : Rose before.input.faults after.input.faults → ⊥
  pub output_sound : Rose before.output.faults after.output.faults → ⊥

-- then the run is done, or wants memory
abbrev pub Completes : Option Bytes → Outside → Outside → Status → Type 0
Completes None before after status = ⊤
Completes (Some path) before after status = IsGood path before after → IsDone status

-- the whole of it, by the words
pub record RunsDrive (words : List Bytes) (before after : Outside) (status : Status) : Type 0 where
  pub drives : Drives (drive_path words) before after status
  pub complete : Completes (drive_path words) before after status
