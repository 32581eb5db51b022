-- What `run_check` does, by its words and its file.
use Rattle.std.specs.Prelude.{◌≡◌, ⊤, List, ◌++◌, length, Option, Some, None, Ok, codes, decimal}
use Rattle.da_base.specs.Words.{Bytes}
use Rattle.da_outside.specs.Causes.{Rose}
use Rattle.da_outside.specs.FileReads.{ReadsNoOther}
use Rattle.da_outside.specs.Files.{File, FilesState, bytes_at}
use Rattle.da_outside.specs.Sink.{SinkState}
use Rattle.da_settings.specs.declared.settings.Settings.{Settings}
use Rattle.da_config.specs.SettingsText.{settings_of}
use Rattle.da_stream.specs.Output.{WrittenFront, WrittenWhole}
use Rattle.da_command.specs.declared.status.Status.{Status}
use Rattle.da_command.specs.declared.status.Status.TheVariants.{Done, Usage, NoSettings, NoMemory, WriteFault, BadSettings}
use Rattle.da_command.specs.SettingsFile.{HoldsFault, HoldsSettings, PathFails}
use Rattle.da_command.specs.Statuses.{IsDone}
use Rattle.da_command.specs.Words.{check_path}

-- how many databases the settings have: those for passwords, then those for users
abbrev pub counts_line : Settings → Bytes
counts_line settings = codes "ok " ++ decimal (length settings.passdb) ++ codes " " ++ decimal (length settings.userdb) ++ codes "\n"

-- the counts are written, or a front of them before a fault, or nothing where memory was wanted
abbrev pub Tells : Settings → SinkState → SinkState → Status → Type 0
Tells settings before after Done = WrittenWhole (counts_line settings) before after
Tells settings before after WriteFault = WrittenFront (counts_line settings) before after
Tells settings before after NoMemory = after ≡ before
Tells settings before after _ = ⊥

-- the outside at one moment: the files that it may read, and the output
pub record CheckOutside : Type 0 where
  pub files : FilesState
  pub output : SinkState

-- the file's text is settings, and their counts were told
pub record ChecksWith (path : Bytes) (before after : CheckOutside) (status : Status) : Type 0 where
  pub settings : Settings
  pub holds : HoldsSettings path before.files after.files settings
  pub tells : Tells settings before.output after.output status

-- By the path and the status. Nothing else comes.
--   Usage: exactly where the words are off their form; nothing is read or written.
--   NoSettings: the read of PATH failed; nothing is written.
--   BadSettings: the file's text has this fault; nothing is written.
--   NoMemory: nothing is written.
--   Done: the file's text is settings, and their counts were written.
--   WriteFault: so it is, the sink failed, and a front of their counts was written.
-- No file is read but the one at PATH, and that at most once.
abbrev pub Checks : Option Bytes → CheckOutside → CheckOutside → Status → Type 0
Checks None before after Usage = after ≡ before
Checks None before after _ = ⊥
Checks (Some path) before after Usage = ⊥
Checks (Some path) before after NoSettings = PathFails path before.files after.files × (after.output ≡ before.output)
Checks (Some path) before after (BadSettings fault) = HoldsFault path before.files after.files fault × (after.output ≡ before.output)
Checks (Some path) before after NoMemory = ReadsNoOther path before.files after.files × (after.output ≡ before.output)
Checks (Some path) before after status = ChecksWith path before after status

-- ---- completeness

-- a file with settings, and no fault
pub record IsGoodFile (path : Bytes) (before after : CheckOutside) : Type 0 where
  pub files : List File
  pub held : before.files.held ≡ Some files
  pub settings : Settings
  pub is_settings : settings_of (bytes_at files path) ≡ Ok settings
  pub files_sound : Rose before.files.faults after.files.faults → ⊥
  pub output_sound : Rose before.output.faults after.output.faults → ⊥

-- then the check is done, or wants memory
abbrev pub CompletesCheck : Option Bytes → CheckOutside → CheckOutside → Status → Type 0
CompletesCheck None before after status = ⊤
CompletesCheck (Some path) before after status = IsGoodFile path before after → IsDone status

-- the whole of it, by the words
pub record RunsCheck (words : List Bytes) (before after : CheckOutside) (status : Status) : Type 0 where
  pub checks : Checks (check_path words) before after status
  pub complete : CompletesCheck (check_path words) before after status
