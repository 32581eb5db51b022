-- What a command does that reads its settings at a path, and then runs under them.
use Rattle.std.specs.Prelude.{◌≡◌, ◌⊎◌, Option, Some, None}
use Rattle.da_base.specs.Words.{Bytes}
use Rattle.da_outside.specs.FileReads.{ReadsNoOther}
use Rattle.da_outside.specs.Outside.{Outside, IsUntouched}
use Rattle.da_command.specs.declared.status.Status.{Status}
use Rattle.da_command.specs.declared.status.Status.TheVariants.{Usage, NoSettings, NoMemory, BadSettings}
use Rattle.da_command.specs.SettingsFile.{HoldsFault, PathFails}

-- By the path and the status, where `Runs` says what the run under the settings at a path does. Nothing else comes.
--   Usage: exactly where the words are off their form; nothing is read or written.
--   NoSettings: the read of PATH failed, before any input or output.
--   BadSettings: the file's text has this fault, before any input or output.
--   NoMemory: before any input or output, or as the run says.
--   The rest: as the run says.
-- Before the run no file is read but the one at PATH, and that at most once.
abbrev pub RunsAtPath : (Bytes → Outside → Outside → Status → Type 0) → Option Bytes → Outside → Outside → Status → Type 0
RunsAtPath Runs None before after Usage = after ≡ before
RunsAtPath Runs None before after _ = ⊥
RunsAtPath Runs (Some path) before after Usage = ⊥
RunsAtPath Runs (Some path) before after NoSettings = PathFails path before.files after.files × IsUntouched before after
RunsAtPath Runs (Some path) before after (BadSettings fault) = HoldsFault path before.files after.files fault × IsUntouched before after
RunsAtPath Runs (Some path) before after NoMemory =
    (ReadsNoOther path before.files after.files × IsUntouched before after) ⊎ Runs path before after NoMemory
RunsAtPath Runs (Some path) before after status = Runs path before after status
