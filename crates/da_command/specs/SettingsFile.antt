-- What the read of a settings file gives.
use Rattle.std.specs.Prelude.{◌≡◌, ⊤, Result, Ok, Err, IfSome}
use Rattle.da_base.specs.Words.{Bytes}
use Rattle.da_outside.specs.Causes.{Rose}
use Rattle.da_outside.specs.FileReads.{ReadsFile, ReadsNoOther}
use Rattle.da_outside.specs.Files.{FilesState, bytes_at}
use Rattle.da_outside.specs.declared.faults.Got.{Got}
use Rattle.da_outside.specs.declared.faults.Got.TheVariants.{Given, TooLong, Fault as GotFault}
use Rattle.da_settings.specs.declared.settings.Settings.{Settings}
use Rattle.da_config.specs.declared.fault.Fault.{Fault}
use Rattle.da_config.specs.declared.fault.FaultKind.TheVariants.{Range}
use Rattle.da_config.specs.declared.fault.ConfigFault.{ConfigFault}
use Rattle.da_config.specs.declared.fault.ConfigFault.TheVariants.{Bad, NoMemory as TextNoMemory}
use Rattle.da_config.specs.SettingsText.{settings_of, fault_at_all}
use Rattle.da_command.specs.declared.status.Status.{Status}
use Rattle.da_command.specs.declared.status.Status.TheVariants.{NoSettings, NoMemory, BadSettings}

-- the file at this path was read, and no other, and its text is these settings
pub record HoldsSettings (path : Bytes) (before after : FilesState) (settings : Settings) : Type 0 where
  pub text : Bytes
  pub is_text : IfSome before.held (λ files. text ≡ bytes_at files path)
  pub is_settings : settings_of text ≡ Ok settings
  pub reads : ReadsFile path before after (Given text)

-- what was got of a file has this fault: a text that is no settings, or one that is too long
abbrev pub GivesFault : Got → Fault → Type 0
GivesFault (Given text) fault = settings_of text ≡ Err fault
GivesFault TooLong fault = fault ≡ fault_at_all Range
GivesFault GotFault fault = ⊥

-- the file at this path was read, and no other, and its text has this fault
pub record HoldsFault (path : Bytes) (before after : FilesState) (fault : Fault) : Type 0 where
  pub got : Got
  pub gives : GivesFault got fault
  pub is_fault : IfSome before.held (λ files. settings_of (bytes_at files path) ≡ Err fault)
  pub reads : ReadsFile path before after got

-- the read of the file at this path failed, and no other read was made
pub record PathFails (path : Bytes) (before after : FilesState) : Type 0 where
  pub rose : Rose before.faults after.faults
  pub reads : ReadsFile path before after GotFault

-- By what is answered. Nothing else comes.
--   settings: the text of the file at PATH is these settings.
--   NoSettings: the read of PATH failed.
--   BadSettings: the file's text has this fault.
--   NoMemory: memory was wanted.
-- In each case no other file was read.
abbrev pub ReadsSettings : Bytes → FilesState → FilesState → Result Settings Status → Type 0
ReadsSettings path before after (Ok settings) = HoldsSettings path before after settings
ReadsSettings path before after (Err NoSettings) = PathFails path before after
ReadsSettings path before after (Err (BadSettings fault)) = HoldsFault path before after fault
ReadsSettings path before after (Err NoMemory) = ReadsNoOther path before after
ReadsSettings path before after (Err _) = ⊥

-- the status of a text that is too long, or want of memory
abbrev pub IsTooLong : Status → Type 0
IsTooLong (BadSettings fault) = fault ≡ fault_at_all Range
IsTooLong NoMemory = ⊤
IsTooLong _ = ⊥

-- the status of a text that gave no settings
abbrev pub fault_status : ConfigFault → Status
fault_status (Bad fault) = BadSettings fault
fault_status TextNoMemory = NoMemory
