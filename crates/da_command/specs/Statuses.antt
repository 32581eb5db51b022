-- The exit code of a status, and its words.
use Rattle.std.specs.Prelude.{⊤, ℕ, [], ◌++◌, codes, decimal}
use Rattle.da_base.specs.Words.{Bytes}
use Rattle.da_config.specs.declared.fault.FaultKind.{FaultKind}
use Rattle.da_config.specs.declared.fault.FaultKind.TheVariants.{NotToml, Unknown, Kind as WrongKind, Range, Conflict}
use Rattle.da_command.specs.declared.status.Status.{Status}
use Rattle.da_command.specs.declared.status.Status.TheVariants.{Done, Usage, BadScript, LongScript, BadInput, NoSettings, NoListen, NoMemory, ReadFault, WriteFault, Full, BadSettings}

abbrev pub status_code : Status → ℕ
status_code Done = 0
status_code Usage = 64
status_code (BadScript line) = 65
status_code LongScript = 65
status_code BadInput = 65
status_code NoSettings = 66
status_code NoListen = 69
status_code NoMemory = 71
status_code ReadFault = 74
status_code WriteFault = 74
status_code Full = 75
status_code (BadSettings fault) = 78

abbrev pub kind_words : FaultKind → Bytes
kind_words NotToml = codes "not toml"
kind_words Unknown = codes "unknown"
kind_words WrongKind = codes "kind"
kind_words Range = codes "range"
kind_words Conflict = codes "conflict"

abbrev pub status_words : Status → Bytes
status_words Done = []
status_words Usage = codes "usage"
status_words (BadScript line) = codes "line " ++ decimal line ++ codes " is not an event"
status_words LongScript = codes "input too long"
status_words BadInput = codes "bad input"
status_words NoSettings = codes "no settings"
status_words NoListen = codes "cannot listen"
status_words NoMemory = codes "no memory"
status_words ReadFault = codes "read fault"
status_words WriteFault = codes "write fault"
status_words Full = codes "history full"
status_words (BadSettings fault) = codes "bad settings at " ++ fault.place ++ codes ": " ++ kind_words fault.kind

-- the job is done, or wants memory
abbrev pub IsDone : Status → Type 0
IsDone Done = ⊤
IsDone NoMemory = ⊤
IsDone _ = ⊥
