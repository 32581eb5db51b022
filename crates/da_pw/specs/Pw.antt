-- What `run_pw` does, by its words, its input and the salt that it draws.
use Rattle.std.specs.Prelude.{◌≡◌, ⊤, ℕ, ◌⊎◌, Bool, true, ◌&&◌, not, List, [], ◌∷◌, ◌++◌, length, Option, Some, None, if◌then◌else◌, ◌==◌, nat_le, bytes_eq, codes}
use Rattle.std.specs.List.{list_all}
use Rattle.base64.specs.GeneralPurpose.{IsBytes}
use Rattle.da_base.specs.Words.{Bytes}
use Rattle.da_tabline.specs.Parts.{Lacks}
use Rattle.da_outside.specs.Causes.{Rose}
use Rattle.da_outside.specs.Rand.{Draws}
use Rattle.da_outside.specs.Sink.{SinkState}
use Rattle.da_outside.specs.Source.{SourceState}
use Rattle.da_schemes.specs.declared.scheme.Scheme.{Scheme}
use Rattle.da_schemes.specs.Scheme.{scheme_named}
use Rattle.da_schemes.specs.Made.{made, IsMade}
use Rattle.da_command.specs.declared.status.Status.{Status}
use Rattle.da_command.specs.declared.status.Status.TheVariants.{Done, Usage, BadInput, NoMemory, ReadFault, WriteFault}
use Rattle.da_stream.specs.Fill.{ReadsSome}
use Rattle.da_stream.specs.Gather.{ReadsAll, ReadsMore, ReadsToFault}
use Rattle.da_stream.specs.Output.{WrittenFront, WrittenWhole}
use Rattle.da_command.specs.Statuses.{IsDone}

-- ---- words

abbrev pub scheme_after : Bytes → Bytes → Option Scheme
scheme_after command name = if bytes_eq command (codes "pw") then scheme_named name else None

-- the scheme, where the words are `pw SCHEME`
abbrev pub pw_scheme : List Bytes → Option Scheme
pw_scheme (command ∷ name ∷ []) = scheme_after command name
pw_scheme _ = None

-- ---- the input

abbrev pub is_no_nul : ℕ → Bool
is_no_nul c = not (c == 0)

-- 1 to 512 bytes without NUL
abbrev pub is_password : Bytes → Bool
is_password plain = nat_le 1 (length plain) && nat_le (length plain) 512 && list_all is_no_nul plain

-- the input is one line, ended by LF, and that line is this password
pub record IsPasswordLine (input plain : Bytes) : Type 0 where
  pub line : input ≡ plain ++ 10 ∷ []
  pub one : Lacks 10 plain
  pub password : is_password plain ≡ true

-- no password makes this input
abbrev pub IsNoPasswordLine : Bytes → Type 0
IsNoPasswordLine input = (plain : Bytes) → IsPasswordLine input plain → ⊥

-- ---- the run

-- the outside at one moment: the input, the output, and the draws to come, as far as they are told
pub record PwOutside : Type 0 where
  pub input : SourceState
  pub output : SinkState
  pub draws : Option (ℕ → Bytes)

-- no salt was drawn, and nothing was written
pub record IsUnwritten (before after : PwOutside) : Type 0 where
  pub undrawn : after.draws ≡ before.draws
  pub unwritten : after.output ≡ before.output

-- The input is off its form: more bytes were read than a password's line has, by at most 4,096, or the input was read to
-- its end and no password makes it.
abbrev pub IsOff : SourceState → SourceState → Type 0
IsOff before after = ReadsMore 513 before after ⊎ ((read : Bytes) × ReadsAll 513 before after read × IsNoPasswordLine read)

-- the whole input was read and is the line of this password, and this salt of sixteen bytes was drawn for it
pub record WasGiven (before after : PwOutside) : Type 0 where
  pub input : Bytes
  pub plain : Bytes
  pub salt : Bytes
  pub reads : ReadsAll 513 before.input after.input input
  pub is_line : IsPasswordLine input plain
  pub draws : Draws before.draws after.draws salt
  pub sixteen : length salt ≡ 16
  pub bytes : IsBytes salt

-- the text that stores the password under the scheme over the salt, and LF
abbrev pub stored_line : Scheme → Bytes → Bytes → Bytes
stored_line scheme plain salt = made scheme plain salt ++ 10 ∷ []

-- that line was written, and its text is read as a password of the scheme, whatever the default scheme, and matches
pub record Stores (scheme : Scheme) (before after : PwOutside) : Type 0 where
  pub given : WasGiven before after
  pub writes : WrittenWhole (stored_line scheme given.plain given.salt) before.output after.output
  pub right : (default : Scheme) → IsMade default scheme given.plain (made scheme given.plain given.salt)

-- a front of that line was written before a fault
pub record StoresFront (scheme : Scheme) (before after : PwOutside) : Type 0 where
  pub given : WasGiven before after
  pub front : WrittenFront (stored_line scheme given.plain given.salt) before.output after.output

-- By the scheme and the status. Nothing else comes.
--   Usage: exactly where the words are off their form; nothing is read or written, and no salt is drawn.
--   Done: the whole input is a password's line, and the line that stores it was written.
--   BadInput: the input is no password's line; nothing is written.
--   ReadFault: the source failed; nothing is written.
--   WriteFault: the sink failed, and a front of the line was written.
--   NoMemory: nothing is written.
-- No more than 513 bytes and 4,096 are read.
abbrev pub Pws : Option Scheme → PwOutside → PwOutside → Status → Type 0
Pws None before after Usage = after ≡ before
Pws None before after _ = ⊥
Pws (Some scheme) before after Done = Stores scheme before after
Pws (Some scheme) before after BadInput = IsOff before.input after.input × IsUnwritten before after
Pws (Some scheme) before after ReadFault = ReadsToFault 513 before.input after.input × IsUnwritten before after
Pws (Some scheme) before after WriteFault = StoresFront scheme before after
Pws (Some scheme) before after NoMemory = ReadsSome 4609 before.input after.input × (after.output ≡ before.output)
Pws (Some scheme) before after _ = ⊥

-- ---- completeness

-- an input that is a password's line, and no fault
pub record IsSound (before after : PwOutside) : Type 0 where
  pub input : Bytes
  pub plain : Bytes
  pub left : before.input.left ≡ Some input
  pub is_line : IsPasswordLine input plain
  pub input_sound : Rose before.input.faults after.input.faults → ⊥
  pub output_sound : Rose before.output.faults after.output.faults → ⊥

-- then the run is done, or wants memory
abbrev pub CompletesPw : Option Scheme → PwOutside → PwOutside → Status → Type 0
CompletesPw None before after status = ⊤
CompletesPw (Some scheme) before after status = IsSound before after → IsDone status

-- the whole of it, by the words
pub record RunsPw (words : List Bytes) (before after : PwOutside) (status : Status) : Type 0 where
  pub stores : Pws (pw_scheme words) before after status
  pub complete : CompletesPw (pw_scheme words) before after status
