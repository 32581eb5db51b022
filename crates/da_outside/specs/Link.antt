-- What a link tells, and what a receive takes from its bytes.
use Rattle.std.specs.Prelude.{ℕ, ◌≤◌, ◌≡◌, Bool, false, List, [], ◌∷◌, ◌++◌, length, Option, None, Some, Result, Ok, Err, Vec, option_map, IfSome, IsErr, IsErrOf, IsTrue, MatchOption, is_err, if◌then◌else◌}
use Rattle.std.specs.Io.KnownBytes.{Consumes, Keeps}
use Rattle.std.specs.declared.alloc.Global.{Global}
use Rattle.da_outside.specs.declared.faults.GetFault.{GetFault}
use Rattle.da_outside.specs.declared.faults.GetFault.TheVariants.{Failed, Long, NoMemory}
use Rattle.da_outside.specs.declared.link.Spoken.{Spoken}
use Rattle.da_outside.specs.declared.link.Spoken.TheVariants.{Received, SendFault, Sent}
use Rattle.da_outside.specs.declared.faults.Got.TheVariants.{Fault}
use Rattle.da_outside.specs.Calls.{Counts, called, fails_next}
use Rattle.da_outside.specs.Causes.{HasCause, HasGetCause}
use Rattle.da_outside.specs.Past.{Gains, Recalls}
use Rattle.da_outside.specs.Got.{got_of, is_fault}
use Rattle.da_outside.specs.Rest.{IsCutLine, LacksEnd}

-- at one moment: the bytes that will come in, its sends and receives, oldest first, where it tells these, and how often
-- it failed
pub record LinkState : Type 0 where
  pub left : Option (List ℕ)
  pub talk : Option (List Spoken)
  pub faults : ℕ

-- what may stand before an LF
pub record IsLine (line : List ℕ) : Type 0 where
  pub short : length line ≤ 8192
  pub ends_after : LacksEnd line

-- 8193 bytes were taken, without an LF
pub record TooLongTaken (before now : Option (List ℕ)) : Type 0 where
  pub front : List ℕ
  pub long : length front ≡ 8193
  pub no_end : LacksEnd front
  pub taken : Consumes before now front

-- A receive takes a line and its LF, or 8193 bytes without LF. A fault and want of memory take nothing.
abbrev pub Receives : Option (List ℕ) → Option (List ℕ) → Result (Vec ℕ Global) GetFault → Type 0
Receives before now (Ok line) = IsLine line.items × Consumes before now (line.items ++ 10 ∷ [])
Receives before now (Err Long) = TooLongTaken before now
Receives before now (Err Failed) = Keeps before now
Receives before now (Err NoMemory) = Keeps before now

-- what the talk keeps of a receive
abbrev pub received : Result (Vec ℕ Global) GetFault → Option Spoken
received result = option_map (λ got. Received got) (got_of result)

-- What the talk keeps of a send: its line, or its fault. A send that failed since memory was wanted is left out.
abbrev pub SendRecalls : {T E : Type 0} → Option (List Spoken) → Option (List Spoken) → List ℕ → Result T E → Type 0
SendRecalls before now line (Ok done) = Gains before now (Sent line ∷ [])
SendRecalls before now line (Err fault) = (kept : Bool) × Recalls before now (if kept then Some SendFault else None)

-- ---- links in memory

-- the bytes to come, the talk so far, and the calls
pub record MemLinkState : Type 0 where
  pub bytes : List ℕ
  pub talk : List Spoken
  pub calls : Counts

-- what such a link tells
abbrev pub mem_link : MemLinkState → LinkState
mem_link link = record { left = Some link.bytes; talk = Some link.talk; faults = link.calls.faults }

-- a line that stands at the front of the bytes, or an empty one where there are none
abbrev pub SoundLine : List ℕ → List ℕ → Vec ℕ Global → Type 0
SoundLine [] now line = (line.items ≡ []) × (now ≡ [])
SoundLine (byte ∷ bytes) now line = IsLine line.items × (byte ∷ bytes ≡ (line.items ++ 10 ∷ []) ++ now)

-- a receive of a link that never fails
abbrev pub SoundReceives : List ℕ → List ℕ → Result (Vec ℕ Global) GetFault → Type 0
SoundReceives before now (Ok line) = SoundLine before now line
SoundReceives before now (Err Long) = TooLongTaken (Some before) (Some now)
SoundReceives before now (Err Failed) = ⊥
SoundReceives before now (Err NoMemory) = now ≡ before

-- A send of a link in memory. It fails where its number is one of those that fail, and where memory is wanted.
pub record MemSends {T E : Type 0} (before now : MemLinkState) (line : List ℕ) (result : Result T E) : Type 0 where
  pub bytes : now.bytes ≡ before.bytes
  pub talk : SendRecalls (Some before.talk) (Some now.talk) line result
  pub cause : HasCause before.calls.faults now.calls.faults result
  pub listed : IsTrue (fails_next before.calls) → IsErr result
  pub calls : now.calls ≡ called before.calls (is_err result)

-- A receive of a link in memory. It fails exactly where its number is one of those that fail, or no line comes.
pub record MemReceives (before now : MemLinkState) (result : Result (Vec ℕ Global) GetFault) : Type 0 where
  pub bytes : Receives (Some before.bytes) (Some now.bytes) result
  pub talk : Recalls (Some before.talk) (Some now.talk) (received result)
  pub cause : HasGetCause before.calls.faults now.calls.faults result
  pub listed : IsTrue (fails_next before.calls) → IfSome (got_of result) (λ got. got ≡ Fault)
  pub failed : fails_next before.calls ≡ false → IsErrOf result Failed → IsCutLine before.bytes
  pub calls : MatchOption (got_of result) (now ≡ before) (λ got. now.calls ≡ called before.calls (is_fault got))
