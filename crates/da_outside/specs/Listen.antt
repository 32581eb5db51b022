-- What a listener tells.
use Rattle.std.specs.Prelude.{ℕ, ◌≡◌, List, [], ◌∷◌, Option, Some}
use Rattle.da_outside.specs.declared.sink.SoundSink.{SoundSink}
use Rattle.da_outside.specs.Calls.{Counts}
use Rattle.da_outside.specs.Sink.{MemSinkState}
use Rattle.da_outside.specs.Source.{MemSourceState}

-- at one moment: the connections to come, where it tells them, and how often it failed
pub record ListenState (Connection : Type 0) : Type 0 where
  pub left : Option (List Connection)
  pub faults : ℕ

-- ---- listeners in memory

-- the connections to come, and the calls
pub record MemListenState : Type 0 where
  pub left : List (MemSourceState × MemSinkState)
  pub calls : Counts

-- what such a listener tells
abbrev pub mem_listen : MemListenState → ListenState (MemSourceState × MemSinkState)
mem_listen listen = record { left = Some listen.left; faults = listen.calls.faults }

-- The first connection is given. Where none is left it is one without bytes.
abbrev pub SoundAccepts : List (List ℕ × SoundSink) → List (List ℕ × SoundSink) → List ℕ × SoundSink → Type 0
SoundAccepts [] now conn = (conn.0 ≡ []) × (now ≡ [])
SoundAccepts (first ∷ rest) now conn = (conn ≡ first) × (now ≡ rest)
