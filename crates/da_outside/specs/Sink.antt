-- What a sink of bytes tells.
use Rattle.std.specs.Prelude.{ℕ, List, Option, Some}
use Rattle.da_outside.specs.Calls.{Counts}

-- at one moment: the bytes that it took, in order, where it tells them, and how often it failed
pub record SinkState : Type 0 where
  pub contents : Option (List ℕ)
  pub faults : ℕ

-- ---- sinks in memory

-- the bytes taken, and the calls
pub record MemSinkState : Type 0 where
  pub bytes : List ℕ
  pub calls : Counts

-- what such a sink tells
abbrev pub mem_sink : MemSinkState → SinkState
mem_sink sink = record { contents = Some sink.bytes; faults = sink.calls.faults }
