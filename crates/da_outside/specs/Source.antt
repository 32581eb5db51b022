-- What a source of bytes tells.
use Rattle.std.specs.Prelude.{ℕ, List, Option, Some}
use Rattle.da_outside.specs.Calls.{Counts}

-- at one moment: the bytes that it has left, where it tells them, and how often it failed
pub record SourceState : Type 0 where
  pub left : Option (List ℕ)
  pub faults : ℕ

-- ---- sources in memory

-- the bytes that are left, and the calls
pub record MemSourceState : Type 0 where
  pub bytes : List ℕ
  pub calls : Counts

-- what such a source tells
abbrev pub mem_source : MemSourceState → SourceState
mem_source source = record { left = Some source.bytes; faults = source.calls.faults }
