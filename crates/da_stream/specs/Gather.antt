-- What comes of reading a source to its end.
use Rattle.std.specs.Prelude.{ℕ, ◌+◌, ◌<◌, ◌≤◌, length}
use Rattle.std.specs.Io.KnownBytes.{Consumes, IsAtEnd}
use Rattle.da_base.specs.Words.{Bytes}
use Rattle.da_outside.specs.Causes.{Rose}
use Rattle.da_outside.specs.Source.{SourceState}
use Rattle.da_stream.specs.declared.gather.Gathered.{Gathered}
use Rattle.da_stream.specs.declared.gather.Gathered.TheVariants.{Whole, Long, ReadFault, NoMemory}
use Rattle.da_stream.specs.Fill.{ReadsSome}

-- all bytes of the source were read, and they are at most max
pub record ReadsAll (max : ℕ) (before after : SourceState) (bytes : Bytes) : Type 0 where
  pub reads : Consumes before.left after.left bytes
  pub ended : IsAtEnd after.left
  pub short : length bytes ≤ max

-- more bytes than max were read, by at most 4,096
pub record ReadsMore (max : ℕ) (before after : SourceState) : Type 0 where
  pub bytes : Bytes
  pub reads : Consumes before.left after.left bytes
  pub many : max < length bytes
  pub few : length bytes ≤ max + 4096

-- at most max bytes were read, and then the source failed
pub record ReadsToFault (max : ℕ) (before after : SourceState) : Type 0 where
  pub some : ReadsSome max before after
  pub rose : Rose before.faults after.faults

-- By how it ended: with all bytes of the source, at most max; with more than max; with a fault of the source; and with
-- want of memory.
abbrev pub Gathers : ℕ → SourceState → SourceState → Gathered → Type 0
Gathers max before after (Whole bytes) = ReadsAll max before after bytes.items
Gathers max before after Long = ReadsMore max before after
Gathers max before after ReadFault = ReadsToFault max before after
Gathers max before after NoMemory = ReadsSome (max + 4096) before after
