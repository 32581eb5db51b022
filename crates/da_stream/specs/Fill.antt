-- What one read of a source does for a cutter of lines.
use Rattle.std.specs.Prelude.{◌≡◌, ◌<◌, ◌≤◌, ⊤, ℕ, Bool, [], ◌∷◌, length}
use Rattle.std.specs.Io.KnownBytes.{Consumes, Keeps, IsAtEnd}
use Rattle.da_base.specs.Words.{Bytes}
use Rattle.da_tabline.specs.Lines.{Cutter, after_feed}
use Rattle.da_outside.specs.Causes.{Rose}
use Rattle.da_outside.specs.Source.{SourceState}
use Rattle.da_stream.specs.declared.fill.Fill.{Fill}
use Rattle.da_stream.specs.declared.fill.Fill.TheVariants.{Fed, End, Cut, Much, ReadFault, NoMemory}

-- these bytes were read and fed
pub record FeedsBytes (before after : SourceState) (old new : Cutter) (budget count : ℕ) (is_long : Bool) : Type 0 where
  pub bytes : Bytes
  pub reads : Consumes before.left after.left bytes
  pub fed : new ≡ after_feed old bytes
  pub long : is_long ≡ new.is_long
  pub counted : length bytes ≡ count
  pub some : 0 < count
  pub within : count ≤ budget
  pub later : before.faults ≤ after.faults

-- the source is at its end, and nothing was read
pub record FindsEnd (before after : SourceState) : Type 0 where
  pub keeps : Keeps before.left after.left
  pub ended : IsAtEnd after.left

-- the source failed, and nothing was read
pub record FindsFault (before after : SourceState) : Type 0 where
  pub keeps : Keeps before.left after.left
  pub rose : Rose before.faults after.faults

-- some bytes were read, at most so many
pub record ReadsSome (max : ℕ) (before after : SourceState) : Type 0 where
  pub bytes : Bytes
  pub reads : Consumes before.left after.left bytes
  pub few : length bytes ≤ max

pub record ReadsOne (before after : SourceState) : Type 0 where
  pub byte : ℕ
  pub reads : Consumes before.left after.left (byte ∷ [])

-- by how it ended: with bytes within the budget; at the source's end, after a whole line or within one; with one byte
-- past the budget; with a fault; and with want of memory
abbrev pub Fills : SourceState → SourceState → Cutter → Cutter → ℕ → Fill → Type 0
Fills before after old new budget (Fed count is_long) = FeedsBytes before after old new budget count is_long
Fills before after old new budget End = FindsEnd before after × (old.rest ≡ [])
Fills before after old new budget Cut = FindsEnd before after × (0 < length old.rest)
Fills before after old new budget Much = ReadsOne before after × (budget ≡ 0)
Fills before after old new budget ReadFault = FindsFault before after
Fills before after old new budget NoMemory = ReadsSome budget before after

-- these bytes were fed, but where memory was wanted
abbrev pub FedBy : Cutter → Cutter → Bytes → Fill → Type 0
FedBy old new bytes (Fed count is_long) = (new ≡ after_feed old bytes) × (is_long ≡ new.is_long) × (count ≡ length bytes)
FedBy old new bytes NoMemory = ⊤
FedBy old new bytes _ = ⊥
