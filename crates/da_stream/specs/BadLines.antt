-- The first line of an input that isn't right, where this test says which lines are.
use Rattle.std.specs.Prelude.{◌≡◌, ◌⊎◌, ℕ, suc, Bool, ◌||◌, not, List, [], ◌∷◌, length, Option, Some, None, if◌then◌else◌}
use Rattle.std.specs.Io.KnownBytes.{IsAtEnd}
use Rattle.da_base.specs.Words.{Bytes, is_empty}
use Rattle.da_tabline.specs.Lines.{line_cut}
use Rattle.da_outside.specs.Source.{SourceState}

-- the number of the first of these lines that isn't right, where the first of them has the number n
abbrev pub bad_from : (Bytes → Bool) → ℕ → List Bytes → Option ℕ
bad_from right n [] = None
bad_from right n (line ∷ lines) = if right line then bad_from right (suc n) lines else Some n

abbrev pub or_bad : Option ℕ → Bool → ℕ → Option ℕ
or_bad (Some n) is_bad next = Some n
or_bad None is_bad next = if is_bad then Some next else None

-- the number of the first line that isn't right, whatever follows: a whole line, or one of more than max bytes
abbrev pub first_bad : (Bytes → Bool) → ℕ → Bytes → Option ℕ
first_bad right max bytes =
    or_bad (bad_from right 1 (line_cut max bytes).lines) (line_cut max bytes).is_long (suc (length (line_cut max bytes).lines))

-- and where nothing follows: a last line without LF isn't right either
abbrev pub first_bad_at_end : (Bytes → Bool) → ℕ → Bytes → Option ℕ
first_bad_at_end right max bytes =
    or_bad (bad_from right 1 (line_cut max bytes).lines) ((line_cut max bytes).is_long || not (is_empty (line_cut max bytes).rest))
    (suc (length (line_cut max bytes).lines))

-- the line of this number is the first that isn't right, whatever follows, or the input ends with it, or within it
abbrev pub IsFirstBad : (Bytes → Bool) → ℕ → SourceState → Bytes → ℕ → Type 0
IsFirstBad right max after read line =
    (first_bad right max read ≡ Some line) ⊎ (IsAtEnd after.left × (first_bad_at_end right max read ≡ Some line))
