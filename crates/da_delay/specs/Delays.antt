-- Pairs of a due moment and the number of a request.
use Rattle.std.specs.Prelude.{◌≡◌, ℕ, Bool, true, false, List, [], ◌∷◌, Option, Some, None, if◌then◌else◌, nat_le}
use Rattle.std.specs.declared.cmp.Ordering.{Ordering}
use Rattle.std.specs.BTreeMap.{is_at}
use Rattle.std.specs.List.{list_any}
use Rattle.std.specs.List.Sorted.{IsStrictlySortedBy}
use Rattle.std.specs.Ordering.{ordering_then, nat_cmp}

-- by the due moment, and where that is the same by the request
abbrev pub pair_cmp : ℕ × ℕ → ℕ × ℕ → Ordering
pair_cmp x y = ordering_then (nat_cmp x.0 y.0) (nat_cmp x.1 y.1)

abbrev pub is_same : ℕ × ℕ → ℕ × ℕ → Bool
is_same x y = is_at (pair_cmp x) y

-- whether the pair is among these
abbrev pub has : List (ℕ × ℕ) → ℕ × ℕ → Bool
has pairs q = list_any (is_at (pair_cmp q)) pairs

-- the new pairs are the old ones and this one
abbrev pub HasAlso : ℕ × ℕ → List (ℕ × ℕ) → List (ℕ × ℕ) → Type 0
HasAlso p old new = (q : ℕ × ℕ) → has new q ≡ (if is_same p q then true else has old q)

-- the new pairs are the old ones without this one
abbrev pub HasNoMore : ℕ × ℕ → List (ℕ × ℕ) → List (ℕ × ℕ) → Type 0
HasNoMore p old new = (q : ℕ × ℕ) → has new q ≡ (if is_same p q then false else has old q)

-- each pair comes before all that follow it, so none comes twice
abbrev pub IsInOrder : List (ℕ × ℕ) → Type 0
IsInOrder pairs = IsStrictlySortedBy pair_cmp pairs

abbrev pub is_due : ℕ → ℕ × ℕ → Bool
is_due moment pair = nat_le pair.0 moment

-- the first pair, where it is due
abbrev pub first_due : ℕ → List (ℕ × ℕ) → Option (ℕ × ℕ)
first_due moment [] = None
first_due moment (pair ∷ pairs) = if is_due moment pair then Some pair else None
