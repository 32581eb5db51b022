-- What a source of random bytes will give.
use Rattle.std.specs.Prelude.{ℕ, suc, ◌+◌, ◌-◌, min, ◌≡◌, ⊤, List, length, replicate, Option, None, Some, slice_index_or}

-- The draws that are told, counted from 0: this was the first of them, and the others stay to come.
abbrev pub Draws : Option (ℕ → List ℕ) → Option (ℕ → List ℕ) → List ℕ → Type 0
Draws None now bytes = ⊤
Draws (Some before) None bytes = ⊥
Draws (Some before) (Some now) bytes = (bytes ≡ before 0) × ((k : ℕ) → now k ≡ before (suc k))

-- ---- random bytes that are set

-- the items, and the place of the next one
pub record RandState : Type 0 where
  pub items : List (List ℕ)
  pub at : ℕ

-- the k-th draw from now on: the items in order, then the last of them again; zero bytes where there is none
abbrev pub draw_of : RandState → ℕ → List ℕ
draw_of rand k = slice_index_or rand.items (min (rand.at + k) (length rand.items - 1)) (replicate 16 0)
