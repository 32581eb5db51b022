-- Lists of databases that are numbered in order.
use Rattle.std.specs.Prelude.{ℕ, suc, Bool, true, ◌&&◌, List, [], ◌∷◌, ◌==◌}

-- each passes, and their numbers are n and so on, in order
abbrev pub are_numbered : {D : Type 0} → (D → ℕ) → (D → Bool) → ℕ → List D → Bool
are_numbered number passes n [] = true
are_numbered number passes n (db ∷ dbs) = (number db == n) && passes db && are_numbered number passes (suc n) dbs
