-- Lists of entries, and of entries with their numbers.
-- A list of entries has its newest entry first, and the oldest one has the number 1.
use Rattle.std.specs.Prelude.{◌≡◌, ◌⊎◌, ℕ, ◌+◌, ◌<◌, List, [], ◌∷◌, ◌++◌, length, nat_lt, if◌then◌else◌}

module _ {A : Type 0} where
  -- x stands in the list
  abbrev pub In : A → List A → Type 0
  In x [] = ⊥
  In x (y ∷ ys) = (y ≡ x) ⊎ In x ys

  -- the third list has what the first two have, and nothing else
  pub record IsUnion (xs ys zs : List A) : Type 0 where
    pub only : (x : A) → In x zs → In x xs ⊎ In x ys
    pub first : (x : A) → In x xs → In x zs
    pub second : (x : A) → In x ys → In x zs

module _ {E : Type 0} where
  -- the entry with the number k is e
  abbrev pub Stands : ℕ → E → List E → Type 0
  Stands k e [] = ⊥
  Stands k e (x ∷ xs) = ((k ≡ length xs + 1) × (x ≡ e)) ⊎ Stands k e xs

  -- the second list is the first, or goes on from it
  abbrev pub IsLater : List E → List E → Type 0
  IsLater old new = (more : List E) × (new ≡ more ++ old)

  -- of two lists of which one goes on from the other, the one that does
  abbrev pub longer : List E → List E → List E
  longer xs ys = if nat_lt (length xs) (length ys) then ys else xs

  -- each entry stands at its number in the list
  abbrev pub Named : List E → List (ℕ × E) → Type 0
  Named seen made = (k : ℕ) (e : E) → In (k, e) made → Stands k e seen

  -- all numbers are above n
  abbrev pub Above : ℕ → List (ℕ × E) → Type 0
  Above n made = (k : ℕ) (e : E) → In (k, e) made → n < k

  -- the numbers rise
  abbrev pub Rising : List (ℕ × E) → Type 0
  Rising [] = Unit {0}
  Rising (x ∷ xs) = Above x.0 xs × Rising xs

  -- no number stands in both lists
  abbrev pub NumbersApart : List (ℕ × E) → List (ℕ × E) → Type 0
  NumbersApart xs ys = (k : ℕ) (d e : E) → In (k, d) xs → In (k, e) ys → ⊥

  -- x among entries whose numbers rise
  abbrev pub inserted : ℕ × E → List (ℕ × E) → List (ℕ × E)
  inserted x [] = x ∷ []
  inserted x (y ∷ ys) = if nat_lt x.0 y.0 then (x ∷ y ∷ ys) else (y ∷ inserted x ys)

  -- the entries of both lists in the order of their numbers
  abbrev pub merged : List (ℕ × E) → List (ℕ × E) → List (ℕ × E)
  merged xs [] = xs
  merged xs (y ∷ ys) = merged (inserted y xs) ys
