-- Changes of one row and of all rows, as the code makes them.
use Rattle.std.proofs.Common.{◌≡◌, refl, ◌∙◌, ap, List, [], ◌∷◌, ◌++◌, ℕ, zero, suc, ◌+◌, ◌-◌, ◌<◌, ◌≤◌, Bool, true, false, cond, map, length, take, drop, set, get_or, count_by, arith, zero-add}
use Rattle.std.proofs.lemmas.List.{get_or_default}
use Rattle.std.proofs.lemmas.List.Edits.{map_over_more}
use Rattle.std.proofs.lemmas.List.Recursion.{is_count_by}
use Rattle.da_base.specs.Words.{changed_at, changed_nth, count_where}
use Rattle.da_tables.proofs.Cases.{by_test}

set_changed_at : {X : Type 0} (f : X → X) (xs : List X) (n : ℕ) (d : X) → n < length xs → set xs n (f (get_or xs n d)) ≡ changed_at f xs n
set_changed_at f [] n d h = let bad : ⊥ = omega (arith, h) in absurd bad
set_changed_at f (x ∷ xs) zero d h = refl
set_changed_at f (x ∷ xs) (suc n) d h = ap (λ ys. x ∷ ys) (set_changed_at f xs n d (omega (arith, h)))

-- a write to the n-th row
pub set_changed : {X : Type 0} (f : X → X) (xs : List X) (n : ℕ) (d : X) → 0 < n → n ≤ length xs → set xs (n - 1) (f (get_or xs (n - 1) d)) ≡ changed_nth f xs n
set_changed f xs zero d p h = let bad : ⊥ = omega (arith, p) in absurd bad
set_changed f xs (suc n) d p h = let one : suc n - 1 ≡ n = omega arith in ap (λ i. set xs i (f (get_or xs i d))) one ∙ set_changed_at f xs n d h

changed_at_past : {X : Type 0} (f : X → X) (xs : List X) (n : ℕ) → length xs ≤ n → changed_at f xs n ≡ xs
changed_at_past f [] n h = refl
changed_at_past f (x ∷ xs) zero h = let bad : ⊥ = omega (arith, h) in absurd bad
changed_at_past f (x ∷ xs) (suc n) h = ap (λ ys. x ∷ ys) (changed_at_past f xs n (omega (arith, h)))

-- there is no n-th row, and no change
pub changed_past : {X : Type 0} (f : X → X) (xs : List X) (n : ℕ) → length xs < n → changed_nth f xs n ≡ xs
changed_past f xs zero h = refl
changed_past f xs (suc n) h = changed_at_past f xs n (omega (arith, h))

pub changed_none : {X : Type 0} (f : X → X) (xs : List X) (n : ℕ) → n ≡ 0 → changed_nth f xs n ≡ xs
changed_none f xs n e = ap (λ k. changed_nth f xs k) e

-- a loop that changes each row by f
pub changed_so_far : {X : Type 0} (f : X → X) (xs ys : List X) (i : ℕ) (d y : X) → i < length xs → i < length ys → ys ≡ map f (take i xs) ++ drop i xs → y ≡ f (get_or ys i d) → set ys i y ≡ map f (take (i + 1) xs) ++ drop (i + 1) xs
changed_so_far f xs ys i d y h k e q = ap (λ x. set ys i x) q ∙ map_over_more f xs ys i (get_or ys i d) h e (get_or_default ys i d (get_or ys i d) k)

-- a count, as the library counts
pub count_where_is : {X : Type 0} (holds : X → Bool) (xs : List X) → count_where holds xs ≡ count_by holds xs
count_where_is holds xs = is_count_by (count_where holds) holds refl
    (λ x ys. by_test (λ n. cond (holds x) 1 0 + count_where holds ys ≡ n) (holds x) (1 + count_where holds ys) (count_where holds ys)
    (λ e. ap (λ b. cond b 1 0 + count_where holds ys) e) (λ e. ap (λ b. cond b 1 0 + count_where holds ys) e ∙ zero-add _)) xs

-- at most all rows pass a test
pub count_few : {X : Type 0} (holds : X → Bool) (xs : List X) → count_where holds xs ≤ length xs
count_few holds [] = omega arith
count_few holds (x ∷ xs) = one_more (holds x) (count_where holds xs) (length xs) (count_few holds xs)
  where
    one_more : (b : Bool) (m n : ℕ) → m ≤ n → cond b 1 0 + m ≤ suc n
    one_more true m n l = omega (arith, l)
    one_more false m n l = omega (arith, l)
