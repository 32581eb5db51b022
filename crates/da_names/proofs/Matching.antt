-- A pattern followed without a star, and what its endings match.
use Rattle.std.proofs.Common.{◌≡◌, ℕ, ◌≤◌, Bool, true, false, ◌&&◌, ◌||◌, [], ◌∷◌, length, eqb, refl, sym, ◌∙◌, arith, inl, inr, subst}
use Rattle.std.proofs.lemmas.Bool.{or_cases, or_left, or_right, and_parts, false≢true, ne_eqb, eq-eqb}
use Rattle.da_base.specs.Words.{Bytes}
use Rattle.da_names.specs.Filters.{pattern_matches, fits_byte}
use Rattle.da_names.specs.Stars.{some_ending_matches, ReachesStar}

-- where the whole name's pattern stands after some bytes of both
pub record Follows (pattern name rest left : Bytes) : Type 0 where
  pub here : pattern_matches pattern name ≡ pattern_matches rest left
  pub later : some_ending_matches pattern name ≡ true → some_ending_matches rest left ≡ true
  pub shorter : length rest ≤ length pattern
  pub within : length left ≤ length name

pub some_ending_matches-here : (pattern name : Bytes) → pattern_matches pattern name ≡ true → some_ending_matches pattern name ≡ true
some_ending_matches-here pattern [] h = or_left _ _ h
some_ending_matches-here pattern (x ∷ xs) h = or_left _ _ h

-- ---- a byte that is no star

pattern_matches-byte : (c x : ℕ) (rest left : Bytes) → eqb c 42 ≡ false → fits_byte c x ≡ true → pattern_matches (c ∷ rest) (x ∷ left) ≡ pattern_matches rest left
pattern_matches-byte c x rest left e t = rw (e, t) refl

ending_after-byte : (c x : ℕ) (rest left : Bytes) → eqb c 42 ≡ false → (some_ending_matches (c ∷ rest) left ≡ true → some_ending_matches rest left ≡ true) → some_ending_matches (c ∷ rest) (x ∷ left) ≡ true → some_ending_matches rest left ≡ true
ending_after-byte c x rest left e further h =
    elim (or_cases (pattern_matches (c ∷ rest) (x ∷ left)) (some_ending_matches (c ∷ rest) left) h) [
      | inl first ↦ let fits : (fits_byte c x && pattern_matches rest left) ≡ true = rw e at first in some_ending_matches-here rest left (and_parts _ _ fits).1
      | inr other ↦ further other
    ]

some_ending_matches-byte : (c : ℕ) (rest name : Bytes) → eqb c 42 ≡ false → some_ending_matches (c ∷ rest) name ≡ true → some_ending_matches rest name ≡ true
some_ending_matches-byte c rest [] e h = let isnt : false ≡ true = rw e at h in absurd (false≢true isnt)
some_ending_matches-byte c rest (x ∷ xs) e h = or_right _ _ (ending_after-byte c x rest xs e (some_ending_matches-byte c rest xs e) h)

-- ---- a star

some_ending_matches-star : (c : ℕ) (rest name : Bytes) → eqb c 42 ≡ true → some_ending_matches (c ∷ rest) name ≡ true → some_ending_matches rest name ≡ true
some_ending_matches-star c rest [] e h =
    let fits : (some_ending_matches rest [] || false) ≡ true = rw e at h in
    elim (or_cases (some_ending_matches rest []) false fits) [ inl first ↦ first | inr isnt ↦ absurd (false≢true isnt) ]
some_ending_matches-star c rest (x ∷ xs) e h =
    elim (or_cases (pattern_matches (c ∷ rest) (x ∷ xs)) (some_ending_matches (c ∷ rest) xs) h) [
      | inl first ↦ let fits : some_ending_matches rest (x ∷ xs) ≡ true = rw e at first in fits
      | inr other ↦ or_right _ _ (some_ending_matches-star c rest xs e other)
    ]

-- ---- following a pattern

pub Follows-start : (pattern name : Bytes) → Follows pattern name pattern name
Follows-start pattern name = record { here = refl; later = λ h. h; shorter = omega arith; within = omega arith }

pub Follows-byte : (pattern name : Bytes) (c x : ℕ) (rest left : Bytes) (old_rest old_left : Bytes) → Follows pattern name old_rest old_left → old_rest ≡ c ∷ rest → old_left ≡ x ∷ left → (c ≡ 42 → ⊥) → fits_byte c x ≡ true → Follows pattern name rest left
Follows-byte pattern name c x rest left old_rest old_left old rest_is left_is isnt t =
    let e = ne_eqb c 42 isnt in
    let f : Follows pattern name (c ∷ rest) (x ∷ left) = subst (λ r. Follows pattern name r (x ∷ left)) rest_is (subst (λ l. Follows pattern name old_rest l) left_is old) in
    record {
      here = f.here ∙ pattern_matches-byte c x rest left e t;
      later = λ h. ending_after-byte c x rest left e (some_ending_matches-byte c rest left e) (f.later h);
      shorter = omega (arith, f.shorter);
      within = omega (arith, f.within);
    }

pub Follows-star : (pattern name : Bytes) (c : ℕ) (rest left : Bytes) (old_rest : Bytes) → Follows pattern name old_rest left → old_rest ≡ c ∷ rest → c ≡ 42 → ReachesStar pattern name rest left
Follows-star pattern name c rest left old_rest old rest_is is =
    let e = eq-eqb c 42 is in
    let f : Follows pattern name (c ∷ rest) left = subst (λ r. Follows pattern name r left) rest_is old in
    record {
      here = f.here ∙ (rw e refl);
      later = λ h. some_ending_matches-star c rest left e (f.later h);
      shorter = omega (arith, f.shorter);
      within = f.within;
    }

-- ---- from one star to the next, and a mismatch

same_Bool : (a b : Bool) → (a ≡ true → b ≡ true) → (b ≡ true → a ≡ true) → a ≡ b
same_Bool true b f g = sym (f refl)
same_Bool false true f g = g refl
same_Bool false false f g = refl

pub some_ending_matches-next : (pattern name rest left : Bytes) → ReachesStar pattern name rest left → some_ending_matches rest left ≡ some_ending_matches pattern name
some_ending_matches-next pattern name rest left r =
    same_Bool _ _ (λ h. some_ending_matches-here pattern name (r.here ∙ h)) r.later

pub some_ending_matches-none : (pattern : Bytes) → pattern_matches pattern [] ≡ false → some_ending_matches pattern [] ≡ false
some_ending_matches-none pattern e = rw e refl

pub some_ending_matches-other : (pattern : Bytes) (x : ℕ) (xs : Bytes) → pattern_matches pattern (x ∷ xs) ≡ false → some_ending_matches pattern (x ∷ xs) ≡ some_ending_matches pattern xs
some_ending_matches-other pattern x xs e = rw e refl
