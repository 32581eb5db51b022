-- Lists of pairs, when keys are brought first and taken out.
use Rattle.std.proofs.Common.{◌≡◌, refl, sym, ◌∙◌, ap, subst, List, [], ◌∷◌, ℕ, zero, suc, ◌≤◌, Bool, true, false, not, cond, ◌||◌, length, take, filter, is_some, Option, Some, None, arith}
use Rattle.std.specs.Map.{keys_of}
use Rattle.std.specs.Option.{option_map_or}
use Rattle.da_keys.specs.Keys.{same_key, has_key, without_key, key_first}
use Rattle.da_keys.specs.SameKeys.{same_is_equal, same_as_itself, same_key_equiv}
use Rattle.da_keys.specs.declared.key.Key.{Key}
use Rattle.da_cache.specs.Pairs.{number_at, without_pair, pair_first, touched, all_touched, put_pair, key_touched, all_keys_touched, key_put, MayBeKept, AllMayBeKept}

-- ---- what is found beside a key that is taken out

found_without : (k h : Key) (es : List (Key × ℕ)) → same_key k h ≡ false → number_at h (without_pair k es) ≡ number_at h es
found_without k h [] other = refl
found_without k h (e ∷ es) other = go (same_key k e.0) refl (found_without k h es other)
  where
    go : (b : Bool) → same_key k e.0 ≡ b → number_at h (without_pair k es) ≡ number_at h es
        → number_at h (cond (not b) (e ∷ without_pair k es) (without_pair k es)) ≡ cond (same_key h e.0) (Some e.1) (number_at h es)
    go true is rest =
        let not_it : same_key h e.0 ≡ false = ap (same_key h) (sym (same_is_equal k e.0 is)) ∙ same_key_equiv.symm h k ∙ other in
        rest ∙ sym (ap (λ b. cond b (Some e.1) (number_at h es)) not_it)
    go false is rest = ap (λ o. cond (same_key h e.0) (Some e.1) o) rest

found_touched : (k h : Key) (es : List (Key × ℕ)) → is_some (number_at k es) ≡ true → is_some (number_at k (touched h es)) ≡ true
found_touched k h es there = go (number_at h es)
  where
    beside : (n : ℕ) (b : Bool) → same_key k h ≡ b → is_some (cond b (Some n) (number_at k (without_pair h es))) ≡ true
    beside n true is = refl
    beside n false is = ap is_some (found_without h k es (same_key_equiv.symm h k ∙ is)) ∙ there

    go : (o : Option ℕ) → is_some (number_at k (option_map_or (λ n. pair_first h n es) o es)) ≡ true
    go None = there
    go (Some n) = beside n (same_key k h) refl

pub found_still : (k : Key) (hits : List Key) (es : List (Key × ℕ)) → is_some (number_at k es) ≡ true → is_some (number_at k (all_touched hits es)) ≡ true
found_still k [] es there = there
found_still k (h ∷ hs) es there = found_still k hs (touched h es) (found_touched k h es there)

-- ---- two keys are taken out in either order

swap_filters : {A : Type 0} (p q : A → Bool) (xs : List A) → filter p (filter q xs) ≡ filter q (filter p xs)
swap_filters p q [] = refl
swap_filters p q (x ∷ xs) = go (p x) (q x) refl refl (swap_filters p q xs)
  where
    go : (a b : Bool) → p x ≡ a → q x ≡ b → filter p (filter q xs) ≡ filter q (filter p xs)
        → filter p (cond b (x ∷ filter q xs) (filter q xs)) ≡ filter q (cond a (x ∷ filter p xs) (filter p xs))
    go true true e f rest = ap (λ c. cond c (x ∷ filter p (filter q xs)) (filter p (filter q xs))) e ∙ ap (λ xs. x ∷ xs) rest ∙ sym (ap (λ c. cond c (x ∷ filter q (filter p xs)) (filter q (filter p xs))) f)
    go true false e f rest = rest ∙ sym (ap (λ c. cond c (x ∷ filter q (filter p xs)) (filter q (filter p xs))) f)
    go false true e f rest = ap (λ c. cond c (x ∷ filter p (filter q xs)) (filter p (filter q xs))) e ∙ rest
    go false false e f rest = rest

twice_filter : {A : Type 0} (p : A → Bool) (xs : List A) → filter p (filter p xs) ≡ filter p xs
twice_filter p [] = refl
twice_filter p (x ∷ xs) = go (p x) refl (twice_filter p xs)
  where
    go : (a : Bool) → p x ≡ a → filter p (filter p xs) ≡ filter p xs → filter p (cond a (x ∷ filter p xs) (filter p xs)) ≡ cond a (x ∷ filter p xs) (filter p xs)
    go true e rest = ap (λ c. cond c (x ∷ filter p (filter p xs)) (filter p (filter p xs))) e ∙ ap (λ xs. x ∷ xs) rest
    go false e rest = rest

-- the others, when the key itself is brought first, and when another is
same_touched : (k h : Key) (es : List (Key × ℕ)) → same_key k h ≡ true → without_pair k (touched h es) ≡ without_pair k es
same_touched k h es is = go (number_at h es)
  where
    go : (o : Option ℕ) → without_pair k (option_map_or (λ n. pair_first h n es) o es) ≡ without_pair k es
    go None = refl
    go (Some n) = ap (λ b. cond (not b) ((h, n) ∷ without_pair k (without_pair h es)) (without_pair k (without_pair h es))) is
        ∙ ap (λ j. without_pair k (without_pair j es)) (sym (same_is_equal k h is)) ∙ twice_filter (λ p. not (same_key k p.0)) es

other_touched : (k h : Key) (es : List (Key × ℕ)) → same_key k h ≡ false → without_pair k (touched h es) ≡ touched h (without_pair k es)
other_touched k h es other = go (number_at h es) ∙ ap (λ o. option_map_or (λ n. pair_first h n (without_pair k es)) o (without_pair k es)) (sym (found_without k h es other))
  where
    go : (o : Option ℕ) → without_pair k (option_map_or (λ n. pair_first h n es) o es) ≡ option_map_or (λ n. pair_first h n (without_pair k es)) o (without_pair k es)
    go None = refl
    go (Some n) = ap (λ b. cond (not b) ((h, n) ∷ without_pair k (without_pair h es)) (without_pair k (without_pair h es))) other
        ∙ ap (λ es. (h, n) ∷ es) (swap_filters (λ p. not (same_key k p.0)) (λ p. not (same_key h p.0)) es)

-- hits change of two lists with the same others the same
pub others_agree : (k : Key) (hits : List Key) (es fs : List (Key × ℕ)) → without_pair k es ≡ without_pair k fs → without_pair k (all_touched hits es) ≡ without_pair k (all_touched hits fs)
others_agree k [] es fs same = same
others_agree k (h ∷ hs) es fs same = others_agree k hs (touched h es) (touched h fs) (go (same_key k h) refl)
  where
    go : (b : Bool) → same_key k h ≡ b → without_pair k (touched h es) ≡ without_pair k (touched h fs)
    go true is = same_touched k h es is ∙ same ∙ sym (same_touched k h fs is)
    go false other = other_touched k h es other ∙ ap (touched h) same ∙ sym (other_touched k h fs other)

pub itself_out : (k : Key) (number : ℕ) (es : List (Key × ℕ)) → without_pair k ((k, number) ∷ es) ≡ without_pair k es
itself_out k number es = ap (λ b. cond (not b) ((k, number) ∷ without_pair k es) (without_pair k es)) (same_as_itself k)

-- ---- the keys

pub keys_without : (k : Key) (es : List (Key × ℕ)) → keys_of (without_pair k es) ≡ without_key k (keys_of es)
keys_without k [] = refl
keys_without k (e ∷ es) = go (same_key k e.0) (keys_without k es)
  where
    go : (b : Bool) → keys_of (without_pair k es) ≡ without_key k (keys_of es) → keys_of (cond (not b) (e ∷ without_pair k es) (without_pair k es)) ≡ cond (not b) (e.0 ∷ without_key k (keys_of es)) (without_key k (keys_of es))
    go true rest = rest
    go false rest = ap (λ ks. e.0 ∷ ks) rest

pub found_is_there : (k : Key) (es : List (Key × ℕ)) → is_some (number_at k es) ≡ has_key k (keys_of es)
found_is_there k [] = refl
found_is_there k (e ∷ es) = go (same_key k e.0) (found_is_there k es)
  where
    go : (b : Bool) → is_some (number_at k es) ≡ has_key k (keys_of es) → is_some (cond b (Some e.1) (number_at k es)) ≡ (b || has_key k (keys_of es))
    go true rest = refl
    go false rest = rest

pub keys_touched : (k : Key) (es : List (Key × ℕ)) → keys_of (touched k es) ≡ key_touched k (keys_of es)
keys_touched k es = go (number_at k es) ∙ ap (λ b. cond b (key_first k (keys_of es)) (keys_of es)) (found_is_there k es)
  where
    go : (o : Option ℕ) → keys_of (option_map_or (λ n. pair_first k n es) o es) ≡ cond (is_some o) (key_first k (keys_of es)) (keys_of es)
    go None = refl
    go (Some n) = ap (λ ks. k ∷ ks) (keys_without k es)

keys_all_touched : (hits : List Key) (es : List (Key × ℕ)) → keys_of (all_touched hits es) ≡ all_keys_touched hits (keys_of es)
keys_all_touched [] es = refl
keys_all_touched (h ∷ hs) es = keys_all_touched hs (touched h es) ∙ ap (all_keys_touched hs) (keys_touched h es)

keys_take : (n : ℕ) (es : List (Key × ℕ)) → keys_of (take n es) ≡ take n (keys_of es)
keys_take zero es = refl
keys_take (suc n) [] = refl
keys_take (suc n) (e ∷ es) = ap (λ ks. e.0 ∷ ks) (keys_take n es)

pub keys_put : (size : ℕ) (hits : List Key) (k : Key) (number : ℕ) (es : List (Key × ℕ)) → keys_of (put_pair size hits k number es) ≡ key_put size hits k (keys_of es)
keys_put size hits k number es =
    keys_take size (pair_first k number (all_touched hits es))
    ∙ ap (λ ks. take size (k ∷ ks)) (keys_without k (all_touched hits es) ∙ ap (without_key k) (keys_all_touched hits es))

-- ---- what may be kept

pub kept_without : (k : Key) (es : List (Key × ℕ)) → AllMayBeKept es → AllMayBeKept (without_pair k es)
kept_without k [] all = tt
kept_without k (e ∷ es) all = go (same_key k e.0) (kept_without k es all.1)
  where
    go : (b : Bool) → AllMayBeKept (without_pair k es) → AllMayBeKept (cond (not b) (e ∷ without_pair k es) (without_pair k es))
    go true rest = rest
    go false rest = (all.0, rest)

kept_found : (k : Key) (n : ℕ) (es : List (Key × ℕ)) → AllMayBeKept es → number_at k es ≡ Some n → MayBeKept k
kept_found k n [] all is = cc
kept_found k n (e ∷ es) all is = go (same_key k e.0) refl is (kept_found k n es all.1)
  where
    go : (b : Bool) → same_key k e.0 ≡ b → cond b (Some e.1) (number_at k es) ≡ Some n → (number_at k es ≡ Some n → MayBeKept k) → MayBeKept k
    go true same is rest = subst MayBeKept (sym (same_is_equal k e.0 same)) all.0
    go false same is rest = rest is

pub kept_touched : (k : Key) (es : List (Key × ℕ)) → AllMayBeKept es → AllMayBeKept (touched k es)
kept_touched k es all = go (number_at k es) refl
  where
    go : (o : Option ℕ) → number_at k es ≡ o → AllMayBeKept (option_map_or (λ n. pair_first k n es) o es)
    go None is = all
    go (Some n) is = (kept_found k n es all is, kept_without k es all)

kept_all_touched : (hits : List Key) (es : List (Key × ℕ)) → AllMayBeKept es → AllMayBeKept (all_touched hits es)
kept_all_touched [] es all = all
kept_all_touched (h ∷ hs) es all = kept_all_touched hs (touched h es) (kept_touched h es all)

kept_take : (n : ℕ) (es : List (Key × ℕ)) → AllMayBeKept es → AllMayBeKept (take n es)
kept_take zero es all = tt
kept_take (suc n) [] all = tt
kept_take (suc n) (e ∷ es) all = (all.0, kept_take n es all.1)

pub kept_put : (size : ℕ) (hits : List Key) (k : Key) (number : ℕ) (es : List (Key × ℕ)) → MayBeKept k → AllMayBeKept es → AllMayBeKept (put_pair size hits k number es)
kept_put size hits k number es may all =
    kept_take size (pair_first k number (all_touched hits es)) (may, kept_without k (all_touched hits es) (kept_all_touched hits es all))

-- ---- how many there are

le_suc : (a b : ℕ) → a ≤ b → suc a ≤ suc b
le_suc a b h = omega (arith, h)

le_more : (a b : ℕ) → a ≤ b → a ≤ suc b
le_more a b h = omega (arith, h)

pub few_filtered : {A : Type 0} (p : A → Bool) (xs : List A) → length (filter p xs) ≤ length xs
few_filtered p [] = omega arith
few_filtered p (x ∷ xs) = go (p x) (few_filtered p xs)
  where
    go : (b : Bool) → length (filter p xs) ≤ length xs → length (cond b (x ∷ filter p xs) (filter p xs)) ≤ suc (length xs)
    go true rest = le_suc (length (filter p xs)) (length xs) rest
    go false rest = le_more (length (filter p xs)) (length xs) rest

pub few_taken : {A : Type 0} (n : ℕ) (xs : List A) → length (take n xs) ≤ n
few_taken zero xs = omega arith
few_taken (suc n) [] = omega arith
few_taken (suc n) (x ∷ xs) = le_suc (length (take n xs)) n (few_taken n xs)

fewer : (k : Key) (n : ℕ) (es : List (Key × ℕ)) → number_at k es ≡ Some n → suc (length (without_pair k es)) ≤ length es
fewer k n [] is = cc
fewer k n (e ∷ es) is = go (same_key k e.0) is (fewer k n es)
  where
    go : (b : Bool) → cond b (Some e.1) (number_at k es) ≡ Some n → (number_at k es ≡ Some n → suc (length (without_pair k es)) ≤ length es) → suc (length (cond (not b) (e ∷ without_pair k es) (without_pair k es))) ≤ suc (length es)
    go true is rest = le_suc (length (without_pair k es)) (length es) (few_filtered (λ p. not (same_key k p.0)) es)
    go false is rest = le_suc (suc (length (without_pair k es))) (length es) (rest is)

pub few_touched : (k : Key) (es : List (Key × ℕ)) → length (touched k es) ≤ length es
few_touched k es = go (number_at k es) refl
  where
    go : (o : Option ℕ) → number_at k es ≡ o → length (option_map_or (λ n. pair_first k n es) o es) ≤ length es
    go None is = omega arith
    go (Some n) is = fewer k n es is
