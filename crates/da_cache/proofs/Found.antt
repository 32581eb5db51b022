-- What the steps of a cache by its own words are by the words of the pairs.
use Rattle.std.proofs.Common.{◌≡◌, refl, sym, ◌∙◌, ap, List, [], ◌∷◌, ℕ, ◌+◌, ◌-◌, ◌≤◌, Bool, true, false, not, cond, length, take, is_some, Option, Some, None, option_map, arith}
use Rattle.std.specs.List.{AllByRecursion, IsDistinct}
use Rattle.std.specs.Map.{keys_of, lookup_entry, remove_entry, set_value}
use Rattle.std.specs.Option.{option_map_or}
use Rattle.std.proofs.lemmas.List.{take_all}
use Rattle.lru.specs.LruCache.{LruCache, promoted, put_entries}
use Rattle.lru.proofs.CallerLemmas.{Contains-lookup_entry}
use Rattle.da_keys.specs.Keys.{same_key}
use Rattle.da_keys.specs.SameKeys.{same_is_equal, same_as_itself}
use Rattle.da_keys.specs.declared.key.Key.{Key}
use Rattle.da_cache.specs.Pairs.{number_at, without_pair, pair_first, touched}

none_stay : (k : Key) (es : List (Key × ℕ)) → AllByRecursion (λ y. same_key k y ≡ false) (keys_of es) → without_pair k es ≡ es
none_stay k [] h = refl
none_stay k (e ∷ es) h = ap (λ b. cond (not b) (e ∷ without_pair k es) (without_pair k es)) h.0 ∙ ap (λ es. e ∷ es) (none_stay k es h.1)

along : (j k : Key) (ks : List Key) → j ≡ k → AllByRecursion (λ y. same_key j y ≡ false) ks → AllByRecursion (λ y. same_key k y ≡ false) ks
along j k [] e h = tt
along j k (x ∷ ks) e h = (ap (λ i. same_key i x) (sym e) ∙ h.0, along j k ks e h.1)

pub removed : (k : Key) (es : List (Key × ℕ)) → IsDistinct same_key (keys_of es) → remove_entry (same_key k) es ≡ without_pair k es
unfolding IsDistinct
removed k [] apart = refl
removed k (e ∷ es) apart = go (same_key k e.0) refl (removed k es apart.1)
  where
    go : (b : Bool) → same_key k e.0 ≡ b → remove_entry (same_key k) es ≡ without_pair k es → cond b es (e ∷ remove_entry (same_key k) es) ≡ cond (not b) (e ∷ without_pair k es) (without_pair k es)
    go true is rest = sym (none_stay k es (along e.0 k (keys_of es) (sym (same_is_equal k e.0 is)) apart.0))
    go false is rest = ap (λ es. e ∷ es) rest

entry_tells : (k : Key) (es : List (Key × ℕ)) → number_at k es ≡ option_map (λ e. e.1) (lookup_entry (same_key k) es)
entry_tells k [] = refl
entry_tells k (e ∷ es) = go (same_key k e.0) (entry_tells k es)
  where
    go : (b : Bool) → number_at k es ≡ option_map (λ e. e.1) (lookup_entry (same_key k) es) → cond b (Some e.1) (number_at k es) ≡ option_map (λ e. e.1) (cond b (Some e) (lookup_entry (same_key k) es))
    go true rest = refl
    go false rest = rest

pub brought : (k : Key) (es : List (Key × ℕ)) → IsDistinct same_key (keys_of es) → promoted (same_key k) es ≡ touched k es
brought k es apart = go (lookup_entry (same_key k) es) refl
  where
    first : Option (Key × ℕ) → List (Key × ℕ)
    first o = option_map_or (λ e. e ∷ remove_entry (same_key k) es) o es

    then_first : Option ℕ → List (Key × ℕ)
    then_first o = option_map_or (λ number. pair_first k number es) o es

    go : (o : Option (Key × ℕ)) → lookup_entry (same_key k) es ≡ o → first (lookup_entry (same_key k) es) ≡ then_first (number_at k es)
    go None h = ap first h ∙ sym (ap then_first (entry_tells k es ∙ ap (option_map (λ e. e.1)) h))
    go (Some e) h =
        let key : k ≡ e.0 = same_is_equal k e.0 (Contains-lookup_entry (same_key k) es e h).1 in
        ap first h ∙ ap (λ es. e ∷ es) (removed k es apart) ∙ ap (λ j. (j, e.1) ∷ without_pair k es) (sym key)
        ∙ sym (ap then_first (entry_tells k es ∙ ap (option_map (λ e. e.1)) h))

no_entry : (k : Key) (es : List (Key × ℕ)) → number_at k es ≡ None → lookup_entry (same_key k) es ≡ None
no_entry k es absent = go (lookup_entry (same_key k) es) refl
  where
    go : (o : Option (Key × ℕ)) → lookup_entry (same_key k) es ≡ o → lookup_entry (same_key k) es ≡ None
    go None h = h
    go (Some e) h = let clash : Some e.1 ≡ None = sym (entry_tells k es ∙ ap (option_map (λ e. e.1)) h) ∙ absent in cc

pub stored : (c : LruCache Key ℕ) (k : Key) (number : ℕ) → number_at k c.entries ≡ None → length c.entries + 1 ≤ c.cap → put_entries same_key c k number ≡ (k, number) ∷ c.entries
stored c k number absent place =
    let room : length c.entries ≤ c.cap - 1 = omega (arith, place) in
    ap (λ o. option_map_or (λ e. (e.0, number) ∷ remove_entry (same_key k) c.entries) o ((k, number) ∷ take (c.cap - 1) c.entries)) (no_entry k c.entries absent)
    ∙ ap (λ es. (k, number) ∷ es) (take_all (c.cap - 1) c.entries room)

-- the number of a key that was brought first is written
pub written : (k : Key) (number : ℕ) (es : List (Key × ℕ)) → is_some (number_at k es) ≡ true → set_value (same_key k) (touched k es) number ≡ pair_first k number es
written k number es there = go (number_at k es) there
  where
    go : (o : Option ℕ) → is_some o ≡ true → set_value (same_key k) (option_map_or (λ n. pair_first k n es) o es) number ≡ pair_first k number es
    go None there = cc
    go (Some n) there = ap (λ b. cond b ((k, number) ∷ without_pair k es) ((k, n) ∷ set_value (same_key k) (without_pair k es) number)) (same_as_itself k)

pub stays_there : (k : Key) (es : List (Key × ℕ)) → is_some (number_at k es) ≡ true → is_some (number_at k (touched k es)) ≡ true
stays_there k es there = go (number_at k es) refl there
  where
    go : (o : Option ℕ) → number_at k es ≡ o → is_some o ≡ true → is_some (number_at k (option_map_or (λ n. pair_first k n es) o es)) ≡ true
    go None h there = cc
    go (Some n) h there = ap (λ b. is_some (cond b (Some n) (number_at k (without_pair k es)))) (same_as_itself k)
