-- Entries under numbers that are apart, when one of them is put, written or taken out.
use Rattle.std.proofs.Common.{◌≡◌, refl, ◌∙◌, ap, List, [], ◌∷◌, ◌++◌, ℕ, ◌-◌, ◌≤◌, Bool, true, false, cond, length, Some, None, nat_eq}
use Rattle.std.specs.Cmp.{nat_eq_equiv}
use Rattle.std.specs.List.{AllByRecursion, IsDistinct}
use Rattle.std.specs.Map.{keys_of, lookup, lookup_entry, set_value, remove_entry}
use Rattle.std.proofs.lemmas.List.{take_all}
use Rattle.lru.specs.LruCache.{LruCache, put_entries, demoted}

pub none_apart : IsDistinct nat_eq []
unfolding IsDistinct
none_apart = tt

module _ {V : Type 0} where
  -- where nothing is found, nothing is written
  pub set_absent : (k : ℕ) (es : List (ℕ × V)) (v : V) → lookup (nat_eq k) es ≡ None → set_value (nat_eq k) es v ≡ es
  set_absent k [] v h = refl
  set_absent k (e ∷ es) v h = go (nat_eq k e.0) h (set_absent k es v)
    where
      go : (b : Bool) → cond b (Some e.1) (lookup (nat_eq k) es) ≡ None → (lookup (nat_eq k) es ≡ None → set_value (nat_eq k) es v ≡ es) → cond b ((e.0, v) ∷ es) (e ∷ set_value (nat_eq k) es v) ≡ e ∷ es
      go true h rest = cc
      go false h rest = ap (λ es. e ∷ es) (rest h)

  entry_absent : (k : ℕ) (es : List (ℕ × V)) → lookup (nat_eq k) es ≡ None → lookup_entry (nat_eq k) es ≡ None
  entry_absent k [] h = refl
  entry_absent k (e ∷ es) h = go (nat_eq k e.0) h (entry_absent k es)
    where
      go : (b : Bool) → cond b (Some e.1) (lookup (nat_eq k) es) ≡ None → (lookup (nat_eq k) es ≡ None → lookup_entry (nat_eq k) es ≡ None) → cond b (Some e) (lookup_entry (nat_eq k) es) ≡ None
      go true h rest = cc
      go false h rest = rest h

  -- what is put into a cache with room and then made the last stands behind the others
  pub put_behind : (c : LruCache ℕ V) (k : ℕ) (v : V) → lookup (nat_eq k) c.entries ≡ None → length c.entries ≤ c.cap - 1 → demoted (nat_eq k) (put_entries nat_eq c k v) ≡ c.entries ++ (k, v) ∷ []
  put_behind c k v absent room = rw (entry_absent k c.entries absent) (rw (take_all (c.cap - 1) c.entries room) (rw (nat_eq_equiv.refl k) refl))

  -- a property of all keys holds of this one
  of_key : (P : ℕ → Type 0) (xs ys : List (ℕ × V)) (k : ℕ) (v : V) → AllByRecursion P (keys_of (xs ++ (k, v) ∷ ys)) → P k
  of_key P [] ys k v h = h.0
  of_key P (x ∷ xs) ys k v h = of_key P xs ys k v h.1

  other_key : (x : ℕ × V) (xs ys : List (ℕ × V)) (k : ℕ) (v : V) → AllByRecursion (λ y. nat_eq x.0 y ≡ false) (keys_of (xs ++ (k, v) ∷ ys)) → nat_eq k x.0 ≡ false
  other_key x xs ys k v h = nat_eq_equiv.symm k x.0 ∙ of_key (λ y. nat_eq x.0 y ≡ false) xs ys k v h

  -- the entry of a key in the middle takes another value
  pub set_between : (xs ys : List (ℕ × V)) (k : ℕ) (v w : V) → IsDistinct nat_eq (keys_of (xs ++ (k, v) ∷ ys)) → set_value (nat_eq k) (xs ++ (k, v) ∷ ys) w ≡ xs ++ (k, w) ∷ ys
  unfolding IsDistinct
  set_between [] ys k v w apart = ap (λ b. cond b ((k, w) ∷ ys) ((k, v) ∷ set_value (nat_eq k) ys w)) (nat_eq_equiv.refl k)
  set_between (x ∷ xs) ys k v w apart =
      ap (λ b. cond b ((x.0, w) ∷ (xs ++ (k, v) ∷ ys)) (x ∷ set_value (nat_eq k) (xs ++ (k, v) ∷ ys) w)) (other_key x xs ys k v apart.0)
      ∙ ap (λ es. x ∷ es) (set_between xs ys k v w apart.1)

  -- the entry of a key in the middle is taken out
  pub remove_between : (xs ys : List (ℕ × V)) (k : ℕ) (v : V) → IsDistinct nat_eq (keys_of (xs ++ (k, v) ∷ ys)) → remove_entry (nat_eq k) (xs ++ (k, v) ∷ ys) ≡ xs ++ ys
  unfolding IsDistinct
  remove_between [] ys k v apart = ap (λ b. cond b ys ((k, v) ∷ remove_entry (nat_eq k) ys)) (nat_eq_equiv.refl k)
  remove_between (x ∷ xs) ys k v apart =
      ap (λ b. cond b (xs ++ (k, v) ∷ ys) (x ∷ remove_entry (nat_eq k) (xs ++ (k, v) ∷ ys))) (other_key x xs ys k v apart.0)
      ∙ ap (λ es. x ∷ es) (remove_between xs ys k v apart.1)
