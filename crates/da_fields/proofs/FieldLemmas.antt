-- Lemmas on lists of fields.
use Rattle.std.proofs.Common.{◌≡◌, ℕ, ◌+◌, ◌<◌, ◌≤◌, Bool, true, false, ◌&&◌, [], ◌∷◌, ◌++◌, length, take, drop, Option, Some, None, eqb, cond, refl, sym, ap, ◌∙◌, Bor, get_or, set, append-nil, subst, inl, inr, arith}
use Rattle.std.specs.Prelude.{bytes_eq, filter, codes, is_some, option_copied}
use Rattle.std.specs.List.{starts_with}
use Rattle.std.proofs.lemmas.Bool.{cases_Bool, eqb-true, eq-eqb, and_parts, both_ways}
use Rattle.std.proofs.lemmas.List.{take_more, take-append-drop, drop_more, drop_all, length-take-le, get_or_at, set_at}
use Rattle.std.proofs.lemmas.Slice.Eq.{bytes_eq-Decides}
use Rattle.da_base.specs.Words.{Bytes, begins_with}
use Rattle.da_fields.specs.FieldList.{Pairs, field, with_field, LacksKey, IsPlaceOf, AreDistinct, is_userdb_key, userdb_part}

same_text : (a b : Bytes) → bytes_eq a b ≡ true → a ≡ b
same_text a b = (bytes_eq-Decides a b).0

test_same : (a b : Bytes) → a ≡ b → bytes_eq a b ≡ true
test_same a b = (bytes_eq-Decides a b).1

test_other_way : (a b : Bytes) → bytes_eq a b ≡ false → bytes_eq b a ≡ false
test_other_way a b other =
    elim (cases_Bool (bytes_eq b a)) [
      | inl e ↦ absurd (both_ways (bytes_eq a b) other (test_same a b (sym (same_text b a e))))
      | inr e ↦ e
    ]

-- ---- a key that isn't there

pub with_field_none : (key value : Bytes) (pairs : Pairs) → LacksKey key pairs → with_field key value pairs ≡ pairs ++ (key, value) ∷ []
with_field_none key value [] lacks = refl
with_field_none key value (p ∷ pairs) lacks = rw lacks.0 (ap (λ l. p ∷ l) (with_field_none key value pairs lacks.1))

pub LacksKey_from_field : (key : Bytes) (pairs : Pairs) → field key pairs ≡ None → LacksKey key pairs
LacksKey_from_field key [] none = tt
LacksKey_from_field key (p ∷ pairs) none =
    elim (cases_Bool (bytes_eq key p.0)) [
      | inl e ↦ let some : ◌≡◌ {A = Option Bytes} (Some p.1) None = rw e at none in absurd (cc)
      | inr e ↦ (e, LacksKey_from_field key pairs (rw e at none))
    ]

-- ---- a key that is there

pub with_field_at : (key value old : Bytes) (front back : Pairs) → LacksKey key front
    → with_field key value (front ++ (key, old) ∷ back) ≡ front ++ (key, value) ∷ back
with_field_at key value old [] back lacks = rw (test_same key key refl)
with_field_at key value old (p ∷ front) back lacks = rw lacks.0 (ap (λ l. p ∷ l) (with_field_at key value old front back lacks.1))

-- ---- where a key stands

LacksKey-push : (key : Bytes) (pairs : Pairs) (p : Bytes × Bytes) → LacksKey key pairs → bytes_eq key p.0 ≡ false → LacksKey key (pairs ++ p ∷ [])
LacksKey-push key [] p lacks differ = (differ, tt)
LacksKey-push key (q ∷ pairs) p lacks differ = (lacks.0, LacksKey-push key pairs p lacks.1 differ)

pub lacks_more : (key : Bytes) (pairs : Pairs) (at : ℕ) (p : Bytes × Bytes) → at < length pairs → p ≡ get_or pairs at p → bytes_eq key p.0 ≡ false
    → LacksKey key (take at pairs) → LacksKey key (take (at + 1) pairs)
lacks_more key pairs at p within is differ lacks =
    rw (take_more pairs at p within, ← is) (LacksKey-push key (take at pairs) p lacks differ)

pub place_found : (key : Bytes) (pairs : Pairs) (at : ℕ) (p : Bytes × Bytes) → at < length pairs → p ≡ get_or pairs at p → bytes_eq key p.0 ≡ true
    → LacksKey key (take at pairs) → IsPlaceOf key pairs at
place_found key pairs at p within is same lacks =
    let pair : p ≡ (key, p.1) = ap (λ k. (k, p.1)) (sym (same_text key p.0 same)) in
    record {
      within = within;
      before = lacks;
      value = p.1;
      here =
          sym (take-append-drop at pairs)
          ∙ ap (λ l. take at pairs ++ l) (drop_more pairs at p within ∙ ap (λ q. q ∷ drop (at + 1) pairs) (sym is ∙ pair));
    }

pub set_is_with_field : (key value : Bytes) (pairs : Pairs) (at : ℕ) (p : Bytes × Bytes) → IsPlaceOf key pairs at → p ≡ get_or pairs at p
    → set pairs at (p.0, value) ≡ with_field key value pairs
set_is_with_field key value pairs at p place is =
    let front = take at pairs in
    let back = drop (at + 1) pairs in
    let size : length front ≡ at = length-take-le at pairs (omega (arith, place.within)) in
    let pair : p ≡ (key, place.value) = is ∙ ap (λ l. get_or l at p) place.here ∙ get_or_at front (key, place.value) back p at size in
    ap (λ l. set l at (p.0, value)) place.here
    ∙ set_at front (key, place.value) back (p.0, value) at size
    ∙ ap (λ q. front ++ (q.0, value) ∷ back) pair
    ∙ sym (ap (with_field key value) place.here ∙ with_field_at key value place.value front back place.before)

-- the end of a loop that shows a list
pub all_shown : (shown items : Pairs) (i : ℕ) (show : Pairs → Pairs) → shown ++ show (drop i items) ≡ show items → length items ≤ i → show [] ≡ [] → shown ≡ show items
all_shown shown items i show so_far all none =
    sym (append-nil shown) ∙ ap (λ l. shown ++ l) (sym none ∙ ap show (sym (drop_all i items all))) ∙ so_far

-- ---- distinct keys

LacksKey-with_field : (other key value : Bytes) (pairs : Pairs) → bytes_eq other key ≡ false → LacksKey other pairs → LacksKey other (with_field key value pairs)
LacksKey-with_field other key value [] differ lacks = (differ, tt)
LacksKey-with_field other key value (p ∷ pairs) differ lacks =
    elim (cases_Bool (bytes_eq key p.0)) [
      | inl e ↦ rw e (differ, lacks.1)
      | inr e ↦ rw e (lacks.0, LacksKey-with_field other key value pairs differ lacks.1)
    ]

pub AreDistinct-with_field : (key value : Bytes) (pairs : Pairs) → AreDistinct pairs → AreDistinct (with_field key value pairs)
AreDistinct-with_field key value [] distinct = (tt, tt)
AreDistinct-with_field key value (p ∷ pairs) distinct =
    elim (cases_Bool (bytes_eq key p.0)) [
      | inl e ↦ rw e (subst (λ k. LacksKey k pairs) (sym (same_text key p.0 e)) distinct.0, distinct.1)
      | inr e ↦ rw e (LacksKey-with_field p.0 key value pairs (test_other_way key p.0 e) distinct.0, AreDistinct-with_field key value pairs distinct.1)
    ]

LacksKey-filter : (test : Bytes × Bytes → Bool) (key : Bytes) (pairs : Pairs) → LacksKey key pairs → LacksKey key (filter test pairs)
LacksKey-filter test key [] lacks = tt
LacksKey-filter test key (p ∷ pairs) lacks =
    elim (cases_Bool (test p)) [
      | inl e ↦ rw e (lacks.0, LacksKey-filter test key pairs lacks.1)
      | inr e ↦ rw e (LacksKey-filter test key pairs lacks.1)
    ]

pub AreDistinct-filter : (test : Bytes × Bytes → Bool) (pairs : Pairs) → AreDistinct pairs → AreDistinct (filter test pairs)
AreDistinct-filter test [] distinct = tt
AreDistinct-filter test (p ∷ pairs) distinct =
    elim (cases_Bool (test p)) [
      | inl e ↦ rw e (LacksKey-filter test p.0 pairs distinct.0, AreDistinct-filter test pairs distinct.1)
      | inr e ↦ rw e (AreDistinct-filter test pairs distinct.1)
    ]

-- ---- keys of user databases

pub begins_with-starts_with : (front text : Bytes) → begins_with front text ≡ starts_with eqb text front
begins_with-starts_with [] text = refl
begins_with-starts_with (c ∷ cs) [] = refl
begins_with-starts_with (c ∷ cs) (x ∷ xs) = ap (λ b. eqb c x && b) (begins_with-starts_with cs xs)

-- two texts of one front differ behind it
differ_behind : (front a b : Bytes) → begins_with front a ≡ true → begins_with front b ≡ true → bytes_eq a b ≡ false
    → bytes_eq (drop (length front) a) (drop (length front) b) ≡ false
differ_behind [] a b begun also differ = differ
differ_behind (c ∷ cs) [] b begun also differ = cc
differ_behind (c ∷ cs) (x ∷ xs) [] begun also differ = cc
differ_behind (c ∷ cs) (x ∷ xs) (y ∷ ys) begun also differ =
    let one = and_parts (eqb c x) (begins_with cs xs) begun in
    let two = and_parts (eqb c y) (begins_with cs ys) also in
    let same : x ≡ y = sym (eqb-true c x one.0) ∙ eqb-true c y two.0 in
    differ_behind cs xs ys one.1 two.1 (rw (eq-eqb x y same) at differ)

LacksKey-userdb_part : (key : Bytes) (pairs : Pairs) → is_userdb_key key ≡ true → LacksKey key pairs → LacksKey (drop 7 key) (userdb_part pairs)
LacksKey-userdb_part key [] ours lacks = tt
LacksKey-userdb_part key (p ∷ pairs) ours lacks =
    elim (cases_Bool (is_userdb_key p.0)) [
      | inl e ↦
          rw e (
            differ_behind (codes "userdb_") key p.0 (and_parts _ _ ours).0 (and_parts _ _ e).0 lacks.0,
            LacksKey-userdb_part key pairs ours lacks.1,
          )
      | inr e ↦ rw e (LacksKey-userdb_part key pairs ours lacks.1)
    ]

pub AreDistinct-userdb_part : (pairs : Pairs) → AreDistinct pairs → AreDistinct (userdb_part pairs)
AreDistinct-userdb_part [] distinct = tt
AreDistinct-userdb_part (p ∷ pairs) distinct =
    elim (cases_Bool (is_userdb_key p.0)) [
      | inl e ↦ rw e (LacksKey-userdb_part p.0 pairs e distinct.0, AreDistinct-userdb_part pairs distinct.1)
      | inr e ↦ rw e (AreDistinct-userdb_part pairs distinct.1)
    ]

-- ---- defaults

none_from_copied : {A : Type 0} (r : Option (Bor A)) (o : Option A) → is_some r ≡ false → option_copied r ≡ o → o ≡ None
none_from_copied None o none e = sym e
none_from_copied (Some x) o none e = cc

-- a default whose key isn't there is set
pub default_is_set : (key value other new : Bytes) (pairs : Pairs) (r : Option (Bor Bytes)) → is_some r ≡ false → option_copied r ≡ field key pairs
    → other ≡ key → new ≡ value → with_field other new pairs ≡ cond (is_some (field key pairs)) pairs (pairs ++ (key, value) ∷ [])
default_is_set key value other new pairs r none looked same_key same_value =
    let absent = none_from_copied r (field key pairs) none looked in
    ap (λ k. with_field k new pairs) same_key ∙ ap (λ v. with_field key v pairs) same_value
    ∙ rw absent (with_field_none key value pairs (LacksKey_from_field key pairs absent))
