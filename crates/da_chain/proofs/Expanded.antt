-- Lemmas on fields whose values are templates.
use Rattle.std.proofs.Common.{◌≡◌, ℕ, ◌≤◌, false, [], ◌∷◌, ◌++◌, length, drop, sym, ap, ◌∙◌, append_assoc, append-nil, inl, inr}
use Rattle.std.specs.Prelude.{bytes_eq}
use Rattle.std.proofs.lemmas.Bool.{cases_Bool, both_ways}
use Rattle.std.proofs.lemmas.List.{drop_all}
use Rattle.std.proofs.lemmas.Slice.Eq.{bytes_eq-Decides}
use Rattle.da_base.specs.Words.{Bytes}
use Rattle.da_fields.specs.FieldList.{Pairs, with_fields, LacksKey, AreDistinct}
use Rattle.da_fields.proofs.FieldLemmas.{with_field_none}
use Rattle.da_names.specs.Templates.{expand_fields}
use Rattle.da_names.specs.declared.variables.Vars.{Vars}

-- ---- keys stay

LacksKey-expand_fields : (v : Vars) (key : Bytes) (fields : Pairs) → LacksKey key fields → LacksKey key (expand_fields v fields)
LacksKey-expand_fields v key [] lacks = tt
LacksKey-expand_fields v key (p ∷ fields) lacks = (lacks.0, LacksKey-expand_fields v key fields lacks.1)

AreDistinct-expand_fields : (v : Vars) (fields : Pairs) → AreDistinct fields → AreDistinct (expand_fields v fields)
AreDistinct-expand_fields v [] distinct = tt
AreDistinct-expand_fields v (p ∷ fields) distinct = (LacksKey-expand_fields v p.0 fields distinct.0, AreDistinct-expand_fields v fields distinct.1)

-- ---- distinct fields are set one behind the other

test_other_way : (a b : Bytes) → bytes_eq a b ≡ false → bytes_eq b a ≡ false
test_other_way a b other =
    elim (cases_Bool (bytes_eq b a)) [
      | inl e ↦ absurd (both_ways (bytes_eq a b) other ((bytes_eq-Decides a b).1 (sym ((bytes_eq-Decides b a).0 e))))
      | inr e ↦ e
    ]

-- no pair of `more` has a key of `fields`
abbrev LacksKeys : Pairs → Pairs → Type 0
LacksKeys fields [] = Unit {0}
LacksKeys fields (p ∷ more) = LacksKey p.0 fields × LacksKeys fields more

LacksKey-push : (key : Bytes) (fields : Pairs) (p : Bytes × Bytes) → LacksKey key fields → bytes_eq key p.0 ≡ false → LacksKey key (fields ++ p ∷ [])
LacksKey-push key [] p lacks differ = (differ, tt)
LacksKey-push key (q ∷ fields) p lacks differ = (lacks.0, LacksKey-push key fields p lacks.1 differ)

LacksKeys-push : (fields : Pairs) (p : Bytes × Bytes) (more : Pairs) → LacksKeys fields more → LacksKey p.0 more → LacksKeys (fields ++ p ∷ []) more
LacksKeys-push fields p [] apart lacks = tt
LacksKeys-push fields p (q ∷ more) apart lacks =
    (LacksKey-push q.0 fields p apart.0 (test_other_way p.0 q.0 lacks.0), LacksKeys-push fields p more apart.1 lacks.1)

LacksKeys-none : (more : Pairs) → LacksKeys [] more
LacksKeys-none [] = tt
LacksKeys-none (p ∷ more) = (tt, LacksKeys-none more)

with_fields-apart : (fields more : Pairs) → LacksKeys fields more → AreDistinct more → with_fields fields more ≡ fields ++ more
with_fields-apart fields [] apart distinct = sym (append-nil fields)
with_fields-apart fields (p ∷ more) apart distinct =
    ap (λ l. with_fields l more) (with_field_none p.0 p.1 fields apart.0)
    ∙ with_fields-apart (fields ++ p ∷ []) more (LacksKeys-push fields p more apart.1 distinct.0) distinct.1
    ∙ append_assoc fields (p ∷ []) more

with_fields-expanded : (v : Vars) (fields : Pairs) → AreDistinct fields → with_fields [] (expand_fields v fields) ≡ expand_fields v fields
with_fields-expanded v fields distinct = with_fields-apart [] (expand_fields v fields) (LacksKeys-none (expand_fields v fields)) (AreDistinct-expand_fields v fields distinct)

-- the end of a loop that sets one field behind the other
pub all_expanded : (v : Vars) (expanded items fields : Pairs) (i : ℕ) → with_fields expanded (expand_fields v (drop i items)) ≡ with_fields [] (expand_fields v items)
    → length items ≤ i → items ≡ fields → AreDistinct fields → expanded ≡ expand_fields v fields
all_expanded v expanded items fields i so_far all same distinct =
    ap (λ l. with_fields expanded (expand_fields v l)) (sym (drop_all i items all)) ∙ so_far ∙ ap (λ l. with_fields [] (expand_fields v l)) same
    ∙ with_fields-expanded v fields distinct
