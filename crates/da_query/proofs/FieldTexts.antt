-- Lemmas on texts that are fields.
use Rattle.std.proofs.Common.{◌≡◌, true, false, List, [], ◌∷◌, ◌++◌, map, Option, Some, None, refl, sym, ap, ◌∙◌, subst, inl, inr, append_assoc, append-nil}
use Rattle.std.specs.Prelude.{bytes_eq, is_some, if◌then◌else◌}
use Rattle.std.specs.List.{AllByRecursion}
use Rattle.std.proofs.lemmas.Bool.{cases_Bool, both_ways}
use Rattle.std.proofs.lemmas.Option.{same_Some, option_and_then_some}
use Rattle.std.proofs.lemmas.Slice.Eq.{bytes_eq-Decides}
use Rattle.da_base.specs.Words.{Bytes, is_empty}
use Rattle.da_fields.specs.FieldList.{Pairs, field, with_field, text_key, text_value, LacksKey, AreDistinct}
use Rattle.da_fields.proofs.FieldLemmas.{LacksKey_from_field, with_field_none}
use Rattle.da_query.specs.AnswerLines.{fields_of, new_field, with_new_field}
use Rattle.da_query.specs.AnswerSpelling.{AreFields}

abbrev pub text_pair : Bytes → Bytes × Bytes
text_pair text = (text_key text, text_value text)

-- the fields found so far, and then those of these texts
abbrev pub fields_with : Pairs → List Bytes → Option Pairs
fields_with found [] = Some found
fields_with found (text ∷ texts) =
    if is_empty (text_key text) then None
    else if is_some (field (text_key text) found) then None
    else fields_with (with_field (text_key text) (text_value text) found) texts

none_or_some : {A : Type 0} (o : Option A) → is_some o ≡ false → o ≡ None
none_or_some None none = refl
none_or_some (Some x) none = cc

field_of_lacking : (key : Bytes) (pairs : Pairs) → LacksKey key pairs → field key pairs ≡ None
field_of_lacking key [] lacks = refl
field_of_lacking key (p ∷ pairs) lacks = rw lacks.0 (field_of_lacking key pairs lacks.1)

same_text : (a b : Bytes) → bytes_eq a b ≡ true → a ≡ b
same_text a b = (bytes_eq-Decides a b).0

test_same : (a b : Bytes) → a ≡ b → bytes_eq a b ≡ true
test_same a b = (bytes_eq-Decides a b).1

test_other_way : (a b : Bytes) → bytes_eq a b ≡ false → bytes_eq b a ≡ false
test_other_way a b other =
    elim (cases_Bool (bytes_eq b a)) [
      | inl e ↦ absurd (both_ways (bytes_eq a b) other (test_same a b (sym (same_text b a e))))
      | inr e ↦ e
    ]

-- ---- distinct keys of two lists, one after the other

LacksKey-append : (key : Bytes) (a b : Pairs) → LacksKey key a → LacksKey key b → LacksKey key (a ++ b)
LacksKey-append key [] b one two = two
LacksKey-append key (p ∷ a) b one two = (one.0, LacksKey-append key a b one.1 two)

LacksKey_front : (key : Bytes) (a b : Pairs) → LacksKey key (a ++ b) → LacksKey key a
LacksKey_front key [] b lacks = tt
LacksKey_front key (p ∷ a) b lacks = (lacks.0, LacksKey_front key a b lacks.1)

LacksKey_at : (key : Bytes) (a b : Pairs) (p : Bytes × Bytes) → LacksKey key (a ++ p ∷ b) → bytes_eq key p.0 ≡ false
LacksKey_at key [] b p lacks = lacks.0
LacksKey_at key (q ∷ a) b p lacks = LacksKey_at key a b p lacks.1

AreDistinct-push : (pairs : Pairs) (p : Bytes × Bytes) → AreDistinct pairs → LacksKey p.0 pairs → AreDistinct (pairs ++ p ∷ [])
AreDistinct-push [] p distinct lacks = (tt, tt)
AreDistinct-push (q ∷ pairs) p distinct lacks =
    (LacksKey-append q.0 pairs (p ∷ []) distinct.0 (test_other_way p.0 q.0 lacks.0, tt), AreDistinct-push pairs p distinct.1 lacks.1)

-- the key in the middle stands nowhere before
lacks_before : (a b : Pairs) (p : Bytes × Bytes) → AreDistinct (a ++ p ∷ b) → LacksKey p.0 a
lacks_before [] b p distinct = tt
lacks_before (q ∷ a) b p distinct = (test_other_way q.0 p.0 (LacksKey_at q.0 a b p distinct.0), lacks_before a b p distinct.1)

-- ---- texts that are fields

abbrev pub AreKeyed : Pairs → Type 0
AreKeyed pairs = AllByRecursion (λ p. is_empty p.0 ≡ false) pairs

abbrev pub pairs_of : List Bytes → Pairs
pairs_of texts = map text_pair texts

-- a text is a field of a new key before others
first_sound : (text : Bytes) (texts : List Bytes) (fields more : Pairs)
    → (pairs_of texts ≡ more) × AreKeyed (pairs_of texts) × AreDistinct (pairs_of texts) → with_new_field text more ≡ Some fields
    → (pairs_of (text ∷ texts) ≡ fields) × AreKeyed (pairs_of (text ∷ texts)) × AreDistinct (pairs_of (text ∷ texts))
first_sound text texts fields more rest h =
    elim (cases_Bool (is_empty (text_key text))) [
      | inl e ↦ let never : ◌≡◌ {A = Option Pairs} None (Some fields) = rw e at h in cc
      | inr keyed ↦
          elim (cases_Bool (is_some (field (text_key text) more))) [
            | inl e ↦ let never : ◌≡◌ {A = Option Pairs} None (Some fields) = rw (keyed, e) at h in cc
            | inr lacking ↦
                let lacks = LacksKey_from_field (text_key text) more (none_or_some (field (text_key text) more) lacking) in (
                  ap (λ l. text_pair text ∷ l) rest.0 ∙ same_Some (text_pair text ∷ more) fields (rw (keyed, lacking) at h),
                  (keyed, rest.1),
                  (subst (LacksKey (text_key text)) (sym rest.0) lacks, rest.2),
                )
          ]
    ]

fields_of-sound : (texts : List Bytes) (fields : Pairs) → fields_of texts ≡ Some fields
    → (pairs_of texts ≡ fields) × AreKeyed (pairs_of texts) × AreDistinct (pairs_of texts)
fields_of-sound [] fields h = (same_Some [] fields h, tt, tt)
fields_of-sound (text ∷ texts) fields h =
    option_and_then_some (with_new_field text) (fields_of texts) fields h
    (λ more is found. first_sound text texts fields more (fields_of-sound texts more is) found)

fields_of-complete : (texts : List Bytes) → AreKeyed (pairs_of texts) → AreDistinct (pairs_of texts) → fields_of texts ≡ Some (pairs_of texts)
fields_of-complete [] keyed distinct = refl
fields_of-complete (text ∷ texts) keyed distinct =
    rw (fields_of-complete texts keyed.1 distinct.1, keyed.0, field_of_lacking (text_key text) (pairs_of texts) distinct.0) refl

-- texts are read as the fields that they are
pub fields_parts : (texts : List Bytes) (fields : Pairs) → fields_of texts ≡ Some fields → AreFields texts fields
fields_parts texts fields h =
    let parts = fields_of-sound texts fields h in
    record { pairs = parts.0; keyed = subst AreKeyed parts.0 parts.1; distinct = subst AreDistinct parts.0 parts.2 }

pub fields_from : (texts : List Bytes) (fields : Pairs) → AreFields texts fields → fields_of texts ≡ Some fields
fields_from texts fields are =
    fields_of-complete texts (subst AreKeyed (sym are.pairs) are.keyed) (subst AreDistinct (sym are.pairs) are.distinct) ∙ ap Some are.pairs

-- ---- and so does the reading from the first text on

fields_with-sound : (texts : List Bytes) (found fields : Pairs) → AreDistinct found → fields_with found texts ≡ Some fields
    → (found ++ pairs_of texts ≡ fields) × AreKeyed (pairs_of texts) × AreDistinct (found ++ pairs_of texts)
fields_with-sound [] found fields distinct h =
    (append-nil found ∙ same_Some found fields h, tt, subst AreDistinct (sym (append-nil found)) distinct)
fields_with-sound (text ∷ texts) found fields distinct h =
    elim (cases_Bool (is_empty (text_key text))) [
      | inl e ↦ let never : ◌≡◌ {A = Option Pairs} None (Some fields) = rw e at h in cc
      | inr keyed ↦
          elim (cases_Bool (is_some (field (text_key text) found))) [
            | inl e ↦ let never : ◌≡◌ {A = Option Pairs} None (Some fields) = rw (keyed, e) at h in cc
            | inr lacking ↦
                let lacks = LacksKey_from_field (text_key text) found (none_or_some (field (text_key text) found) lacking) in
                let pushed = with_field_none (text_key text) (text_value text) found lacks in
                let more : fields_with (found ++ text_pair text ∷ []) texts ≡ Some fields = rw (keyed, lacking, pushed) at h in
                let rest = fields_with-sound texts (found ++ text_pair text ∷ []) fields (AreDistinct-push found (text_pair text) distinct lacks) more in
                let assoc = append_assoc found (text_pair text ∷ []) (pairs_of texts) in
                (sym assoc ∙ rest.0, (keyed, rest.1), subst AreDistinct assoc rest.2)
          ]
    ]

fields_with-complete : (texts : List Bytes) (found : Pairs) → AreKeyed (pairs_of texts) → AreDistinct (found ++ pairs_of texts)
    → fields_with found texts ≡ Some (found ++ pairs_of texts)
fields_with-complete [] found keyed distinct = ap Some (sym (append-nil found))
fields_with-complete (text ∷ texts) found keyed distinct =
    let lacks = lacks_before found (pairs_of texts) (text_pair text) distinct in
    let pushed = with_field_none (text_key text) (text_value text) found lacks in
    let assoc = append_assoc found (text_pair text ∷ []) (pairs_of texts) in
    let rest = fields_with-complete texts (found ++ text_pair text ∷ []) keyed.1 (subst AreDistinct (sym assoc) distinct) in
    rw (keyed.0, field_of_lacking (text_key text) found lacks, pushed) (rest ∙ ap Some assoc)

same_options : {A : Type 0} (o p : Option A) → ((x : A) → o ≡ Some x → p ≡ Some x) → ((x : A) → p ≡ Some x → o ≡ Some x) → o ≡ p
same_options None None there back = refl
same_options None (Some x) there back = back x refl
same_options (Some x) p there back = sym (there x refl)

pub fields_with-is : (texts : List Bytes) → fields_with [] texts ≡ fields_of texts
fields_with-is texts =
    same_options (fields_with [] texts) (fields_of texts)
    (λ fields h. let parts = fields_with-sound texts [] fields tt h in fields_of-complete texts parts.1 parts.2 ∙ ap Some parts.0)
    (λ fields h. let parts = fields_of-sound texts fields h in fields_with-complete texts [] parts.1 parts.2 ∙ ap Some parts.0)

-- ---- one text of those that are left

pub no_field : (found : Pairs) (left more : List Bytes) (text : Bytes) → left ≡ text ∷ more → new_field found text ≡ None → fields_with found left ≡ None
no_field found left more text is none =
    elim (cases_Bool (is_empty (text_key text))) [
      | inl e ↦ ap (fields_with found) is ∙ rw e refl
      | inr keyed ↦
          elim (cases_Bool (is_some (field (text_key text) found))) [
            | inl e ↦ ap (fields_with found) is ∙ rw (keyed, e) refl
            | inr lacking ↦ let never : ◌≡◌ {A = Option (Bytes × Bytes)} (Some (text_pair text)) None = rw (keyed, lacking) at none in cc
          ]
    ]

pub one_field : (found : Pairs) (left more : List Bytes) (text : Bytes) (p : Bytes × Bytes) → left ≡ text ∷ more → new_field found text ≡ Some p
    → fields_with (with_field p.0 p.1 found) more ≡ fields_with found left
one_field found left more text p is some =
    elim (cases_Bool (is_empty (text_key text))) [
      | inl e ↦ let never : ◌≡◌ {A = Option (Bytes × Bytes)} None (Some p) = rw e at some in cc
      | inr keyed ↦
          elim (cases_Bool (is_some (field (text_key text) found))) [
            | inl e ↦ let never : ◌≡◌ {A = Option (Bytes × Bytes)} None (Some p) = rw (keyed, e) at some in cc
            | inr lacking ↦
                let pair : text_pair text ≡ p = same_Some (text_pair text) p (rw (keyed, lacking) at some) in
                sym (ap (fields_with found) is ∙ rw (keyed, lacking) (ap (λ q. fields_with (with_field q.0 q.1 found) more) pair))
          ]
    ]

-- ---- the end of the reading

pub none_read : (found : Pairs) (left more texts : List Bytes) (text : Bytes) → left ≡ text ∷ more → new_field found text ≡ None
    → fields_with found left ≡ fields_with [] texts → None ≡ fields_of texts
none_read found left more texts text is none so_far = sym (no_field found left more text is none) ∙ so_far ∙ fields_with-is texts

pub all_read : (found : Pairs) (left texts : List Bytes) → left ≡ [] → fields_with found left ≡ fields_with [] texts → Some found ≡ fields_of texts
all_read found left texts is so_far = sym (ap (fields_with found) is) ∙ so_far ∙ fields_with-is texts
