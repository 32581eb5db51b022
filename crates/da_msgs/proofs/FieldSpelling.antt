-- Lemmas on the fields that spell a message.
use Rattle.std.proofs.Common.{◌≡◌, ℕ, ◌≤◌, true, false, not, List, [], ◌∷◌, ◌++◌, length, Option, Some, None, cond, leb, eqb, refl, ap, ◌∙◌, subst, inl, inr}
use Rattle.std.specs.Prelude.{bytes_eq, codes, option_map}
use Rattle.std.specs.List.{AllByRecursion, list_any}
use Rattle.std.proofs.lemmas.Bool.{cases_Bool, and_parts, and_from, leb-true, le-leb, not-true}
use Rattle.std.proofs.lemmas.Option.{same_Some, option_and_then_some, some_pair_parts}
use Rattle.std.proofs.lemmas.Slice.Eq.{bytes_eq-Decides}
use Rattle.da_base.specs.Words.{Bytes, after_front, is_empty, number, option_or_else}
use Rattle.da_tabline.proofs.PartLemmas.{after_front_some}
use Rattle.da_fields.specs.FieldList.{Pairs, with_field, text_key, text_value}
use Rattle.da_msgs.specs.ClientMessages.{version_of, one_number, parameters_of}
use Rattle.da_msgs.specs.ClientSpelling.{IsParameter, parameter_pairs, AreParameters}
use Rattle.da_msgs.specs.Lines.{fits_a_line}

-- ---- lines

fits_parts : (line : Bytes) → fits_a_line line ≡ true → (length line ≤ 8192) × (list_any (λ c. eqb c 10) line ≡ false)
fits_parts line h =
    let parts = and_parts (leb (length line) 8192) (not (list_any (λ c. eqb c 10) line)) h in
    (leb-true _ _ parts.0, not-true _ parts.1)

pub fits_from : (line : Bytes) → length line ≤ 8192 → list_any (λ c. eqb c 10) line ≡ false → fits_a_line line ≡ true
fits_from line short no_end = and_from _ _ (le-leb _ _ short) (ap not no_end)

module _ {M : Type 0} where
  -- where a message is read of a line, the line fits, and its fields spell the message
  pub line_read : (line : Bytes) (read : Option M) (m : M) → cond (fits_a_line line) read None ≡ Some m
      → (length line ≤ 8192) × (list_any (λ c. eqb c 10) line ≡ false) × (read ≡ Some m)
  line_read line read m h =
      elim (cases_Bool (fits_a_line line)) [
        | inl e ↦ let fits = fits_parts line e in (fits.0, fits.1, rw e at h)
        | inr e ↦ let never : ◌≡◌ {A = Option M} None (Some m) = rw e at h in cc
      ]

-- ---- words

pub with_word : (word other : Bytes) (rest fields : List Bytes) → word ≡ other → rest ≡ fields → word ∷ rest ≡ other ∷ fields
with_word word other rest fields e f = ap (λ w. w ∷ rest) e ∙ ap (λ l. other ∷ l) f

pub word_is : (word other : Bytes) → bytes_eq word other ≡ true → word ≡ other
word_is word other = (bytes_eq-Decides word other).0

-- ---- numbers

pub some_of_map : {A B : Type 0} (f : A → B) (o : Option A) (y : B) → option_map f o ≡ Some y → (x : A) × (o ≡ Some x) × (f x ≡ y)
some_of_map f None y h = cc
some_of_map f (Some x) y h = (x, refl, same_Some _ _ h)

-- ---- two numbers

version_parts : (fields : List Bytes) (v : ℕ × ℕ) → version_of fields ≡ Some v
    → (a b : Bytes) × (rest : List Bytes) × (fields ≡ a ∷ b ∷ rest) × (number a ≡ Some v.0) × (number b ≡ Some v.1)
version_parts [] v h = cc
version_parts (a ∷ []) v h = cc
version_parts (a ∷ b ∷ rest) v h =
    option_and_then_some (λ x. option_map (λ y. (x, y)) (number b)) (number a) v h
    (λ x x_is more.
    let second = some_of_map (λ y. (x, y)) (number b) v more in
    (a, b, rest, refl, x_is ∙ ap (λ p. Some p.0) second.2, second.1 ∙ ap (λ p. Some p.1) second.2))

-- the fields of a line that tells a version
pub version_spelled : {M : Type 0} (told : ℕ → ℕ → M) (word : Bytes) (rest : List Bytes) (m : M) → word ≡ codes "VERSION"
    → option_map (λ v. told v.0 v.1) (version_of rest) ≡ Some m
    → (v : ℕ × ℕ) × (told v.0 v.1 ≡ m) × (a b : Bytes) × (more : List Bytes) × (word ∷ rest ≡ codes "VERSION" ∷ a ∷ b ∷ more) × (number a ≡ Some v.0) × (number b ≡ Some v.1)
version_spelled told word rest m is h =
    let v = some_of_map (λ (v : ℕ × ℕ). told v.0 v.1) (version_of rest) m h in
    let parts = version_parts rest v.0 v.1 in
    (v.0, v.2, parts.0, parts.1, parts.2, with_word word (codes "VERSION") rest _ is parts.3, parts.4, parts.5)

pub version_from : (a b : Bytes) (rest : List Bytes) (major minor : ℕ) → number a ≡ Some major → number b ≡ Some minor
    → version_of (a ∷ b ∷ rest) ≡ Some (major, minor)
version_from a b rest major minor first second = rw (first, second)

pub one_number_parts : (fields : List Bytes) (n : ℕ) → one_number fields ≡ Some n → (a : Bytes) × (fields ≡ a ∷ []) × (number a ≡ Some n)
one_number_parts [] n h = cc
one_number_parts (a ∷ []) n h = (a, refl, h)
one_number_parts (a ∷ b ∷ rest) n h = cc

-- ---- parameters

parameter_first : (p : Bytes) (ps : List Bytes) (found params : Pairs) (resp : Option Bytes) → IsParameter p
    → AreParameters (with_field (text_key p) (text_value p) found) ps params resp → AreParameters found (p ∷ ps) params resp
parameter_first p ps found params None is more = ((is, more.0), more.1)
parameter_first p ps found params (Some text) is more = (p ∷ more.0, more.1, ap (λ l. p ∷ l) more.2, (is, more.3), more.4)

parameter_or_resp : (p : Bytes) (ps : List Bytes) (found params : Pairs) (resp text : Option Bytes) → after_front (codes "resp=") p ≡ text
    → (parameters_of ps (with_field (text_key p) (text_value p) found) ≡ Some (params, resp)
    → AreParameters (with_field (text_key p) (text_value p) found) ps params resp)
    → option_or_else text (cond (is_empty (text_key p)) None (parameters_of ps (with_field (text_key p) (text_value p) found))) (λ t. Some (found, Some t))
    ≡ Some (params, resp)
    → AreParameters found (p ∷ ps) params resp
parameter_or_resp p ps found params resp (Some text) front more h =
    let parts = some_pair_parts found params (Some text) resp h in
    subst (AreParameters found (p ∷ ps) params) parts.1
    ([], ps, ap (λ q. q ∷ ps) (after_front_some (codes "resp=") p text front), tt, parts.0)
parameter_or_resp p ps found params resp None front more h =
    elim (cases_Bool (is_empty (text_key p))) [
      | inl e ↦ let never : ◌≡◌ {A = Option (Pairs × Option Bytes)} None (Some (params, resp)) = rw e at h in cc
      | inr e ↦ parameter_first p ps found params resp (front, e) (more (rw e at h))
    ]

pub parameters_parts : (fields : List Bytes) (found params : Pairs) (resp : Option Bytes) → parameters_of fields found ≡ Some (params, resp)
    → AreParameters found fields params resp
parameters_parts [] found params resp h =
    let parts = some_pair_parts found params None resp h in subst (AreParameters found [] params) parts.1 (tt, parts.0)
parameters_parts (p ∷ ps) found params resp h =
    parameter_or_resp p ps found params resp (after_front (codes "resp=") p) refl
    (parameters_parts ps (with_field (text_key p) (text_value p) found) params resp) h

parameters_from_all : (fields : List Bytes) (found : Pairs) → AllByRecursion IsParameter fields → parameters_of fields found ≡ Some (parameter_pairs found fields, None)
parameters_from_all [] found all = refl
parameters_from_all (p ∷ ps) found all =
    rw (all.0.0, all.0.1) (parameters_from_all ps (with_field (text_key p) (text_value p) found) all.1)

parameters_from_resp : (before : List Bytes) (text : Bytes) (after : List Bytes) (found : Pairs) → AllByRecursion IsParameter before
    → parameters_of (before ++ (codes "resp=" ++ text) ∷ after) found ≡ Some (parameter_pairs found before, Some text)
parameters_from_resp [] text after found all = refl
parameters_from_resp (p ∷ ps) text after found all =
    rw (all.0.0, all.0.1) (parameters_from_resp ps text after (with_field (text_key p) (text_value p) found) all.1)

pub parameters_from : (fields : List Bytes) (found params : Pairs) (resp : Option Bytes) → AreParameters found fields params resp
    → parameters_of fields found ≡ Some (params, resp)
parameters_from fields found params None are = parameters_from_all fields found are.0 ∙ ap (λ ps. Some (ps, None)) are.1
parameters_from fields found params (Some text) are =
    ap (λ fs. parameters_of fs found) are.2 ∙ parameters_from_resp are.0 text are.1 found are.3 ∙ ap (λ ps. Some (ps, Some text)) are.4
