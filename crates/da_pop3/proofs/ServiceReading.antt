-- What is read in a line of the auth service is what the line spells.
use Rattle.std.proofs.Common.{◌≡◌, ℕ, Bool, true, false, ◌&&◌, ◌||◌, List, [], ◌∷◌, Option, Some, None, cond, refl, ap, ◌∙◌, inl, inr}
use Rattle.std.specs.Prelude.{bytes_eq, codes, is_some}
use Rattle.std.proofs.lemmas.Bool.{cases_Bool, and_parts}
use Rattle.da_base.specs.Words.{Bytes, number}
use Rattle.da_tabline.specs.Escapes.{line_fields}
use Rattle.da_fields.specs.FieldList.{Pairs, field}
use Rattle.da_msgs.proofs.FieldSpelling.{word_is, some_of_map}
use Rattle.da_pop3.specs.ServiceLines.{is_version, opening_of, pairs_of, failure_in, challenge_of, success_of, refusal_of, reply_of, found_of, missing_of, lookup_of}
use Rattle.da_pop3.specs.SessionLaws.{SpellsOk, SpellsUser}
use Rattle.da_pop3.specs.declared.service.Opening.TheVariants.{Other}
use Rattle.da_pop3.specs.declared.service.Reply.{Reply}
use Rattle.da_pop3.specs.declared.service.Reply.TheVariants.{Challenge, Success, Refusal}
use Rattle.da_pop3.specs.declared.service.Lookup.TheVariants.{Found, Missing}

-- ---- on opening

-- a version tells no cookie, and ends nothing
pub version_is_other : (fields : List Bytes) → is_version fields ≡ true → opening_of fields ≡ Other
version_is_other [] h = cc
version_is_other (word ∷ []) h = cc
version_is_other (word ∷ major ∷ []) h = cc
version_is_other (word ∷ major ∷ minor ∷ []) h =
    let tests = and_parts (bytes_eq word (codes "VERSION") && bytes_eq major (codes "1")) (is_some (number minor)) h in
    let words = and_parts (bytes_eq word (codes "VERSION")) (bytes_eq major (codes "1")) tests.0 in
    ap (λ w. opening_of (w ∷ major ∷ minor ∷ [])) (word_is word (codes "VERSION") words.0)
version_is_other (word ∷ major ∷ minor ∷ more ∷ rest) h = cc

-- ---- OK

success_case : (rest : List Bytes) (id : ℕ) (last : Option Bytes) → success_of rest ≡ Some (Success id last)
    → (numeral : Bytes) × (more : List Bytes) × (rest ≡ numeral ∷ more) × (number numeral ≡ Some id)
success_case [] id last h = cc
success_case (numeral ∷ more) id last h =
    let n = some_of_map (λ (n : ℕ). Success n (field (codes "resp") (pairs_of more))) (number numeral) (Success id last) h in
    let same : n.0 ≡ id = cc n.2 in
    (numeral, more, refl, n.1 ∙ ap (λ k. Some k) same)

challenge_never : (rest : List Bytes) (id : ℕ) (last : Option Bytes) → challenge_of rest ≡ Some (Success id last) → ⊥
challenge_never [] id last h = cc
challenge_never (a ∷ []) id last h = cc
challenge_never (a ∷ text ∷ []) id last h =
    let n = some_of_map (λ (n : ℕ). Challenge n text) (number a) (Success id last) h in cc n.2
challenge_never (a ∷ text ∷ more ∷ rest) id last h = cc

refusal_never : (rest : List Bytes) (id : ℕ) (last : Option Bytes) → refusal_of rest ≡ Some (Success id last) → ⊥
refusal_never [] id last h = cc
refusal_never (a ∷ rest) id last h =
    let n = some_of_map (λ (n : ℕ). Refusal n (failure_in (pairs_of rest))) (number a) (Success id last) h in cc n.2

success_parts : (fields : List Bytes) (id : ℕ) (last : Option Bytes) → reply_of fields ≡ Some (Success id last)
    → (numeral : Bytes) × (more : List Bytes) × (fields ≡ codes "OK" ∷ numeral ∷ more) × (number numeral ≡ Some id)
success_parts [] id last h = cc
success_parts (word ∷ rest) id last h =
    elim (cases_Bool (bytes_eq word (codes "CONT"))) [
      | inl e ↦ absurd (challenge_never rest id last (rw e at h))
      | inr no_cont ↦
          elim (cases_Bool (bytes_eq word (codes "OK"))) [
            | inl e ↦
                let parts = success_case rest id last (rw (no_cont, e) at h) in
                (parts.0, parts.1, ap (λ w. w ∷ rest) (word_is word (codes "OK") e) ∙ ap (λ l. codes "OK" ∷ l) parts.2, parts.3)
            | inr no_ok ↦
                elim (cases_Bool (bytes_eq word (codes "FAIL"))) [
                  | inl e ↦ absurd (refusal_never rest id last (rw (no_cont, no_ok, e) at h))
                  | inr no_fail ↦ let never : ◌≡◌ {A = Option Reply} None (Some (Success id last)) = rw (no_cont, no_ok, no_fail) at h in cc
                ]
          ]
    ]

pub success-spells : (line : Bytes) (id : ℕ) (last : Option Bytes) → reply_of (line_fields line) ≡ Some (Success id last) → SpellsOk line id
success-spells line id last h =
    let parts = success_parts (line_fields line) id last h in
    record { numeral = parts.0; more = parts.1; words = parts.2; number_is = parts.3 }

-- ---- USER

found_case : (rest : List Bytes) (id : ℕ) (user : Bytes) (fields : Pairs) → found_of rest ≡ Some (Found id user fields)
    → (numeral : Bytes) × (more : List Bytes) × (rest ≡ numeral ∷ user ∷ more) × (number numeral ≡ Some id) × (pairs_of more ≡ fields)
found_case [] id user fields h = cc
found_case (a ∷ []) id user fields h = cc
found_case (numeral ∷ name ∷ more) id user fields h =
    let n = some_of_map (λ (n : ℕ). Found n name (pairs_of more)) (number numeral) (Found id user fields) h in
    let same : n.0 ≡ id = cc n.2 in
    let named : name ≡ user = cc n.2 in
    let paired : pairs_of more ≡ fields = cc n.2 in
    (numeral, more, ap (λ u. numeral ∷ u ∷ more) named, n.1 ∙ ap (λ k. Some k) same, paired)

missing_never : (rest : List Bytes) (id : ℕ) (user : Bytes) (fields : Pairs) → missing_of rest ≡ Some (Found id user fields) → ⊥
missing_never [] id user fields h = cc
missing_never (a ∷ rest) id user fields h =
    let n = some_of_map (λ (n : ℕ). Missing n) (number a) (Found id user fields) h in cc n.2

missing_or_none_never : (b : Bool) (rest : List Bytes) (id : ℕ) (user : Bytes) (fields : Pairs) → cond b (missing_of rest) None ≡ Some (Found id user fields) → ⊥
missing_or_none_never true rest id user fields h = missing_never rest id user fields h
missing_or_none_never false rest id user fields h = cc

found_parts : (words : List Bytes) (id : ℕ) (user : Bytes) (fields : Pairs) → lookup_of words ≡ Some (Found id user fields)
    → (numeral : Bytes) × (more : List Bytes) × (words ≡ codes "USER" ∷ numeral ∷ user ∷ more) × (number numeral ≡ Some id) × (pairs_of more ≡ fields)
found_parts [] id user fields h = cc
found_parts (word ∷ rest) id user fields h =
    elim (cases_Bool (bytes_eq word (codes "USER"))) [
      | inl e ↦
          let parts = found_case rest id user fields (rw e at h) in
          (parts.0, parts.1, ap (λ w. w ∷ rest) (word_is word (codes "USER") e) ∙ ap (λ l. codes "USER" ∷ l) parts.2, parts.3, parts.4)
      | inr no_user ↦
          absurd (missing_or_none_never (bytes_eq word (codes "NOTFOUND") || bytes_eq word (codes "FAIL")) rest id user fields (rw no_user at h))
    ]

pub found-spells : (line : Bytes) (id : ℕ) (user : Bytes) (fields : Pairs) → lookup_of (line_fields line) ≡ Some (Found id user fields)
    → SpellsUser line id user fields
found-spells line id user fields h =
    let parts = found_parts (line_fields line) id user fields h in
    record { numeral = parts.0; more = parts.1; words = parts.2; number_is = parts.3; pairs = parts.4 }
