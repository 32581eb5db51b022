-- Names are read as they are written.
use Rattle.std.proofs.Common.{◌≡◌, ℕ, Bool, true, false, ◌||◌, List, [], ◌∷◌, ◌++◌, Option, Some, None, option_map, option_and_then, eqb, codes, refl, sym, ap, ◌∙◌, inl, inr}
use Rattle.std.proofs.lemmas.Bool.{cases_Bool, eqb-true, or_parts}
use Rattle.std.proofs.lemmas.Option.{same_Some, cond_some, option_and_then_some}
use Rattle.da_base.specs.Words.{Bytes, after_front}
use Rattle.da_tabline.proofs.PartLemmas.{after_front_some}
use Rattle.da_scram.specs.declared.names.Escaping.{Escaping}
use Rattle.da_scram.specs.declared.names.Escaping.TheVariants.{Plainly, AfterEquals, AfterTwo, AfterThree}
use Rattle.da_scram.specs.declared.names.LetterRead.{LetterRead}
use Rattle.da_scram.specs.declared.names.LetterRead.TheVariants.{Nothing, Letter, Wrong}
use Rattle.da_scram.specs.Messages.{is_name, is_authzid, written, written_letter, written_authzid}
use Rattle.da_scram.specs.Reading.{next_escaping, letter_read, with_letter, letters_of, name_from, right_name, name_read, authzid_read}

-- what an escape has taken in
abbrev taken : Escaping → Bytes
taken Plainly = []
taken AfterEquals = codes "="
taken AfterTwo = codes "=2"
taken AfterThree = codes "=3"

nothing_read : (more : Option Bytes) (name : Bytes) → with_letter Nothing more ≡ Some name → more ≡ Some name
nothing_read None name h = cc
nothing_read (Some letters) name h = h

letter_more : (c : ℕ) (more : Option Bytes) (name : Bytes) → with_letter (Letter c) more ≡ Some name → (letters : Bytes) × (more ≡ Some letters) × (c ∷ letters ≡ name)
letter_more c None name h = cc
letter_more c (Some letters) name h = (letters, refl, same_Some (c ∷ letters) name h)

written-plain : (c : ℕ) → eqb c 44 ≡ false → eqb c 61 ≡ false → written_letter c ≡ c ∷ []
written-plain c one other = rw (one, other)

pub name_from-written : (escaping : Escaping) (text name : Bytes) → name_from escaping text ≡ Some name → taken escaping ++ text ≡ written name
name_from-written Plainly [] name h = ap written (same_Some [] name h)
name_from-written AfterEquals [] name h = cc
name_from-written AfterTwo [] name h = cc
name_from-written AfterThree [] name h = cc
name_from-written Plainly (c ∷ cs) name h =
    elim (cases_Bool (eqb c 61)) [
      | inl e ↦
          let more = nothing_read (name_from AfterEquals cs) name (rw e at h) in
          ap (λ x. x ∷ cs) (eqb-true c 61 e) ∙ name_from-written AfterEquals cs name more
      | inr no_equals ↦
          elim (cases_Bool (eqb c 44)) [
            | inl e ↦ let never : ◌≡◌ {A = Option Bytes} None (Some name) = rw (no_equals, e) at h in cc
            | inr no_comma ↦
                let more = letter_more c (name_from Plainly cs) name (rw (no_equals, no_comma) at h) in
                ap (λ l. c ∷ l) (name_from-written Plainly cs more.0 more.1)
                ∙ ap (λ front. front ++ written more.0) (sym (written-plain c no_comma no_equals)) ∙ ap written more.2
          ]
    ]
name_from-written AfterEquals (c ∷ cs) name h =
    elim (cases_Bool (eqb c 50)) [
      | inl e ↦
          let more = nothing_read (name_from AfterTwo cs) name (rw e at h) in
          ap (λ x. 61 ∷ x ∷ cs) (eqb-true c 50 e) ∙ name_from-written AfterTwo cs name more
      | inr no_two ↦
          elim (cases_Bool (eqb c 51)) [
            | inl e ↦
                let more = nothing_read (name_from AfterThree cs) name (rw (no_two, e) at h) in
                ap (λ x. 61 ∷ x ∷ cs) (eqb-true c 51 e) ∙ name_from-written AfterThree cs name more
            | inr e ↦ let never : ◌≡◌ {A = Option Bytes} None (Some name) = rw (no_two, e) at h in cc
          ]
    ]
name_from-written AfterTwo (c ∷ cs) name h =
    elim (cases_Bool (eqb c 67)) [
      | inl e ↦
          let more = letter_more 44 (name_from Plainly cs) name (rw e at h) in
          ap (λ x. 61 ∷ 50 ∷ x ∷ cs) (eqb-true c 67 e) ∙ ap (λ l. codes "=2C" ++ l) (name_from-written Plainly cs more.0 more.1) ∙ ap written more.2
      | inr e ↦ let never : ◌≡◌ {A = Option Bytes} None (Some name) = rw e at h in cc
    ]
name_from-written AfterThree (c ∷ cs) name h =
    elim (cases_Bool (eqb c 68)) [
      | inl e ↦
          let more = letter_more 61 (name_from Plainly cs) name (rw e at h) in
          ap (λ x. 61 ∷ 51 ∷ x ∷ cs) (eqb-true c 68 e) ∙ ap (λ l. codes "=3D" ++ l) (name_from-written Plainly cs more.0 more.1) ∙ ap written more.2
      | inr e ↦ let never : ◌≡◌ {A = Option Bytes} None (Some name) = rw e at h in cc
    ]

pub name_from_written : (name : Bytes) → name_from Plainly (written name) ≡ Some name
name_from_written [] = refl
name_from_written (c ∷ cs) =
    elim (cases_Bool (eqb c 44)) [
      | inl e ↦ rw (e, name_from_written cs) (ap (λ x. Some (x ∷ cs)) (sym (eqb-true c 44 e)))
      | inr no_comma ↦
          elim (cases_Bool (eqb c 61)) [
            | inl e ↦ rw (no_comma, e, name_from_written cs) (ap (λ x. Some (x ∷ cs)) (sym (eqb-true c 61 e)))
            | inr no_equals ↦ rw (no_comma, no_equals, no_equals, no_comma, name_from_written cs)
          ]
    ]

-- ---- names that are whole

pub name_read-some : (text name : Bytes) → name_read text ≡ Some name → (is_name name ≡ true) × (text ≡ written name)
name_read-some text name h =
    option_and_then_some right_name (name_from Plainly text) name h
    (λ read read_is more.
    let parts = cond_some (is_name read) read name more in (
      ap is_name (sym parts.1) ∙ parts.0,
      name_from-written Plainly text read read_is ∙ ap written parts.1,
    ))

pub name_read_written : (name : Bytes) → is_name name ≡ true → name_read (written name) ≡ Some name
name_read_written name h = ap (option_and_then right_name) (name_from_written name) ∙ rw h

-- ---- the authorization identity

named_authzid : (authzid : Bytes) → is_name authzid ≡ true → (is_authzid authzid ≡ true) × (codes "a=" ++ written authzid ≡ written_authzid authzid)
named_authzid [] h = cc
named_authzid (c ∷ cs) h = (h, refl)

pub authzid_some : (text authzid : Bytes) → authzid_read text ≡ Some authzid → (is_authzid authzid ≡ true) × (text ≡ written_authzid authzid)
authzid_some [] authzid h = let e = same_Some [] authzid h in (ap is_authzid (sym e), ap written_authzid e)
authzid_some (c ∷ cs) authzid h =
    option_and_then_some name_read (after_front (codes "a=") (c ∷ cs)) authzid h
    (λ name name_is more.
    let read = name_read-some name authzid more in
    let is = named_authzid authzid read.0 in
    (is.0, after_front_some (codes "a=") (c ∷ cs) name name_is ∙ ap (λ l. codes "a=" ++ l) read.1 ∙ is.1))

pub authzid_from : (authzid : Bytes) → is_authzid authzid ≡ true → authzid_read (written_authzid authzid) ≡ Some authzid
authzid_from [] h = refl
authzid_from (c ∷ cs) h = name_read_written (c ∷ cs) h
