-- Lemmas on lines of fields.
use Rattle.std.proofs.Common.{◌≡◌, ℕ, false, List, [], ◌∷◌, ◌++◌, map, eqb, refl, sym, ap, ◌∙◌, inl, inr, append-nil, append_assoc}
use Rattle.std.specs.List.{All, AllByRecursion}
use Rattle.std.proofs.lemmas.Bool.{cases_eq, ne_eqb}
use Rattle.std.proofs.lemmas.Grind.{flat_map-append}
use Rattle.std.proofs.lemmas.List.Elements.{All-nil, All-cons, All-append, All-weaker, All-from_recursion}
use Rattle.std.proofs.lemmas.List.Splits.{slice_split_none, slice_split_at}
use Rattle.da_base.specs.Words.{Bytes, pieces}
use Rattle.da_tabline.specs.Escapes.{escape, escaped_byte, unescape, line_fields, spelled}
use Rattle.da_tabline.specs.Parts.{Lacks}
use Rattle.da_tabline.proofs.EscapeLemmas.{unescape-escape}
use Rattle.da_tabline.specs.Spelling.{more_fields}

pub spelled-cons : (first : Bytes) (fields : List Bytes) → spelled (first ∷ fields) ≡ escape first ++ more_fields fields
spelled-cons first [] = sym (append-nil (escape first))
spelled-cons first (field ∷ fields) = ap (λ l. escape first ++ (9 ∷ l)) (spelled-cons field fields)

pub more_fields-append : (fields more : List Bytes) → more_fields (fields ++ more) ≡ more_fields fields ++ more_fields more
more_fields-append fields more = flat_map-append (λ field. 9 ∷ escape field) fields more

pub spelled_more : (first : Bytes) (fields more : List Bytes) → spelled (first ∷ fields) ++ more_fields more ≡ spelled (first ∷ (fields ++ more))
spelled_more first fields more =
    ap (λ l. l ++ more_fields more) (spelled-cons first fields) ∙ append_assoc (escape first) (more_fields fields) (more_fields more)
    ∙ ap (λ l. escape first ++ l) (sym (more_fields-append fields more)) ∙ sym (spelled-cons first (fields ++ more))

-- ---- what is written is read

-- neither TAB nor LF
abbrev StaysInField : ℕ → Type 0
StaysInField c = (eqb c 9 ≡ false) × (eqb c 10 ≡ false)

escaped_byte_stays : (c : ℕ) → AllByRecursion StaysInField (escaped_byte c)
escaped_byte_stays c =
    elim (cases_eq c 0) [
      | inl e ↦ rw e ((refl, refl), ((refl, refl), tt))
      | inr not_0 ↦
          elim (cases_eq c 1) [
            | inl e ↦ rw e ((refl, refl), ((refl, refl), tt))
            | inr not_1 ↦
                elim (cases_eq c 9) [
                  | inl e ↦ rw e ((refl, refl), ((refl, refl), tt))
                  | inr not_9 ↦
                      elim (cases_eq c 13) [
                        | inl e ↦ rw e ((refl, refl), ((refl, refl), tt))
                        | inr not_13 ↦
                            elim (cases_eq c 10) [
                              | inl e ↦ rw e ((refl, refl), ((refl, refl), tt))
                              | inr not_10 ↦
                                  rw (ne_eqb c 0 not_0, ne_eqb c 1 not_1, ne_eqb c 9 not_9, ne_eqb c 13 not_13, ne_eqb c 10 not_10)
                                  ((ne_eqb c 9 not_9, ne_eqb c 10 not_10), tt)
                            ]
                      ]
                ]
          ]
    ]

escape_stays : (text : Bytes) → All StaysInField (escape text)
escape_stays [] = All-nil StaysInField
escape_stays (c ∷ cs) = All-append StaysInField (escaped_byte c) (escape cs) (All-from_recursion StaysInField (escaped_byte c) (escaped_byte_stays c)) (escape_stays cs)

escape-Lacks_tab : (text : Bytes) → Lacks 9 (escape text)
escape-Lacks_tab text = All-weaker StaysInField (λ c. eqb c 9 ≡ false) (λ c s. s.0) (escape text) (escape_stays text)

escape-Lacks_end : (text : Bytes) → Lacks 10 (escape text)
escape-Lacks_end text = All-weaker StaysInField (λ c. eqb c 10 ≡ false) (λ c s. s.1) (escape text) (escape_stays text)

pieces-spelled : (first : Bytes) (fields : List Bytes) → pieces 9 (spelled (first ∷ fields)) ≡ map escape (first ∷ fields)
pieces-spelled first [] = slice_split_none (λ c. eqb c 9) (escape first) (escape-Lacks_tab first)
pieces-spelled first (field ∷ fields) =
    slice_split_at (λ c. eqb c 9) (escape first) 9 (spelled (field ∷ fields)) (escape-Lacks_tab first) refl
    ∙ ap (λ l. escape first ∷ l) (pieces-spelled field fields)

unescape_all : (fields : List Bytes) → map unescape (map escape fields) ≡ fields
unescape_all [] = refl
unescape_all (field ∷ fields) = ap (λ f. f ∷ map unescape (map escape fields)) (unescape-escape field) ∙ ap (λ l. field ∷ l) (unescape_all fields)

pub line_fields-spelled : (first : Bytes) (fields : List Bytes) → line_fields (spelled (first ∷ fields)) ≡ first ∷ fields
line_fields-spelled first fields = ap (map unescape) (pieces-spelled first fields) ∙ unescape_all (first ∷ fields)

pub spelled-Lacks_end : (fields : List Bytes) → Lacks 10 (spelled fields)
spelled-Lacks_end [] = All-nil (λ c. eqb c 10 ≡ false)
spelled-Lacks_end (first ∷ []) = escape-Lacks_end first
spelled-Lacks_end (first ∷ field ∷ fields) =
    All-append (λ c. eqb c 10 ≡ false) (escape first) (9 ∷ spelled (field ∷ fields)) (escape-Lacks_end first)
    (All-cons (λ c. eqb c 10 ≡ false) 9 (spelled (field ∷ fields)) refl (spelled-Lacks_end (field ∷ fields)))
