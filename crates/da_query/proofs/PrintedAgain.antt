-- A printed answer is read again.
use Rattle.std.proofs.Common.{◌≡◌, ℕ, ◌<◌, ◌^◌, true, false, List, [], ◌∷◌, ◌++◌, map, Some, eqb, refl, sym, ap, ◌∙◌, subst, inl, inr}
use Rattle.std.specs.Prelude.{codes, decimal}
use Rattle.std.specs.List.{AllByRecursion}
use Rattle.std.proofs.lemmas.Bool.{cases_Bool}
use Rattle.std.proofs.lemmas.List.Elements.{All-nil, All-cons}
use Rattle.da_base.specs.Words.{Bytes, before_byte, is_empty, option_or_else}
use Rattle.da_tabline.specs.Escapes.{line_fields}
use Rattle.da_tabline.specs.Parts.{Lacks}
use Rattle.da_tabline.proofs.PartLemmas.{before_byte-Lacks, after_byte-Lacks, before_byte_at, after_byte_at}
use Rattle.da_tabline.proofs.SpellingLemmas.{line_fields-spelled, spelled-Lacks_end}
use Rattle.da_fields.specs.FieldList.{Pairs, field_text, text_value, AreDistinct}
use Rattle.da_fields.specs.Answers.{fits}
use Rattle.da_fields.specs.declared.answer.Answer.{Answer}
use Rattle.da_fields.specs.declared.answer.Answer.TheVariants.{Found, Passed, Mismatch, Unknown, Internal}
use Rattle.da_fields.specs.declared.answer.Query.{Query}
use Rattle.da_fields.specs.declared.answer.Why.TheVariants.{Died, Malformed, Said, Late, Exit}
use Rattle.da_query.specs.declared.speaker.Speaker.{Speaker}
use Rattle.da_query.specs.declared.speaker.Speaker.TheVariants.{Worker, Script}
use Rattle.da_query.specs.AnswerLines.{answer_words, answer_line, answer_to, script_answer, why_words}
use Rattle.da_query.specs.AnswerSpelling.{AreFields, FieldsSpell, SpellsAnswer, SpellsScriptAnswer, ArePlain, HasPlainKeys, IsHeld, is_internal, is_late}
use Rattle.da_query.proofs.FieldTexts.{text_pair}
use Rattle.da_query.proofs.AnswerReading.{answer_to-answers, script_answer-from, script_answer-spells}
use Rattle.da_query.proofs.QueryReading.{number_again}

-- ---- fields

empty_text : (text : Bytes) → is_empty text ≡ true → text ≡ []
empty_text [] h = refl
empty_text (c ∷ cs) h = cc

text_pair-field_text : (p : Bytes × Bytes) → Lacks 61 p.0 → text_pair (field_text p) ≡ p
text_pair-field_text p plain =
    elim (cases_Bool (is_empty p.1)) [
      | inl e ↦
          let text : field_text p ≡ p.0 = rw e refl in
          ap text_pair text
          ∙ ap (λ k. (k, text_value p.0)) (before_byte-Lacks 61 p.0 plain)
          ∙ ap (λ v. (p.0, option_or_else v [] (λ value. value))) (after_byte-Lacks 61 p.0 plain)
          ∙ ap (λ v. (p.0, v)) (sym (empty_text p.1 e))
      | inr e ↦
          let text : field_text p ≡ p.0 ++ 61 ∷ p.1 = rw e refl in
          ap text_pair text
          ∙ ap (λ k. (k, text_value (p.0 ++ 61 ∷ p.1))) (before_byte_at 61 p.0 p.1 plain)
          ∙ ap (λ v. (p.0, option_or_else v [] (λ value. value))) (after_byte_at 61 p.0 p.1 plain)
    ]

pairs_again : (fields : Pairs) → ArePlain fields → map text_pair (map field_text fields) ≡ fields
pairs_again [] plain = refl
pairs_again (p ∷ fields) plain =
    ap (λ q. q ∷ map text_pair (map field_text fields)) (text_pair-field_text p plain.0.1) ∙ ap (λ l. p ∷ l) (pairs_again fields plain.1)

keyed_again : (fields : Pairs) → ArePlain fields → AllByRecursion (λ p. is_empty p.0 ≡ false) fields
keyed_again [] plain = tt
keyed_again (p ∷ fields) plain = (plain.0.0, keyed_again fields plain.1)

fields_again : (fields : Pairs) → ArePlain fields → AreDistinct fields → AreFields (map field_text fields) fields
fields_again fields plain distinct = record { pairs = pairs_again fields plain; keyed = keyed_again fields plain; distinct = distinct }

-- ---- answers

-- an answer that isn't Internal, by whoever says it
plain_again : (speaker : Speaker) (n : ℕ) (answer : Answer) → n < 2 ^ 32 → HasPlainKeys answer → IsHeld answer → is_internal answer ≡ false
    → FieldsSpell speaker (answer_words n answer) n answer
plain_again speaker n (Found stored fields) small plain held outer =
    (decimal n, map field_text fields, refl, number_again n small, fields_again fields plain held.0)
plain_again speaker n (Passed fields) small plain held outer =
    (decimal n, map field_text fields, refl, number_again n small, fields_again fields plain held.0)
plain_again speaker n Mismatch small plain held outer = (decimal n, refl, number_again n small)
plain_again speaker n Unknown small plain held outer = (decimal n, refl, number_again n small)
plain_again speaker n (Internal why) small plain held outer = cc

-- an answer that isn't Internal(Late), by a script
script_again : (n : ℕ) (answer : Answer) → n < 2 ^ 32 → HasPlainKeys answer → IsHeld answer → is_late answer ≡ false
    → FieldsSpell Script (answer_words n answer) n answer
script_again n (Found stored fields) small plain held early = plain_again Script n (Found stored fields) small plain held refl
script_again n (Passed fields) small plain held early = plain_again Script n (Passed fields) small plain held refl
script_again n Mismatch small plain held early = plain_again Script n Mismatch small plain held refl
script_again n Unknown small plain held early = plain_again Script n Unknown small plain held refl
script_again n (Internal Died) small plain held early = (decimal n, refl, number_again n small)
script_again n (Internal Malformed) small plain held early = (decimal n, refl, number_again n small)
script_again n (Internal Said) small plain held early = (decimal n, refl, number_again n small)
script_again n (Internal Late) small plain held early = cc
script_again n (Internal (Exit status)) small plain held early = (decimal n, decimal status, refl, number_again n small, number_again status held.1)

words_of_line : (n : ℕ) (answer : Answer) → line_fields (answer_line n answer) ≡ answer_words n answer
unfolding answer_line
words_of_line n (Found stored fields) = line_fields-spelled (codes "FOUND") (decimal n ∷ stored ∷ map field_text fields)
words_of_line n (Passed fields) = line_fields-spelled (codes "PASSED") (decimal n ∷ map field_text fields)
words_of_line n Mismatch = line_fields-spelled (codes "MISMATCH") (decimal n ∷ [])
words_of_line n Unknown = line_fields-spelled (codes "UNKNOWN") (decimal n ∷ [])
words_of_line n (Internal why) = line_fields-spelled (codes "INTERNAL") (decimal n ∷ why_words why)

pub answer_line-spells : (n : ℕ) (answer : Answer) → n < 2 ^ 32 → HasPlainKeys answer → IsHeld answer → is_internal answer ≡ false
    → SpellsAnswer (answer_line n answer) n answer
answer_line-spells n answer small plain held outer =
    subst (λ fields. FieldsSpell Worker fields n answer) (sym (words_of_line n answer)) (plain_again Worker n answer small plain held outer)

pub answer_line-spells_script : (n : ℕ) (answer : Answer) → n < 2 ^ 32 → HasPlainKeys answer → IsHeld answer → is_late answer ≡ false
    → SpellsScriptAnswer (answer_line n answer) n answer
answer_line-spells_script n answer small plain held early =
    subst (λ fields. FieldsSpell Script fields n answer) (sym (words_of_line n answer)) (script_again n answer small plain held early)

-- ---- of a line that is the printed answer

pub answered_again : (line : Bytes) (n : ℕ) (answer : Answer) (query : Query) → line ≡ answer_line n answer → n < 2 ^ 32 → IsHeld answer → HasPlainKeys answer
    → is_internal answer ≡ false → query.number ≡ n → fits query.kind answer ≡ true → answer_to query line ≡ answer
answered_again line n answer query is small held plain outer its fit =
    answer_to-answers query line answer
    (subst (λ m. SpellsAnswer line m answer) (sym its) (subst (λ l. SpellsAnswer l n answer) (sym is) (answer_line-spells n answer small plain held outer)), fit)

pub script_answered_again : (line : Bytes) (n : ℕ) (answer : Answer) → line ≡ answer_line n answer → n < 2 ^ 32 → IsHeld answer → HasPlainKeys answer
    → is_late answer ≡ false → script_answer line ≡ Some (n, answer)
script_answered_again line n answer is small held plain early =
    script_answer-from line n answer (subst (λ l. SpellsScriptAnswer l n answer) (sym is) (answer_line-spells_script n answer small plain held early))

-- ---- what a line spells

before_byte-lacks : (byte : ℕ) (text : Bytes) → Lacks byte (before_byte byte text)
before_byte-lacks byte [] = All-nil (λ c. eqb c byte ≡ false)
before_byte-lacks byte (c ∷ cs) =
    elim (cases_Bool (eqb c byte)) [
      | inl e ↦ rw e (All-nil (λ x. eqb x byte ≡ false))
      | inr e ↦ rw e (All-cons (λ x. eqb x byte ≡ false) c (before_byte byte cs) e (before_byte-lacks byte cs))
    ]

-- the key of a text has no equals sign
texts_are_plain : (texts : List Bytes) → AllByRecursion (λ p. is_empty p.0 ≡ false) (map text_pair texts) → ArePlain (map text_pair texts)
texts_are_plain [] keyed = tt
texts_are_plain (text ∷ texts) keyed = ((keyed.0, before_byte-lacks 61 text), texts_are_plain texts keyed.1)

spelled_plain : (texts : List Bytes) (fields : Pairs) → AreFields texts fields → ArePlain fields
spelled_plain texts fields are =
    subst ArePlain are.pairs (texts_are_plain texts (subst (AllByRecursion (λ p. is_empty p.0 ≡ false)) (sym are.pairs) are.keyed))

spelled_by_script : (fields : List Bytes) (n : ℕ) (answer : Answer) → FieldsSpell Script fields n answer → HasPlainKeys answer × (is_late answer ≡ false)
spelled_by_script fields n (Found stored found) s = (spelled_plain s.1 found s.4, refl)
spelled_by_script fields n (Passed found) s = (spelled_plain s.1 found s.4, refl)
spelled_by_script fields n Mismatch s = (tt, refl)
spelled_by_script fields n Unknown s = (tt, refl)
spelled_by_script fields n (Internal Died) s = (tt, refl)
spelled_by_script fields n (Internal Malformed) s = (tt, refl)
spelled_by_script fields n (Internal Said) s = (tt, refl)
spelled_by_script fields n (Internal Late) s = absurd s
spelled_by_script fields n (Internal (Exit status)) s = (tt, refl)

-- an answer that a script's line spells has plain keys, and isn't late
pub script_answer-plain : (line : Bytes) (n : ℕ) (answer : Answer) → script_answer line ≡ Some (n, answer) → HasPlainKeys answer × (is_late answer ≡ false)
script_answer-plain line n answer h = spelled_by_script (line_fields line) n answer (script_answer-spells line n answer h)

-- the line of an answer is one line
pub answer_line-Lacks_end : (n : ℕ) (answer : Answer) → Lacks 10 (answer_line n answer)
unfolding answer_line
answer_line-Lacks_end n answer = spelled-Lacks_end (answer_words n answer)
