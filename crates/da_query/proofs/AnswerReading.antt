-- A line is read as an answer exactly where it spells it.
use Rattle.std.proofs.Common.{◌≡◌, ℕ, ◌≤◌, true, List, [], ◌∷◌, length, Option, Some, None, refl, sym, ap, ◌∙◌, subst, inl, inr, arith}
use Rattle.std.specs.Prelude.{bytes_eq, codes, option_map, ◌==◌}
use Rattle.std.proofs.lemmas.Bool.{cases_Bool, and_parts, and_from, eqb-true, eq-eqb}
use Rattle.std.proofs.lemmas.Option.{same_Some, some_pair_parts}
use Rattle.std.proofs.lemmas.Slice.Eq.{bytes_eq-Decides}
use Rattle.da_base.specs.Words.{Bytes, number}
use Rattle.da_tabline.specs.Escapes.{line_fields}
use Rattle.da_fields.specs.FieldList.{Pairs}
use Rattle.da_fields.specs.Answers.{fits}
use Rattle.da_fields.specs.declared.answer.Answer.{Answer}
use Rattle.da_fields.specs.declared.answer.Answer.TheVariants.{Found, Passed, Mismatch, Unknown, Internal}
use Rattle.da_fields.specs.declared.answer.Query.{Query}
use Rattle.da_fields.specs.declared.answer.Why.{Why}
use Rattle.da_fields.specs.declared.answer.Why.TheVariants.{Died, Malformed, Said, Late, Exit}
use Rattle.da_query.specs.declared.speaker.Speaker.{Speaker}
use Rattle.da_query.specs.declared.speaker.Speaker.TheVariants.{Worker, Script}
use Rattle.da_query.specs.AnswerLines.{Numbered, numbered, fields_of, found_of, passed_of, alone, said_of, exit_of, internal_of, plain_answer, answer_said, answer_by, worker_answer, script_answer, answers_query, answer_or_malformed, answer_to}
use Rattle.da_query.specs.AnswerSpelling.{SpellsWhy, FieldsSpell, SpellsAnswer, SpellsScriptAnswer, IsAnswerTo}
use Rattle.da_query.proofs.FieldTexts.{fields_parts, fields_from}

word_is : (word other : Bytes) → bytes_eq word other ≡ true → word ≡ other
word_is word other = (bytes_eq-Decides word other).0

some_of_map : {A B : Type 0} (f : A → B) (o : Option A) (y : B) → option_map f o ≡ Some y → (x : A) × (o ≡ Some x) × (f x ≡ y)
some_of_map f None y h = cc
some_of_map f (Some x) y h = (x, refl, same_Some (f x) y h)

alone_parts : (answer other : Answer) (rest : List Bytes) → alone answer rest ≡ Some other → (rest ≡ []) × (answer ≡ other)
alone_parts answer other [] h = (refl, same_Some answer other h)
alone_parts answer other (field ∷ rest) h = cc

-- ---- the answers that workers and scripts both give

found_parts : (speaker : Speaker) (word a : Bytes) (rest : List Bytes) (n : ℕ) (answer : Answer) → word ≡ codes "FOUND" → number a ≡ Some n
    → found_of rest ≡ Some answer → FieldsSpell speaker (word ∷ a ∷ rest) n answer
found_parts speaker word a [] n answer is a_is h = cc
found_parts speaker word a (stored ∷ texts) n answer is a_is h =
    let parts = some_of_map (λ (fields : Pairs). Found stored fields) (fields_of texts) answer h in
    subst (FieldsSpell speaker (word ∷ a ∷ stored ∷ texts) n) parts.2
    (a, texts, ap (λ w. w ∷ a ∷ stored ∷ texts) is, a_is, fields_parts texts parts.0 parts.1)

passed_parts : (speaker : Speaker) (word a : Bytes) (texts : List Bytes) (n : ℕ) (answer : Answer) → word ≡ codes "PASSED" → number a ≡ Some n
    → passed_of texts ≡ Some answer → FieldsSpell speaker (word ∷ a ∷ texts) n answer
passed_parts speaker word a texts n answer is a_is h =
    let parts = some_of_map (λ (fields : Pairs). Passed fields) (fields_of texts) answer h in
    subst (FieldsSpell speaker (word ∷ a ∷ texts) n) parts.2
    (a, texts, ap (λ w. w ∷ a ∷ texts) is, a_is, fields_parts texts parts.0 parts.1)

mismatch_parts : (speaker : Speaker) (word a : Bytes) (rest : List Bytes) (n : ℕ) (answer : Answer) → word ≡ codes "MISMATCH" → number a ≡ Some n
    → alone Mismatch rest ≡ Some answer → FieldsSpell speaker (word ∷ a ∷ rest) n answer
mismatch_parts speaker word a rest n answer is a_is h =
    let parts = alone_parts Mismatch answer rest h in
    subst (FieldsSpell speaker (word ∷ a ∷ rest) n) parts.1 (a, ap (λ w. w ∷ a ∷ rest) is ∙ ap (λ l. codes "MISMATCH" ∷ a ∷ l) parts.0, a_is)

unknown_parts : (speaker : Speaker) (word a : Bytes) (rest : List Bytes) (n : ℕ) (answer : Answer) → word ≡ codes "UNKNOWN" → number a ≡ Some n
    → alone Unknown rest ≡ Some answer → FieldsSpell speaker (word ∷ a ∷ rest) n answer
unknown_parts speaker word a rest n answer is a_is h =
    let parts = alone_parts Unknown answer rest h in
    subst (FieldsSpell speaker (word ∷ a ∷ rest) n) parts.1 (a, ap (λ w. w ∷ a ∷ rest) is ∙ ap (λ l. codes "UNKNOWN" ∷ a ∷ l) parts.0, a_is)

plain_parts : (speaker : Speaker) (word a : Bytes) (rest : List Bytes) (n : ℕ) (answer : Answer) → number a ≡ Some n → plain_answer word rest ≡ Some answer
    → FieldsSpell speaker (word ∷ a ∷ rest) n answer
plain_parts speaker word a rest n answer a_is h =
    elim (cases_Bool (bytes_eq word (codes "FOUND"))) [
      | inl e ↦ found_parts speaker word a rest n answer (word_is word _ e) a_is (rw e at h)
      | inr no_found ↦
          elim (cases_Bool (bytes_eq word (codes "PASSED"))) [
            | inl e ↦ passed_parts speaker word a rest n answer (word_is word _ e) a_is (rw (no_found, e) at h)
            | inr no_passed ↦
                elim (cases_Bool (bytes_eq word (codes "MISMATCH"))) [
                  | inl e ↦ mismatch_parts speaker word a rest n answer (word_is word _ e) a_is (rw (no_found, no_passed, e) at h)
                  | inr no_mismatch ↦
                      elim (cases_Bool (bytes_eq word (codes "UNKNOWN"))) [
                        | inl e ↦ unknown_parts speaker word a rest n answer (word_is word _ e) a_is (rw (no_found, no_passed, no_mismatch, e) at h)
                        | inr no_unknown ↦ let never : ◌≡◌ {A = Option Answer} None (Some answer) = rw (no_found, no_passed, no_mismatch, no_unknown) at h in cc
                      ]
                ]
          ]
    ]

-- ---- what a worker alone says

said_parts : (word a : Bytes) (rest : List Bytes) (n : ℕ) (answer : Answer) → word ≡ codes "FAIL" → number a ≡ Some n → said_of rest ≡ Some answer
    → FieldsSpell Worker (word ∷ a ∷ rest) n answer
said_parts word a [] n answer is a_is h =
    subst (FieldsSpell Worker (word ∷ a ∷ []) n) (same_Some (Internal Said) answer h) (a, [], ap (λ w. w ∷ a ∷ []) is, a_is, omega arith)
said_parts word a (reason ∷ []) n answer is a_is h =
    subst (FieldsSpell Worker (word ∷ a ∷ reason ∷ []) n) (same_Some (Internal Said) answer h)
    (a, reason ∷ [], ap (λ w. w ∷ a ∷ reason ∷ []) is, a_is, omega arith)
said_parts word a (reason ∷ more ∷ rest) n answer is a_is h = cc

-- ---- what a script alone says

why_parts : (word a text : Bytes) (rest : List Bytes) (n : ℕ) (answer : Answer) (why : Why) (spelling : Bytes) → word ≡ codes "INTERNAL" → text ≡ spelling
    → alone (Internal why) rest ≡ Some answer
    → ((word ∷ a ∷ text ∷ rest ≡ codes "INTERNAL" ∷ a ∷ spelling ∷ []) → FieldsSpell Script (word ∷ a ∷ text ∷ rest) n (Internal why))
    → FieldsSpell Script (word ∷ a ∷ text ∷ rest) n answer
why_parts word a text rest n answer why spelling is text_is h make =
    let parts = alone_parts (Internal why) answer rest h in
    subst (FieldsSpell Script (word ∷ a ∷ text ∷ rest) n) parts.1
    (make (ap (λ w. w ∷ a ∷ text ∷ rest) is ∙ ap (λ t. codes "INTERNAL" ∷ a ∷ t ∷ rest) text_is ∙ ap (λ l. codes "INTERNAL" ∷ a ∷ spelling ∷ l) parts.0))

exit_parts : (word a text : Bytes) (rest : List Bytes) (n : ℕ) (answer : Answer) → word ≡ codes "INTERNAL" → text ≡ codes "exit" → number a ≡ Some n
    → exit_of rest ≡ Some answer → FieldsSpell Script (word ∷ a ∷ text ∷ rest) n answer
exit_parts word a text [] n answer is text_is a_is h = cc
exit_parts word a text (b ∷ []) n answer is text_is a_is h =
    let parts = some_of_map (λ (status : ℕ). Internal (Exit status)) (number b) answer h in
    subst (FieldsSpell Script (word ∷ a ∷ text ∷ b ∷ []) n) parts.2
    (a, b, ap (λ w. w ∷ a ∷ text ∷ b ∷ []) is ∙ ap (λ t. codes "INTERNAL" ∷ a ∷ t ∷ b ∷ []) text_is, a_is, parts.1)
exit_parts word a text (b ∷ more ∷ rest) n answer is text_is a_is h = cc

internal_parts : (word a : Bytes) (rest : List Bytes) (n : ℕ) (answer : Answer) → word ≡ codes "INTERNAL" → number a ≡ Some n → internal_of rest ≡ Some answer
    → FieldsSpell Script (word ∷ a ∷ rest) n answer
internal_parts word a [] n answer is a_is h = cc
internal_parts word a (text ∷ rest) n answer is a_is h =
    elim (cases_Bool (bytes_eq text (codes "died"))) [
      | inl e ↦ why_parts word a text rest n answer Died (codes "died") is (word_is text _ e) (rw e at h) (λ fields. (a, fields, a_is))
      | inr no_died ↦
          elim (cases_Bool (bytes_eq text (codes "malformed"))) [
            | inl e ↦ why_parts word a text rest n answer Malformed (codes "malformed") is (word_is text _ e) (rw (no_died, e) at h) (λ fields. (a, fields, a_is))
            | inr no_malformed ↦
                elim (cases_Bool (bytes_eq text (codes "said"))) [
                  | inl e ↦ why_parts word a text rest n answer Said (codes "said") is (word_is text _ e) (rw (no_died, no_malformed, e) at h) (λ fields. (a, fields, a_is))
                  | inr no_said ↦
                      elim (cases_Bool (bytes_eq text (codes "exit"))) [
                        | inl e ↦ exit_parts word a text rest n answer is (word_is text _ e) a_is (rw (no_died, no_malformed, no_said, e) at h)
                        | inr no_exit ↦ let never : ◌≡◌ {A = Option Answer} None (Some answer) = rw (no_died, no_malformed, no_said, no_exit) at h in cc
                      ]
                ]
          ]
    ]

-- ---- whole lines

said_by_parts : (speaker : Speaker) (word a : Bytes) (rest : List Bytes) (n : ℕ) (answer : Answer) → number a ≡ Some n
    → answer_said speaker word rest ≡ Some answer → FieldsSpell speaker (word ∷ a ∷ rest) n answer
said_by_parts Worker word a rest n answer a_is h =
    elim (cases_Bool (bytes_eq word (codes "FAIL"))) [
      | inl e ↦ said_parts word a rest n answer (word_is word _ e) a_is (rw e at h)
      | inr other ↦ plain_parts Worker word a rest n answer a_is (rw other at h)
    ]
said_by_parts Script word a rest n answer a_is h =
    elim (cases_Bool (bytes_eq word (codes "INTERNAL"))) [
      | inl e ↦ internal_parts word a rest n answer (word_is word _ e) a_is (rw e at h)
      | inr other ↦ plain_parts Script word a rest n answer a_is (rw other at h)
    ]

numbered_parts : (n : Option ℕ) (answer : Option Answer) (p : Numbered) → numbered n answer ≡ Some p → (n ≡ Some p.0) × (answer ≡ Some p.1)
numbered_parts (Some n) (Some answer) p h = let e = same_Some (n, answer) p h in (ap (λ q. Some q.0) e, ap (λ q. Some q.1) e)
numbered_parts None answer p h = cc
numbered_parts (Some n) None p h = cc

pub answer_by-spells : (speaker : Speaker) (fields : List Bytes) (p : Numbered) → answer_by speaker fields ≡ Some p → FieldsSpell speaker fields p.0 p.1
answer_by-spells speaker [] p h = cc
answer_by-spells speaker (word ∷ []) p h = cc
answer_by-spells speaker (word ∷ a ∷ rest) p h =
    let parts = numbered_parts (number a) (answer_said speaker word rest) p h in
    said_by_parts speaker word a rest p.0 p.1 parts.0 parts.1

reason_said : (reason : List Bytes) → length reason ≤ 1 → said_of reason ≡ Some (Internal Said)
reason_said [] few = refl
reason_said (text ∷ []) few = refl
reason_said (text ∷ more ∷ rest) few = absurd (omega (arith, few))

why_from : (speaker : Speaker) (fields : List Bytes) (n : ℕ) (why : Why) → SpellsWhy speaker fields n why → answer_by speaker fields ≡ Some (n, Internal why)
why_from Worker fields n Said s = ap (answer_by Worker) s.2 ∙ rw (s.3, reason_said s.1 s.4) refl
why_from Worker fields n Died s = absurd s
why_from Worker fields n Malformed s = absurd s
why_from Worker fields n Late s = absurd s
why_from Worker fields n (Exit status) s = absurd s
why_from Script fields n Died s = ap (answer_by Script) s.1 ∙ rw s.2 refl
why_from Script fields n Malformed s = ap (answer_by Script) s.1 ∙ rw s.2 refl
why_from Script fields n Said s = ap (answer_by Script) s.1 ∙ rw s.2 refl
why_from Script fields n Late s = absurd s
why_from Script fields n (Exit status) s = ap (answer_by Script) s.2 ∙ rw (s.3, s.4) refl

pub answer_by-from : (speaker : Speaker) (fields : List Bytes) (n : ℕ) (answer : Answer) → FieldsSpell speaker fields n answer
    → answer_by speaker fields ≡ Some (n, answer)
answer_by-from Worker fields n (Found stored found) s = ap (answer_by Worker) s.2 ∙ rw (s.3, fields_from s.1 found s.4) refl
answer_by-from Script fields n (Found stored found) s = ap (answer_by Script) s.2 ∙ rw (s.3, fields_from s.1 found s.4) refl
answer_by-from Worker fields n (Passed found) s = ap (answer_by Worker) s.2 ∙ rw (s.3, fields_from s.1 found s.4) refl
answer_by-from Script fields n (Passed found) s = ap (answer_by Script) s.2 ∙ rw (s.3, fields_from s.1 found s.4) refl
answer_by-from Worker fields n Mismatch s = ap (answer_by Worker) s.1 ∙ rw s.2 refl
answer_by-from Script fields n Mismatch s = ap (answer_by Script) s.1 ∙ rw s.2 refl
answer_by-from Worker fields n Unknown s = ap (answer_by Worker) s.1 ∙ rw s.2 refl
answer_by-from Script fields n Unknown s = ap (answer_by Script) s.1 ∙ rw s.2 refl
answer_by-from speaker fields n (Internal why) s = why_from speaker fields n why s

pub script_answer-spells : (line : Bytes) (n : ℕ) (answer : Answer) → script_answer line ≡ Some (n, answer) → SpellsScriptAnswer line n answer
unfolding script_answer
script_answer-spells line n answer h = answer_by-spells Script (line_fields line) (n, answer) h

pub script_answer-from : (line : Bytes) (n : ℕ) (answer : Answer) → SpellsScriptAnswer line n answer → script_answer line ≡ Some (n, answer)
unfolding script_answer
script_answer-from line n answer s = answer_by-from Script (line_fields line) n answer s

pub one_answer : (speaker : Speaker) (fields : List Bytes) (n m : ℕ) (answer other : Answer) → FieldsSpell speaker fields n answer → FieldsSpell speaker fields m other
    → (n ≡ m) × (answer ≡ other)
one_answer speaker fields n m answer other s t =
    some_pair_parts n m answer other (sym (answer_by-from speaker fields n answer s) ∙ answer_by-from speaker fields m other t)

-- ---- answers to a query

fits_query : (query : Query) (answer : Answer) → fits query.kind answer ≡ true → answers_query query (query.number, answer) ≡ true
fits_query query answer fit = and_from (query.number == query.number) (fits query.kind answer) (eq-eqb query.number query.number refl) fit

pub answer_to-answers : (query : Query) (line : Bytes) (answer : Answer) → IsAnswerTo query line answer → answer_to query line ≡ answer
unfolding answer_to
answer_to-answers query line answer is =
    ap (answer_or_malformed query) (answer_by-from Worker (line_fields line) query.number answer is.0) ∙ rw (fits_query query answer is.1) refl

malformed_by : (query : Query) (line : Bytes) (said : Option Numbered) → worker_answer line ≡ said → ((answer : Answer) → IsAnswerTo query line answer → ⊥)
    → answer_or_malformed query said ≡ Internal Malformed
malformed_by query line None is none = refl
malformed_by query line (Some p) is none =
    elim (cases_Bool (answers_query query p)) [
      | inl e ↦
          let parts = and_parts (p.0 == query.number) (fits query.kind p.1) e in
          let spelled = answer_by-spells Worker (line_fields line) p is in
          absurd (none p.1 (subst (λ n. SpellsAnswer line n p.1) (eqb-true p.0 query.number parts.0) spelled, parts.1))
      | inr e ↦ rw e refl
    ]

pub answer_to-malformed : (query : Query) (line : Bytes) → ((answer : Answer) → IsAnswerTo query line answer → ⊥) → answer_to query line ≡ Internal Malformed
unfolding answer_to
answer_to-malformed query line none = malformed_by query line (worker_answer line) refl none

pub malformed-none : (query : Query) (line : Bytes) → answer_to query line ≡ Internal Malformed → (answer : Answer) → IsAnswerTo query line answer → ⊥
malformed-none query line malformed answer is =
    subst (SpellsAnswer line query.number) (sym (answer_to-answers query line answer is) ∙ malformed) is.0
