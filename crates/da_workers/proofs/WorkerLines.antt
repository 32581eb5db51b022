-- No line of a worker says that it died.
use Rattle.std.proofs.Common.{◌≡◌, refl, sym, ◌∙◌, ap, subst, Bool, true, false, true≢false}
use Rattle.da_base.specs.Words.{Bytes}
use Rattle.da_fields.specs.declared.answer.Answer.{Answer}
use Rattle.da_fields.specs.declared.answer.Answer.TheVariants.{Found, Passed, Mismatch, Unknown, Internal}
use Rattle.da_fields.specs.declared.answer.Query.{Query}
use Rattle.da_fields.specs.declared.answer.Why.TheVariants.{Died, Malformed, Said, Late, Exit}
use Rattle.da_query.proofs.AnswerReading.{answer_to-answers, answer_to-malformed}
use Rattle.da_query.specs.AnswerLines.{answer_to}
use Rattle.da_query.specs.AnswerSpelling.{IsAnswerTo, SpellsAnswer}
use Rattle.da_workers.specs.Deaths.{is_death}

pub death_is : (answer : Answer) → is_death answer ≡ true → answer ≡ Internal Died
death_is (Internal Died) is = refl
death_is (Internal Malformed) is = absurd (true≢false (sym is))
death_is (Internal Said) is = absurd (true≢false (sym is))
death_is (Internal Late) is = absurd (true≢false (sym is))
death_is (Internal (Exit status)) is = absurd (true≢false (sym is))
death_is (Found stored fields) is = absurd (true≢false (sym is))
death_is (Passed fields) is = absurd (true≢false (sym is))
death_is Mismatch is = absurd (true≢false (sym is))
death_is Unknown is = absurd (true≢false (sym is))

pub no_line_is_a_death : (query : Query) (line : Bytes) → is_death (answer_to query line) ≡ false
no_line_is_a_death query line = go (is_death (answer_to query line)) refl
  where
    -- if it did, it would spell no answer
    spells_none : is_death (answer_to query line) ≡ true → (answer : Answer) → IsAnswerTo query line answer → ⊥
    spells_none e answer is =
        subst (λ (a : Answer). SpellsAnswer line query.number a) (sym (answer_to-answers query line answer is) ∙ death_is (answer_to query line) e) is.0

    go : (dies : Bool) → is_death (answer_to query line) ≡ dies → is_death (answer_to query line) ≡ false
    go true e = ap (λ (a : Answer). is_death a) (answer_to-malformed query line (spells_none e))
    go false e = e
