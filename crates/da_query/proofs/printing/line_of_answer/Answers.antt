use Rattle.std.proofs.Common.{◌≡◌, List, ◌∷◌, [], ◌++◌, map, sym, ap, ◌∙◌}
use Rattle.std.specs.Prelude.{codes, decimal}
use Rattle.da_base.specs.Words.{Bytes}
use Rattle.da_fields.specs.FieldList.{field_text}
use Rattle.da_tabline.specs.Escapes.{spelled}
use Rattle.da_tabline.specs.Spelling.{more_fields}
use Rattle.da_tabline.proofs.SpellingLemmas.{spelled_more}
use Rattle.da_query.specs.AnswerLines.{answer_line}
use Rattle.da_query.proofs.printing.line_of_answer.Goals as goal

-- a line that goes on
next : (first : Bytes) (fields more : List Bytes) (old new : Bytes) → old ≡ spelled (first ∷ fields) → new ≡ old ++ more_fields more
    → new ≡ spelled (first ∷ (fields ++ more))
next first fields more old new begun goes_on = goes_on ∙ ap (λ l. l ++ more_fields more) begun ∙ spelled_more first fields more

pub returns-in_ok-push_fields-in-Found-clause-line : goal.returns-in_ok-push_fields-in-Found-clause-line
unfolding answer_line
returns-in_ok-push_fields-in-Found-clause-line c =
    let n = decimal c.args.number in
    let fields = map field_text c.in-Found.fields in
    let one =
    next (codes "FOUND") (n ∷ []) (c.bytes.result.now ∷ []) _ _ (c.in_ok-line-in-Found.ensures {u = tt}) (c.in_ok-push_field-in-Found.ensures {u = tt}) in
    next (codes "FOUND") (n ∷ c.bytes.result.now ∷ []) fields _ _ one (c.in_ok-push_fields-in-Found.ensures.line)
    ∙ ap (λ stored. spelled (codes "FOUND" ∷ n ∷ stored ∷ fields)) c.bytes.ensures
    ∙ ap (answer_line c.args.number) (sym c.in-Found.is)

pub returns-in_ok-push_fields-in-Passed-clause-line : goal.returns-in_ok-push_fields-in-Passed-clause-line
unfolding answer_line
returns-in_ok-push_fields-in-Passed-clause-line c =
    next (codes "PASSED") (decimal c.args.number ∷ []) (map field_text c.in-Passed.fields) _ _ (c.in_ok-line-in-Passed.ensures {u = tt})
    (c.in_ok-push_fields-in-Passed.ensures.line)
    ∙ ap (answer_line c.args.number) (sym c.in-Passed.is)
