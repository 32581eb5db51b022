use Rattle.std.proofs.Common.{◌≡◌, ℕ, ◌<◌, ◌^◌, true, false, Some, Result, Ok, Err, Vec, Global}
use Rattle.std.specs.Prelude.{IfOk, OnOk}
use Rattle.da_fields.specs.Answers.{fits}
use Rattle.da_fields.specs.declared.answer.Answer.{Answer}
use Rattle.da_fields.specs.declared.answer.Query.{Query}
use Rattle.da_query.specs.AnswerLines.{answer_line, answer_to, script_answer}
use Rattle.da_query.specs.AnswerSpelling.{HasPlainKeys, IsHeld, is_internal, is_late}
use Rattle.da_query.proofs.PrintedAgain.{answered_again, script_answered_again}
use Rattle.da_query.proofs.printing.print_answer.Goals as goal

printed : {E : Type 0} (r : Result (Vec ℕ Global) E) (n : ℕ) (answer : Answer) → n < 2 ^ 32 → IfOk r (λ line. line.items ≡ answer_line n answer)
    → OnOk r (IsHeld answer)
    → IfOk r (λ line. HasPlainKeys answer → is_internal answer ≡ false → (query : Query) → query.number ≡ n → fits query.kind answer ≡ true
    → answer_to query line.items ≡ answer)
printed (Ok line) n answer small is held = λ plain outer query its fit. answered_again line.items n answer query is small held plain outer its fit
printed (Err fault) n answer small is held = tt

printed_in_script : {E : Type 0} (r : Result (Vec ℕ Global) E) (n : ℕ) (answer : Answer) → n < 2 ^ 32
    → IfOk r (λ line. line.items ≡ answer_line n answer) → OnOk r (IsHeld answer)
    → IfOk r (λ line. HasPlainKeys answer → is_late answer ≡ false → script_answer line.items ≡ Some (n, answer))
printed_in_script (Ok line) n answer small is held = λ plain early. script_answered_again line.items n answer is small held plain early
printed_in_script (Err fault) n answer small is held = tt

pub returns-clause-again : goal.returns-clause-again
returns-clause-again c =
    printed c.line_of_answer.result c.args.number c.args.answer.now c.ranges.number.fits c.line_of_answer.ensures.line c.line_of_answer.ensures.held

pub returns-clause-by_script : goal.returns-clause-by_script
returns-clause-by_script c =
    printed_in_script c.line_of_answer.result c.args.number c.args.answer.now c.ranges.number.fits c.line_of_answer.ensures.line c.line_of_answer.ensures.held
