use Rattle.std.proofs.Common.{Some, None, cond, sym, ap, ◌∙◌}
use Rattle.da_worker.proofs.PieceLemmas.{user_line_found, user_line_passed, user_line_last}
use Rattle.da_worker.proofs.passwd.user_line.Goals as goal

pub returns-then-is_line_of : goal.returns-then-is_line_of
returns-then-is_line_of c =
    sym (user_line_found c.args.user.now c.lines.rest.now c.in-Some.line.now c.in-Some.more.now c.in-Some.ensures.split (sym c.is_line_of.ensures ∙ c.if-is_line_of.true))
    ∙ c.lines.invariant

pub lines-preserved : goal.lines-preserved
lines-preserved c =
    sym (user_line_passed c.args.user.now c.lines.rest.now c.in-Some.line.now c.in-Some.more.now c.in-Some.ensures.split (sym c.is_line_of.ensures ∙ c.if-is_line_of.false))
    ∙ c.lines.invariant

pub returns-then-is_line_of-2 : goal.returns-then-is_line_of-2
returns-then-is_line_of-2 c =
    sym (user_line_last c.args.user.now c.lines.rest.now c.in_default.ensures.split
    ∙ ap (λ b. cond b (Some c.lines.rest.now) None) (sym c.is_line_of-2.ensures ∙ c.if-is_line_of-2.true))
    ∙ c.lines.invariant

pub returns-else-is_line_of-2 : goal.returns-else-is_line_of-2
returns-else-is_line_of-2 c =
    sym (user_line_last c.args.user.now c.lines.rest.now c.in_default.ensures.split
    ∙ ap (λ b. cond b (Some c.lines.rest.now) None) (sym c.is_line_of-2.ensures ∙ c.if-is_line_of-2.false))
    ∙ c.lines.invariant
