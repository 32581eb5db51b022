use Rattle.std.proofs.Common.{sym, ◌∙◌}
use Rattle.da_token.proofs.PairReading.{no_end, at_end, may_not_follow, follows}
use Rattle.da_token.proofs.pairs.auth_value.Goals as goal

pub returns-then-is_empty : goal.returns-then-is_empty
returns-then-is_empty c =
    c.found_at_end.ensures ∙ sym (at_end _ c.pairs.rest.now _ _ c.in-Some.ensures.split (sym c.is_empty.ensures ∙ c.if-is_empty.true)) ∙ c.pairs.invariant

pub pairs-preserved : goal.pairs-preserved
pairs-preserved c =
    rw (c.found_with-found.ensures, c.auth_in.ensures) (sym (follows _ c.pairs.rest.now _ _ c.in-Some.ensures.split (sym c.is_empty.ensures ∙ c.if-is_empty.false)
    (sym c.may_follow.ensures ∙ c.if-not-may_follow.false)) ∙ c.pairs.invariant)

pub returns-then-not-may_follow : goal.returns-then-not-may_follow
returns-then-not-may_follow c =
    sym (may_not_follow _ c.pairs.rest.now _ _ c.in-Some.ensures.split (sym c.is_empty.ensures ∙ c.if-is_empty.false)
    (sym c.may_follow.ensures ∙ c.if-not-may_follow.true)) ∙ c.pairs.invariant

pub returns : goal.returns
returns c = sym (no_end _ c.pairs.rest.now c.in_default.ensures.split) ∙ c.pairs.invariant
