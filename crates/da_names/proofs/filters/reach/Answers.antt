use Rattle.std.proofs.Common.{sym, ◌∙◌}
use Rattle.da_names.proofs.Matching.{Follows-byte, Follows-star}
use Rattle.da_names.proofs.filters.reach.Goals as goal

pub returns-then-first-eq42 : goal.returns-then-first-eq42
returns-then-first-eq42 c = Follows-star _ _ c.in-Some.first.now _ _ c.literals.rest.now c.literals.invariant c.in-Some.ensures.cases.0 c.if-first-eq42.true

pub literals-preserved : goal.literals-preserved
literals-preserved c =
    Follows-byte _ _ c.in-Some.first.now c.in-Some-split_first.byte.now _ _ c.literals.rest.now c.literals.left.now c.literals.invariant c.in-Some.ensures.cases.0 c.in-Some-split_first.ensures.cases.0 c.if-first-eq42.false (sym c.fits_byte.ensures ∙ c.if-fits_byte.true)
