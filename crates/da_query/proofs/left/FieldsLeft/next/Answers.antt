use Rattle.std.proofs.Common.{sym, ap, ◌∙◌}
use Rattle.std.specs.Prelude.{option_copied}
use Rattle.da_query.specs.FieldsLeft.{fields_left}
use Rattle.da_query.proofs.LeftLemmas.{first_field, only_field}
use Rattle.da_query.proofs.left.FieldsLeft.next.Goals as goal

pub returns-in_ok-text-in-Some-split_at_byte : goal.returns-in_ok-text-in-Some-split_at_byte
returns-in_ok-text-in-Some-split_at_byte c =
    sym c.self.view_is ∙ ap (λ r. fields_left (option_copied r)) c.in-Some.is
    ∙ first_field _ _ _ _ c.in-Some-split_at_byte.ensures.split (c.new.ensures ∙ c.in_ok-text-in-Some-split_at_byte.ensures {u = tt})

pub returns-in_ok-text-in-None : goal.returns-in_ok-text-in-None
returns-in_ok-text-in-None c =
    sym c.self.view_is ∙ ap (λ r. fields_left (option_copied r)) c.in-Some.is
    ∙ only_field c.in-Some.rest.now _ c.in-None.ensures.split (c.new-in-None.ensures ∙ c.in_ok-text-in-None.ensures {u = tt})
