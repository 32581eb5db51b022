use Rattle.std.proofs.Common.{◌≡◌, Bool, true, false, not, Option, Some, None, Bor, refl, sym, ap, ◌∙◌}
use Rattle.std.specs.Prelude.{is_some, option_copied}
use Rattle.da_base.specs.Words.{Bytes, is_empty}
use Rattle.da_query.specs.FieldsLeft.{fields_left}
use Rattle.da_query.proofs.LeftLemmas.{is_empty-line_fields}
use Rattle.da_query.proofs.left.FieldsLeft.is_at_end.Goals as goal

no_rest : (left : Option (Bor Bytes)) (none : Bool) → is_some left ≡ not none → none ≡ is_empty (fields_left (option_copied left))
no_rest None true e = refl
no_rest None false e = cc
no_rest (Some rest) true e = cc
no_rest (Some rest) false e = sym (is_empty-line_fields rest.now)

pub returns : goal.returns
returns c = no_rest c.self.inside.rest c.is_none.result c.is_none.ensures ∙ ap is_empty c.self.view_is
