-- Fields whose values are templates.
use Rattle.std.proofs.Common.{◌≡◌, true, [], ◌∷◌, inl, inr}
use Rattle.std.specs.Prelude.{bytes_eq}
use Rattle.std.specs.List.{list_all}
use Rattle.std.proofs.lemmas.Bool.{cases_Bool, and_parts}
use Rattle.da_base.specs.Words.{Bytes}
use Rattle.da_fields.specs.FieldList.{Pairs, with_field}
use Rattle.da_names.specs.Templates.{is_template_field}

-- one such field more
pub template_fields-with : (key value : Bytes) (pairs : Pairs) → list_all is_template_field pairs ≡ true → is_template_field (key, value) ≡ true
    → list_all is_template_field (with_field key value pairs) ≡ true
template_fields-with key value [] all one = rw one
template_fields-with key value (p ∷ pairs) all one =
    let (here, more) = and_parts (is_template_field p) (list_all is_template_field pairs) all in
    elim (cases_Bool (bytes_eq key p.0)) [
      | inl same ↦ rw (same, one, more)
      | inr other ↦ rw (other, here, template_fields-with key value pairs more one)
    ]
