-- How many items an array has.
use Rattle.std.proofs.Common.{◌≡◌, List, [], ◌∷◌, length, ap, refl, suc}
use Rattle.toml.specs.View.{items_view}
use Rattle.toml.specs.declared.value.Value.{Value}
use Rattle.da_config.specs.Parts.{count}

pub count-items_view : (values : List Value) → count (items_view values) ≡ length values
count-items_view [] = refl
count-items_view (v ∷ values) = ap suc (count-items_view values)
