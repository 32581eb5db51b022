-- How a line of fields goes on.
use Rattle.std.specs.Prelude.{List, ◌∷◌}
use Rattle.std.specs.List.{flat_map}
use Rattle.da_base.specs.Words.{Bytes}
use Rattle.da_tabline.specs.Escapes.{escape}

-- what these fields add to a line: each stands behind a TAB
abbrev pub more_fields : List Bytes → Bytes
more_fields fields = flat_map (λ field. 9 ∷ escape field) fields
