-- The items of a chain of boxes.
use Rattle.std.specs.Prelude.{List, [], ◌∷◌, ◌++◌}
use Rattle.da_outside.specs.declared.kept.Last.{Last}
use Rattle.da_outside.specs.declared.kept.Last.TheVariants.{Nothing, After}
use Rattle.da_outside.specs.declared.spawner.Spawned.{Spawned}

-- the oldest first
abbrev pub kept_items : Last → List Spawned
kept_items Nothing = []
kept_items (After before item) = before.value ++ item ∷ []
