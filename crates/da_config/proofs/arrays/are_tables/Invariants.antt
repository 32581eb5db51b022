use Rattle.std.proofs.Common.{◌≡◌, drop}
use Rattle.toml.specs.View.{items_view}
use Rattle.da_config.specs.Parts.{are_tables}
use Rattle.da_config.proofs.arrays.are_tables.Given as goal

abbrev pub invariant-loop-value : goal.invariant-loop-value
invariant-loop-value l = are_tables (items_view (drop l.value-index l.array)) ≡ are_tables (items_view l.array)
