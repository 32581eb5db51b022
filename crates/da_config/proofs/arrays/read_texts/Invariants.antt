use Rattle.std.proofs.Common.{◌≡◌, drop}
use Rattle.toml.specs.View.{items_view}
use Rattle.da_config.specs.Parts.{texts_in}
use Rattle.da_config.proofs.Prepending.{prepended}
use Rattle.da_config.proofs.arrays.read_texts.Given as goal

abbrev pub invariant-loop-value : goal.invariant-loop-value
invariant-loop-value l = prepended l.texts.items (texts_in (items_view (drop l.value-index l.array))) ≡ texts_in (items_view l.array)
