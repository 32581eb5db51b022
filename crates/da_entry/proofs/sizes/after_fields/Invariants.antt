use Rattle.std.proofs.Common.{◌≡◌, ◌-◌, take}
use Rattle.da_play.specs.Legal.{pairs_size}
use Rattle.da_entry.proofs.sizes.after_fields.Given as goal

abbrev pub invariant-loop-pair : goal.invariant-loop-pair
invariant-loop-pair l = l.rest ≡ l.left - pairs_size (take l.pair-index l.fields)
