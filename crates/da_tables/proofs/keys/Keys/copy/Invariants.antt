use Rattle.std.proofs.Common.{◌≡◌, take}
use Rattle.da_tables.proofs.keys.Keys.copy.Given as goal

abbrev pub invariant-loop-key : goal.invariant-loop-key
invariant-loop-key l = l.items.items ≡ take l.key-index l.key-items
