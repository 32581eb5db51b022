use Rattle.std.proofs.Common.{◌≡◌, map}
use Rattle.da_tabline.proofs.pieces.fields.Given as goal

abbrev pub invariant-loop-piece : goal.invariant-loop-piece
invariant-loop-piece l = map (λ f. f.items) l.fields.items ≡ map (λ p. p.now) l.yielded
