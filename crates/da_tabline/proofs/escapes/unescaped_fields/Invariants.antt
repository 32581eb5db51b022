use Rattle.std.proofs.Common.{◌≡◌, map, take}
use Rattle.da_tabline.specs.Escapes.{unescape}
use Rattle.da_tabline.proofs.escapes.unescaped_fields.Given as goal

abbrev pub invariant-loop-piece : goal.invariant-loop-piece
invariant-loop-piece l = map (λ f. f.items) l.texts.items ≡ map unescape (map (λ f. f.items) (take l.piece-index l.piece-items))
