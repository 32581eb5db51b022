use Rattle.std.proofs.Common.{◌≡◌, ◌++◌, drop}
use Rattle.da_tabline.specs.Escapes.{unescaped, unescape}
use Rattle.da_tabline.proofs.escapes.unescape.Given as goal

abbrev pub invariant-loop-byte : goal.invariant-loop-byte
invariant-loop-byte l = l.text.items ++ unescaped l.is_escaped (drop l.byte-index l.field) ≡ unescape l.field
