use Rattle.std.proofs.Common.{◌≡◌, ◌++◌, drop}
use Rattle.da_tabline.specs.Escapes.{escape}
use Rattle.da_tabline.proofs.escapes.push_escaped.Given as goal

abbrev pub invariant-loop-byte : goal.invariant-loop-byte
invariant-loop-byte l = l.line.items ++ escape (drop l.byte-index l.text) ≡ l.fn.line.items ++ escape l.text
