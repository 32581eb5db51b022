use Rattle.std.proofs.Common.{◌≡◌, map, take}
use Rattle.da_unix.specs.Shown.{shown_byte}
use Rattle.da_unix.proofs.printing.shown.Given as goal

abbrev pub invariant-loop-byte : goal.invariant-loop-byte
invariant-loop-byte l = l.shown.items ≡ map shown_byte (take l.byte-index l.text)
