use Rattle.std.proofs.Common.{◌≡◌, ◌&&◌, drop}
use Rattle.std.specs.Str.{bytes_eq}
use Rattle.da_schemes.proofs.digest.same_bytes.Given as goal

abbrev pub invariant-loop-i : goal.invariant-loop-i
invariant-loop-i l = (l.same && bytes_eq (drop l.i l.one) (drop l.i l.other)) ≡ bytes_eq l.one l.other
