use Rattle.std.proofs.Common.{◌≡◌, ◌-◌, length, sum_by, take}
use Rattle.da_entry.proofs.sizes.left_after_lines.Given as goal

abbrev pub invariant-loop-line : goal.invariant-loop-line
invariant-loop-line l = l.rest ≡ l.left - sum_by (λ s. length s.1) (take l.line-index l.lines)
