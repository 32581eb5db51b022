use Rattle.std.proofs.Common.{◌≡◌, ◌+◌, ◌≤◌, length, map}
use Rattle.da_tabline.specs.Lines.{line_cut, with_lines}
use Rattle.da_tabline.proofs.cutter.cut_bytes.Given as goal

abbrev pub invariant-loop-line : goal.invariant-loop-line
invariant-loop-line l = record {
  cut : line_cut l.max l.bytes ≡ with_lines (map (λ line. line.items) l.lines.items) (line_cut l.max l.left);
  few : length l.lines.items + length l.left ≤ length l.bytes;
}

abbrev pub decreases-loop-line : goal.decreases-loop-line
decreases-loop-line l = length l.left
