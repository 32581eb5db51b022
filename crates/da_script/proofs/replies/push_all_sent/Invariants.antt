use Rattle.std.proofs.Common.{◌≡◌, ◌++◌, take}
use Rattle.std.specs.List.{flat_map}
use Rattle.da_script.specs.Replies.{sent_text}
use Rattle.da_script.proofs.replies.push_all_sent.Given as goal

abbrev pub invariant-loop-line : goal.invariant-loop-line
invariant-loop-line l = l.text.items ≡ l.fn.text.items ++ flat_map (sent_text l.number) (take l.line-index l.lines)
