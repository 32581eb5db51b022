use Rattle.std.proofs.Common.{◌≡◌, ◌++◌, take}
use Rattle.std.specs.List.{flat_map}
use Rattle.da_script.specs.Replies.{hit_text}
use Rattle.da_script.proofs.replies.push_hits.Given as goal

abbrev pub invariant-loop-query : goal.invariant-loop-query
invariant-loop-query l = l.text.items ≡ l.fn.text.items ++ flat_map (hit_text l.number) (take l.query-index l.queries)
