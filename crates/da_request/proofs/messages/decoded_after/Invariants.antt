use Rattle.std.proofs.Common.{◌≡◌, ◌++◌, drop, option_map}
use Rattle.da_request.specs.Attempts.{decoded}
use Rattle.da_request.proofs.messages.decoded_after.Given as goal

abbrev pub invariant-loop-text : goal.invariant-loop-text
invariant-loop-text l = option_map (λ rest. l.messages.items ++ rest) (decoded (drop l.text-index l.texts)) ≡ option_map (λ rest. l.fn.messages.items ++ rest) (decoded l.texts)
