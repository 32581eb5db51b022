use Rattle.std.proofs.Common.{◌≡◌, drop}
use Rattle.std.specs.List.{list_any}
use Rattle.da_token.specs.Token.{has_signed}
use Rattle.da_token.proofs.judging.is_signed.Given as goal

abbrev pub invariant-loop-key : goal.invariant-loop-key
invariant-loop-key l = list_any (has_signed l.token) (drop l.key-index l.keys) ≡ list_any (has_signed l.token) l.keys
