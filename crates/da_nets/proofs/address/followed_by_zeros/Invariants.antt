use Rattle.std.proofs.Common.{◌≡◌, ◌*◌, ◌^◌}
use Rattle.da_nets.proofs.address.followed_by_zeros.Given as goal

abbrev pub invariant-loop-added : goal.invariant-loop-added
invariant-loop-added l = l.longer ≡ l.value * 65536 ^ l._added
