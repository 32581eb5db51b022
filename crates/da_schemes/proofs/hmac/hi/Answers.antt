use Rattle.std.proofs.Common.{◌≡◌, ◌-◌, arith}
use Rattle.da_schemes.specs.Hmac.{round_digest, rounds_digest, hmac_sha256, hi}
use Rattle.da_schemes.proofs.Rounds.{round_digest-more, rounds_digest-more}
use Rattle.da_schemes.proofs.hmac.hi.Goals as goal

pub rounds-init : goal.rounds-init
unfolding round_digest rounds_digest hmac_sha256
rounds-init c =
    let first = c.digest-digest.ensures _ c.new-keyed.ensures in
    record { held = c.new-keyed.ensures; last = first; all = first }

pub rounds-preserved : goal.rounds-preserved
rounds-preserved c =
    let so_far = c.rounds.invariant in
    let last = round_digest-more _ _ _ _ _ so_far.last (c.digest-digest-in-rounds.ensures _ so_far.held) in
    record { held = so_far.held; last = last; all = rounds_digest-more _ _ _ _ _ _ so_far.all last c.xor_into.ensures }

pub returns : goal.returns
unfolding hi
returns c =
    let end : c.rounds.round ≡ c.args.rounds - 1 = omega arith in
    rw end at c.rounds.invariant.all
