use Rattle.std.proofs.Common.{ℕ, Option, Some, None, ap, ◌∙◌}
use Rattle.da_nets.specs.Networks.{Network, network_with}
use Rattle.da_nets.proofs.Reading.{network-cut, network_with-none, network_with-some}
use Rattle.da_nets.proofs.network.Net.read.Goals as goal

pub returns-in_err-ip-in-None : goal.returns-in_err-ip-in-None
returns-in_err-ip-in-None c = rw c.from_residual.ensures (ap (λ ip. network_with ip None) c.in_err-ip-in-None.ensures ∙ network-cut c.args.text.now _ None c.in-None.ensures.parts)

pub returns-in_err-ip-in-Some : goal.returns-in_err-ip-in-Some
returns-in_err-ip-in-Some c = rw c.from_residual-in_err-ip-in-Some.ensures (ap (λ ip. network_with ip (Some c.in-Some.bits.now)) c.in_err-ip-in-Some.ensures ∙ network-cut c.args.text.now _ (Some c.in-Some.bits.now) c.in-Some.ensures.parts)

pub returns-in_err-bits-in-Some : goal.returns-in_err-bits-in-Some
returns-in_err-bits-in-Some c =
    rw c.from_residual-in_err-bits-in-Some.ensures
    (network_with-none c.in_ok-ip-in-Some.ip c.from.result c.in-Some.bits.now (c.from.ensures ∙ c.width.ensures) c.in_err-bits-in-Some.ensures.value
    ∙ ap (λ ip. network_with ip (Some c.in-Some.bits.now)) c.in_ok-ip-in-Some.ensures ∙ network-cut c.args.text.now _ (Some c.in-Some.bits.now) c.in-Some.ensures.parts)

pub returns-in_ok-ip-in-None : goal.returns-in_ok-ip-in-None
returns-in_ok-ip-in-None c =
    let with_bits : ℕ → Option Network = λ n. Some (record { ip = c.in_ok-ip-in-None.ip; bits = n }) in
    ap with_bits c.width-bits.ensures ∙ ap (λ ip. network_with ip None) c.in_ok-ip-in-None.ensures ∙ network-cut c.args.text.now _ None c.in-None.ensures.parts

pub returns-in_ok-bits-in-Some : goal.returns-in_ok-bits-in-Some
returns-in_ok-bits-in-Some c =
    network_with-some c.in_ok-ip-in-Some.ip c.from.result c.in_ok-bits-in-Some.bits c.in-Some.bits.now (c.from.ensures ∙ c.width.ensures) c.in_ok-bits-in-Some.ensures.value
    ∙ ap (λ ip. network_with ip (Some c.in-Some.bits.now)) c.in_ok-ip-in-Some.ensures ∙ network-cut c.args.text.now _ (Some c.in-Some.bits.now) c.in-Some.ensures.parts
