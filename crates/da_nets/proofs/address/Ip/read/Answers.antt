use Rattle.std.proofs.Common.{sym, ◌∙◌}
use Rattle.da_nets.proofs.Reading.{address-v4, address-v6}
use Rattle.da_nets.proofs.address.Ip.read.Goals as goal

pub returns-in_err-read_v6 : goal.returns-in_err-read_v6
returns-in_err-read_v6 c = rw c.from_residual.ensures (c.in_err-read_v6.ensures ∙ address-v6 c.args.text.now (sym c.contains.ensures.value ∙ c.if-contains.true))

pub returns-in_err-read_v4 : goal.returns-in_err-read_v4
returns-in_err-read_v4 c = rw c.from_residual-in_err-read_v4.ensures (c.in_err-read_v4.ensures ∙ address-v4 c.args.text.now (sym c.contains.ensures.value ∙ c.if-contains.false))

pub returns-in_ok-read_v6 : goal.returns-in_ok-read_v6
returns-in_ok-read_v6 c = c.in_ok-read_v6.ensures ∙ address-v6 c.args.text.now (sym c.contains.ensures.value ∙ c.if-contains.true)

pub returns-in_ok-read_v4 : goal.returns-in_ok-read_v4
returns-in_ok-read_v4 c = c.in_ok-read_v4.ensures ∙ address-v4 c.args.text.now (sym c.contains.ensures.value ∙ c.if-contains.false)
