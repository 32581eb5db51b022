use Rattle.std.proofs.Common.{rules, ◌≡◌, ◌∙◌, is_none}
use Rattle.da_port.proofs.Answered.{is_open_after}
use Rattle.da_port.proofs.port.Port.line_quietly.Goals as goal

pub returns-clause-open : goal.returns-clause-open
returns-clause-open g c =
    let unclosed : c.is_none.result ≡ is_none c.in_ok-out.out.closed = search rules in
    unclosed ∙ is_open_after c.args.self.now.fixed c.args.seat.now c.enter.new.seat c.args.moment c.args.conn c.args.text c.args.random c.in_ok-out.out c.in_ok-out.ensures.ok
