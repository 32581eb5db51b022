use Rattle.std.proofs.Common.{rules}
use Rattle.da_workers.proofs.Talks.{asks_line}
use Rattle.da_workers.proofs.asking.ask.Goals as goal

pub returns-in-Ok : goal.returns-in-Ok
returns-in-Ok g c =
    asks_line c.args.query.now (g.L.Link.state c.args.link.now) (g.L.Link.state c.send.new.self) (g.L.Link.state c.receive.new.self) c.in_ok-line.line.items
    (search rules) c.in-Ok.line.items (search rules) c.read_answer.result (search rules)
