use Rattle.std.proofs.Common.{◌+◌, drop, drop-drop, sym}
use Rattle.da_outside.proofs.Lines.{long_taken}
use Rattle.da_outside.proofs.rest.Rest.take_line.Goals as goal

pub returns-in-Long-clause-takes : goal.returns-in-Long-clause-takes
returns-in-Long-clause-takes c =
    rw (← c.self.view_is)
    (long_taken (drop c.self.inside.at c.self.inside.bytes.items) (drop (c.self.inside.at + 8193) c.self.inside.bytes.items)
    (rw (c.in-Long.is, ← c.self.view_is) at c.requires) (sym (drop-drop 8193 c.self.inside.at c.self.inside.bytes.items)))
