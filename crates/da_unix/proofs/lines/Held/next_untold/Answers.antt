use Rattle.std.specs.Io.KnownBytes.{prepend_known}
use Rattle.da_unix.proofs.LinkLemmas.{untold}
use Rattle.da_unix.proofs.lines.Held.next_untold.Goals as goal

pub returns : goal.returns
returns g c =
    untold (prepend_known c.args.self.now.bytes.items (g.R.Read.remaining c.args.from.now))
    (prepend_known c.next_line.new.self.bytes.items (g.R.Read.remaining c.next_line.new.from)) c.next_line.result c.next_line.ensures
