use Rattle.std.proofs.Common.{ℕ, map, take}
use Rattle.std.proofs.lemmas.List.Elements.{All-same}
use Rattle.da_unix.specs.Shown.{IsShown, shown_byte}
use Rattle.da_unix.proofs.ShownLemmas.{all_shown}
use Rattle.da_unix.proofs.printing.shown.Goals as goal

pub returns-clause-shown : goal.returns-clause-shown
returns-clause-shown c =
    All-same {X = ℕ} IsShown c.loop-byte.shown.items (map shown_byte (take c.loop-byte.byte-index c.args.text.now)) c.loop-byte.invariant
    (all_shown (take c.loop-byte.byte-index c.args.text.now))
