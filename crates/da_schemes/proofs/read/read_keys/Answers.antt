use Rattle.da_schemes.proofs.Pieces.{keys_in_pieces-more}
use Rattle.da_schemes.proofs.read.read_keys.Goals as goal

pub returns-in-Some-more-clause-read : goal.returns-in-Some-more-clause-read
returns-in-Some-more-clause-read c =
    let parts = c.in-Some.parts in
    rw (c.in-Some.ensures.cut, c.in-Some-more.is)
    (keys_in_pieces-more parts.first.now parts.second.now parts.third.now parts.fourth.now c.in-Some-more.field-0.now)
