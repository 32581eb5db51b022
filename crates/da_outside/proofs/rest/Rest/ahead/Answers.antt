use Rattle.da_outside.proofs.Lines.{left_slice}
use Rattle.da_outside.proofs.rest.Rest.ahead.Goals as goal

pub returns-clause-shows : goal.returns-clause-shows
returns-clause-shows c =
    rw (← c.self.view_is)
    (rw (c.deref.ensures.value, left_slice c.self.inside.bytes.items c.self.inside.at) at c.look_ahead.ensures.shows)
