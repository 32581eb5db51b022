use Rattle.da_unix.proofs.HeldLemmas.{not_lacking}
use Rattle.da_unix.proofs.lines.shows_line.Goals as goal

pub returns-in-Some-clause-shows : goal.returns-in-Some-clause-shows
returns-in-Some-clause-shows c = λ t lacks. absurd (not_lacking _ _ _ c.in-Some.ensures.split lacks)
