use Rattle.da_tabline.proofs.SpellingLemmas.{spelled_more}
use Rattle.da_tabline.proofs.spelling.a_line_goes_on.Goals as goal

pub returns : goal.returns
returns c = spelled_more
