use Rattle.da_tabline.proofs.StreamLemmas.{all_uses}
use Rattle.da_tabline.proofs.laws.any_cuts_give_the_same_lines.Goals as goal

pub returns : goal.returns
returns c = all_uses
