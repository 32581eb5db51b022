use Rattle.da_tabline.proofs.StreamLemmas.{one_cut}
use Rattle.da_tabline.proofs.laws.a_text_has_one_cut.Goals as goal

pub returns : goal.returns
returns c = one_cut
