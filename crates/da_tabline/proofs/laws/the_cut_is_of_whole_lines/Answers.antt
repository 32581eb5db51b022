use Rattle.da_tabline.proofs.StreamLemmas.{line_cut-right}
use Rattle.da_tabline.proofs.laws.the_cut_is_of_whole_lines.Goals as goal

pub returns : goal.returns
returns c = line_cut-right
