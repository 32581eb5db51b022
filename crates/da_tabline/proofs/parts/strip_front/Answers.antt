use Rattle.std.proofs.lemmas.Bool.Decides.{Decides-eqb}
use Rattle.std.proofs.lemmas.Slice.Eq.{strip_prefix_is}
use Rattle.da_tabline.proofs.PartLemmas.{strips_front}
use Rattle.da_tabline.proofs.parts.strip_front.Goals as goal

pub returns-clause-value : goal.returns-clause-value
returns-clause-value c = strips_front c.args.front.now c.args.text.now c.strip_prefix.result (strip_prefix_is Decides-eqb c.args.text.now c.args.front.now c.strip_prefix.result c.strip_prefix.ensures.cases)

pub returns-clause-split : goal.returns-clause-split
returns-clause-split c = strip_prefix_is Decides-eqb c.args.text.now c.args.front.now c.strip_prefix.result c.strip_prefix.ensures.cases
