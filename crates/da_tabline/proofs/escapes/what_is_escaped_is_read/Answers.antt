use Rattle.da_tabline.proofs.EscapeLemmas.{unescape-escape}
use Rattle.da_tabline.proofs.escapes.what_is_escaped_is_read.Goals as goal

pub returns : goal.returns
returns c = unescape-escape
