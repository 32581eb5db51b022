use Rattle.da_tabline.proofs.SpellingLemmas.{line_fields-spelled, spelled-Lacks_end}
use Rattle.da_tabline.proofs.spelling.a_written_line_is_read.Goals as goal

pub returns-clause-fields : goal.returns-clause-fields
returns-clause-fields c = line_fields-spelled

pub returns-clause-one_line : goal.returns-clause-one_line
returns-clause-one_line c = spelled-Lacks_end
