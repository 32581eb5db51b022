use Rattle.da_tabline.proofs.NumberLemmas.{decimal_from_number_of}
use Rattle.da_tabline.proofs.numbers.number_is_decimal.Goals as goal

pub returns : goal.returns
returns c = decimal_from_number_of
