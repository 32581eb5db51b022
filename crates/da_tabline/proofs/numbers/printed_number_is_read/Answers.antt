use Rattle.da_tabline.proofs.NumberLemmas.{number_of_decimal}
use Rattle.da_tabline.proofs.numbers.printed_number_is_read.Goals as goal

pub returns : goal.returns
returns c = number_of_decimal
