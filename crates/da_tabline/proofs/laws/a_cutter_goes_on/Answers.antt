use Rattle.da_tabline.proofs.StreamLemmas.{cutter_after_none, cutter_after_feed, cutter_after_take}
use Rattle.da_tabline.proofs.laws.a_cutter_goes_on.Goals as goal

pub returns-clause-begins : goal.returns-clause-begins
returns-clause-begins c = cutter_after_none

pub returns-clause-is_fed : goal.returns-clause-is_fed
returns-clause-is_fed c = λ max n bytes more taken. cutter_after_feed max bytes more n taken

pub returns-clause-is_taken_from : goal.returns-clause-is_taken_from
returns-clause-is_taken_from c = λ max n bytes. cutter_after_take max bytes n
