use Rattle.da_pop3.proofs.PrintedLines.{okay-spelled, user-spelled}
use Rattle.da_pop3.proofs.laws.printed_lines_are_spelled.Goals as goal

pub returns-clause-okay : goal.returns-clause-okay
returns-clause-okay c = okay-spelled

pub returns-clause-user : goal.returns-clause-user
returns-clause-user c = user-spelled
