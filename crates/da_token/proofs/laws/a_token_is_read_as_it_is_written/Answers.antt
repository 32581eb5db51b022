use Rattle.da_token.proofs.TokenReading.{token_read-is, token_read_from}
use Rattle.da_token.proofs.laws.a_token_is_read_as_it_is_written.Goals as goal

pub returns-clause-read : goal.returns-clause-read
returns-clause-read c = token_read-is

pub returns-clause-written : goal.returns-clause-written
returns-clause-written c = token_read_from
