use Rattle.da_schemes.proofs.MadeTexts.{IsMade-made}
use Rattle.da_schemes.proofs.laws.a_made_password_is_read_and_matches.Goals as goal

pub returns : goal.returns
returns c = IsMade-made
