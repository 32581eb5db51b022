use Rattle.da_schemes.proofs.Names.{scheme_named-lowered}
use Rattle.da_schemes.proofs.laws.a_name_is_read_in_any_case.Goals as goal

pub returns : goal.returns
returns c = scheme_named-lowered
