use Rattle.da_laws.proofs.CodeLaw.{expired_is_not_granted, expired_is_not_ok}
use Rattle.da_laws.proofs.FreshLaw.{ok_is_not_expired}
use Rattle.da_laws.proofs.code_laws.expired_is_never_in.Goals as goal

pub returns-clause-fields : goal.returns-clause-fields
returns-clause-fields c = ok_is_not_expired

pub returns-clause-told : goal.returns-clause-told
returns-clause-told c = expired_is_not_ok

pub returns-clause-granted : goal.returns-clause-granted
returns-clause-granted c = expired_is_not_granted
