use Rattle.std.proofs.Common.{refl}
use Rattle.da_token.proofs.laws.the_example_of_rfc_7628_is_a_message.Goals as goal

pub returns : goal.returns
returns c = record { spelled = refl; has_flag = refl; has_authzid = refl; has_pairs = refl; presented = refl; is_bearer = refl }
