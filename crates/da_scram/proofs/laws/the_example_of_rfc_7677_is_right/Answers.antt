use Rattle.std.proofs.Common.{refl}
use Rattle.std.specs.Fmt.{digits}
use Rattle.base64.proofs.OnLiterals.{base64_on_literals}
use Rattle.sha2.specs.Sha256.{sha256, first_words, schedule, rounds, compress, hash_after, digest_bytes}
use Rattle.da_schemes.specs.Hmac.{hmac_sha256}
use Rattle.da_schemes.specs.Stored.{stored_password}
use Rattle.da_scram.specs.Reading.{first_message, final_message, scram_says}
use Rattle.da_scram.proofs.laws.the_example_of_rfc_7677_is_right.Goals as goal

pub returns-clause-needed : goal.returns-clause-needed
unfolding scram_says first_message
returns-clause-needed c = refl

pub returns-clause-challenged : goal.returns-clause-challenged
unfolding scram_says first_message stored_password base64_on_literals digits
returns-clause-challenged c = refl

pub returns-clause-right : goal.returns-clause-right
unfolding scram_says first_message final_message stored_password base64_on_literals digits hmac_sha256 sha256 first_words schedule rounds compress hash_after digest_bytes
returns-clause-right c = refl
