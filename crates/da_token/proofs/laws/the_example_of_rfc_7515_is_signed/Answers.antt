use Rattle.std.proofs.Common.{refl}
use Rattle.base64.proofs.OnLiterals.{base64_on_literals}
use Rattle.sha2.specs.Sha256.{sha256, first_words, schedule, rounds, compress, hash_after, digest_bytes}
use Rattle.da_schemes.specs.Hmac.{hmac_sha256}
use Rattle.da_token.proofs.laws.the_example_of_rfc_7515_is_signed.Goals as goal

pub returns : goal.returns
unfolding base64_on_literals hmac_sha256 sha256 first_words schedule rounds compress hash_after digest_bytes
returns c = refl
