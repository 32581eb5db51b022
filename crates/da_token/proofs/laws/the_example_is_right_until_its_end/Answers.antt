use Rattle.std.proofs.Common.{[], refl}
use Rattle.std.specs.Str.{is_utf8, chars}
use Rattle.std.specs.Char.{encode_utf8}
use Rattle.base64.proofs.OnLiterals.{base64_on_literals}
use Rattle.serde_json.proofs.OnLiterals.{serde_json_on_literals}
use Rattle.sha2.specs.Sha256.{sha256, first_words, schedule, rounds, compress, hash_after, digest_bytes}
use Rattle.da_schemes.specs.Hmac.{hmac_sha256}
use Rattle.da_token.specs.Reading.{token_read}
use Rattle.da_token.specs.Example.{example_keys, example_token}
use Rattle.da_token.proofs.OneThing.{right_when, right_from}
use Rattle.da_token.proofs.laws.the_example_is_right_until_its_end.Goals as goal

pub returns-clause-before : goal.returns-clause-before
unfolding token_read is_utf8 chars encode_utf8 base64_on_literals serde_json_on_literals hmac_sha256 sha256 first_words schedule rounds compress hash_after digest_bytes
returns-clause-before c = right_when example_keys [] 1999 example_token refl

pub returns-clause-over : goal.returns-clause-over
unfolding token_read is_utf8 chars encode_utf8 base64_on_literals serde_json_on_literals hmac_sha256 sha256 first_words schedule rounds compress hash_after digest_bytes
returns-clause-over c = λ is. let right = right_from example_keys [] 2000 example_token is in cc
