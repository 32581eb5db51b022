use Rattle.std.proofs.Common.{refl}
use Rattle.md5.specs.Md5.{md5, block_words, rounds, compress, hash_after, digest_bytes}
use Rattle.da_schemes.specs.Hmac.{hmac_md5}
use Rattle.da_cram.specs.Cram.{cram_says}
use Rattle.da_cram.proofs.laws.the_example_of_rfc_2195_is_right.Goals as goal

pub returns-clause-needed : goal.returns-clause-needed
unfolding cram_says
returns-clause-needed c = refl

pub returns-clause-right : goal.returns-clause-right
unfolding cram_says hmac_md5 md5 block_words rounds compress hash_after digest_bytes
returns-clause-right c = refl

pub returns-clause-capitals : goal.returns-clause-capitals
unfolding cram_says
returns-clause-capitals c = refl
