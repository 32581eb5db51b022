use Rattle.std.proofs.Common.{◌≡◌, ℕ, List}
use Rattle.sha2.specs.Sha256.{sha256}
use Rattle.da_schemes.specs.Hmac.{block_key, round_digest, rounds_digest}
use Rattle.da_schemes.specs.Keyed.{IsKeyed}
use Rattle.da_schemes.specs.declared.hmac.Keyed.{Keyed}
use Rattle.da_schemes.proofs.hmac.hi.Given as goal

-- after so many rounds more than the first
pub record Rounds (password salt : List ℕ) (keyed : Keyed) (digest sum : List ℕ) (round : ℕ) : Type 0 where
  pub held : IsKeyed keyed (block_key sha256 password)
  pub last : digest ≡ round_digest password salt round
  pub all : sum ≡ rounds_digest password salt round

abbrev pub invariant-rounds : goal.invariant-rounds
invariant-rounds l = Rounds l.fn.password l.fn.salt l.keyed l.digest l.sum l.round
