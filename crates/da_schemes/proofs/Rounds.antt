-- One round more of Hi.
use Rattle.std.proofs.Common.{◌≡◌, ℕ, ◌+◌, List, [], ◌++◌, add-one}
use Rattle.std.proofs.lemmas.List.{append-nil}
use Rattle.sha2.specs.Sha256.{sha256}
use Rattle.da_schemes.specs.Hmac.{block_key, hmac_of_block, hmac_sha256, xor_bytes, round_digest, rounds_digest}

pub round_digest-more : (password salt digest next : List ℕ) (n : ℕ) → digest ≡ round_digest password salt n
    → next ≡ hmac_of_block sha256 (block_key sha256 password) (digest ++ []) → next ≡ round_digest password salt (n + 1)
unfolding round_digest hmac_sha256
round_digest-more password salt digest next n last made = rw add-one (rw (append-nil, last) at made)

pub rounds_digest-more : (password salt sum next new : List ℕ) (n : ℕ) → sum ≡ rounds_digest password salt n
    → next ≡ round_digest password salt (n + 1) → new ≡ xor_bytes sum next → new ≡ rounds_digest password salt (n + 1)
unfolding rounds_digest
rounds_digest-more password salt sum next new n all last made = rw add-one (rw (all, last, add-one) at made)
