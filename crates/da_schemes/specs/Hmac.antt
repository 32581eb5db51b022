-- Keyed digests (RFC 2104), and keys made of a password in many rounds (RFC 8018).
use Rattle.std.specs.Prelude.{ℕ, zero, suc, ◌-◌, [], ◌∷◌, ◌++◌, length, map, zip, replicate, bit_xor, if◌then◌else◌, nat_le}
use Rattle.md5.specs.Md5.{md5}
use Rattle.sha2.specs.Sha256.{sha256}
use Rattle.da_base.specs.Words.{Bytes}

-- ---- HMAC (RFC 2104, section 2), with a digest whose blocks have 64 bytes

-- zeros to the end of a block
abbrev pub padded : Bytes → Bytes
padded key = key ++ replicate (64 - length key) 0

-- the key as one block: a longer key is replaced by its digest
abbrev pub block_key : (Bytes → Bytes) → Bytes → Bytes
block_key digest key = padded (if nat_le (length key) 64 then key else digest key)

-- each byte XOR this one
abbrev pub xor_each : Bytes → ℕ → Bytes
xor_each bytes pad = map (λ byte. bit_xor byte pad) bytes

-- the digest of a text under a key of one block: ipad is 0x36, opad 0x5C
abbrev pub hmac_of_block : (Bytes → Bytes) → Bytes → Bytes → Bytes
hmac_of_block digest block text = digest (xor_each block 0x5C ++ digest (xor_each block 0x36 ++ text))

abbrev pub hmac : (Bytes → Bytes) → Bytes → Bytes → Bytes
hmac digest key text = hmac_of_block digest (block_key digest key) text

unfoldable pub hmac_md5 : Bytes → Bytes → Bytes
hmac_md5 key text = hmac md5 key text

unfoldable pub hmac_sha256 : Bytes → Bytes → Bytes
hmac_sha256 key text = hmac sha256 key text

-- ---- Hi (RFC 5802, section 2.2): PBKDF2 (RFC 8018, section 5.2) with HMAC-SHA-256 and one block

abbrev pub xor_bytes : Bytes → Bytes → Bytes
xor_bytes xs ys = map (λ p. bit_xor p.0 p.1) (zip xs ys)

-- U1, and so many further ones: each is the keyed digest of the one before
unfoldable pub round_digest : Bytes → Bytes → ℕ → Bytes
round_digest password salt zero = hmac_sha256 password (salt ++ 0 ∷ 0 ∷ 0 ∷ 1 ∷ [])
round_digest password salt (suc round) = hmac_sha256 password (round_digest password salt round)

-- U1 XOR so many further ones
unfoldable pub rounds_digest : Bytes → Bytes → ℕ → Bytes
rounds_digest password salt zero = round_digest password salt zero
rounds_digest password salt (suc round) = xor_bytes (rounds_digest password salt round) (round_digest password salt (suc round))

-- U1 XOR U2 and so on, of one round or more
unfoldable pub hi : Bytes → Bytes → ℕ → Bytes
hi password salt rounds = rounds_digest password salt (rounds - 1)
