-- The keys of SCRAM-SHA-256 (RFC 5802, section 3; RFC 7677).
use Rattle.std.specs.Prelude.{◌≡◌, ◌<◌, ◌≤◌, ℕ, ◌&&◌, List, [], ◌∷◌, length, Option, Some, None, option_and_then, if◌then◌else◌, nat_le, codes}
use Rattle.sha2.specs.Sha256.{sha256}
use Rattle.da_base.specs.Words.{Bytes, pieces, number_of, from_base64}
use Rattle.da_schemes.specs.Hmac.{hmac_sha256, hi}
use Rattle.da_schemes.specs.declared.keys.ScramKeys.{ScramKeys}

-- StoredKey and ServerKey of a salted password
abbrev pub stored_key : Bytes → Bytes
stored_key salted = sha256 (hmac_sha256 salted (codes "Client Key"))

abbrev pub server_key : Bytes → Bytes
server_key salted = hmac_sha256 salted (codes "Server Key")

-- the keys of a password under a salt
abbrev pub keys_of : Bytes → Bytes → ℕ → ScramKeys
keys_of password salt rounds =
    record {
      rounds = rounds;
      salt = salt;
      stored = stored_key (hi password salt rounds);
      server = server_key (hi password salt rounds);
    }

-- ---- the keys as a text: rounds, salt, StoredKey and ServerKey

-- 1 to 100,000 rounds
abbrev pub IsRoundCount : ℕ → Type 0
IsRoundCount rounds = (0 < rounds) × (rounds ≤ 100000)

abbrev pub rounds_spelled : Bytes → Option ℕ
rounds_spelled text = option_and_then (λ rounds. if nat_le 1 rounds then Some rounds else None) (number_of 100000 text)

-- the bytes in base64, from so many to so many of them
abbrev pub bytes_spelled : ℕ → ℕ → Bytes → Option Bytes
bytes_spelled least most text =
    option_and_then (λ bytes. if nat_le least (length bytes) && nat_le (length bytes) most then Some bytes else None) (from_base64 text)

abbrev pub keys_with : Option ℕ → Option Bytes → Option Bytes → Option Bytes → Option ScramKeys
keys_with (Some rounds) (Some salt) (Some stored) (Some server) = Some (record { rounds = rounds; salt = salt; stored = stored; server = server })
keys_with _ _ _ _ = None

abbrev pub keys_in_pieces : List Bytes → Option ScramKeys
keys_in_pieces (rounds ∷ salt ∷ stored ∷ server ∷ []) =
    keys_with (rounds_spelled rounds) (bytes_spelled 1 64 salt) (bytes_spelled 32 32 stored) (bytes_spelled 32 32 server)
keys_in_pieces _ = None

-- the keys that a text spells, with commas between its four parts
abbrev pub keys_spelled : Bytes → Option ScramKeys
keys_spelled text = keys_in_pieces (pieces 44 text)

-- there are keys, of this salt and so many rounds
abbrev pub HaveSalt : Option ScramKeys → Bytes → ℕ → Type 0
HaveSalt None salt rounds = ⊥
HaveSalt (Some keys) salt rounds = (keys.salt ≡ salt) × (keys.rounds ≡ rounds)
