-- The mechanism SCRAM-SHA-256 (RFC 5802, section 3; RFC 7677).
use Rattle.std.specs.Prelude.{◌≡◌, ℕ, Bool, true, false, List, [], ◌∷◌, ◌++◌, take, Option, Some, None, if◌then◌else◌, bytes_eq, codes, decimal}
use Rattle.sha2.specs.Sha256.{sha256}
use Rattle.da_base.specs.Words.{Bytes, to_base64}
use Rattle.da_schemes.specs.Hmac.{hmac_sha256, xor_bytes}
use Rattle.da_schemes.specs.Stored.{StoredPassword, scram_keys}
use Rattle.da_schemes.specs.declared.keys.ScramKeys.{ScramKeys}
use Rattle.da_fields.specs.declared.said.Said.{Said}
use Rattle.da_fields.specs.declared.said.Said.TheVariants.{Challenge, Need, Proof, Bad}
use Rattle.da_scram.specs.Messages.{FirstMessage, FinalMessage, IsFirst, IsFinal, first_bare, final_without_proof}

-- the salt of a plaintext password in a request with these random bytes
abbrev pub request_salt : Bytes → Bytes
request_salt random = take 16 (sha256 random)

-- the server's first message: both nonces, the salt and the rounds
abbrev pub server_first : Bytes → Bytes → Bytes → ℕ → Bytes
server_first nonce server_nonce salt rounds = codes "r=" ++ nonce ++ server_nonce ++ codes ",s=" ++ to_base64 salt ++ codes ",i=" ++ decimal rounds

-- what both sides sign (AuthMessage): the client's first message without its header, the server's first one, and the
-- client's last one without its proof
abbrev pub signed_text : Bytes → Bytes → Bytes → Bytes
signed_text bare server_message without_proof = bare ++ codes "," ++ server_message ++ codes "," ++ without_proof

abbrev pub auth_message : FirstMessage → Bytes → ScramKeys → FinalMessage → Bytes
auth_message first server_nonce keys final =
    signed_text (first_bare first) (server_first first.nonce server_nonce keys.salt keys.rounds) (final_without_proof first server_nonce final)

-- whether the proof is the client key XOR the client's signature
abbrev pub is_right_proof : ScramKeys → Bytes → Bytes → Bool
is_right_proof keys signed proof = bytes_eq (sha256 (xor_bytes proof (hmac_sha256 keys.stored signed))) keys.stored

-- the server's last message: its own signature
abbrev pub server_final : ScramKeys → Bytes → Bytes
server_final keys signed = codes "v=" ++ to_base64 (hmac_sha256 keys.server signed)

-- what a proof of this message gives: where it is right, the server's last message
abbrev pub proof_says : ScramKeys → Bytes → Bytes → Said
proof_says keys signed proof = if is_right_proof keys signed proof then Proof true (Some (server_final keys signed)) else Proof false None

-- ---- as a relation

abbrev pub FinalSays : FirstMessage → Bytes → ScramKeys → Bytes → Said → Type 0
FinalSays first server_nonce keys text (Proof right last) =
    (m : FinalMessage) × IsFinal first server_nonce text m × (proof_says keys (auth_message first server_nonce keys m) m.proof ≡ Proof right last)
FinalSays first server_nonce keys text Bad = (m : FinalMessage) → IsFinal first server_nonce text m → ⊥
FinalSays first server_nonce keys text _ = ⊥

-- what comes after a first message, under keys
abbrev pub FurtherSays : FirstMessage → Bytes → ScramKeys → List Bytes → Said → Type 0
FurtherSays first server_nonce keys [] what = what ≡ Challenge (server_first first.nonce server_nonce keys.salt keys.rounds)
FurtherSays first server_nonce keys (text ∷ []) what = FinalSays first server_nonce keys text what
FurtherSays first server_nonce keys (text ∷ more ∷ rest) what = what ≡ Bad

-- without keys the first message alone is looked at
abbrev pub FirstSays : FirstMessage → Bytes → Option ScramKeys → List Bytes → Said → Type 0
FirstSays first server_nonce None more what = what ≡ Need first.name first.authzid None
FirstSays first server_nonce (Some keys) more what = FurtherSays first server_nonce keys more what

-- the first text is a message, and this comes of it and what follows; or it is none, which is Bad
abbrev pub BeginsWith : Bytes → List Bytes → Bytes → Option ScramKeys → Said → Type 0
BeginsWith text more server_nonce keys Bad =
    (first : FirstMessage) → IsFirst text first → FirstSays first server_nonce keys more Bad
BeginsWith text more server_nonce keys what =
    (first : FirstMessage) × IsFirst text first × FirstSays first server_nonce keys more what

abbrev pub MessagesSay : Bytes → Option ScramKeys → List Bytes → Said → Type 0
MessagesSay server_nonce keys [] what = what ≡ Challenge []
MessagesSay server_nonce keys (text ∷ more) what = BeginsWith text more server_nonce keys what

abbrev pub KeysSay : Bytes → Option ScramKeys → List Bytes → Said → Type 0
KeysSay server_nonce None messages what = what ≡ Bad
KeysSay server_nonce (Some keys) messages what = MessagesSay server_nonce (Some keys) messages what

-- what comes of the messages under this nonce of the server and this salt of a plaintext password: with credentials that
-- give no keys always Bad
abbrev pub ScramSays : Bytes → Bytes → List Bytes → Option StoredPassword → Said → Type 0
ScramSays server_nonce salt messages None what = MessagesSay server_nonce None messages what
ScramSays server_nonce salt messages (Some stored) what = KeysSay server_nonce (scram_keys salt stored) messages what
