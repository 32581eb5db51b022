-- The mechanism CRAM-MD5 (RFC 2195, section 2).
use Rattle.std.specs.Prelude.{◌≡◌, ℕ, ◌-◌, Bool, true, false, ◌&&◌, ◌||◌, List, [], ◌∷◌, ◌++◌, length, take, drop, Option, Some, None, if◌then◌else◌, nat_le, nat_lt, ◌==◌, bytes_eq, codes, decimal, slice_index}
use Rattle.std.specs.List.{list_all}
use Rattle.da_base.specs.Words.{Bytes, hex, is_empty}
use Rattle.da_schemes.specs.Hmac.{hmac_md5}
use Rattle.da_schemes.specs.Stored.{StoredPassword, plaintext_of}
use Rattle.da_fields.specs.declared.said.Said.{Said}
use Rattle.da_fields.specs.declared.said.Said.TheVariants.{Challenge, Need, Proof, Bad}

-- the challenge of a server: random digits, a moment and its host's name, in angle brackets
abbrev pub cram_challenge : Bytes → ℕ → Bytes → Bytes
cram_challenge random start host = codes "<" ++ hex random ++ codes "." ++ decimal start ++ codes "@" ++ host ++ codes ">"

abbrev pub is_lower_hex : ℕ → Bool
is_lower_hex c = (nat_le 48 c && nat_le c 57) || (nat_le 97 c && nat_le c 102)

-- a response: a user name, a space and the 32 lower-case hexadecimal digits of a digest
pub record IsResponse (message name digits : Bytes) : Type 0 where
  pub spelled : message ≡ name ++ 32 ∷ digits
  pub has_name : is_empty name ≡ false
  pub size : length digits ≡ 32
  pub are_digits : list_all is_lower_hex digits ≡ true

-- the digits of the challenge's digest, keyed by the password
abbrev pub right_digits : Bytes → Bytes → Bytes
right_digits challenge password = hex (hmac_md5 password challenge)

-- what comes of one message, without credentials and with a plaintext password
abbrev pub ResponseSays : Bytes → Bytes → Option Bytes → Said → Type 0
ResponseSays challenge message None (Need name authzid password) = (digits : Bytes) × IsResponse message name digits × (authzid ≡ []) × (password ≡ None)
ResponseSays challenge message (Some plain) (Proof right last) =
    (name : Bytes) × (digits : Bytes) × IsResponse message name digits × (right ≡ bytes_eq digits (right_digits challenge plain)) × (last ≡ None)
ResponseSays challenge message plain Bad = (name digits : Bytes) → IsResponse message name digits → ⊥
ResponseSays challenge message plain _ = ⊥

abbrev pub MessagesSay : Bytes → List Bytes → Option Bytes → Said → Type 0
MessagesSay challenge [] plain what = what ≡ Challenge challenge
MessagesSay challenge (message ∷ []) plain what = ResponseSays challenge message plain what
MessagesSay challenge (message ∷ more ∷ rest) plain what = what ≡ Bad

abbrev pub CredentialsSay : Bytes → List Bytes → Option Bytes → Said → Type 0
CredentialsSay challenge messages None what = what ≡ Bad
CredentialsSay challenge messages (Some plain) what = MessagesSay challenge messages (Some plain) what

-- what comes of the messages to this challenge: with credentials that aren't of a plaintext scheme always Bad
abbrev pub CramSays : Bytes → List Bytes → Option StoredPassword → Said → Type 0
CramSays challenge messages None what = MessagesSay challenge messages None what
CramSays challenge messages (Some stored) what = CredentialsSay challenge messages (plaintext_of stored) what

-- ---- the same, computed

abbrev pub is_response : Bytes → Bool
is_response message =
    nat_lt 33 (length message) && (slice_index message (length message - 33) == 32) && list_all is_lower_hex (drop (length message - 32) message)

abbrev pub response_name : Bytes → Bytes
response_name message = take (length message - 33) message

abbrev pub response_digits : Bytes → Bytes
response_digits message = drop (length message - 32) message

abbrev pub response_says : Bytes → Bytes → Option Bytes → Said
response_says challenge message None = Need (response_name message) [] None
response_says challenge message (Some plain) = Proof (bytes_eq (response_digits message) (right_digits challenge plain)) None

abbrev pub message_says : Bytes → Bytes → Option Bytes → Said
message_says challenge message plain = if is_response message then response_says challenge message plain else Bad

abbrev pub messages_say : Bytes → List Bytes → Option Bytes → Said
messages_say challenge [] plain = Challenge challenge
messages_say challenge (message ∷ []) plain = message_says challenge message plain
messages_say challenge (message ∷ more ∷ rest) plain = Bad

abbrev pub credentials_say : Bytes → List Bytes → Option Bytes → Said
credentials_say challenge messages None = Bad
credentials_say challenge messages (Some plain) = messages_say challenge messages (Some plain)

unfoldable pub cram_says : Bytes → List Bytes → Option StoredPassword → Said
cram_says challenge messages None = messages_say challenge messages None
cram_says challenge messages (Some stored) = credentials_say challenge messages (plaintext_of stored)
