-- Stored passwords: how their texts are read, and which plaintext matches one.
use Rattle.std.specs.Prelude.{Result, Ok, Err, IsSome, ℕ, ◌≡◌, Bool, [], ◌++◌, length, take, drop, Option, Some, None, option_map, option_and_then, if◌then◌else◌, nat_le, ◌==◌, bytes_eq}
use Rattle.std.specs.Result.{result_ok}
use Rattle.hex.specs.Hex.{decode_of}
use Rattle.md5.specs.Md5.{md5}
use Rattle.sha1.specs.Sha1.{sha1}
use Rattle.sha2.specs.Sha256.{sha256}
use Rattle.sha2.specs.Sha512.{sha512}
use Rattle.da_base.specs.Words.{Bytes, from_base64}
use Rattle.da_schemes.specs.Hmac.{hi}
use Rattle.da_schemes.specs.Keys.{IsRoundCount, stored_key, keys_of, keys_spelled}
use Rattle.da_schemes.specs.Scheme.{kind_of, label_of}
use Rattle.da_schemes.specs.declared.keys.ScramKeys.{ScramKeys}
use Rattle.da_schemes.specs.declared.scheme.Scheme.{Scheme}
use Rattle.da_schemes.specs.declared.scheme.Scheme.TheVariants.{Plain, Clear, Cleartext, PlainMd5, LdapMd5, Sha, Sha256, Sha512, Smd5, Ssha, Ssha256, Ssha512}
use Rattle.da_schemes.specs.declared.scheme.Kind.{Kind}
use Rattle.da_schemes.specs.declared.scheme.Kind.TheVariants.{Verbatim, Hashed, Salted, Scram}
use Rattle.da_schemes.specs.declared.scheme.Encoding.{Encoding}
use Rattle.da_schemes.specs.declared.scheme.Encoding.TheVariants.{Base64, Hex}
use Rattle.da_schemes.specs.declared.scheme.Label.{Label}
use Rattle.da_schemes.specs.declared.fault.SchemeFault.{SchemeFault}
use Rattle.da_schemes.specs.declared.fault.SchemeFault.TheVariants.{UnknownScheme, BadText, NoMemory}
use Rattle.da_schemes.specs.declared.secret.Secret.{Secret}
use Rattle.da_schemes.specs.declared.secret.Secret.TheVariants.{Plaintext, Digest, Keys}

-- a stored password: its scheme, and what is stored under it
pub record StoredPassword : Type 0 where
  pub scheme : Scheme
  pub secret : Secret

-- ---- digests

-- the digest of a message under a scheme (RFC 1321, FIPS 180-4)
abbrev pub digest_by : Scheme → Bytes → Bytes
digest_by PlainMd5 message = md5 message
digest_by LdapMd5 message = md5 message
digest_by Smd5 message = md5 message
digest_by Sha message = sha1 message
digest_by Ssha message = sha1 message
digest_by Sha256 message = sha256 message
digest_by Ssha256 message = sha256 message
digest_by Sha512 message = sha512 message
digest_by Ssha512 message = sha512 message
digest_by _ message = []

-- how many bytes it has
abbrev pub digest_size : Scheme → ℕ
digest_size PlainMd5 = 16
digest_size LdapMd5 = 16
digest_size Smd5 = 16
digest_size Sha = 20
digest_size Ssha = 20
digest_size Sha256 = 32
digest_size Ssha256 = 32
digest_size Sha512 = 64
digest_size Ssha512 = 64
digest_size _ = 0

-- ---- reading

-- the encoding of a scheme whose label names none; None for the text itself
abbrev pub own_encoding : Scheme → Option Encoding
own_encoding Plain = None
own_encoding Clear = None
own_encoding Cleartext = None
own_encoding PlainMd5 = Some Hex
own_encoding _ = Some Base64

-- an even number of hexadecimal digits of either case, or base64 with padding (RFC 4648, sections 8 and 4)
abbrev pub decoded_by : Encoding → Bytes → Option Bytes
decoded_by Hex text = result_ok (decode_of text)
decoded_by Base64 text = from_base64 text

abbrev pub bytes_written : Option Encoding → Option Encoding → Bytes → Option Bytes
bytes_written (Some encoding) own text = decoded_by encoding text
bytes_written None (Some encoding) text = decoded_by encoding text
bytes_written None None text = Some text

-- what these bytes store: a digest has its own number of bytes, and what follows it is the salt
abbrev pub secret_of_bytes : Kind → ℕ → Bytes → Option Secret
secret_of_bytes Verbatim size bytes = Some (Plaintext bytes)
secret_of_bytes Hashed size bytes = if length bytes == size then Some (Digest bytes []) else None
secret_of_bytes Salted size bytes = if nat_le size (length bytes) then Some (Digest (take size bytes) (drop size bytes)) else None
secret_of_bytes Scram size bytes = None

-- keys take no encoding
abbrev pub keys_under : Option Encoding → Bytes → Option Secret
keys_under None text = option_map Keys (keys_spelled text)
keys_under (Some encoding) text = None

abbrev pub secret_by_kind : Kind → Label → Bytes → Option Secret
secret_by_kind Scram label text = keys_under label.encoding text
secret_by_kind kind label text =
    option_and_then (secret_of_bytes kind (digest_size label.scheme)) (bytes_written label.encoding (own_encoding label.scheme) text)

-- what a text under this label stores; None where it is off its form
abbrev pub secret_written : Label → Bytes → Option Secret
secret_written label text = secret_by_kind (kind_of label.scheme) label text

abbrev pub stored_under : Label → Bytes → Option StoredPassword
stored_under label text = option_map (λ secret. record { scheme = label.scheme; secret = secret }) (secret_written label text)

-- the stored password that a text spells, where the default scheme is the one of a text without braces
unfoldable pub stored_password : Scheme → Bytes → Option StoredPassword
stored_password default text = option_and_then (λ labelled. stored_under labelled.0 labelled.1) (label_of default text)

-- ---- matching

abbrev pub secret_matches : Scheme → Secret → Bytes → Bool
secret_matches scheme (Plaintext password) plain = bytes_eq password plain
secret_matches scheme (Digest digest salt) plain = bytes_eq digest (digest_by scheme (plain ++ salt))
secret_matches scheme (Keys keys) plain = bytes_eq keys.stored (stored_key (hi plain keys.salt keys.rounds))

-- whether the plaintext matches
unfoldable pub matches : StoredPassword → Bytes → Bool
matches stored plain = secret_matches stored.scheme stored.secret plain

abbrev pub plaintext_in : Secret → Option Bytes
plaintext_in (Plaintext password) = Some password
plaintext_in _ = None

-- the stored password itself, where its scheme keeps that
abbrev pub plaintext_of : StoredPassword → Option Bytes
plaintext_of stored = plaintext_in stored.secret

abbrev pub secret_keys : Bytes → Secret → Option ScramKeys
secret_keys salt (Plaintext password) = Some (keys_of password salt 4096)
secret_keys salt (Digest digest salted) = None
secret_keys salt (Keys keys) = Some keys

-- the keys for SCRAM-SHA-256: a plaintext password's under this salt and 4,096 rounds, or those stored
abbrev pub scram_keys : Bytes → StoredPassword → Option ScramKeys
scram_keys salt stored = secret_keys salt stored.secret

-- ---- what every stored password keeps

abbrev pub secret_fits : Kind → ℕ → Secret → Type 0
secret_fits Verbatim size (Plaintext password) = Unit {0}
secret_fits Hashed size (Digest digest salt) = (length digest ≡ size) × (salt ≡ [])
secret_fits Salted size (Digest digest salt) = length digest ≡ size
secret_fits Scram size (Keys keys) = IsRoundCount keys.rounds
secret_fits _ size _ = ⊥

-- the secret is one of its scheme
abbrev pub IsFitting : Scheme → Secret → Type 0
IsFitting scheme secret = secret_fits (kind_of scheme) (digest_size scheme) secret

-- ---- results

-- a result is what was told, or want of memory
abbrev pub IsRead : {A : Type 0} → Option A → Result A SchemeFault → Type 0
IsRead reported (Ok value) = reported ≡ Some value
IsRead reported (Err UnknownScheme) = ⊥
IsRead reported (Err BadText) = reported ≡ None
IsRead reported (Err NoMemory) = Unit {0}

-- a result is the stored password that the text spells; UnknownScheme exactly where the braces name no scheme or
-- encoding, else BadText exactly where the text is off its form; or want of memory
abbrev pub IsReadFrom : Scheme → Bytes → Result StoredPassword SchemeFault → Type 0
IsReadFrom default text (Ok stored) = stored_password default text ≡ Some stored
IsReadFrom default text (Err UnknownScheme) = label_of default text ≡ None
IsReadFrom default text (Err BadText) = IsSome (label_of default text) × (stored_password default text ≡ None)
IsReadFrom default text (Err NoMemory) = Unit {0}
