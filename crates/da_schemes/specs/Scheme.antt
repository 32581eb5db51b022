-- Password schemes by name, and what the braces before a stored password say.
use Rattle.std.specs.Prelude.{Bool, true, false, ◌||◌, List, [], ◌∷◌, map, find, Option, Some, None, option_map, option_and_then, if◌then◌else◌, bytes_eq, codes}
use Rattle.std.specs.Char.{to_ascii_lowercase}
use Rattle.da_base.specs.Words.{Bytes, before_byte, after_byte, after_front}
use Rattle.da_schemes.specs.declared.scheme.Scheme.{Scheme}
use Rattle.da_schemes.specs.declared.scheme.Scheme.TheVariants.{Plain, Clear, Cleartext, PlainMd5, LdapMd5, Sha, Sha256, Sha512, Smd5, Ssha, Ssha256, Ssha512, ScramSha256}
use Rattle.da_schemes.specs.declared.scheme.Kind.{Kind}
use Rattle.da_schemes.specs.declared.scheme.Kind.TheVariants.{Verbatim, Hashed, Salted, Scram}
use Rattle.da_schemes.specs.declared.scheme.Encoding.{Encoding}
use Rattle.da_schemes.specs.declared.scheme.Encoding.TheVariants.{Base64, Hex}
use Rattle.da_schemes.specs.declared.scheme.Label.{Label}

-- ---- schemes

abbrev pub scheme_name : Scheme → Bytes
scheme_name Plain = codes "PLAIN"
scheme_name Clear = codes "CLEAR"
scheme_name Cleartext = codes "CLEARTEXT"
scheme_name PlainMd5 = codes "PLAIN-MD5"
scheme_name LdapMd5 = codes "LDAP-MD5"
scheme_name Sha = codes "SHA"
scheme_name Sha256 = codes "SHA256"
scheme_name Sha512 = codes "SHA512"
scheme_name Smd5 = codes "SMD5"
scheme_name Ssha = codes "SSHA"
scheme_name Ssha256 = codes "SSHA256"
scheme_name Ssha512 = codes "SSHA512"
scheme_name ScramSha256 = codes "SCRAM-SHA-256"

-- what is stored under a scheme: the password itself, its digest, the digest of the password and a salt, or keys
abbrev pub kind_of : Scheme → Kind
kind_of Plain = Verbatim
kind_of Clear = Verbatim
kind_of Cleartext = Verbatim
kind_of PlainMd5 = Hashed
kind_of LdapMd5 = Hashed
kind_of Sha = Hashed
kind_of Sha256 = Hashed
kind_of Sha512 = Hashed
kind_of Smd5 = Salted
kind_of Ssha = Salted
kind_of Ssha256 = Salted
kind_of Ssha512 = Salted
kind_of ScramSha256 = Scram

abbrev pub is_plaintext_kind : Kind → Bool
is_plaintext_kind Verbatim = true
is_plaintext_kind _ = false

abbrev pub is_scram_kind : Kind → Bool
is_scram_kind Scram = true
is_scram_kind _ = false

-- whether the password itself is stored
abbrev pub is_plaintext_scheme : Scheme → Bool
is_plaintext_scheme scheme = is_plaintext_kind (kind_of scheme)

-- whether the keys of SCRAM-SHA-256 are stored
abbrev pub is_scram_scheme : Scheme → Bool
is_scram_scheme scheme = is_scram_kind (kind_of scheme)

-- ---- names

-- equal without regard to ASCII case
abbrev pub same_name : Bytes → Bytes → Bool
same_name name other = bytes_eq (map to_ascii_lowercase name) (map to_ascii_lowercase other)

abbrev pub schemes : List Scheme
schemes =
    Plain ∷ Clear ∷ Cleartext ∷ PlainMd5 ∷ LdapMd5 ∷ Sha ∷ Sha256 ∷ Sha512 ∷ Smd5 ∷ Ssha ∷ Ssha256 ∷ Ssha512 ∷ ScramSha256 ∷ []

-- the scheme of a name
abbrev pub scheme_named : Bytes → Option Scheme
scheme_named name = find (λ scheme. same_name name (scheme_name scheme)) schemes

-- the encoding of a name
abbrev pub encoding_named : Bytes → Option Encoding
encoding_named name =
    if same_name name (codes "b64") || same_name name (codes "base64") then Some Base64
    else if same_name name (codes "hex") then Some Hex
    else None

-- ---- the braces before a stored password

abbrev pub label_with : Option Scheme → Option Bytes → Option Label
label_with None encoding = None
label_with (Some scheme) None = Some (record { scheme = scheme; encoding = None })
label_with (Some scheme) (Some name) = option_map (λ encoding. record { scheme = scheme; encoding = Some encoding }) (encoding_named name)

-- what the braces say: a scheme's name, or a scheme's name, a dot and an encoding's name
abbrev pub label_named : Bytes → Option Label
label_named name = label_with (scheme_named (before_byte 46 name)) (after_byte 46 name)

-- what stands before the first closing brace, and after it
abbrev pub closed : Bytes → Option (Bytes × Bytes)
closed text = option_map (λ rest. (before_byte 125 text, rest)) (after_byte 125 text)

-- what stands in the braces that a text begins with, and after them
abbrev pub braced : Bytes → Option (Bytes × Bytes)
braced text = option_and_then closed (after_front (codes "{") text)

abbrev pub labelled : Scheme → Bytes → Option (Bytes × Bytes) → Option (Label × Bytes)
labelled default text None = Some (record { scheme = default; encoding = None }, text)
labelled default text (Some parts) = option_map (λ label. (label, parts.1)) (label_named parts.0)

-- the scheme and the encoding of a stored password, and the text that they speak of: a text without braces is one of
-- the default scheme. None exactly where the braces name no scheme or encoding.
abbrev pub label_of : Scheme → Bytes → Option (Label × Bytes)
label_of default text = labelled default text (braced text)
