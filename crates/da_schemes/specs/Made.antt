-- The text of a password stored anew.
use Rattle.std.specs.Prelude.{◌≡◌, true, Some, ◌++◌, take, codes}
use Rattle.hex.specs.Hex.{encode_lower}
use Rattle.da_base.specs.Words.{Bytes, to_base64}
use Rattle.da_schemes.specs.Keys.{keys_of}
use Rattle.da_schemes.specs.Stored.{StoredPassword, digest_by, stored_password, matches}
use Rattle.da_schemes.specs.Scheme.{scheme_name, kind_of}
use Rattle.da_schemes.specs.declared.keys.ScramKeys.{ScramKeys}
use Rattle.da_schemes.specs.declared.scheme.Scheme.{Scheme}
use Rattle.da_schemes.specs.declared.scheme.Scheme.TheVariants.{PlainMd5}
use Rattle.da_schemes.specs.declared.scheme.Kind.{Kind}
use Rattle.da_schemes.specs.declared.scheme.Kind.TheVariants.{Verbatim, Hashed, Salted, Scram}

-- 4,096 rounds, the salt and the two keys in base64
abbrev pub keys_text : ScramKeys → Bytes
keys_text keys = codes "4096," ++ to_base64 keys.salt ++ codes "," ++ to_base64 keys.stored ++ codes "," ++ to_base64 keys.server

-- PLAIN-MD5 in hexadecimal digits, every other digest in base64
abbrev pub digest_text : Scheme → Bytes → Bytes
digest_text PlainMd5 bytes = encode_lower bytes
digest_text _ bytes = to_base64 bytes

-- what stands after the braces: a salted digest takes the first 8 bytes of the salt, keys take it all
abbrev pub text_made : Kind → Scheme → Bytes → Bytes → Bytes
text_made Verbatim scheme plain salt = plain
text_made Hashed scheme plain salt = digest_text scheme (digest_by scheme plain)
text_made Salted scheme plain salt = digest_text scheme (digest_by scheme (plain ++ take 8 salt) ++ take 8 salt)
text_made Scram scheme plain salt = keys_text (keys_of plain salt 4096)

-- the scheme's name in braces, and the text after them
abbrev pub made : Scheme → Bytes → Bytes → Bytes
made scheme plain salt = codes "{" ++ scheme_name scheme ++ codes "}" ++ text_made (kind_of scheme) scheme plain salt

-- the text is read as a stored password of this scheme, and the plaintext matches it
pub record IsMade (default scheme : Scheme) (plain text : Bytes) : Type 0 where
  pub stored : StoredPassword
  pub read : stored_password default text ≡ Some stored
  pub same_scheme : stored.scheme ≡ scheme
  pub matched : matches stored plain ≡ true
