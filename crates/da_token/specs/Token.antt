-- Bearer tokens: JSON Web Tokens (RFC 7519) that are signed by HMAC-SHA-256 (RFC 7515; RFC 7518, section 3.2).
use Rattle.std.specs.Prelude.{◌≡◌, ℕ, ◌*◌, Bool, true, false, ◌&&◌, ◌||◌, List, [], ◌∷◌, ◌++◌, length, Some, None, codes, bytes_eq, nat_le, nat_lt}
use Rattle.std.specs.List.{list_any}
use Rattle.serde_json.specs.Data.{Data, Members, object, string}
use Rattle.serde_json.specs.Find.{get_member}
use Rattle.da_base.specs.Words.{Bytes, pieces, is_empty}
use Rattle.da_schemes.specs.Hmac.{hmac_sha256}
use Rattle.da_token.specs.declared.key.TokenKey.{TokenKey}
use Rattle.da_token.specs.declared.token.Claims.{Claims}
use Rattle.da_token.specs.declared.token.Token.{Token}
use Rattle.da_token.specs.Json.{from_base64url, json_in, IsTextOr, IsSeconds, IsSecondsOr}

-- ---- the form of a token

-- a header (RFC 7515, section 4.1): its algorithm is HS256 (RFC 7518, section 3.1), it needs no extension, and it names
-- the key with this id, or with the empty id
pub record IsHeader (part key_id : Bytes) : Type 0 where
  pub members : Members
  pub read : json_in part ≡ Some (object members)
  pub algorithm : get_member (codes "alg") members ≡ Some (string (codes "HS256"))
  pub not_critical : get_member (codes "crit") members ≡ None
  pub names_key : IsTextOr [] (get_member (codes "kid") members) key_id

-- claims (RFC 7519, section 4.1): a subject, the second when the token ends, and, where they are there, the second when it
-- begins and its issuer; without them it begins at second 0, and its issuer is the empty text
pub record IsClaims (part : Bytes) (claims : Claims) : Type 0 where
  pub members : Members
  pub read : json_in part ≡ Some (object members)
  pub subject : get_member (codes "sub") members ≡ Some (string claims.subject)
  pub has_subject : is_empty claims.subject ≡ false
  pub ending : Data
  pub expires : get_member (codes "exp") members ≡ Some ending
  pub ends : IsSeconds ending claims.expires
  pub not_before : IsSecondsOr 0 (get_member (codes "nbf") members) claims.not_before
  pub issuer : IsTextOr [] (get_member (codes "iss") members) claims.issuer

-- what is signed: the header and the claims as they are written, with a dot between them (RFC 7515, section 2: JWS Signing
-- Input)
abbrev pub signing_input : Bytes → Bytes → Bytes
signing_input header claims = header ++ codes "." ++ claims

-- the text is this token: a header, claims and a signature of 32 bytes, with dots between them (RFC 7515, section 7.1)
pub record IsToken (text : Bytes) (token : Token) : Type 0 where
  pub header : Bytes
  pub claims : Bytes
  pub signature : Bytes
  pub parts : pieces 46 text ≡ header ∷ claims ∷ signature ∷ []
  pub is_header : IsHeader header token.key_id
  pub is_claims : IsClaims claims token.claims
  pub is_signature : from_base64url signature ≡ Some token.signature
  pub signature_length : length token.signature ≡ 32
  pub signed : token.signed ≡ signing_input header claims

-- ---- when it is right

-- a key has this id, and the signature is HMAC-SHA-256 of what is signed under its secret (RFC 7518, section 3.2)
abbrev pub has_signed : Token → TokenKey → Bool
has_signed token key = bytes_eq key.id token.key_id && bytes_eq (hmac_sha256 key.secret token.signed) token.signature

-- the moment in milliseconds is before the end, and not before the beginning (RFC 7519, sections 4.1.4 and 4.1.5)
abbrev pub is_in_time : ℕ → Claims → Bool
is_in_time moment claims = nat_lt moment (1000 * claims.expires) && nat_le (1000 * claims.not_before) moment

-- it is by this issuer (RFC 7519, section 4.1.1), where one is asked for
abbrev pub is_issued_by : Bytes → Claims → Bool
is_issued_by issuer claims = is_empty issuer || bytes_eq claims.issuer issuer

-- some key has signed it, it is in time, and it is by this issuer
abbrev pub is_right : List TokenKey → Bytes → ℕ → Token → Bool
is_right keys issuer moment token =
    list_any (has_signed token) keys && is_in_time moment token.claims && is_issued_by issuer token.claims

-- the text is a token, and it is right at this moment
pub record IsRightText (keys : List TokenKey) (issuer : Bytes) (moment : ℕ) (text : Bytes) : Type 0 where
  pub token : Token
  pub is_token : IsToken text token
  pub is_right_token : is_right keys issuer moment token ≡ true
