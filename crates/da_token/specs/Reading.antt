-- Tokens and messages, computed from their texts.
use Rattle.std.specs.Prelude.{ℕ, Bool, ◌&&◌, not, List, [], ◌∷◌, Option, Some, None, option_map, option_and_then, is_some, if◌then◌else◌, bytes_eq, length, ◌==◌, codes}
use Rattle.serde_json.specs.Data.{Data}
use Rattle.serde_json.specs.Find.{get, as_str}
use Rattle.da_base.specs.Words.{Bytes, pieces, before_byte, after_byte, after_front, is_empty, passes_option}
use Rattle.da_schemes.specs.Stored.{StoredPassword}
use Rattle.da_fields.specs.declared.said.Said.{Said}
use Rattle.da_fields.specs.declared.said.Said.TheVariants.{Challenge, Bad}
use Rattle.da_scram.specs.Reading.{flag_read, authzid_read}
use Rattle.da_token.specs.declared.key.TokenKey.{TokenKey}
use Rattle.da_token.specs.declared.token.Claims.{Claims}
use Rattle.da_token.specs.declared.token.Token.{Token}
use Rattle.da_token.specs.declared.message.Bearer.{Bearer}
use Rattle.da_token.specs.Json.{from_base64url, json_in, text_or, seconds_of, seconds_or}
use Rattle.da_token.specs.Token.{signing_input, is_right}
use Rattle.da_token.specs.Message.{is_key, same_letters}
use Rattle.da_token.specs.OauthBearer.{presented_says}

-- ---- a token

abbrev pub is_hs256 : Option Bytes → Bool
is_hs256 algorithm = passes_option (λ name. bytes_eq name (codes "HS256")) algorithm

-- the id of the key that a header names
abbrev pub key_id_in : Data → Option Bytes
key_id_in header =
    if is_hs256 (option_and_then as_str (get (codes "alg") header)) && not (is_some (get (codes "crit") header))
    then text_or [] (get (codes "kid") header)
    else None

abbrev pub header_read : Bytes → Option Bytes
header_read part = option_and_then key_id_in (json_in part)

abbrev pub right_subject : Bytes → Option Bytes
right_subject subject = if is_empty subject then None else Some subject

abbrev pub subject_in : Data → Option Bytes
subject_in claims = option_and_then right_subject (option_and_then as_str (get (codes "sub") claims))

abbrev pub claims_with : Option Bytes → Option ℕ → Option ℕ → Option Bytes → Option Claims
claims_with (Some subject) (Some expires) (Some not_before) (Some issuer) =
    Some (record { subject = subject; expires = expires; not_before = not_before; issuer = issuer })
claims_with _ _ _ _ = None

abbrev pub claims_in : Data → Option Claims
claims_in claims =
    claims_with (subject_in claims) (option_and_then seconds_of (get (codes "exp") claims))
    (seconds_or 0 (get (codes "nbf") claims)) (text_or [] (get (codes "iss") claims))

abbrev pub claims_read : Bytes → Option Claims
claims_read part = option_and_then claims_in (json_in part)

abbrev pub right_signature : Bytes → Option Bytes
right_signature signature = if length signature == 32 then Some signature else None

abbrev pub signature_read : Bytes → Option Bytes
signature_read part = option_and_then right_signature (from_base64url part)

abbrev pub token_with : Bytes → Option Bytes → Option Claims → Option Bytes → Option Token
token_with signed (Some key_id) (Some claims) (Some signature) =
    Some (record { signed = signed; signature = signature; key_id = key_id; claims = claims })
token_with signed _ _ _ = None

abbrev pub token_in_pieces : List Bytes → Option Token
token_in_pieces (header ∷ claims ∷ signature ∷ []) =
    token_with (signing_input header claims) (header_read header) (claims_read claims) (signature_read signature)
token_in_pieces _ = None

-- the token that a text is
unfoldable pub token_read : Bytes → Option Token
token_read text = token_in_pieces (pieces 46 text)

-- whether a text is a token that is right at this moment
abbrev pub is_right_text : List TokenKey → Bytes → ℕ → Bytes → Bool
is_right_text keys issuer moment text = passes_option (is_right keys issuer moment) (token_read text)

-- ---- a message

-- the text is a key of letters, an equals sign and a value
abbrev pub is_written_pair : Bytes → Bool
is_written_pair text = is_key (before_byte 61 text) && is_some (after_byte 61 text)

-- the value that the text has under the key `auth`
abbrev pub auth_in : Bytes → Option Bytes
auth_in text = if same_letters (before_byte 61 text) (codes "auth") then after_byte 61 text else None

-- the pair may follow where this value of `auth` was found: `auth` comes once
abbrev pub may_follow : Option Bytes → Bytes → Bool
may_follow found text = is_written_pair text && not (is_some found && is_some (auth_in text))

abbrev pub found_with : Option Bytes → Option Bytes → Option Bytes
found_with None value = value
found_with (Some found) value = Some found

-- the one value of `auth` in the pieces between the bytes 0x01, of which the last two are empty, where this value was
-- found in the pieces before them
abbrev pub auth_after : Option Bytes → List Bytes → Option Bytes
auth_after found [] = None
auth_after found (last ∷ []) = None
auth_after found ([] ∷ next ∷ more) = if is_empty next && is_empty more then found else None
auth_after found ((c ∷ cs) ∷ next ∷ more) =
    if may_follow found (c ∷ cs) then auth_after (found_with found (auth_in (c ∷ cs))) (next ∷ more) else None

-- the token in credentials of the scheme Bearer
abbrev pub bearer_token : Bytes → Option Bytes
bearer_token value = if same_letters (before_byte 32 value) (codes "Bearer") then after_byte 32 value else None

-- the token in what follows the header
abbrev pub token_after : Bytes → Option Bytes
token_after body = option_and_then bearer_token (auth_after None (pieces 1 body))

abbrev pub bearer_of : Bytes → Token → Bearer
bearer_of authzid token = record { authzid = authzid; token = token }

abbrev pub bearer_with : Option Bytes → Option Bytes → Option Bearer
bearer_with (Some authzid) (Some text) = option_map (bearer_of authzid) (token_read text)
bearer_with _ _ = None

abbrev pub body_after : Option Bytes → Option Bytes
body_after rest = option_and_then (after_front (1 ∷ [])) rest

-- what follows the flag, a comma, the authorization identity and a comma
abbrev pub bearer_after_flag : Bytes → Option Bearer
bearer_after_flag rest = bearer_with (authzid_read (before_byte 44 rest)) (option_and_then token_after (body_after (after_byte 44 rest)))

-- the authorization identity and the token of a message
unfoldable pub bearer_read : Bytes → Option Bearer
bearer_read text = if is_some (flag_read (before_byte 44 text)) then option_and_then bearer_after_flag (after_byte 44 text) else None

-- ---- what comes of the messages

abbrev pub first_says : List TokenKey → Bytes → ℕ → Option StoredPassword → List Bytes → Option Bearer → Said
first_says keys issuer start stored more None = Bad
first_says keys issuer start stored more (Some bearer) = presented_says keys issuer start stored bearer more

unfoldable pub oauth_bearer_says : List TokenKey → Bytes → ℕ → List Bytes → Option StoredPassword → Said
oauth_bearer_says keys issuer start [] stored = Challenge []
oauth_bearer_says keys issuer start (text ∷ more) stored = first_says keys issuer start stored more (bearer_read text)
