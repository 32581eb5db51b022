-- The message of OAUTHBEARER (RFC 7628, section 3.1), as it is written.
use Rattle.std.specs.Prelude.{◌≡◌, ℕ, Bool, true, ◌&&◌, ◌||◌, not, List, [], ◌∷◌, ◌++◌, map, flat_map, if◌then◌else◌, ◌==◌, bytes_eq, codes}
use Rattle.std.specs.Char.{is_ascii_alphabetic, to_ascii_lowercase}
use Rattle.std.specs.List.{list_all, list_any}
use Rattle.da_base.specs.Words.{Bytes, is_empty}
use Rattle.da_scram.specs.Messages.{is_authzid, written_authzid}

-- equal without regard to ASCII case
abbrev pub same_letters : Bytes → Bytes → Bool
same_letters text other = bytes_eq (map to_ascii_lowercase text) (map to_ascii_lowercase other)

-- ---- pairs

pub record Pair : Type 0 where
  pub key : Bytes
  pub value : Bytes

-- a key is letters, at least one
abbrev pub is_key : Bytes → Bool
is_key key = not (is_empty key) && list_all is_ascii_alphabetic key

-- the byte 0x01, which ends a pair and the message, isn't in a value
abbrev pub is_value : Bytes → Bool
is_value value = not (list_any (λ c. c == 1) value)

abbrev pub is_pair : Pair → Bool
is_pair pair = is_key pair.key && is_value pair.value

abbrev pub pair_text : Pair → Bytes
pair_text pair = pair.key ++ 61 ∷ pair.value

-- each is ended by 0x01
abbrev pub written_pairs : List Pair → Bytes
written_pairs pairs = flat_map (λ pair. pair_text pair ++ 1 ∷ []) pairs

-- the values of the pairs whose key is `auth`
abbrev pub auth_values : List Pair → List Bytes
auth_values [] = []
auth_values (pair ∷ pairs) = if same_letters pair.key (codes "auth") then pair.value ∷ auth_values pairs else auth_values pairs

-- ---- the message

pub record BearerMessage : Type 0 where
  -- what the client says of channel binding: `n` or `y`
  pub flag : ℕ
  -- the authorization identity, or empty
  pub authzid : Bytes
  pub pairs : List Pair
  -- the authentication scheme and the token (RFC 6750, section 2.1)
  pub scheme : Bytes
  pub token : Bytes

-- the text is this message: the header (gs2-header), 0x01, the pairs and 0x01, with the token in the one pair `auth`
pub record IsBearerMessage (text : Bytes) (m : BearerMessage) : Type 0 where
  pub spelled : text ≡ m.flag ∷ 44 ∷ (written_authzid m.authzid ++ 44 ∷ 1 ∷ (written_pairs m.pairs ++ 1 ∷ []))
  pub has_flag : ((m.flag == 110) || (m.flag == 121)) ≡ true
  pub has_authzid : is_authzid m.authzid ≡ true
  pub has_pairs : list_all is_pair m.pairs ≡ true
  pub presented : auth_values m.pairs ≡ (m.scheme ++ 32 ∷ m.token) ∷ []
  pub is_bearer : same_letters m.scheme (codes "Bearer") ≡ true
