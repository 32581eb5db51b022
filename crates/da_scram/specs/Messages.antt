-- The messages of SCRAM (RFC 5802, sections 5.1 and 7), as they are written.
use Rattle.std.specs.Prelude.{◌≡◌, ℕ, Bool, true, false, ◌&&◌, ◌||◌, not, List, [], ◌∷◌, ◌++◌, length, flat_map, if◌then◌else◌, nat_le, nat_lt, ◌==◌, codes}
use Rattle.std.specs.List.{list_all, list_any}
use Rattle.da_base.specs.Words.{Bytes, to_base64}

-- ---- names

abbrev pub written_letter : ℕ → Bytes
written_letter c = if c == 44 then codes "=2C" else if c == 61 then codes "=3D" else c ∷ []

-- a name as it is written: a comma and an equals sign escaped
abbrev pub written : Bytes → Bytes
written name = flat_map written_letter name

-- a name isn't empty and has no NUL
abbrev pub is_name : Bytes → Bool
is_name [] = false
is_name (c ∷ cs) = list_all (λ d. not (d == 0)) (c ∷ cs)

-- an authorization identity that isn't there is empty
abbrev pub is_authzid : Bytes → Bool
is_authzid [] = true
is_authzid (c ∷ cs) = is_name (c ∷ cs)

-- ---- nonces

-- 1 to 256 printable characters but the comma
abbrev pub is_nonce : Bytes → Bool
is_nonce text = nat_le 1 (length text) && nat_le (length text) 256 && list_all (λ c. nat_le 33 c && nat_le c 126 && not (c == 44)) text

-- ---- extensions

abbrev pub is_letter : ℕ → Bool
is_letter c = (nat_le 65 c && nat_le c 90) || (nat_le 97 c && nat_le c 122)

-- an extension: a letter, an equals sign and a text without comma
abbrev pub is_extension : Bytes → Bool
is_extension (c ∷ d ∷ text) = is_letter c && (d == 61) && not (list_any (λ e. e == 44) text)
is_extension _ = false

-- each with a comma before it
abbrev pub listed : List Bytes → Bytes
listed extensions = flat_map (λ extension. 44 ∷ extension) extensions

-- ---- the client's first message

pub record FirstMessage : Type 0 where
  -- what the client says of channel binding: `n` or `y`
  pub flag : ℕ
  -- the authorization identity, or empty
  pub authzid : Bytes
  pub name : Bytes
  pub nonce : Bytes
  pub extensions : List Bytes

abbrev pub written_authzid : Bytes → Bytes
written_authzid [] = []
written_authzid (c ∷ cs) = codes "a=" ++ written (c ∷ cs)

-- the header (gs2-header), which the client repeats in its last message
abbrev pub header : FirstMessage → Bytes
header m = m.flag ∷ (codes "," ++ written_authzid m.authzid ++ codes ",")

-- the message without its header (client-first-message-bare)
abbrev pub first_bare : FirstMessage → Bytes
first_bare m = codes "n=" ++ written m.name ++ codes ",r=" ++ m.nonce ++ listed m.extensions

abbrev pub is_first_message : FirstMessage → Bool
is_first_message m =
    ((m.flag == 110) || (m.flag == 121)) && is_authzid m.authzid && is_name m.name && is_nonce m.nonce && list_all is_extension m.extensions

-- the text is this message
pub record IsFirst (text : Bytes) (m : FirstMessage) : Type 0 where
  pub spelled : text ≡ header m ++ first_bare m
  pub is_right : is_first_message m ≡ true

-- ---- the client's last message

pub record FinalMessage : Type 0 where
  pub extensions : List Bytes
  pub proof : Bytes

-- 32 bytes
abbrev pub is_proof : Bytes → Bool
is_proof proof = (length proof == 32) && list_all (λ byte. nat_lt byte 256) proof

-- what the message begins with: the header of the first one in base64, and the nonces of both
abbrev pub final_front : Bytes → Bytes → Bytes → Bytes
final_front gs2_header nonce server_nonce = codes "c=" ++ to_base64 gs2_header ++ codes ",r=" ++ nonce ++ server_nonce

-- the message without its proof (client-final-message-without-proof)
abbrev pub final_without_proof : FirstMessage → Bytes → FinalMessage → Bytes
final_without_proof first server_nonce m = final_front (header first) first.nonce server_nonce ++ listed m.extensions

abbrev pub is_final_message : FinalMessage → Bool
is_final_message m = list_all is_extension m.extensions && is_proof m.proof

-- the text is this message, after this first message and under this nonce of the server
pub record IsFinal (first : FirstMessage) (server_nonce text : Bytes) (m : FinalMessage) : Type 0 where
  pub spelled : text ≡ final_without_proof first server_nonce m ++ codes ",p=" ++ to_base64 m.proof
  pub is_right : is_final_message m ≡ true
