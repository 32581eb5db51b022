-- What the cuts of a message are, which the readers of the messages hand on.
use Rattle.std.specs.Prelude.{◌≡◌, ℕ, List, [], ◌∷◌, ◌++◌, Option, Some, None, codes}
use Rattle.da_base.specs.Words.{Bytes}
use Rattle.da_scram.specs.Messages.{FirstMessage, FinalMessage, header, first_bare, final_front, listed}
use Rattle.da_scram.specs.Reading.{authzid_read, name_read, first_named, first_message, FinalParts, final_message}

-- ---- the first message

-- the text is on its form but for its names
pub record IsFirstCut (text gs2_header bare authzid name nonce : Bytes) : Type 0 where
  pub flag : ℕ
  pub extensions : List Bytes
  pub read : first_message text ≡ first_named flag (authzid_read authzid) (name_read name) nonce extensions
  pub header_is : gs2_header ≡ flag ∷ 44 ∷ (authzid ++ 44 ∷ [])
  pub bare_is : bare ≡ codes "n=" ++ name ++ codes ",r=" ++ nonce ++ listed extensions

-- the names that a first message of these parts has
abbrev pub AreNames : Bytes → Bytes → Option (Bytes × Bytes) → Type 0
AreNames authzid name None = (flag : ℕ) (nonce : Bytes) (extensions : List Bytes) → first_named flag (authzid_read authzid) (name_read name) nonce extensions ≡ None
AreNames authzid name (Some names) = (authzid_read authzid ≡ Some names.0) × (name_read name ≡ Some names.1)

-- the text is a first message of this header, this rest and this nonce
pub record ReadsFirst (text gs2_header bare nonce : Bytes) : Type 0 where
  pub message : FirstMessage
  pub read : first_message text ≡ Some message
  pub same_header : header message ≡ gs2_header
  pub same_bare : first_bare message ≡ bare
  pub same_nonce : message.nonce ≡ nonce

-- ---- the last message

-- what was read has the proof that is written so
pub record HasProof (parts : Option FinalParts) (written : Bytes) : Type 0 where
  pub extensions : List Bytes
  pub read : parts ≡ Some (record { extensions = extensions; written = written })

-- the text is a last message of this front and this proof
pub record ReadsFinal (gs2_header nonce server_nonce text without_proof proof : Bytes) : Type 0 where
  pub message : FinalMessage
  pub read : final_message gs2_header nonce server_nonce text ≡ Some message
  pub same_front : final_front gs2_header nonce server_nonce ++ listed message.extensions ≡ without_proof
  pub same_proof : message.proof ≡ proof
