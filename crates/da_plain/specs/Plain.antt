-- The mechanism PLAIN (RFC 4616, section 2): one message of three parts with NUL between them.
use Rattle.std.specs.Prelude.{◌≡◌, false, ◌||◌, List, [], ◌∷◌, ◌++◌, Some, None, if◌then◌else◌}
use Rattle.da_base.specs.Words.{Bytes, pieces, is_empty}
use Rattle.da_tabline.specs.Parts.{Lacks}
use Rattle.da_fields.specs.declared.said.Said.{Said}
use Rattle.da_fields.specs.declared.said.Said.TheVariants.{Challenge, Need, Proof, Bad}

-- a message: an authorization identity, which may be empty, an authentication identity and a password
pub record IsPlainMessage (message authzid name password : Bytes) : Type 0 where
  pub spelled : message ≡ authzid ++ 0 ∷ (name ++ 0 ∷ password)
  pub authzid_lacks_nul : Lacks 0 authzid
  pub name_lacks_nul : Lacks 0 name
  pub password_lacks_nul : Lacks 0 password
  pub has_name : is_empty name ≡ false
  pub has_password : is_empty password ≡ false

-- what comes of one message
abbrev pub PlainMessageSays : Bytes → Said → Type 0
PlainMessageSays message (Need name authzid (Some password)) = IsPlainMessage message authzid name password
PlainMessageSays message (Need name authzid None) = ⊥
PlainMessageSays message Bad = (authzid name password : Bytes) → IsPlainMessage message authzid name password → ⊥
PlainMessageSays message (Challenge text) = ⊥
PlainMessageSays message (Proof right last) = ⊥

-- what comes of the messages so far: an empty challenge asks for the one message
abbrev pub PlainSays : List Bytes → Said → Type 0
PlainSays [] what = what ≡ Challenge []
PlainSays (message ∷ []) what = PlainMessageSays message what
PlainSays (message ∷ more ∷ rest) what = what ≡ Bad

-- ---- the same, computed

abbrev pub plain_parts : List Bytes → Said
plain_parts (authzid ∷ name ∷ password ∷ []) = if is_empty name || is_empty password then Bad else Need name authzid (Some password)
plain_parts _ = Bad

unfoldable pub plain_says : List Bytes → Said
plain_says [] = Challenge []
plain_says (message ∷ []) = plain_parts (pieces 0 message)
plain_says (message ∷ more ∷ rest) = Bad
