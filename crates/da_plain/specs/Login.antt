-- The mechanism LOGIN: two prompts, and a message for each.
use Rattle.std.specs.Prelude.{◌≡◌, false, ◌||◌, List, [], ◌∷◌, Some, None, if◌then◌else◌, codes}
use Rattle.da_base.specs.Words.{Bytes, is_empty}
use Rattle.da_fields.specs.declared.said.Said.{Said}
use Rattle.da_fields.specs.declared.said.Said.TheVariants.{Challenge, Need, Proof, Bad}

-- what a client is asked for: without a message its user name, and after a name its password
abbrev pub IsPrompt : List Bytes → Bytes → Type 0
IsPrompt [] text = text ≡ codes "Username:"
IsPrompt (name ∷ []) text = (is_empty name ≡ false) × (text ≡ codes "Password:")
IsPrompt (name ∷ password ∷ rest) text = ⊥

-- the messages are a user name and a password, neither empty
pub record IsLogin (messages : List Bytes) (name password : Bytes) : Type 0 where
  pub spelled : messages ≡ name ∷ password ∷ []
  pub has_name : is_empty name ≡ false
  pub has_password : is_empty password ≡ false

-- what comes of the messages so far
abbrev pub LoginSays : List Bytes → Said → Type 0
LoginSays messages (Challenge text) = IsPrompt messages text
LoginSays messages (Need name authzid (Some password)) = IsLogin messages name password × (authzid ≡ [])
LoginSays messages (Need name authzid None) = ⊥
LoginSays messages (Proof right last) = ⊥
LoginSays messages Bad = ((text : Bytes) → IsPrompt messages text → ⊥) × ((name password : Bytes) → IsLogin messages name password → ⊥)

-- ---- the same, computed

abbrev pub name_says : Bytes → Said
name_says name = if is_empty name then Bad else Challenge (codes "Password:")

abbrev pub both_say : Bytes → Bytes → Said
both_say name password = if is_empty name || is_empty password then Bad else Need name [] (Some password)

unfoldable pub login_says : List Bytes → Said
login_says [] = Challenge (codes "Username:")
login_says (name ∷ []) = name_says name
login_says (name ∷ password ∷ []) = both_say name password
login_says (name ∷ password ∷ more ∷ rest) = Bad
