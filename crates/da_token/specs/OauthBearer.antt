-- The mechanism OAUTHBEARER (RFC 7628, section 3).
use Rattle.std.specs.Prelude.{◌≡◌, ◌⊎◌, ℕ, Bool, true, false, List, [], ◌∷◌, Option, Some, None, codes}
use Rattle.da_base.specs.Words.{Bytes}
use Rattle.da_schemes.specs.Stored.{StoredPassword}
use Rattle.da_fields.specs.declared.said.Said.{Said}
use Rattle.da_fields.specs.declared.said.Said.TheVariants.{Challenge, Need, Proof, Bad}
use Rattle.da_token.specs.declared.key.TokenKey.{TokenKey}
use Rattle.da_token.specs.declared.message.Bearer.{Bearer}
use Rattle.da_token.specs.Token.{IsToken, is_right}
use Rattle.da_token.specs.Message.{BearerMessage, IsBearerMessage}

-- the text is a message with this authorization identity and this token
pub record Presents (text : Bytes) (bearer : Bearer) : Type 0 where
  pub message : BearerMessage
  pub is_message : IsBearerMessage text message
  pub same_authzid : bearer.authzid ≡ message.authzid
  pub is_token : IsToken message.token bearer.token

-- what a client is told of a wrong token (RFC 7628, section 3.2.2)
abbrev pub error_status : Bytes
error_status = codes "{\"status\":\"invalid_token\"}"

-- what comes of a token that is right or wrong, and of the messages after it: a wrong one is told, and the next message,
-- whatever it is, ends it
abbrev pub judged_says : Bool → List Bytes → Said
judged_says true [] = Proof true None
judged_says true (text ∷ more) = Bad
judged_says false [] = Challenge error_status
judged_says false (text ∷ []) = Proof false None
judged_says false (text ∷ other ∷ more) = Bad

-- what comes of what was presented: without credentials the subject's are needed, with them the token is judged as it
-- was when the request started
abbrev pub presented_says : List TokenKey → Bytes → ℕ → Option StoredPassword → Bearer → List Bytes → Said
presented_says keys issuer start None bearer more = Need bearer.token.claims.subject bearer.authzid None
presented_says keys issuer start (Some stored) bearer more = judged_says (is_right keys issuer start bearer.token) more

-- the first message presents a token, and this comes of it and what follows
pub record PresentedSays (keys : List TokenKey) (issuer : Bytes) (start : ℕ) (stored : Option StoredPassword) (text : Bytes) (more : List Bytes) (what : Said) : Type 0 where
  pub bearer : Bearer
  pub presents : Presents text bearer
  pub says : what ≡ presented_says keys issuer start stored bearer more

-- the first message presents no token, which is Bad
pub record PresentsNone (text : Bytes) (what : Said) : Type 0 where
  pub none : (bearer : Bearer) → Presents text bearer → ⊥
  pub bad : what ≡ Bad

-- what comes of the messages so far, in a request that started at this moment
abbrev pub OauthBearerSays : List TokenKey → Bytes → ℕ → List Bytes → Option StoredPassword → Said → Type 0
OauthBearerSays keys issuer start [] stored what = what ≡ Challenge []
OauthBearerSays keys issuer start (text ∷ more) stored what =
    PresentedSays keys issuer start stored text more what ⊎ PresentsNone text what
