-- One thing comes of a client's messages.
use Rattle.std.proofs.Common.{◌≡◌, ℕ, Bool, true, List, [], ◌∷◌, Option, Some, None, Result, Ok, Err, refl, sym, ap, ◌∙◌, subst, inl, inr}
use Rattle.std.specs.Prelude.{◌↔◌, IsTrue, IfOk}
use Rattle.std.specs.declared.alloc.AllocError.{AllocError}
use Rattle.std.proofs.lemmas.Option.{none-some}
use Rattle.da_base.specs.Words.{Bytes, passes_option}
use Rattle.da_schemes.specs.Stored.{StoredPassword}
use Rattle.da_fields.specs.declared.said.Said.{Said}
use Rattle.da_token.specs.declared.key.TokenKey.{TokenKey}
use Rattle.da_token.specs.declared.message.Bearer.{Bearer}
use Rattle.da_token.specs.declared.token.Token.{Token}
use Rattle.da_token.specs.Token.{is_right, IsRightText}
use Rattle.da_token.specs.OauthBearer.{OauthBearerSays}
use Rattle.da_token.specs.Reading.{token_read, is_right_text, bearer_read, first_says, oauth_bearer_says}
use Rattle.da_token.proofs.Options.{none_from}
use Rattle.da_token.proofs.TokenReading.{token_read-is, token_read_from}
use Rattle.da_token.proofs.MessageReading.{bearer_read-is, bearer_read_from}

-- ---- a token that is right

right_of : (keys : List TokenKey) (issuer : Bytes) (moment : ℕ) (text : Bytes) (read : Option Token) → token_read text ≡ read
    → passes_option (is_right keys issuer moment) read ≡ true → IsRightText keys issuer moment text
right_of keys issuer moment text None e h = cc
right_of keys issuer moment text (Some token) e h = record { token = token; is_token = token_read-is text token e; is_right_token = h }

pub right_when : (keys : List TokenKey) (issuer : Bytes) (moment : ℕ) (text : Bytes) → is_right_text keys issuer moment text ≡ true → IsRightText keys issuer moment text
right_when keys issuer moment text h = right_of keys issuer moment text (token_read text) refl h

pub right_from : (keys : List TokenKey) (issuer : Bytes) (moment : ℕ) (text : Bytes) → IsRightText keys issuer moment text → is_right_text keys issuer moment text ≡ true
right_from keys issuer moment text is =
    ap (passes_option (is_right keys issuer moment)) (token_read_from text is.token is.is_token) ∙ is.is_right_token

pub right_decided : (keys : List TokenKey) (issuer : Bytes) (moment : ℕ) (text : Bytes) (r : Result Bool AllocError)
    → IfOk r (λ answer. answer ≡ is_right_text keys issuer moment text) → IfOk r (λ answer. IsTrue answer ↔ IsRightText keys issuer moment text)
right_decided keys issuer moment text (Ok answer) e =
    (λ h. right_when keys issuer moment text (sym e ∙ h), λ is. e ∙ right_from keys issuer moment text is)
right_decided keys issuer moment text (Err fault) e = tt

-- ---- what comes of the messages

first_comes : (keys : List TokenKey) (issuer : Bytes) (start : ℕ) (text : Bytes) (more : List Bytes) (stored : Option StoredPassword) (read : Option Bearer) → bearer_read text ≡ read
    → OauthBearerSays keys issuer start (text ∷ more) stored (first_says keys issuer start stored more read)
first_comes keys issuer start text more stored None e = inr (record { none = λ bearer p. none-some bearer (sym e ∙ bearer_read_from text bearer p); bad = refl })
first_comes keys issuer start text more stored (Some bearer) e = inl (record { bearer = bearer; presents = bearer_read-is text bearer e; says = refl })

pub oauth_bearer_says-comes : (keys : List TokenKey) (issuer : Bytes) (start : ℕ) (messages : List Bytes) (stored : Option StoredPassword)
    → OauthBearerSays keys issuer start messages stored (oauth_bearer_says keys issuer start messages stored)
unfolding oauth_bearer_says
oauth_bearer_says-comes keys issuer start [] stored = refl
oauth_bearer_says-comes keys issuer start (text ∷ more) stored = first_comes keys issuer start text more stored (bearer_read text) refl

pub oauth_bearer_says-alone : (keys : List TokenKey) (issuer : Bytes) (start : ℕ) (messages : List Bytes) (stored : Option StoredPassword) (what : Said)
    → OauthBearerSays keys issuer start messages stored what → what ≡ oauth_bearer_says keys issuer start messages stored
unfolding oauth_bearer_says
oauth_bearer_says-alone keys issuer start [] stored what s = s
oauth_bearer_says-alone keys issuer start (text ∷ more) stored what (inl s) =
    s.says ∙ ap (first_says keys issuer start stored more) (sym (bearer_read_from text s.bearer s.presents))
oauth_bearer_says-alone keys issuer start (text ∷ more) stored what (inr s) =
    s.bad ∙ ap (first_says keys issuer start stored more) (sym (none_from (bearer_read text) (λ bearer e. s.none bearer (bearer_read-is text bearer e))))

pub oauth_bearer_says_from : (keys : List TokenKey) (issuer : Bytes) (start : ℕ) (messages : List Bytes) (stored : Option StoredPassword) (r : Result Said AllocError)
    → IfOk r (λ said. said ≡ oauth_bearer_says keys issuer start messages stored) → IfOk r (λ said. OauthBearerSays keys issuer start messages stored said)
oauth_bearer_says_from keys issuer start messages stored (Ok said) e =
    subst (OauthBearerSays keys issuer start messages stored) (sym e) (oauth_bearer_says-comes keys issuer start messages stored)
oauth_bearer_says_from keys issuer start messages stored (Err fault) e = tt
