-- A message is read as it is spelled.
use Rattle.std.proofs.Common.{◌≡◌, ℕ, Bool, true, false, cond, not, ◌||◌, [], ◌∷◌, ◌++◌, map, Option, Some, None, option_map, option_and_then, is_some, eqb, codes, refl, sym, ap, ◌∙◌, inl, inr}
use Rattle.std.specs.List.{list_all}
use Rattle.std.specs.Char.{to_ascii_lowercase}
use Rattle.std.proofs.lemmas.Bool.{cases_Bool, eqb-true, and_parts}
use Rattle.std.proofs.lemmas.List.Elements.{All-nil, All-cons}
use Rattle.std.proofs.lemmas.Option.{same_Some, option_and_then_some}
use Rattle.std.proofs.lemmas.Slice.Eq.{bytes_eq-Decides}
use Rattle.da_base.specs.Words.{Bytes, pieces, before_byte, after_byte, after_front}
use Rattle.da_tabline.specs.Parts.{Lacks}
use Rattle.da_tabline.proofs.PartLemmas.{before_byte_at, after_byte_at, after_front_some}
use Rattle.da_scram.specs.Messages.{is_authzid, written_authzid}
use Rattle.da_scram.specs.Reading.{flag_read, authzid_read}
use Rattle.da_scram.proofs.Commas.{Lacks-written_authzid}
use Rattle.da_scram.proofs.NameReading.{authzid_some, authzid_from}
use Rattle.da_token.specs.declared.message.Bearer.{Bearer}
use Rattle.da_token.specs.declared.token.Token.{Token}
use Rattle.da_token.specs.Message.{BearerMessage, is_pair, written_pairs, auth_values, same_letters}
use Rattle.da_token.specs.OauthBearer.{Presents}
use Rattle.da_token.specs.Reading.{auth_after, bearer_token, token_after, bearer_of, bearer_with, body_after, bearer_after_flag, bearer_read, token_read}
use Rattle.da_token.proofs.Options.{cond_option}
use Rattle.da_token.proofs.TokenReading.{token_read-is, token_read_from}
use Rattle.da_token.proofs.PairReading.{IsBody, auth-is, auth_from, cut_whole}

-- ---- the header

abbrev is_flag : ℕ → Bool
is_flag flag = (eqb flag 110) || (eqb flag 121)

flag_some : (text : Bytes) → is_some (flag_read text) ≡ true → (flag : ℕ) × (text ≡ flag ∷ []) × (is_flag flag ≡ true)
flag_some [] h = cc
flag_some (c ∷ []) h =
    elim (cases_Bool (is_flag c)) [
      | inl e ↦ (c, refl, e)
      | inr e ↦ let never : false ≡ true = rw e at h in cc
    ]
flag_some (c ∷ d ∷ cs) h = cc

flag_read_from : (flag : ℕ) → is_flag flag ≡ true → is_some (flag_read (flag ∷ [])) ≡ true
flag_read_from flag h = ap (λ b. is_some (cond b (Some flag) None)) h

no_comma_flag : (flag : ℕ) → is_flag flag ≡ true → Lacks 44 (flag ∷ [])
no_comma_flag flag h =
    All-cons (λ c. eqb c 44 ≡ false) flag []
    (elim (cases_Bool (eqb flag 44)) [
      | inl e ↦ let same : is_flag flag ≡ false = ap is_flag (eqb-true flag 44 e) in cc
      | inr e ↦ e
    ]) (All-nil (λ c. eqb c 44 ≡ false))

-- ---- the token's text

-- the value is credentials of the scheme Bearer with this token
record IsCredentials (value token : Bytes) : Type 0 where
  pub scheme : Bytes
  pub spelled : value ≡ scheme ++ 32 ∷ token
  pub is_bearer : same_letters scheme (codes "Bearer") ≡ true

bearer_token-is : (value token : Bytes) → bearer_token value ≡ Some token → IsCredentials value token
bearer_token-is value token h =
    let parts = cond_option (same_letters (before_byte 32 value) (codes "Bearer")) (after_byte 32 value) token h in
    record { scheme = before_byte 32 value; spelled = cut_whole 32 value token parts.1; is_bearer = parts.0 }

Lacks-lower : (text : Bytes) → list_all (λ c. not (eqb c 32)) (map to_ascii_lowercase text) ≡ true → Lacks 32 text
Lacks-lower [] h = All-nil (λ c. eqb c 32 ≡ false)
Lacks-lower (c ∷ cs) h =
    let parts = and_parts (not (eqb (to_ascii_lowercase c) 32)) (list_all (λ d. not (eqb d 32)) (map to_ascii_lowercase cs)) h in
    All-cons (λ d. eqb d 32 ≡ false) c cs
    (elim (cases_Bool (eqb c 32)) [
      | inl e ↦ let same : not (eqb (to_ascii_lowercase c) 32) ≡ false = ap (λ d. not (eqb (to_ascii_lowercase d) 32)) (eqb-true c 32 e) in cc
      | inr e ↦ e
    ]) (Lacks-lower cs parts.1)

Lacks-scheme : (scheme : Bytes) → same_letters scheme (codes "Bearer") ≡ true → Lacks 32 scheme
Lacks-scheme scheme h =
    let same = (bytes_eq-Decides (map to_ascii_lowercase scheme) (map to_ascii_lowercase (codes "Bearer"))).0 h in
    Lacks-lower scheme (ap (list_all (λ c. not (eqb c 32))) same)

bearer_token_from : (scheme token : Bytes) → same_letters scheme (codes "Bearer") ≡ true → bearer_token (scheme ++ 32 ∷ token) ≡ Some token
bearer_token_from scheme token h =
    let lacks = Lacks-scheme scheme h in
    ap (λ s. cond (same_letters s (codes "Bearer")) (after_byte 32 (scheme ++ 32 ∷ token)) None) (before_byte_at 32 scheme token lacks)
    ∙ ap (λ b. cond b (after_byte 32 (scheme ++ 32 ∷ token)) None) h
    ∙ after_byte_at 32 scheme token lacks

-- the body has this token in its one pair `auth`
record HasToken (body token : Bytes) : Type 0 where
  pub value : Bytes
  pub is_body : IsBody body value
  pub credentials : IsCredentials value token

token_after-is : (body token : Bytes) → token_after body ≡ Some token → HasToken body token
token_after-is body token h =
    option_and_then_some bearer_token (auth_after None (pieces 1 body)) token h
    (λ value is more. record { value = value; is_body = auth-is body value is; credentials = bearer_token-is value token more })

-- ---- the whole

-- the text after the second comma has this token
record HasBody (text : Option Bytes) (token : Bytes) : Type 0 where
  pub body : Bytes
  pub spelled : text ≡ Some (1 ∷ body)
  pub has : HasToken body token

body-is : (rest : Option Bytes) (token : Bytes) → option_and_then token_after (body_after rest) ≡ Some token → HasBody rest token
body-is None token h = cc
body-is (Some rest) token h =
    option_and_then_some token_after (after_front (1 ∷ []) rest) token h
    (λ body is more. record { body = body; spelled = ap Some (after_front_some (1 ∷ []) rest body is); has = token_after-is body token more })

-- the parts of what was read
record HasParts (authzid text : Option Bytes) (bearer : Bearer) : Type 0 where
  pub token : Bytes
  pub authzid_is : authzid ≡ Some bearer.authzid
  pub text_is : text ≡ Some token
  pub token_is : token_read token ≡ Some bearer.token

mapped : (authzid token : Bytes) (read : Option Token) (bearer : Bearer) → token_read token ≡ read → option_map (bearer_of authzid) read ≡ Some bearer
    → HasParts (Some authzid) (Some token) bearer
mapped authzid token None bearer e h = cc
mapped authzid token (Some read) bearer e h =
    let same = same_Some (bearer_of authzid read) bearer h in
    record {
      token = token;
      authzid_is = ap (λ (b : Bearer). Some b.authzid) same;
      text_is = refl;
      token_is = e ∙ ap (λ (b : Bearer). Some b.token) same;
    }

bearer_with-some : (authzid text : Option Bytes) (bearer : Bearer) → bearer_with authzid text ≡ Some bearer → HasParts authzid text bearer
bearer_with-some (Some authzid) (Some text) bearer h = mapped authzid text (token_read text) bearer refl h
bearer_with-some None text bearer h = cc
bearer_with-some (Some authzid) None bearer h = cc

presents : (text rest : Bytes) (bearer : Bearer) (flag : ℕ) → text ≡ flag ∷ 44 ∷ rest → is_flag flag ≡ true → bearer_after_flag rest ≡ Some bearer → Presents text bearer
presents text rest bearer flag spelled right h =
    let parts = bearer_with-some (authzid_read (before_byte 44 rest)) (option_and_then token_after (body_after (after_byte 44 rest))) bearer h in
    let authzid = authzid_some (before_byte 44 rest) bearer.authzid parts.authzid_is in
    let after = body-is (after_byte 44 rest) parts.token parts.text_is in
    let body = after.has.is_body in
    let credentials = after.has.credentials in
    record {
      message = record { flag = flag; authzid = bearer.authzid; pairs = body.pairs; scheme = credentials.scheme; token = parts.token };
      is_message = record {
        spelled = spelled ∙ ap (λ l. flag ∷ 44 ∷ l) (cut_whole 44 rest (1 ∷ after.body) after.spelled
            ∙ ap (λ l. l ++ 44 ∷ 1 ∷ after.body) authzid.1 ∙ ap (λ l. written_authzid bearer.authzid ++ 44 ∷ 1 ∷ l) body.spelled);
        has_flag = right;
        has_authzid = authzid.0;
        has_pairs = body.right;
        presented = body.one ∙ ap (λ value. value ∷ []) credentials.spelled;
        is_bearer = credentials.is_bearer;
      };
      same_authzid = refl;
      is_token = token_read-is parts.token bearer.token parts.token_is;
    }

pub bearer_read-is : (text : Bytes) (bearer : Bearer) → bearer_read text ≡ Some bearer → Presents text bearer
unfolding bearer_read
bearer_read-is text bearer h =
    let parts = cond_option (is_some (flag_read (before_byte 44 text))) (option_and_then bearer_after_flag (after_byte 44 text)) bearer h in
    let flag = flag_some (before_byte 44 text) parts.0 in
    option_and_then_some bearer_after_flag (after_byte 44 text) bearer parts.1
    (λ rest is more. presents text rest bearer flag.0 (cut_whole 44 text rest is ∙ ap (λ l. l ++ 44 ∷ rest) flag.1) flag.2 more)

-- ---- and the other way

token_after_from : (m : BearerMessage) → list_all is_pair m.pairs ≡ true → auth_values m.pairs ≡ (m.scheme ++ 32 ∷ m.token) ∷ [] → same_letters m.scheme (codes "Bearer") ≡ true
    → token_after (written_pairs m.pairs ++ 1 ∷ []) ≡ Some m.token
token_after_from m right one is_bearer =
    ap (option_and_then bearer_token) (auth_from m.pairs (m.scheme ++ 32 ∷ m.token) right one) ∙ bearer_token_from m.scheme m.token is_bearer

after_flag_from : (authzid body token : Bytes) (bearer : Bearer) → is_authzid authzid ≡ true → token_after body ≡ Some token → bearer.authzid ≡ authzid → token_read token ≡ Some bearer.token
    → bearer_after_flag (written_authzid authzid ++ 44 ∷ 1 ∷ body) ≡ Some bearer
after_flag_from authzid body token bearer right has same read =
    let lacks = Lacks-written_authzid authzid in
    let rest = written_authzid authzid ++ 44 ∷ 1 ∷ body in
    ap (λ piece. bearer_with (authzid_read piece) (option_and_then token_after (body_after (after_byte 44 rest)))) (before_byte_at 44 (written_authzid authzid) (1 ∷ body) lacks)
    ∙ ap (λ piece. bearer_with piece (option_and_then token_after (body_after (after_byte 44 rest)))) (authzid_from authzid right)
    ∙ ap (λ after. bearer_with (Some authzid) (option_and_then token_after (body_after after))) (after_byte_at 44 (written_authzid authzid) (1 ∷ body) lacks)
    ∙ ap (bearer_with (Some authzid)) has
    ∙ ap (option_map (bearer_of authzid)) read
    ∙ ap (λ a. Some (bearer_of a bearer.token)) (sym same)

bearer_read_at : (flag : ℕ) (rest : Bytes) → is_flag flag ≡ true → bearer_read (flag ∷ 44 ∷ rest) ≡ bearer_after_flag rest
unfolding bearer_read
bearer_read_at flag rest right =
    let lacks = no_comma_flag flag right in
    ap (λ piece. cond (is_some (flag_read piece)) (option_and_then bearer_after_flag (after_byte 44 (flag ∷ 44 ∷ rest))) None) (before_byte_at 44 (flag ∷ []) rest lacks)
    ∙ ap (λ b. cond b (option_and_then bearer_after_flag (after_byte 44 (flag ∷ 44 ∷ rest))) None) (flag_read_from flag right)
    ∙ ap (option_and_then bearer_after_flag) (after_byte_at 44 (flag ∷ []) rest lacks)

pub bearer_read_from : (text : Bytes) (bearer : Bearer) → Presents text bearer → bearer_read text ≡ Some bearer
bearer_read_from text bearer p =
    let m = p.message in
    let is = p.is_message in
    ap bearer_read is.spelled
    ∙ bearer_read_at m.flag (written_authzid m.authzid ++ 44 ∷ 1 ∷ (written_pairs m.pairs ++ 1 ∷ [])) is.has_flag
    ∙ after_flag_from m.authzid (written_pairs m.pairs ++ 1 ∷ []) m.token bearer is.has_authzid (token_after_from m is.has_pairs is.presented is.is_bearer) p.same_authzid
    (token_read_from m.token bearer.token p.is_token)
