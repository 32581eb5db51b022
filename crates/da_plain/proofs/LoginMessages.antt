-- One thing comes of the messages of LOGIN.
use Rattle.std.proofs.Common.{◌≡◌, true, false, ◌||◌, List, [], ◌∷◌, Some, None, Result, Ok, Err, refl, sym, ap, ◌∙◌, subst, inl, inr}
use Rattle.std.specs.Prelude.{IfOk}
use Rattle.std.specs.declared.alloc.AllocError.{AllocError}
use Rattle.std.proofs.lemmas.Bool.{cases_Bool, or_parts, or_from}
use Rattle.da_base.specs.Words.{Bytes, is_empty}
use Rattle.da_fields.specs.declared.said.Said.{Said}
use Rattle.da_fields.specs.declared.said.Said.TheVariants.{Challenge, Need, Proof, Bad}
use Rattle.da_plain.specs.Login.{IsPrompt, IsLogin, LoginSays, name_says, both_say, login_says}

says_name : (name : Bytes) → LoginSays (name ∷ []) (name_says name)
says_name name =
    elim (cases_Bool (is_empty name)) [
      | inl empty ↦
          rw empty (
            (λ text p. let full : is_empty name ≡ false = p.0 in cc),
            λ other password l. let same : name ∷ [] ≡ other ∷ password ∷ [] = l.spelled in cc,
          )
      | inr full ↦ rw full (full, refl)
    ]

no_login : (name password : Bytes) → (is_empty name || is_empty password) ≡ true → (other more : Bytes) → IsLogin (name ∷ password ∷ []) other more → ⊥
no_login name password empty other more l =
    let same : name ∷ password ∷ [] ≡ other ∷ more ∷ [] = l.spelled in
    let same_name : name ≡ other = cc in
    let same_password : password ≡ more = cc in
    let full : (is_empty name || is_empty password) ≡ false = or_from _ _ (ap is_empty same_name ∙ l.has_name) (ap is_empty same_password ∙ l.has_password) in
    cc

says_both : (name password : Bytes) → LoginSays (name ∷ password ∷ []) (both_say name password)
says_both name password =
    elim (cases_Bool (is_empty name || is_empty password)) [
      | inl empty ↦ rw empty ((λ text p. p), no_login name password empty)
      | inr full ↦
          let parts = or_parts (is_empty name) (is_empty password) full in
          rw full (record { spelled = refl; has_name = parts.0; has_password = parts.1 }, refl)
    ]

pub says-login_says : (messages : List Bytes) → LoginSays messages (login_says messages)
unfolding login_says
says-login_says [] = refl
says-login_says (name ∷ []) = says_name name
says-login_says (name ∷ password ∷ []) = says_both name password
says-login_says (name ∷ password ∷ more ∷ rest) =
    ((λ text p. p), λ other other_password l. let same : name ∷ password ∷ more ∷ rest ≡ other ∷ other_password ∷ [] = l.spelled in cc)

one_prompt : (messages : List Bytes) (text other : Bytes) → IsPrompt messages text → IsPrompt messages other → text ≡ other
one_prompt [] text other s t = s ∙ sym t
one_prompt (name ∷ []) text other s t = s.1 ∙ sym t.1
one_prompt (name ∷ password ∷ rest) text other s t = absurd s

no_prompt : (messages : List Bytes) (text name password : Bytes) → IsPrompt messages text → IsLogin messages name password → ⊥
no_prompt [] text name password s l = let same : ◌≡◌ {A = List Bytes} [] (name ∷ password ∷ []) = l.spelled in cc
no_prompt (first ∷ []) text name password s l = let same : first ∷ [] ≡ name ∷ password ∷ [] = l.spelled in cc
no_prompt (first ∷ second ∷ rest) text name password s l = s

one_login : (messages : List Bytes) (name password other more : Bytes) → IsLogin messages name password → IsLogin messages other more → name ∷ password ∷ [] ≡ other ∷ more ∷ []
one_login messages name password other more s t = sym s.spelled ∙ t.spelled

-- two things that come of the same messages are equal
one_of_login : (messages : List Bytes) (what other : Said) → LoginSays messages what → LoginSays messages other → what ≡ other
one_of_login messages (Challenge text) (Challenge other) s t = ap Challenge (one_prompt messages text other s t)
one_of_login messages (Challenge text) (Need name authzid (Some password)) s t = absurd (no_prompt messages text name password s t.0)
one_of_login messages (Challenge text) Bad s t = absurd (t.0 text s)
one_of_login messages (Need name authzid (Some password)) (Challenge text) s t = absurd (no_prompt messages text name password t s.0)
one_of_login messages (Need name authzid (Some password)) (Need other other_authzid (Some more)) s t =
    let same = one_login messages name password other more s.0 t.0 in
    let no_authzid : authzid ≡ other_authzid = s.1 ∙ sym t.1 in
    cc
one_of_login messages (Need name authzid (Some password)) Bad s t = absurd (t.1 name password s.0)
one_of_login messages Bad (Challenge text) s t = absurd (s.0 text t)
one_of_login messages Bad (Need name authzid (Some password)) s t = absurd (s.1 name password t.0)
one_of_login messages Bad Bad s t = refl
one_of_login messages (Need name authzid None) other s t = absurd s
one_of_login messages (Proof right last) other s t = absurd s
one_of_login messages what (Need name authzid None) s t = absurd t
one_of_login messages what (Proof right last) s t = absurd t

pub login_alone : (messages : List Bytes) (what : Said) → LoginSays messages what → what ≡ login_says messages
login_alone messages what s = one_of_login messages what _ s (says-login_says messages)

pub login_says_from : (messages : List Bytes) (r : Result Said AllocError) → IfOk r (λ said. said ≡ login_says messages) → IfOk r (λ said. LoginSays messages said)
login_says_from messages (Ok said) e = subst (LoginSays messages) (sym e) (says-login_says messages)
login_says_from messages (Err fault) e = tt
