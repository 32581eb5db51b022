-- The line of a failure tells its code once.
use Rattle.std.proofs.Common.{◌≡◌, refl, ◌∙◌, ap, ap₂, Option, Some, None, List, [], ◌∷◌, ◌++◌, Bool, true, false, if◌then◌else◌, filter, append-nil, option_map}
use Rattle.std.specs.Prelude.{codes, decimal, drop, option_to_list}
use Rattle.da_base.specs.Words.{Bytes, is_empty}
use Rattle.da_fields.specs.FieldList.{field_text}
use Rattle.da_msgs.specs.Lines.{flag, optional_field}
use Rattle.da_msgs.specs.Replies.{code_word, reply_line}
use Rattle.da_msgs.specs.ToldCodes.{TellsItsCode, code_field, tells_code}
use Rattle.da_msgs.specs.declared.code.Code.{Code}
use Rattle.da_msgs.specs.declared.code.Code.TheVariants.{Temp, Disabled, Expired, Timeout, Protocol, Authz, Credentials}
use Rattle.da_tabline.proofs.SpellingLemmas.{line_fields-spelled}

-- those of two lists, one after the other
codes-append : (fields more : List Bytes) → filter tells_code (fields ++ more) ≡ filter tells_code fields ++ filter tells_code more
codes-append [] more = refl
codes-append (f ∷ fields) more = go (tells_code f) (codes-append fields more)
  where
    go : (b : Bool) → filter tells_code (fields ++ more) ≡ filter tells_code fields ++ filter tells_code more →
        (if b then (f ∷ filter tells_code (fields ++ more)) else filter tells_code (fields ++ more)) ≡ (if b then (f ∷ filter tells_code fields) else filter tells_code fields) ++ filter tells_code more
    go true e = ap (λ l. f ∷ l) e
    go false e = e

no_field : (f : Bytes) → tells_code f ≡ false → filter tells_code (f ∷ []) ≡ []
no_field f e = ap (λ (b : Bool). if b then (f ∷ []) else []) e

no_flag : (is_set : Bool) (word : Bytes) → tells_code word ≡ false → filter tells_code (flag is_set word) ≡ []
no_flag true word e = no_field word e
no_flag false word e = refl

no_user : (o : Option Bytes) → filter tells_code (optional_field (codes "user") o) ≡ []
no_user None = refl
no_user (Some user) = no_field (field_text (codes "user", user)) (go (is_empty user))
  where
    go : (b : Bool) → tells_code (if b then codes "user" else (codes "user" ++ (61 ∷ user))) ≡ false
    go true = refl
    go false = refl

no_reason : (o : Option Bytes) → filter tells_code (optional_field (codes "reason") o) ≡ []
no_reason None = refl
no_reason (Some reason) = no_field (field_text (codes "reason", reason)) (go (is_empty reason))
  where
    go : (b : Bool) → tells_code (if b then codes "reason" else (codes "reason" ++ (61 ∷ reason))) ≡ false
    go true = refl
    go false = refl

its_code : (o : Option Code) → filter tells_code (optional_field (codes "code") (option_map code_word o)) ≡ option_to_list (option_map code_field o)
its_code None = refl
its_code (Some Temp) = refl
its_code (Some Disabled) = refl
its_code (Some Expired) = refl
its_code (Some Timeout) = refl
its_code (Some Protocol) = refl
its_code (Some Authz) = refl
its_code (Some Credentials) = refl

abbrev both : {A : Type 0} → List A → List A → List A
both xs ys = xs ++ ys

module _ (user : Option Bytes) (authz temp disabled : Bool) (code : Option Code) (reason : Option Bytes) where
  abbrev first : List Bytes
  first = optional_field (codes "user") user

  abbrev second : List Bytes
  second = first ++ flag authz (codes "authz")

  abbrev third : List Bytes
  third = second ++ flag temp (codes "temp")

  abbrev fourth : List Bytes
  fourth = third ++ flag disabled (codes "user_disabled")

  abbrev fifth : List Bytes
  fifth = fourth ++ optional_field (codes "code") (option_map code_word code)

  none_before : filter tells_code fourth ≡ []
  none_before =
      codes-append third (flag disabled (codes "user_disabled"))
      ∙ ap₂ both
      (codes-append second (flag temp (codes "temp"))
      ∙ ap₂ both (codes-append first (flag authz (codes "authz")) ∙ ap₂ both (no_user user) (no_flag authz (codes "authz") refl)) (no_flag temp (codes "temp") refl))
      (no_flag disabled (codes "user_disabled") refl)

  told_fields : filter tells_code (fifth ++ optional_field (codes "reason") reason) ≡ option_to_list (option_map code_field code)
  told_fields =
      codes-append fifth (optional_field (codes "reason") reason)
      ∙ ap₂ both (codes-append fourth (optional_field (codes "code") (option_map code_word code)) ∙ ap₂ both none_before (its_code code)) (no_reason reason)
      ∙ append-nil (option_to_list (option_map code_field code))

pub a_failure_tells_its_code : TellsItsCode
unfolding reply_line
a_failure_tells_its_code id user authz temp disabled code reason =
    ap (λ fs. filter tells_code (drop 2 fs)) (line_fields-spelled (codes "FAIL") (decimal id ∷ (fifth user authz temp disabled code reason ++ optional_field (codes "reason") reason)))
    ∙ told_fields user authz temp disabled code reason
