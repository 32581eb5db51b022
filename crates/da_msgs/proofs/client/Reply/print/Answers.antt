use Rattle.std.proofs.Common.{ap, sym, ◌∙◌, ◌∷◌, [], ◌++◌, map}
use Rattle.std.specs.Prelude.{codes, decimal, option_map}
use Rattle.da_fields.specs.FieldList.{field_text, visible}
use Rattle.da_tabline.specs.Spelling.{more_fields}
use Rattle.da_msgs.specs.Lines.{optional_field, flag}
use Rattle.da_msgs.specs.Replies.{code_word, reply_line}
use Rattle.da_msgs.proofs.LineSpelling.{next}
use Rattle.da_msgs.proofs.client.Reply.print.Goals as goal

pub returns-in_ok-push_optional-in-Ok : goal.returns-in_ok-push_optional-in-Ok
unfolding reply_line
returns-in_ok-push_optional-in-Ok c =
    let id = decimal c.in-Ok.id in
    let user = field_text (codes "user", c.in-Ok.user) in
    let reported = map field_text (visible c.in-Ok.fields) in
    let shown =
    c.in_ok-push_pairs-in-Ok.ensures {u = tt} ∙ ap (λ v. c.push_pair.new.line.items ++ more_fields (map field_text v)) (c.in_ok-visible-in-Ok.ensures {u = tt}) in
    let one = next (codes "OK") (id ∷ []) (user ∷ []) _ _ (c.in_ok-line-in-Ok.ensures {u = tt}) (c.in_ok-push_pair-in-Ok.ensures {u = tt}) in
    let two = next (codes "OK") (id ∷ user ∷ []) reported _ _ one shown in
    next (codes "OK") (id ∷ user ∷ reported) (optional_field (codes "resp") c.in-Ok.last) _ _ two (c.in_ok-push_optional-in-Ok.ensures {u = tt})
    ∙ ap reply_line (sym c.in-Ok.is)

pub returns-in_ok-push_optional-in-Fail-2 : goal.returns-in_ok-push_optional-in-Fail-2
unfolding reply_line
returns-in_ok-push_optional-in-Fail-2 c =
    let id = decimal c.in-Fail.id in
    let user = optional_field (codes "user") c.in-Fail.user in
    let authz = flag c.in-Fail.authz (codes "authz") in
    let temp = flag c.in-Fail.temp (codes "temp") in
    let disabled = flag c.in-Fail.disabled (codes "user_disabled") in
    let code = optional_field (codes "code") (option_map code_word c.in-Fail.code) in
    let one = next (codes "FAIL") (id ∷ []) user _ _ (c.in_ok-line-in-Fail.ensures {u = tt}) (c.in_ok-push_optional-in-Fail.ensures {u = tt}) in
    let two = next (codes "FAIL") (id ∷ user) authz _ _ one (c.in_ok-push_flag-in-Fail.ensures {u = tt}) in
    let three = next (codes "FAIL") (id ∷ (user ++ authz)) temp _ _ two (c.in_ok-push_flag-in-Fail-2.ensures {u = tt}) in
    let four = next (codes "FAIL") (id ∷ (user ++ authz ++ temp)) disabled _ _ three (c.in_ok-push_flag-in-Fail-3.ensures {u = tt}) in
    let five = next (codes "FAIL") (id ∷ (user ++ authz ++ temp ++ disabled)) code _ _ four (c.in_ok-push_code-in-Fail.ensures {u = tt}) in
    next (codes "FAIL") (id ∷ (user ++ authz ++ temp ++ disabled ++ code)) (optional_field (codes "reason") c.in-Fail.reason) _ _ five
    (c.in_ok-push_optional-in-Fail-2.ensures {u = tt})
    ∙ ap reply_line (sym c.in-Fail.is)
