use Rattle.std.proofs.Common.{◌≡◌, ℕ, suc, ◌+◌, List, [], ◌∷◌, ◌++◌, length, Result, sym, ap, ◌∙◌, append_assoc, arith}
use Rattle.da_play.specs.declared.outputs.Outputs.{Outputs}
use Rattle.da_play.specs.declared.outputs.Refused.{Refused}
use Rattle.da_script.specs.Replies.{reply_text, replies_text}
use Rattle.da_script.proofs.laws.replies_are_printed_in_order.Goals as goal

replies_text-append : (n : ℕ) (replies more : List (Result Outputs Refused)) → replies_text n (replies ++ more) ≡ replies_text n replies ++ replies_text (n + length replies) more
replies_text-append n [] more = ap (λ m. replies_text m more) (omega arith)
replies_text-append n (reply ∷ replies) more =
    let number : suc n + length replies ≡ n + suc (length replies) = omega arith in
    ap (λ l. reply_text n reply ++ l) (replies_text-append (suc n) replies more ∙ ap (λ m. replies_text (suc n) replies ++ replies_text m more) number)
    ∙ sym (append_assoc (reply_text n reply) (replies_text (suc n) replies) (replies_text (n + suc (length replies)) more))

pub returns : goal.returns
returns c = replies_text-append
