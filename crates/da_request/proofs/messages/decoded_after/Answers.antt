use Rattle.std.proofs.Common.{◌≡◌, ◌+◌, ◌∷◌, drop, sym, ap, ◌∙◌, arith}
use Rattle.std.proofs.lemmas.List.{drop_more}
use Rattle.da_base.specs.Words.{from_base64}
use Rattle.da_request.proofs.DecodedMessages.{one_more}
use Rattle.da_request.proofs.messages.decoded_after.Goals as goal

pub loop-text-preserved : goal.loop-text-preserved
loop-text-preserved c =
    let texts = c.args.texts.now in
    let i = c.loop-text.text-index in
    let text = c.text-item.result in
    let here : drop i texts ≡ text ∷ drop (i + 1) texts = drop_more texts i text (omega arith) ∙ ap (λ t. t ∷ drop (i + 1) texts) (sym c.text-item.is) in
    let read = ap from_base64 (sym c.bytes.ensures) ∙ sym c.in_ok-message.ensures ∙ c.in-Some.is in
    one_more c.loop-text.messages.items _ c.in-Some.message text (drop i texts) (drop (i + 1) texts) c.in_ok-push.ensures.items here read ∙ c.loop-text.invariant
