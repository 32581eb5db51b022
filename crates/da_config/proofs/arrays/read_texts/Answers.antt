use Rattle.std.proofs.Common.{◌≡◌, ◌+◌, [], ◌∷◌, ◌++◌, drop, Some, sym, ap, ◌∙◌, arith}
use Rattle.toml.specs.Data.{as_str}
use Rattle.toml.specs.View.{view, items_view}
use Rattle.da_base.specs.Words.{Bytes}
use Rattle.da_config.specs.Parts.{texts_in}
use Rattle.da_config.proofs.Prepending.{prepended}
use Rattle.da_config.proofs.Steps.{view-item, texts_in-next}
use Rattle.da_config.proofs.arrays.read_texts.Goals as goal

pub loop-value-preserved : goal.loop-value-preserved
loop-value-preserved c =
    let values = c.args.array.now in
    let i = c.loop-value.value-index in
    let value = c.value-item.result in
    let front = c.loop-value.texts.items in
    let rest = items_view (drop (i + 1) values) in
    let here = view-item values i value (omega arith) c.value-item.is in
    let is : as_str (view value) ≡ Some c.in-Some.text.now = sym c.in-Some.ensures in
    let next = ap (λ items. prepended front (texts_in items)) here ∙ texts_in-next front (view value) c.in-Some.text.now rest is in
    let pushed = c.in_ok-push.ensures.items ∙ ap (λ (t : Bytes). front ++ t ∷ []) c.in_ok-text_of.ensures in
    ap (λ texts. prepended texts (texts_in rest)) pushed ∙ sym next ∙ c.loop-value.invariant
