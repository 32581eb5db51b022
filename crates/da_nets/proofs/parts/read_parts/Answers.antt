use Rattle.std.proofs.Common.{◌≡◌, ℕ, ◌<◌, ◌≤◌, ◌+◌, ◌*◌, ◌^◌, length, get_or, eqb, sym, ◌∙◌, ap, arith, rules, tests}
use Rattle.std.proofs.lemmas.List.{length_push}
use Rattle.std.proofs.lemmas.Iterator.Splits.{YieldsList-from_slice_split}
use Rattle.std.proofs.lemmas.Iterator.Consumers.{YieldsList-turn, YieldsList-end}
use Rattle.std.specs.Slice.Iter.{split_callee}
use Rattle.da_base.specs.Words.{pieces}
use Rattle.da_nets.specs.declared.parts.Form.{Form}
use Rattle.da_nets.specs.declared.parts.Form.TheVariants.{Dotted, Grouped}
use Rattle.da_nets.specs.Forms.{base, most, separator}
use Rattle.da_nets.proofs.Digits.{digit_fits, digit_fits_in}
use Rattle.da_nets.proofs.Reading.{read_each-more, read_each-none, read_each-full, read_each-end}
use Rattle.da_nets.proofs.parts.read_parts.Goals as goal
use Rattle.da_nets.proofs.parts.read_parts.Goals.{In-Some, In-None, After-base}

next_piece : (c : In-Some) → (length c.loop-piece.yielded < length (pieces (separator c.args.form) c.args.text.now)) × (c.in-Some.piece.now ≡ get_or (pieces (separator c.args.form) c.args.text.now) (length c.loop-piece.yielded) c.in-Some.piece.now)
next_piece c =
    rw c.separator-separator.ensures at (YieldsList-turn (YieldsList-from_slice_split _ (λ b. eqb b c.separator-separator.result) c.args.text.now (cc) (cc) (ap split_callee c.into_iter-piece-iterator.ensures.into_iter_gives ∙ c.split-piece-items.ensures.closure) (λ x b q k. search (rules, tests)))
    c.loop-piece.yielded _ c.loop-piece.yielded_by _ _ c.in-Some.piece c.in-Some.is c.next.ensures.steps)

last_piece : (c : In-None) → length c.loop-piece.yielded ≡ length (pieces (separator c.args.form) c.args.text.now)
last_piece c =
    rw c.separator-separator.ensures at (YieldsList-end (YieldsList-from_slice_split _ (λ b. eqb b c.separator-separator.result) c.args.text.now (cc) (cc) (ap split_callee c.into_iter-piece-iterator.ensures.into_iter_gives ∙ c.split-piece-items.ensures.closure) (λ x b q k. search (rules, tests)))
    c.loop-piece.yielded _ c.loop-piece.yielded_by _ _ c.in-None.is c.next.ensures.steps).1

pub returns-in_err-part-clause-value : goal.returns-in_err-part-clause-value
returns-in_err-part-clause-value c =
    rw c.from_residual.ensures
    (sym (read_each-none c.args.form c.loop-piece.value c.loop-piece.count (pieces (separator c.args.form) c.args.text.now) (length c.loop-piece.yielded) c.in-Some.piece.now (next_piece (goal.at.returns-in_err-part-clause-value c).In-Some) (sym c.in_err-part.ensures.value)) ∙ c.loop-piece.invariant.value)

pub returns-then-count-most-clause-value : goal.returns-then-count-most-clause-value
returns-then-count-most-clause-value c =
    sym (read_each-full c.args.form c.loop-piece.value c.loop-piece.count (pieces (separator c.args.form) c.args.text.now) (length c.loop-piece.yielded) c.in-Some.piece.now (next_piece (goal.at.returns-then-count-most-clause-value c).In-Some) c.in_ok-part.part (sym c.in_ok-part.ensures.value) (c.if-count-most.true ∙ c.most.ensures)) ∙ c.loop-piece.invariant.value

below_most : (form : Form) (count : ℕ) → count ≤ most form → (count ≡ most form → ⊥) → count < most form
below_most form count within isnt = omega arith

fits : (form : Form) (value x : ℕ) → base form * value + x < base form ^ most form → base form * value + x < 2 ^ 128
fits Dotted value x h = omega (arith, h)
fits Grouped value x h = omega (arith, h)

sum_fits : (c : After-base) → base c.args.form * c.loop-piece.value + c.in_ok-part.part < 2 ^ 128
sum_fits c =
    let few = below_most c.args.form c.loop-piece.count c.loop-piece.invariant.count (λ e. c.if-count-most.false (e ∙ sym c.most.ensures)) in
    fits c.args.form c.loop-piece.value c.in_ok-part.part (digit_fits_in (base c.args.form) c.loop-piece.value c.in_ok-part.part c.loop-piece.count (most c.args.form) c.loop-piece.invariant.small few c.in_ok-part.ensures.small)

pub overflow_mul-value : goal.overflow_mul-value
overflow_mul-value c = rw c.base.ensures (omega (arith, sum_fits c))

pub overflow_add-value : goal.overflow_add-value
overflow_add-value c = rw c.base.ensures (omega (arith, sum_fits c))

pub loop-piece-preserved : goal.loop-piece-preserved
loop-piece-preserved c =
    let few = below_most c.args.form c.loop-piece.count c.loop-piece.invariant.count (λ e. c.if-count-most.false (e ∙ sym c.most.ensures)) in
    record {
      value = rw (c.base.ensures, length_push c.loop-piece.yielded c.in-Some.piece) (read_each-more c.args.form c.loop-piece.value c.loop-piece.count (pieces (separator c.args.form) c.args.text.now) (length c.loop-piece.yielded) c.in-Some.piece.now (next_piece (goal.at.loop-piece-preserved c).In-Some) c.in_ok-part.part (sym c.in_ok-part.ensures.value) ∙ c.loop-piece.invariant.value);
      small = rw c.base.ensures (digit_fits (base c.args.form) c.loop-piece.value c.in_ok-part.part c.loop-piece.count c.loop-piece.invariant.small c.in_ok-part.ensures.small);
      count = omega (arith, few);
    }

pub returns-clause-value : goal.returns-clause-value
returns-clause-value c =
    sym (read_each-end c.args.form c.loop-piece.value c.loop-piece.count (pieces (separator c.args.form) c.args.text.now) (length c.loop-piece.yielded) (last_piece (goal.at.returns-clause-value c).In-None) c.loop-piece.invariant.count)
    ∙ c.loop-piece.invariant.value
