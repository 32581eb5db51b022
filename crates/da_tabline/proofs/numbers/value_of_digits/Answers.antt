use Rattle.std.proofs.Common.{◌≡◌, ◌∙◌, ◌≤◌, ◌^◌, ◌*◌, ◌+◌, ◌-◌, get_or, sym, arith}
use Rattle.std.specs.Str.Parse.{digits_value, digits_value_after}
use Rattle.std.proofs.lemmas.Bool.{lt-ltb}
use Rattle.std.proofs.lemmas.List.{at_drop_all}
use Rattle.da_tabline.proofs.NumberLemmas.{past_64_bits_at}
use Rattle.da_tabline.proofs.numbers.value_of_digits.Goals as goal

pub returns-in_err-checked_mul : goal.returns-in_err-checked_mul
returns-in_err-checked_mul c =
    let past : 2 ^ 64 ≤ c.loop-digit.value * 10 + (get_or c.args.digits.now c.loop-digit.digit-index 0 - 48) = omega (arith, c.in_err-checked_mul.ensures {u = tt}) in
    rw (c.from_residual.ensures, past_64_bits_at c.loop-digit.value c.args.digits.now c.loop-digit.digit-index (omega arith) c.loop-digit.invariant.digits c.loop-digit.invariant.value past)

pub returns-in_err-value : goal.returns-in_err-value
returns-in_err-value c =
    let past : 2 ^ 64 ≤ c.loop-digit.value * 10 + (get_or c.args.digits.now c.loop-digit.digit-index 0 - 48) = omega (arith, c.in_err-value.ensures {u = tt}, c.in_ok-checked_mul.ensures) in
    rw (c.from_residual-in_err-value.ensures, past_64_bits_at c.loop-digit.value c.args.digits.now c.loop-digit.digit-index (omega arith) c.loop-digit.invariant.digits c.loop-digit.invariant.value past)

pub returns : goal.returns
returns c =
    let value : c.loop-digit.value ≡ digits_value 10 c.args.digits.now =
    sym (at_drop_all (digits_value_after 10 c.loop-digit.value) c.args.digits.now c.loop-digit.digit-index (omega arith)) ∙ c.loop-digit.invariant.value in
    rw (← value, lt-ltb c.loop-digit.value (2 ^ 64) (omega arith))
