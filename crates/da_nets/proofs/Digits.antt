-- Numbers that digits of a base spell.
use Rattle.std.proofs.Common.{◌≡◌, ℕ, zero, suc, ◌+◌, ◌-◌, ◌*◌, ◌^◌, ◌<◌, ◌≤◌, List, [], ◌∷◌, ◌++◌, length, replicate, refl, sym, ap, ◌∙◌, add-one, length-append, arith}
use Rattle.std.proofs.Math.Nat.{mul-le-mul_left, mul-le-mul_right, pow-zero, pow-succ', pow-le-pow_right, one-le-pow}
use Rattle.std.proofs.lemmas.Nat.{pow-add}
use Rattle.std.proofs.lemmas.List.{length-replicate}
use Rattle.da_nets.specs.Addresses.{number_in}

pow_more : (base count : ℕ) → base ^ (count + 1) ≡ base * base ^ count
pow_more base count = ap (λ n. base ^ n) (add-one count) ∙ pow-succ' base count

-- one more digit fits one more place
pub digit_fits : (base value digit count : ℕ) → value < base ^ count → digit < base → base * value + digit < base ^ (count + 1)
digit_fits base value digit count small below =
    let more : base * (value + 1) ≤ base * base ^ count = mul-le-mul_left base (omega arith) in
    rw (pow_more base count) (omega (arith, more))

pub digit_fits_in : (base value digit count most : ℕ) → value < base ^ count → count < most → digit < base → base * value + digit < base ^ most
digit_fits_in base value digit count most small few below =
    let next = digit_fits base value digit count small below in
    let positive : 0 < base = omega arith in
    let within : count + 1 ≤ most = omega arith in
    let wide : base ^ (count + 1) ≤ base ^ most = pow-le-pow_right positive within in
    omega (arith, next, wide)

-- ---- groups of zero behind a number

pub zeros_fit : (value done groups : ℕ) → value * 65536 ^ groups < 2 ^ 128 → done < groups → (value * 65536 ^ done) * 65536 < 2 ^ 128
zeros_fit value done groups fits more =
    let within : done + 1 ≤ groups = omega arith in
    let positive : 0 < 65536 = omega arith in
    let wide : value * 65536 ^ (done + 1) ≤ value * 65536 ^ groups = mul-le-mul_left value (pow-le-pow_right positive within) in
    let next : value * 65536 ^ (done + 1) ≡ value * (65536 * 65536 ^ done) = ap (λ n. value * n) (pow_more 65536 done) in
    omega (arith, wide, next)

pub zeros_more : (value done : ℕ) → (value * 65536 ^ done) * 65536 ≡ value * 65536 ^ (done + 1)
zeros_more value done =
    let next : value * 65536 ^ (done + 1) ≡ value * (65536 * 65536 ^ done) = ap (λ n. value * n) (pow_more 65536 done) in
    omega (arith, next)

-- a number of few groups, with the groups of zero behind it that make eight
pub front_fits : (value count : ℕ) → value < 65536 ^ count → count ≤ 8 → value * 65536 ^ (8 - count) + 65536 ^ (8 - count) ≤ 2 ^ 128
front_fits value count small few =
    let product : (value + 1) * 65536 ^ (8 - count) ≤ 65536 ^ count * 65536 ^ (8 - count) = mul-le-mul_right (65536 ^ (8 - count)) (omega arith) in
    let whole : 65536 ^ (count + (8 - count)) ≡ 65536 ^ count * 65536 ^ (8 - count) = pow-add 65536 count (8 - count) in
    let eight : count + (8 - count) ≡ 8 = omega arith in
    let all : 65536 ^ (count + (8 - count)) ≡ 65536 ^ 8 = ap (λ n. 65536 ^ n) eight in
    omega (arith, product, whole, all)

pub front_alone_fits : (value count : ℕ) → value < 65536 ^ count → count ≤ 8 → value * 65536 ^ (8 - count) < 2 ^ 128
front_alone_fits value count small few =
    let positive : 1 ≤ 65536 ^ (8 - count) = one-le-pow (8 - count) 65536 (omega arith) in
    omega (arith, front_fits value count small few, positive)

pub both_fit : (value count back back_count : ℕ) → value < 65536 ^ count → back < 65536 ^ back_count → count + back_count ≤ 7 → value * 65536 ^ (8 - count) + back < 2 ^ 128
both_fit value count back back_count small back_small few =
    let positive : 0 < 65536 = omega arith in
    let within : back_count ≤ 8 - count = omega arith in
    let wide : 65536 ^ back_count ≤ 65536 ^ (8 - count) = pow-le-pow_right positive within in
    omega (arith, front_fits value count small (omega arith), wide)

-- ---- the number of one list after another

number_in-append : (base : ℕ) (xs ys : List ℕ) (value : ℕ) → number_in base (xs ++ ys) value ≡ number_in base ys (number_in base xs value)
number_in-append base [] ys value = refl
number_in-append base (x ∷ xs) ys value = number_in-append base xs ys (base * value + x)

number_in-from : (base : ℕ) (ys : List ℕ) (value : ℕ) → number_in base ys value ≡ value * base ^ length ys + number_in base ys 0
number_in-from base [] value = let here : value ≡ value * base ^ 0 + 0 = omega (arith, ap (λ n. value * n) (pow-zero base)) in here
number_in-from base (y ∷ ys) value =
    let here = number_in-from base ys (base * value + y) in
    let none = number_in-from base ys (base * 0 + y) in
    let next : value * base ^ suc (length ys) ≡ value * (base * base ^ length ys) = ap (λ n. value * n) (pow-succ' base (length ys)) in
    omega (arith, here, none, next)

number_in-zeros : (base count : ℕ) → number_in base (replicate count 0) 0 ≡ 0
number_in-zeros base zero = refl
number_in-zeros base (suc count) =
    let same : base * 0 + 0 ≡ 0 = omega arith in
    ap (number_in base (replicate count 0)) same ∙ number_in-zeros base count

number_in-more_zeros : (base count value : ℕ) → number_in base (replicate count 0) value ≡ value * base ^ count
number_in-more_zeros base count value =
    let zeros : List ℕ = replicate count 0 in
    let here : number_in base zeros value ≡ value * base ^ length zeros + number_in base zeros 0 = number_in-from base zeros value in
    let none : number_in base zeros 0 ≡ 0 = number_in-zeros base count in
    let many : length zeros ≡ count = length-replicate count 0 in
    let places : value * base ^ length zeros ≡ value * base ^ count = ap (λ n. value * base ^ n) many in
    omega (arith, here, none, places)

pub length-joined : (front back : List ℕ) → length front + length back ≤ 7 → length (front ++ replicate (8 - (length front + length back)) 0 ++ back) ≡ 8
length-joined front back few =
    simp (length-append, length-replicate) (omega arith)

pub number_in-joined : (front back : List ℕ) → length front + length back ≤ 7
    → number_in 65536 (front ++ replicate (8 - (length front + length back)) 0 ++ back) 0 ≡ number_in 65536 front 0 * 65536 ^ (8 - length front) + number_in 65536 back 0
number_in-joined front back few =
    let count : ℕ = 8 - (length front + length back) in
    let value : ℕ = number_in 65536 front 0 in
    let with_zeros : number_in 65536 (front ++ replicate count 0) 0 ≡ value * 65536 ^ count = number_in-append 65536 front (replicate count 0) 0 ∙ number_in-more_zeros 65536 count value in
    let product : 65536 ^ (count + length back) ≡ 65536 ^ count * 65536 ^ length back = pow-add 65536 count (length back) in
    let places : count + length back ≡ 8 - length front = omega arith in
    let whole : value * 65536 ^ (8 - length front) ≡ value * (65536 ^ count * 65536 ^ length back) = ap (λ n. value * n) (ap (λ n. 65536 ^ n) (sym places) ∙ product) in
    let here : number_in 65536 (front ++ replicate count 0 ++ back) 0 ≡ (value * 65536 ^ count) * 65536 ^ length back + number_in 65536 back 0 =
    number_in-append 65536 (front ++ replicate count 0) back 0 ∙ ap (number_in 65536 back) with_zeros ∙ number_in-from 65536 back (value * 65536 ^ count) in
    omega (arith, here, whole)
