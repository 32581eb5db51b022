-- The parts of an address, read one after another.
use Rattle.std.proofs.Common.{◌≡◌, ℕ, suc, zero-add, add-zero, ◌+◌, ◌-◌, ◌*◌, ◌^◌, ◌<◌, ◌≤◌, true, false, List, [], ◌∷◌, length, get_or, drop, leb, Option, Some, None, refl, sym, ap, ◌∙◌, inl, inr, arith}
use Rattle.std.specs.Prelude.{option_map, option_and_then, if◌then◌else◌, nat_le, ◌==◌}
use Rattle.std.proofs.lemmas.Bool.{cases_Bool, cases_lt, leb-false, le-leb, lt-leb, ne_eqb, eq-eqb}
use Rattle.std.proofs.lemmas.List.{at_drop_more, at_drop_all}
use Rattle.da_base.specs.Words.{Bytes, after_byte, number_of}
use Rattle.da_tabline.specs.Parts.{IsCutAt}
use Rattle.da_nets.specs.declared.address.Ip.{Ip}
use Rattle.da_nets.specs.declared.address.Ip.TheVariants.{V4, V6}
use Rattle.da_nets.specs.declared.parts.Form.{Form}
use Rattle.da_nets.specs.declared.parts.Form.TheVariants.{Dotted, Grouped}
use Rattle.da_nets.specs.declared.parts.Parts.{Parts}
use Rattle.da_nets.specs.Addresses.{number_in, read_each, hex_value, hex_values, v4_of, v6_of, with_run, around_run, groups, ip4, ip6, ip6_around, has_colon, address, width}
use Rattle.da_nets.specs.Networks.{Network, network, network_with}
use Rattle.da_nets.proofs.Digits.{length-joined, number_in-joined}
use Rattle.da_nets.specs.Forms.{base, most, part, few, joined, some_v6}

-- ---- hexadecimal digits

map_more : (f : List ℕ → ℕ) (digit : ℕ) (digits : Option (List ℕ)) → option_map f (option_map (λ xs. digit ∷ xs) digits) ≡ option_map (λ xs. f (digit ∷ xs)) digits
map_more f digit None = refl
map_more f digit (Some digits) = refl

digit_more : (value digit : ℕ) (read : Option ℕ) (rest : Option (List ℕ)) → read ≡ Some digit → option_map (λ digits. number_in 16 digits value) (option_and_then (λ x. option_map (λ xs. x ∷ xs) rest) read) ≡ option_map (λ digits. number_in 16 digits (16 * value + digit)) rest
digit_more value digit read rest e = rw e (map_more (λ digits. number_in 16 digits value) digit rest)

pub hex_values-more : (value digit : ℕ) (text : Bytes) (i : ℕ) → i < length text → hex_value (get_or text i 0) ≡ Some digit
    → option_map (λ digits. number_in 16 digits (16 * value + digit)) (hex_values (drop (i + 1) text)) ≡ option_map (λ digits. number_in 16 digits value) (hex_values (drop i text))
hex_values-more value digit text i within e =
    sym (at_drop_more (λ rest. option_map (λ digits. number_in 16 digits value) (hex_values rest)) text i 0 within ∙ digit_more value digit (hex_value (get_or text i 0)) (hex_values (drop (i + 1) text)) e)

no_digit : (value : ℕ) (read : Option ℕ) (rest : Option (List ℕ)) → read ≡ None → option_map (λ digits. number_in 16 digits value) (option_and_then (λ x. option_map (λ xs. x ∷ xs) rest) read) ≡ None
no_digit value read rest e = rw e refl

pub hex_values-none : (value : ℕ) (text : Bytes) (i : ℕ) → i < length text → hex_value (get_or text i 0) ≡ None → option_map (λ digits. number_in 16 digits value) (hex_values (drop i text)) ≡ None
hex_values-none value text i within e =
    at_drop_more (λ rest. option_map (λ digits. number_in 16 digits value) (hex_values rest)) text i 0 within ∙ no_digit value (hex_value (get_or text i 0)) (hex_values (drop (i + 1) text)) e

pub hex_values-end : (value : ℕ) (text : Bytes) (i : ℕ) → length text ≤ i → option_map (λ digits. number_in 16 digits value) (hex_values (drop i text)) ≡ Some value
hex_values-end value text i past = at_drop_all (λ rest. option_map (λ digits. number_in 16 digits value) (hex_values rest)) text i past

-- ---- parts

abbrev pub counted : Form → ℕ → List ℕ → ℕ → Option Parts
counted form value parts n = if nat_le n (most form) then Some (record { value = number_in (base form) parts value; count = n }) else None

-- the parts that are left, after so many of this value
abbrev pub more_parts : Form → ℕ → ℕ → List ℕ → Option Parts
more_parts form value count parts = counted form value parts (count + length parts)

pub more_parts-start : (form : Form) (parts : Option (List ℕ)) → option_and_then (more_parts form 0 0) parts ≡ option_and_then (few form) parts
more_parts-start form None = refl
more_parts-start form (Some parts) = ap (counted form 0 parts) (zero-add (length parts))

more_parts-cons : (form : Form) (value count x : ℕ) (parts : Option (List ℕ)) → option_and_then (more_parts form value count) (option_map (λ xs. x ∷ xs) parts) ≡ option_and_then (more_parts form (base form * value + x) (count + 1)) parts
more_parts-cons form value count x None = refl
more_parts-cons form value count x (Some parts) =
    let same : count + suc (length parts) ≡ (count + 1) + length parts = omega arith in
    ap (counted form (base form * value + x) parts) same

part_more : (form : Form) (value count x : ℕ) (read : Option ℕ) (parts : Option (List ℕ)) → read ≡ Some x → option_and_then (more_parts form value count) (option_and_then (λ y. option_map (λ xs. y ∷ xs) parts) read) ≡ option_and_then (more_parts form (base form * value + x) (count + 1)) parts
part_more form value count x read parts e = rw e (more_parts-cons form value count x parts)

part_none : (form : Form) (value count : ℕ) (read : Option ℕ) (parts : Option (List ℕ)) → read ≡ None → option_and_then (more_parts form value count) (option_and_then (λ y. option_map (λ xs. y ∷ xs) parts) read) ≡ None
part_none form value count read parts e = rw e refl

full_cons : (form : Form) (value x : ℕ) (parts : Option (List ℕ)) → option_and_then (more_parts form value (most form)) (option_map (λ xs. x ∷ xs) parts) ≡ None
full_cons form value x None = refl
full_cons form value x (Some parts) = rw (lt-leb (most form + length (x ∷ parts)) (most form) (omega arith)) refl

part_full : (form : Form) (value x : ℕ) (read : Option ℕ) (parts : Option (List ℕ)) → read ≡ Some x → option_and_then (more_parts form value (most form)) (option_and_then (λ y. option_map (λ xs. y ∷ xs) parts) read) ≡ None
part_full form value x read parts e = rw e (full_cons form value x parts)

module _ (form : Form) (value count : ℕ) (texts : List Bytes) (n : ℕ) (text : Bytes) (at : (n < length texts) × (text ≡ get_or texts n text)) where
  abbrev left : Option Parts
  left = option_and_then (more_parts form value count) (read_each (part form) (drop n texts))

  left_is : left ≡ option_and_then (more_parts form value count) (option_and_then (λ y. option_map (λ xs. y ∷ xs) (read_each (part form) (drop (n + 1) texts))) (part form text))
  left_is =
      at_drop_more (λ rest. option_and_then (more_parts form value count) (read_each (part form) rest)) texts n text at.0
      ∙ ap (λ t. option_and_then (more_parts form value count) (read_each (part form) (t ∷ drop (n + 1) texts))) (sym at.1)

  pub read_each-more : (x : ℕ) → part form text ≡ Some x → option_and_then (more_parts form (base form * value + x) (count + 1)) (read_each (part form) (drop (n + 1) texts)) ≡ left
  read_each-more x e = sym (left_is ∙ part_more form value count x (part form text) (read_each (part form) (drop (n + 1) texts)) e)

  pub read_each-none : part form text ≡ None → left ≡ None
  read_each-none e = left_is ∙ part_none form value count (part form text) (read_each (part form) (drop (n + 1) texts)) e

  pub read_each-full : (x : ℕ) → part form text ≡ Some x → count ≡ most form → left ≡ None
  read_each-full x e full =
      left_is ∙ ap (λ k. option_and_then (more_parts form value k) (option_and_then (λ y. option_map (λ xs. y ∷ xs) (read_each (part form) (drop (n + 1) texts))) (part form text))) full
      ∙ part_full form value x (part form text) (read_each (part form) (drop (n + 1) texts)) e

pub read_each-end : (form : Form) (value count : ℕ) (texts : List Bytes) (n : ℕ) → n ≡ length texts → count ≤ most form → option_and_then (more_parts form value count) (read_each (part form) (drop n texts)) ≡ Some (record { value = value; count = count })
read_each-end form value count texts n past within =
    at_drop_all (λ rest. option_and_then (more_parts form value count) (read_each (part form) rest)) texts n (omega arith)
    ∙ ap (counted form value []) (add-zero count) ∙ (rw (le-leb count (most form) within) refl)

-- ---- from the parts to the address

abbrev pub v4_from : Parts → Option Ip
v4_from parts = if parts.count == 4 then Some (V4 parts.value) else None

abbrev pub v6_from : Parts → Option Ip
v6_from parts = if parts.count == 8 then Some (V6 parts.value) else None

pub v4_from-yes : (parts : Parts) → parts.count ≡ 4 → v4_from parts ≡ Some (V4 parts.value)
v4_from-yes parts e = rw (eq-eqb parts.count 4 e) refl

pub v4_from-no : (parts : Parts) → (parts.count ≡ 4 → ⊥) → v4_from parts ≡ None
v4_from-no parts e = rw (ne_eqb parts.count 4 e) refl

pub v6_from-yes : (parts : Parts) → parts.count ≡ 8 → v6_from parts ≡ Some (V6 parts.value)
v6_from-yes parts e = rw (eq-eqb parts.count 8 e) refl

pub v6_from-no : (parts : Parts) → (parts.count ≡ 8 → ⊥) → v6_from parts ≡ None
v6_from-no parts e = rw (ne_eqb parts.count 8 e) refl

few-yes : (form : Form) (parts : List ℕ) → leb (length parts) (most form) ≡ true → few form parts ≡ Some (record { value = number_in (base form) parts 0; count = length parts })
few-yes form parts e = rw e refl

few-no : (form : Form) (parts : List ℕ) → leb (length parts) (most form) ≡ false → few form parts ≡ None
few-no form parts e = rw e refl

v4_of-many : (parts : List ℕ) → 4 < length parts → v4_of parts ≡ None
v4_of-many parts many = rw (ne_eqb (length parts) 4 (λ e. omega arith)) refl

v6_of-many : (parts : List ℕ) → 8 < length parts → v6_of parts ≡ None
v6_of-many parts many = rw (ne_eqb (length parts) 8 (λ e. omega arith)) refl

pub v4_from-few : (parts : Option (List ℕ)) → option_and_then v4_from (option_and_then (few Dotted) parts) ≡ option_and_then v4_of parts
v4_from-few None = refl
v4_from-few (Some parts) =
    elim (cases_Bool (leb (length parts) 4)) [
      | inl e ↦ ap (option_and_then v4_from) (few-yes Dotted parts e)
      | inr e ↦ ap (option_and_then v4_from) (few-no Dotted parts e) ∙ sym (v4_of-many parts (leb-false _ _ e))
    ]

v6_from-few : (parts : Option (List ℕ)) → option_and_then v6_from (option_and_then (few Grouped) parts) ≡ option_and_then v6_of parts
v6_from-few None = refl
v6_from-few (Some parts) =
    elim (cases_Bool (leb (length parts) 8)) [
      | inl e ↦ ap (option_and_then v6_from) (few-yes Grouped parts e)
      | inr e ↦ ap (option_and_then v6_from) (few-no Grouped parts e) ∙ sym (v6_of-many parts (leb-false _ _ e))
    ]

pub ip6-whole : (text : Bytes) (read : Option Parts) → None ≡ around_run text → read ≡ option_and_then (few Grouped) (groups text) → option_and_then v6_from read ≡ ip6 text
ip6-whole text read none e = ap (option_and_then v6_from) e ∙ v6_from-few (groups text) ∙ ap (ip6_around text) none

-- ---- a run of zero groups

abbrev pub run_from : Option Parts → Option Parts → Option Ip
run_from front back = option_and_then (λ f. option_and_then (λ b. some_v6 (joined f b)) back) front

with_run-many : (front back : List ℕ) → 7 < length front + length back → with_run front back ≡ None
with_run-many front back many = rw (lt-leb (length front + length back) 7 many) refl

joined-many : (front back : Parts) → 7 < front.count + back.count → some_v6 (joined front back) ≡ None
joined-many front back many = rw (lt-leb (front.count + back.count) 7 many) refl

pub with_run-few : (front back : List ℕ) → length front + length back ≤ 7 → with_run front back ≡ Some (V6 (number_in 65536 front 0 * 65536 ^ (8 - length front) + number_in 65536 back 0))
with_run-few front back few =
    rw (le-leb (length front + length back) 7 few, eq-eqb _ 8 (length-joined front back few)) (ap (λ n. Some (V6 n)) (number_in-joined front back few))

joined-few : (front back : Parts) → front.count + back.count ≤ 7 → some_v6 (joined front back) ≡ Some (V6 (front.value * 65536 ^ (8 - front.count) + back.value))
joined-few front back few = rw (le-leb (front.count + back.count) 7 few) refl

no_run : (front : List ℕ) (back : Option (List ℕ)) → 8 < length front → option_and_then (λ b. with_run front b) back ≡ None
no_run front None many = refl
no_run front (Some back) many = with_run-many front back (omega (arith, many))

run_of : (front back : List ℕ) → run_from (Some (record { value = number_in 65536 front 0; count = length front })) (Some (record { value = number_in 65536 back 0; count = length back })) ≡ with_run front back
run_of front back =
    elim (cases_lt 7 (length front + length back)) [
      | inl many ↦ joined-many (record { value = number_in 65536 front 0; count = length front }) (record { value = number_in 65536 back 0; count = length back }) many ∙ sym (with_run-many front back many)
      | inr few ↦ joined-few (record { value = number_in 65536 front 0; count = length front }) (record { value = number_in 65536 back 0; count = length back }) few ∙ sym (with_run-few front back few)
    ]

run_behind : (front : List ℕ) (back : Option (List ℕ)) → run_from (Some (record { value = number_in 65536 front 0; count = length front })) (option_and_then (few Grouped) back) ≡ option_and_then (λ b. with_run front b) back
run_behind front None = refl
run_behind front (Some back) =
    elim (cases_Bool (leb (length back) 8)) [
      | inl e ↦ ap (run_from (Some (record { value = number_in 65536 front 0; count = length front }))) (few-yes Grouped back e) ∙ run_of front back
      | inr e ↦ ap (run_from (Some (record { value = number_in 65536 front 0; count = length front }))) (few-no Grouped back e) ∙ sym (with_run-many front back (omega (arith, leb-false _ _ e)))
    ]

run_from-few : (front back : Option (List ℕ)) → run_from (option_and_then (few Grouped) front) (option_and_then (few Grouped) back) ≡ option_and_then (λ f. option_and_then (λ b. with_run f b) back) front
run_from-few None back = refl
run_from-few (Some front) back =
    elim (cases_Bool (leb (length front) 8)) [
      | inl e ↦ ap (λ f. run_from f (option_and_then (few Grouped) back)) (few-yes Grouped front e) ∙ run_behind front back
      | inr e ↦ ap (λ f. run_from f (option_and_then (few Grouped) back)) (few-no Grouped front e) ∙ sym (no_run front back (leb-false _ _ e))
    ]

pub ip6-run : (text front back : Bytes) (f b : Option Parts) → Some (front, back) ≡ around_run text → f ≡ option_and_then (few Grouped) (groups front) → b ≡ option_and_then (few Grouped) (groups back) → run_from f b ≡ ip6 text
ip6-run text front back f b some front_is back_is =
    ap (λ x. run_from x b) front_is ∙ ap (run_from (option_and_then (few Grouped) (groups front))) back_is
    ∙ run_from-few (groups front) (groups back) ∙ ap (ip6_around text) some

-- ---- either version

pub address-v6 : (text : Bytes) → has_colon text ≡ true → ip6 text ≡ address text
unfolding address
address-v6 text e = rw e refl

pub address-v4 : (text : Bytes) → has_colon text ≡ false → ip4 text ≡ address text
unfolding address
address-v4 text e = rw e refl

-- ---- networks

pub network-cut : (text front : Bytes) (back : Option Bytes) → IsCutAt 47 text front back → network_with (address front) back ≡ network text
unfolding network
network-cut text front back cut =
    ap (network_with (address front)) (sym cut.after) ∙ ap (λ f. network_with (address f) (after_byte 47 text)) (sym cut.before)

pub network_with-none : (ip : Ip) (most_bits : ℕ) (bits : Bytes) → most_bits ≡ width ip → None ≡ number_of most_bits bits → None ≡ network_with (Some ip) (Some bits)
network_with-none ip most_bits bits same none =
    let with_bits : ℕ → Network = λ n. record { ip = ip; bits = n } in
    ap (option_map with_bits) (none ∙ ap (λ most. number_of most bits) same)

pub network_with-some : (ip : Ip) (most_bits n : ℕ) (bits : Bytes) → most_bits ≡ width ip → Some n ≡ number_of most_bits bits → Some (record { ip = ip; bits = n }) ≡ network_with (Some ip) (Some bits)
network_with-some ip most_bits n bits same some =
    let with_bits : ℕ → Network = λ n. record { ip = ip; bits = n } in
    ap (option_map with_bits) (some ∙ ap (λ most. number_of most bits) same)
