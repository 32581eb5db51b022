-- The spellings of an address are what it is read from.
use Rattle.std.proofs.Common.{◌≡◌, ℕ, ◌+◌, ◌-◌, ◌<◌, Bool, true, false, cond, ◌&&◌, List, [], ◌∷◌, ◌++◌, length, replicate, leb, eqb, Option, Some, None, refl, sym, ap, subst, ◌∙◌, inl, inr, append_assoc, arith}
use Rattle.std.specs.Prelude.{option_map, option_and_then}
use Rattle.std.specs.Char.{is_ascii_digit}
use Rattle.std.specs.Str.{all_ascii_digits}
use Rattle.std.specs.Str.Parse.{digits_value}
use Rattle.std.specs.List.{join_with_byte, list_any}
use Rattle.std.proofs.lemmas.Bool.{cases_Bool, both_ways, and_parts, or_right, or_from, eqb-true, eq-eqb, leb-true}
use Rattle.std.proofs.lemmas.Option.{same_Some, cond_some, option_and_then_some}
use Rattle.std.proofs.lemmas.List.{append-nil}
use Rattle.std.proofs.lemmas.List.Elements.{All-nil, All-cons, All-head, All-tail}
use Rattle.std.proofs.lemmas.List.Folds.{list_any-append, list_any_none}
use Rattle.std.proofs.lemmas.List.Splits.{slice_split_none, slice_split_at, join_with_byte-slice_split}
use Rattle.da_base.specs.Words.{Bytes, pieces, is_numeral, number_of}
use Rattle.da_tabline.specs.Parts.{Lacks}
use Rattle.da_nets.specs.declared.address.Ip.{Ip}
use Rattle.da_nets.specs.declared.address.Ip.TheVariants.{V4, V6}
use Rattle.da_nets.specs.Addresses.{number_in, read_each, v4_of, v6_of, with_run, hex_value, hex_values, group, groups, put_first, around_run, ip4, ip6_around, has_colon, address}
use Rattle.da_nets.specs.Spellings.{IsJoined, IsDotted, IsWhole, IsShortened, Spells}
use Rattle.da_nets.proofs.Runs.{behind, behind-nil}
use Rattle.da_nets.proofs.Digits.{number_in-joined}
use Rattle.da_nets.proofs.Reading.{address-v4, address-v6, with_run-few}

-- ---- lists that are read

mapped : {P : Type 0} (x : ℕ) (read : Option (List ℕ)) (numbers : List ℕ) → option_map (λ xs. x ∷ xs) read ≡ Some numbers → ((xs : List ℕ) → read ≡ Some xs → x ∷ xs ≡ numbers → P) → P
mapped x None numbers e next = let isnt : ◌≡◌ {A = Option (List ℕ)} None (Some numbers) = e in cc
mapped x (Some xs) numbers e next = next xs refl (same_Some _ _ e)

both_read : {P : Type 0} (first : Option ℕ) (others : Option (List ℕ)) (numbers : List ℕ) → option_and_then (λ x. option_map (λ xs. x ∷ xs) others) first ≡ Some numbers
    → ((x : ℕ) (xs : List ℕ) → first ≡ Some x → others ≡ Some xs → x ∷ xs ≡ numbers → P) → P
both_read None others numbers e next = let isnt : ◌≡◌ {A = Option (List ℕ)} None (Some numbers) = e in cc
both_read (Some x) others numbers e next = mapped x others numbers e (λ xs o s. next x xs refl o s)

-- ---- texts without a byte

-- each text has a property of its own
abbrev pub Each : (Bytes → Type 0) → List Bytes → Type 0
Each P [] = Unit {0}
Each P (text ∷ texts) = P text × Each P texts

each_read : (P : Bytes → Type 0) (read : Bytes → Option ℕ) → ((text : Bytes) (n : ℕ) → read text ≡ Some n → P text) → (texts : List Bytes) (numbers : List ℕ) → read_each read texts ≡ Some numbers → Each P texts
each_read P read has [] numbers e = tt
each_read P read has (text ∷ texts) numbers e =
    both_read (read text) (read_each read texts) numbers e (λ x xs first others whole. (has text x first, each_read P read has texts xs others))

pieces-join : (byte : ℕ) (text : Bytes) (texts : List Bytes) → Each (Lacks byte) (text ∷ texts) → pieces byte (join_with_byte byte (text ∷ texts)) ≡ text ∷ texts
pieces-join byte text [] lacks = slice_split_none (λ x. eqb x byte) text lacks.0
pieces-join byte text (next ∷ texts) lacks =
    slice_split_at (λ x. eqb x byte) text byte (join_with_byte byte (next ∷ texts)) lacks.0 (eq-eqb byte byte refl) ∙ ap (λ ps. text ∷ ps) (pieces-join byte next texts lacks.1)

-- ---- what digits are not

digit_isnt : (byte x : ℕ) → is_ascii_digit byte ≡ false → is_ascii_digit x ≡ true → eqb x byte ≡ false
digit_isnt byte x none is =
    elim (cases_Bool (eqb x byte)) [
      | inl e ↦ absurd (both_ways (is_ascii_digit byte) none (ap is_ascii_digit (sym (eqb-true x byte e)) ∙ is))
      | inr e ↦ e
    ]

digits_lack : (byte : ℕ) → is_ascii_digit byte ≡ false → (text : Bytes) → all_ascii_digits text ≡ true → Lacks byte text
digits_lack byte none [] h = All-nil (λ x. eqb x byte ≡ false)
digits_lack byte none (c ∷ cs) h =
    All-cons (λ x. eqb x byte ≡ false) c cs (digit_isnt byte c none (and_parts _ _ h).0) (digits_lack byte none cs (and_parts _ _ h).1)

digits_of_numeral : (text : Bytes) → is_numeral text ≡ true → all_ascii_digits text ≡ true
digits_of_numeral [] h = cc
digits_of_numeral (c ∷ []) h = let is : is_ascii_digit c ≡ true = h in rw is refl
digits_of_numeral (c ∷ d ∷ cs) h = (and_parts _ _ h).1

number_lacks : (byte : ℕ) → is_ascii_digit byte ≡ false → (text : Bytes) (n : ℕ) → number_of 255 text ≡ Some n → Lacks byte text
number_lacks byte none text n e =
    let parts = cond_some (is_numeral text && leb (digits_value 10 text) 255) (digits_value 10 text) n e in
    digits_lack byte none text (digits_of_numeral text (and_parts _ _ parts.0).0)

-- ---- what groups are not

hex_isnt : (x digit : ℕ) → hex_value x ≡ Some digit → eqb x 58 ≡ false
hex_isnt x digit e =
    elim (cases_Bool (eqb x 58)) [
      | inl is ↦ let isnt : ◌≡◌ {A = Option ℕ} None (Some digit) = ap hex_value (sym (eqb-true x 58 is)) ∙ e in cc
      | inr other ↦ other
    ]

hex_lacks : (text : Bytes) (digits : List ℕ) → hex_values text ≡ Some digits → Lacks 58 text
hex_lacks [] digits e = All-nil (λ x. eqb x 58 ≡ false)
hex_lacks (c ∷ cs) digits e =
    both_read (hex_value c) (hex_values cs) digits e (λ x xs first others whole. All-cons (λ y. eqb y 58 ≡ false) c cs (hex_isnt c x first) (hex_lacks cs xs others))

cond_of : (b : Bool) (o : Option ℕ) (n : ℕ) → cond b o None ≡ Some n → (b ≡ true) × (o ≡ Some n)
cond_of true o n e = (refl, e)
cond_of false o n e = let isnt : ◌≡◌ {A = Option ℕ} None (Some n) = e in cc

spelled_digits : (value : List ℕ → ℕ) (read : Option (List ℕ)) (n : ℕ) → option_map value read ≡ Some n → (digits : List ℕ) × (read ≡ Some digits)
spelled_digits value None n e = let isnt : ◌≡◌ {A = Option ℕ} None (Some n) = e in cc
spelled_digits value (Some digits) n e = (digits, refl)

-- a group has no colon, and at least one digit
pub record IsSolid (text : Bytes) : Type 0 where
  pub lacks : Lacks 58 text
  pub some : 0 < length text

group_is_solid : (text : Bytes) (n : ℕ) → group text ≡ Some n → IsSolid text
group_is_solid text n e =
    let parts = cond_of (leb 1 (length text) && leb (length text) 4) (option_map (λ digits. number_in 16 digits 0) (hex_values text)) n e in
    let digits = spelled_digits (λ digits. number_in 16 digits 0) (hex_values text) n parts.1 in
    record { lacks = hex_lacks text digits.0 digits.1; some = leb-true 1 (length text) (and_parts _ _ parts.0).0 }

each_lacks : (texts : List Bytes) → Each IsSolid texts → Each (Lacks 58) texts
each_lacks [] solid = tt
each_lacks (text ∷ texts) solid = (solid.0.lacks, each_lacks texts solid.1)

-- ---- joined texts are read again

read_again : (byte : ℕ) (read : Bytes → Option ℕ) → ((text : Bytes) (n : ℕ) → read text ≡ Some n → Lacks byte text) → (text : Bytes) (texts : List Bytes) (numbers : List ℕ) → text ≡ join_with_byte byte texts → read_each read texts ≡ Some numbers → 0 < length numbers → read_each read (pieces byte text) ≡ Some numbers
read_again byte read has text [] numbers spelled e some = let none : [] ≡ numbers = same_Some _ _ e in absurd (omega (arith, ap length none))
read_again byte read has text (first ∷ texts) numbers spelled e some =
    ap (read_each read) (ap (pieces byte) spelled ∙ pieces-join byte first texts (each_read (Lacks byte) read has (first ∷ texts) numbers e)) ∙ e

split_is_joined : (byte : ℕ) (read : Bytes → Option ℕ) (text : Bytes) (numbers : List ℕ) → read_each read (pieces byte text) ≡ Some numbers → IsJoined byte read text numbers
split_is_joined byte read text numbers e = record { texts = pieces byte text; spelled = sym (join_with_byte-slice_split byte text); read_as = e }

-- ---- the first two colons in a row

put_first-behind : (c : ℕ) (front : Bytes) (parts : Option (Bytes × Bytes)) → option_map (put_first c) (option_map (behind front) parts) ≡ option_map (behind (c ∷ front)) parts
put_first-behind c front None = refl
put_first-behind c front (Some parts) = refl

joined-behind : (front back : Bytes) (parts : Option (Bytes × Bytes)) → option_map (behind front) (option_map (put_first 58) (option_map (behind back) parts)) ≡ option_map (behind (front ++ 58 ∷ back)) parts
joined-behind front back None = refl
joined-behind front back (Some parts) = ap (λ whole. Some (whole, parts.1)) (sym (append_assoc front (58 ∷ back) parts.0))

past_byte : (x : ℕ) (rest : Bytes) → eqb x 58 ≡ false → around_run (x ∷ rest) ≡ option_map (put_first x) (around_run rest)
past_byte x [] e = refl
past_byte x (d ∷ rest) e = rw e refl

past_text : (text rest : Bytes) → Lacks 58 text → around_run (text ++ rest) ≡ option_map (behind text) (around_run rest)
past_text [] rest lacks = sym (behind-nil (around_run rest))
past_text (x ∷ text) rest lacks =
    past_byte x (text ++ rest) (All-head (λ y. eqb y 58 ≡ false) x text lacks)
    ∙ ap (option_map (put_first x)) (past_text text rest (All-tail (λ y. eqb y 58 ≡ false) x text lacks)) ∙ put_first-behind x text (around_run rest)

-- a colon before another byte is no run
past_colon : (text rest : Bytes) → IsSolid text → around_run (58 ∷ text ++ rest) ≡ option_map (put_first 58) (around_run (text ++ rest))
past_colon [] rest solid = absurd (omega (arith, solid.some))
past_colon (d ∷ text) rest solid = let other : eqb d 58 ≡ false = All-head (λ y. eqb y 58 ≡ false) d text solid.lacks in rw other refl

past_joined : (text : Bytes) (texts : List Bytes) (rest : Bytes) → Each IsSolid (text ∷ texts) → around_run (join_with_byte 58 (text ∷ texts) ++ rest) ≡ option_map (behind (join_with_byte 58 (text ∷ texts))) (around_run rest)
past_joined text [] rest solid = past_text text rest solid.0.lacks
past_joined text (next ∷ texts) rest solid =
    let others = join_with_byte 58 (next ∷ texts) in
    ap around_run (append_assoc text (58 ∷ others) rest) ∙ past_text text (58 ∷ others ++ rest) solid.0.lacks
    ∙ ap (option_map (behind text)) (colon_before next texts rest solid.1.0 ∙ ap (option_map (put_first 58)) (past_joined next texts rest solid.1))
    ∙ joined-behind text others (around_run rest)
  where
    colon_before : (next : Bytes) (texts : List Bytes) (rest : Bytes) → IsSolid next → around_run (58 ∷ join_with_byte 58 (next ∷ texts) ++ rest) ≡ option_map (put_first 58) (around_run (join_with_byte 58 (next ∷ texts) ++ rest))
    colon_before next [] rest solid = past_colon next rest solid
    colon_before next (other ∷ texts) rest solid =
        let whole = append_assoc next (58 ∷ join_with_byte 58 (other ∷ texts)) rest in
        ap (λ t. around_run (58 ∷ t)) whole ∙ past_colon next (58 ∷ join_with_byte 58 (other ∷ texts) ++ rest) solid ∙ ap (λ t. option_map (put_first 58) (around_run t)) (sym whole)

around_run-spelled : (text : Bytes) (parts : Bytes × Bytes) → around_run text ≡ Some parts → text ≡ parts.0 ++ 58 ∷ 58 ∷ parts.1
around_run-spelled [] parts e = let isnt : ◌≡◌ {A = Option (Bytes × Bytes)} None (Some parts) = e in cc
around_run-spelled (c ∷ []) parts e = let isnt : ◌≡◌ {A = Option (Bytes × Bytes)} None (Some parts) = e in cc
around_run-spelled (c ∷ d ∷ rest) parts e = run_or_not c d rest parts (eqb c 58 && eqb d 58) refl e (around_run-spelled (d ∷ rest))
  where
    further : (c : ℕ) (rest : Bytes) (parts : Bytes × Bytes) (read : Option (Bytes × Bytes)) → option_map (put_first c) read ≡ Some parts → ((q : Bytes × Bytes) → read ≡ Some q → rest ≡ q.0 ++ 58 ∷ 58 ∷ q.1) → c ∷ rest ≡ parts.0 ++ 58 ∷ 58 ∷ parts.1
    further c rest parts None e next = let isnt : ◌≡◌ {A = Option (Bytes × Bytes)} None (Some parts) = e in cc
    further c rest parts (Some q) e next = ap (λ t. c ∷ t) (next q refl) ∙ ap (λ (p : Bytes × Bytes). p.0 ++ 58 ∷ 58 ∷ p.1) (same_Some _ _ e)

    run_or_not : (c d : ℕ) (rest : Bytes) (parts : Bytes × Bytes) (is : Bool) → (eqb c 58 && eqb d 58) ≡ is → cond is (Some ([], rest)) (option_map (put_first c) (around_run (d ∷ rest))) ≡ Some parts
        → ((q : Bytes × Bytes) → around_run (d ∷ rest) ≡ Some q → d ∷ rest ≡ q.0 ++ 58 ∷ 58 ∷ q.1) → c ∷ d ∷ rest ≡ parts.0 ++ 58 ∷ 58 ∷ parts.1
    run_or_not c d rest parts true is e next =
        let both = and_parts (eqb c 58) (eqb d 58) is in
        ap (λ x. x ∷ d ∷ rest) (eqb-true c 58 both.0) ∙ ap (λ x. 58 ∷ x ∷ rest) (eqb-true d 58 both.1) ∙ ap (λ (p : Bytes × Bytes). p.0 ++ 58 ∷ 58 ∷ p.1) (same_Some _ _ e)
    run_or_not c d rest parts false is e next = further c (d ∷ rest) parts (around_run (d ∷ rest)) e next

-- ---- groups, both ways

groups_are_joined : (text : Bytes) (numbers : List ℕ) → groups text ≡ Some numbers → IsJoined 58 group text numbers
groups_are_joined [] numbers e = record { texts = []; spelled = refl; read_as = e }
groups_are_joined (c ∷ cs) numbers e = split_is_joined 58 group (c ∷ cs) numbers e

groups_again : (text : Bytes) (texts : List Bytes) (numbers : List ℕ) → text ≡ join_with_byte 58 texts → read_each group texts ≡ Some numbers → groups text ≡ Some numbers
groups_again [] [] numbers spelled e = e
groups_again (c ∷ cs) [] numbers spelled e = cc
groups_again [] (first ∷ texts) numbers spelled e =
    let solid = each_read IsSolid group group_is_solid (first ∷ texts) numbers e in
    absurd (joined_some first texts solid.0 spelled)
  where
    joined_some : (first : Bytes) (texts : List Bytes) → IsSolid first → [] ≡ join_with_byte 58 (first ∷ texts) → ⊥
    joined_some [] texts solid e = omega (arith, solid.some)
    joined_some (x ∷ first) [] solid e = cc
    joined_some (x ∷ first) (other ∷ texts) solid e = cc
groups_again (c ∷ cs) (first ∷ texts) numbers spelled e =
    both_read (group first) (read_each group texts) numbers e
    (λ x xs one others whole. read_again 58 group (λ t n g. (group_is_solid t n g).lacks) (c ∷ cs) (first ∷ texts) numbers spelled e (subst (λ ns. 0 < length ns) whole (omega arith)))

run_again : (front : Bytes) (texts : List Bytes) (numbers : List ℕ) (rest : Bytes) → front ≡ join_with_byte 58 texts → read_each group texts ≡ Some numbers → around_run (front ++ rest) ≡ option_map (behind front) (around_run rest)
run_again front [] numbers rest spelled e = rw spelled (sym (behind-nil (around_run rest)))
run_again front (first ∷ texts) numbers rest spelled e = rw spelled (past_joined first texts rest (each_read IsSolid group group_is_solid (first ∷ texts) numbers e))

-- ---- the sixth version

v6_of-some : (text : Bytes) (numbers : List ℕ) (ip : Ip) → v6_of numbers ≡ Some ip → (length numbers ≡ 8) × (V6 (number_in 65536 numbers 0) ≡ ip)
v6_of-some text numbers ip e = let parts = cond_some (eqb (length numbers) 8) (V6 (number_in 65536 numbers 0)) ip e in (eqb-true _ 8 parts.0, parts.1)

v6_of-eight : (numbers : List ℕ) → length numbers ≡ 8 → v6_of numbers ≡ Some (V6 (number_in 65536 numbers 0))
v6_of-eight numbers e = rw (eq-eqb (length numbers) 8 e) refl

condition : {A : Type 0} (b : Bool) (o : Option A) (x : A) → cond b o None ≡ Some x → (b ≡ true) × (o ≡ Some x)
condition true o x e = (refl, e)
condition {A} false o x e = let isnt : ◌≡◌ {A = Option A} None (Some x) = e in cc

v6_spelled : (text : Bytes) (ip : Ip) (around : Option (Bytes × Bytes)) → around_run text ≡ around → ip6_around text around ≡ Some ip → Spells text ip
v6_spelled text ip None none e =
    option_and_then_some v6_of (groups text) ip e
    (λ numbers read made.
    let parts = v6_of-some text numbers ip made in
    subst (Spells text) parts.1 (inl (record { numbers = numbers; joined = groups_are_joined text numbers read; eight = parts.0; value_is = refl })))
v6_spelled text ip (Some parts) some e =
    option_and_then_some (λ front. option_and_then (λ back. with_run front back) (groups parts.1)) (groups parts.0) ip e
    (λ front front_read made.
    option_and_then_some (λ back. with_run front back) (groups parts.1) ip made
    (λ back back_read whole.
    let few = condition (leb (length front + length back) 7) (v6_of (front ++ replicate (8 - (length front + length back)) 0 ++ back)) ip whole in
    let value = v6_of-some text (front ++ replicate (8 - (length front + length back)) 0 ++ back) ip few.1 in
    subst (Spells text) value.1
    (inr (record {
      front = parts.0;
      back = parts.1;
      front_numbers = front;
      back_numbers = back;
      spelled = around_run-spelled text parts some;
      front_joined = groups_are_joined parts.0 front front_read;
      back_joined = groups_are_joined parts.1 back back_read;
      few = leb-true _ 7 few.0;
      value_is = refl;
    }))))

has_colon-joined : (text : Bytes) (texts : List Bytes) (numbers : List ℕ) → text ≡ join_with_byte 58 texts → read_each group texts ≡ Some numbers → length numbers ≡ 8 → has_colon text ≡ true
has_colon-joined text [] numbers spelled e eight = let none : [] ≡ numbers = same_Some _ _ e in absurd (omega (arith, ap length none, eight))
has_colon-joined text (one ∷ []) numbers spelled e eight =
    both_read (group one) (Some []) numbers e (λ x xs first others whole. let none : [] ≡ xs = same_Some _ _ others in absurd (omega (arith, ap length none, ap length whole, eight)))
has_colon-joined text (one ∷ two ∷ texts) numbers spelled e eight =
    ap has_colon spelled ∙ list_any-append (λ c. eqb c 58) one (58 ∷ join_with_byte 58 (two ∷ texts)) ∙ or_right _ _ refl

whole_is_read : (text : Bytes) (value : ℕ) → IsWhole text value → address text ≡ Some (V6 value)
whole_is_read text value w =
    let j = w.joined in
    let none : around_run text ≡ None = ap around_run (sym (append-nil text)) ∙ run_again text j.texts w.numbers [] j.spelled j.read_as in
    sym (address-v6 text (has_colon-joined text j.texts w.numbers j.spelled j.read_as w.eight))
    ∙ ap (ip6_around text) none ∙ ap (option_and_then v6_of) (groups_again text j.texts w.numbers j.spelled j.read_as)
    ∙ v6_of-eight w.numbers w.eight ∙ ap (λ n. Some (V6 n)) (sym w.value_is)

shortened_is_read : (text : Bytes) (value : ℕ) → IsShortened text value → address text ≡ Some (V6 value)
shortened_is_read text value s =
    let f = s.front_joined in
    let b = s.back_joined in
    let run : around_run text ≡ Some (s.front, s.back) =
    ap around_run s.spelled ∙ run_again s.front f.texts s.front_numbers (58 ∷ 58 ∷ s.back) f.spelled f.read_as
    ∙ ap (λ front. Some (front, s.back)) (append-nil s.front) in
    let colon : has_colon text ≡ true = ap has_colon s.spelled ∙ list_any-append (λ c. eqb c 58) s.front (58 ∷ 58 ∷ s.back) ∙ or_right _ _ refl in
    sym (address-v6 text colon) ∙ ap (ip6_around text) run
    ∙ ap (option_and_then (λ front. option_and_then (λ back. with_run front back) (groups s.back))) (groups_again s.front f.texts s.front_numbers f.spelled f.read_as)
    ∙ ap (option_and_then (λ back. with_run s.front_numbers back)) (groups_again s.back b.texts s.back_numbers b.spelled b.read_as)
    ∙ with_run-few s.front_numbers s.back_numbers s.few
    ∙ ap (λ n. Some (V6 n)) (sym (number_in-joined s.front_numbers s.back_numbers s.few) ∙ sym s.value_is)

-- ---- the fourth version

no_colon : (texts : List Bytes) → Each (Lacks 58) texts → has_colon (join_with_byte 46 texts) ≡ false
no_colon [] lacks = refl
no_colon (text ∷ []) lacks = list_any_none (λ c. eqb c 58) text lacks.0
no_colon (text ∷ next ∷ texts) lacks =
    list_any-append (λ c. eqb c 58) text (46 ∷ join_with_byte 46 (next ∷ texts))
    ∙ or_from (list_any (λ c. eqb c 58) text) (list_any (λ c. eqb c 58) (46 ∷ join_with_byte 46 (next ∷ texts))) (list_any_none (λ c. eqb c 58) text lacks.0) (no_colon (next ∷ texts) lacks.1)

dotted_is_read : (text : Bytes) (value : ℕ) → IsDotted text value → address text ≡ Some (V4 value)
dotted_is_read text value d =
    let j = d.joined in
    let colon : has_colon text ≡ false = ap has_colon j.spelled ∙ no_colon j.texts (each_read (Lacks 58) (number_of 255) (number_lacks 58 refl) j.texts d.numbers j.read_as) in
    let some : 0 < length d.numbers = omega (arith, d.four) in
    let four : v4_of d.numbers ≡ Some (V4 (number_in 256 d.numbers 0)) = rw (eq-eqb (length d.numbers) 4 d.four) refl in
    sym (address-v4 text colon)
    ∙ ap (option_and_then v4_of) (read_again 46 (number_of 255) (number_lacks 46 refl) text j.texts d.numbers j.spelled j.read_as some)
    ∙ four ∙ ap (λ n. Some (V4 n)) (sym d.value_is)

v4_spelled : (text : Bytes) (ip : Ip) → ip4 text ≡ Some ip → Spells text ip
v4_spelled text ip e =
    option_and_then_some v4_of (read_each (number_of 255) (pieces 46 text)) ip e
    (λ numbers read made.
    let parts = cond_some (eqb (length numbers) 4) (V4 (number_in 256 numbers 0)) ip made in
    subst (Spells text) parts.1 (record { numbers = numbers; joined = split_is_joined 46 (number_of 255) text numbers read; four = eqb-true _ 4 parts.0; value_is = refl }))

-- ---- either version

pub address_is_spelled : (text : Bytes) (ip : Ip) → address text ≡ Some ip → Spells text ip
address_is_spelled text ip e =
    elim (cases_Bool (has_colon text)) [
      | inl colon ↦ v6_spelled text ip (around_run text) refl (address-v6 text colon ∙ e)
      | inr none ↦ v4_spelled text ip (address-v4 text none ∙ e)
    ]

pub spelling_is_read : (text : Bytes) (ip : Ip) → Spells text ip → address text ≡ Some ip
spelling_is_read text (V4 value) d = dotted_is_read text value d
spelling_is_read text (V6 value) (inl w) = whole_is_read text value w
spelling_is_read text (V6 value) (inr s) = shortened_is_read text value s
