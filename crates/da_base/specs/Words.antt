-- Small words on lists, numbers, bytes and texts, which all other definitions are made of.
use Rattle.std.specs.Prelude.{ℕ, zero, suc, ◌+◌, ◌-◌, ◌/◌, ◌%◌, ◌^◌, min, Bool, true, false, ◌&&◌, not, List, [], ◌∷◌, Option, Some, None, slice_get, if◌then◌else◌, nat_le, ◌==◌}
use Rattle.std.specs.Char.{is_ascii_digit, to_ascii_uppercase}
use Rattle.std.specs.List.{slice_split}
use Rattle.std.specs.Result.{result_ok}
use Rattle.std.specs.Str.{all_ascii_digits}
use Rattle.std.specs.Str.Parse.{digits_value}
use Rattle.base64.specs.Engines.{standard}
use Rattle.base64.specs.GeneralPurpose.{encode_of, decode_of}

abbrev pub Bytes : Type 0
Bytes = List ℕ

-- a moment in milliseconds, and a span after it; a sum past the last number is that number
abbrev pub later : ℕ → ℕ → ℕ
later moment span = min (moment + span) (2 ^ 64 - 1)

-- ---- options

-- whether there is a value, and it passes
abbrev pub passes_option : {A : Type 0} → (A → Bool) → Option A → Bool
passes_option test None = false
passes_option test (Some x) = test x

-- what the value gives, or d where there is none
abbrev pub option_or_else : {A B : Type 0} → Option A → B → (A → B) → B
option_or_else None d f = d
option_or_else (Some x) d f = f x

-- ---- items counted from 1

abbrev pub nth : {A : Type 0} → List A → ℕ → Option A
nth xs zero = None
nth xs (suc n) = slice_get xs n

abbrev pub changed_at : {A : Type 0} → (A → A) → List A → ℕ → List A
changed_at f [] n = []
changed_at f (x ∷ xs) zero = f x ∷ xs
changed_at f (x ∷ xs) (suc n) = x ∷ changed_at f xs n

-- the list with its n-th item changed
abbrev pub changed_nth : {A : Type 0} → (A → A) → List A → ℕ → List A
changed_nth f xs zero = xs
changed_nth f xs (suc n) = changed_at f xs n

abbrev pub one_further : ℕ → ℕ
one_further zero = zero
one_further (suc n) = suc (suc n)

-- the number of the first item that passes, or 0 where none does
abbrev pub number_where : {A : Type 0} → (A → Bool) → List A → ℕ
number_where test [] = 0
number_where test (x ∷ xs) = if test x then 1 else one_further (number_where test xs)

-- the numbers of the items that pass, from n on
abbrev pub numbers_where : {A : Type 0} → (A → Bool) → ℕ → List A → List ℕ
numbers_where test n [] = []
numbers_where test n (x ∷ xs) = if test x then (n ∷ numbers_where test (suc n) xs) else numbers_where test (suc n) xs

-- how many items pass
abbrev pub count_where : {A : Type 0} → (A → Bool) → List A → ℕ
count_where test [] = 0
count_where test (x ∷ xs) = (if test x then 1 else 0) + count_where test xs

abbrev pub is_empty : {A : Type 0} → List A → Bool
is_empty [] = true
is_empty (x ∷ xs) = false

-- ---- pieces of a text

-- the pieces between the separators, at least one
abbrev pub pieces : ℕ → Bytes → List Bytes
pieces separator text = slice_split (λ c. c == separator) text

-- what stands before the first c, the whole text where there is none
abbrev pub before_byte : ℕ → Bytes → Bytes
before_byte c [] = []
before_byte c (x ∷ xs) = if x == c then [] else (x ∷ before_byte c xs)

-- what stands after the first c, if there is one
abbrev pub after_byte : ℕ → Bytes → Option Bytes
after_byte c [] = None
after_byte c (x ∷ xs) = if x == c then Some xs else after_byte c xs

-- what stands after this front, if the text begins with it
abbrev pub after_front : Bytes → Bytes → Option Bytes
after_front [] text = Some text
after_front (c ∷ cs) [] = None
after_front (c ∷ cs) (x ∷ xs) = if c == x then after_front cs xs else None

abbrev pub begins_with : Bytes → Bytes → Bool
begins_with [] text = true
begins_with (c ∷ cs) [] = false
begins_with (c ∷ cs) (x ∷ xs) = (c == x) && begins_with cs xs

-- ---- numbers in decimal

-- decimal digits without leading zeros, but for 0 itself
abbrev pub is_numeral : Bytes → Bool
is_numeral [] = false
is_numeral (c ∷ []) = is_ascii_digit c
is_numeral (c ∷ d ∷ cs) = not (c == 48) && all_ascii_digits (c ∷ d ∷ cs)

-- the number of at most max that a text spells
abbrev pub number_of : ℕ → Bytes → Option ℕ
number_of max text = if is_numeral text && nat_le (digits_value 10 text) max then Some (digits_value 10 text) else None

-- a number of at most 32 bits
abbrev pub number : Bytes → Option ℕ
number text = number_of (2 ^ 32 - 1) text

-- ---- letters and hexadecimal digits

abbrev pub upper : ℕ → ℕ
upper c = to_ascii_uppercase c

abbrev pub hex_digit : ℕ → ℕ
hex_digit n = if nat_le n 9 then 48 + n else 87 + n

-- two lower-case hexadecimal digits for each byte
abbrev pub hex : Bytes → Bytes
hex [] = []
hex (b ∷ bs) = hex_digit (b / 16) ∷ hex_digit (b % 16) ∷ hex bs

-- ---- base64 (RFC 4648, section 4: the standard alphabet, with padding)

abbrev pub to_base64 : Bytes → Bytes
to_base64 bytes = encode_of standard bytes

-- the bytes that a strict encoding stands for
abbrev pub from_base64 : Bytes → Option Bytes
from_base64 text = result_ok (decode_of standard text)
