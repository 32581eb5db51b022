-- An event that was printed is read again.
use Rattle.std.proofs.Common.{◌≡◌, ℕ, Bool, ◌-◌, ◌^◌, ◌<◌, ◌≤◌, true, false, not, ◌&&◌, [], ◌∷◌, ◌++◌, length, Some, Result, Ok, Err, Vec, Global, leb, eqb, refl, sym, ap, ◌∙◌, subst, append_assoc, arith}
use Rattle.std.specs.Prelude.{codes, decimal, IfOk, OnOk}
use Rattle.std.specs.Char.{is_ascii_digit}
use Rattle.std.specs.List.{list_any}
use Rattle.std.specs.Str.{all_ascii_digits}
use Rattle.std.specs.Str.Parse.{digits_value}
use Rattle.std.proofs.lemmas.Bool.{and_parts, and_from, le-leb, ne_eqb, not-true}
use Rattle.std.proofs.lemmas.Bool.Decides.{nat_tests}
use Rattle.std.proofs.lemmas.Fmt.{digits_decimal}
use Rattle.std.proofs.lemmas.List.Elements.{All-nil, All-cons, All-append}
use Rattle.std.proofs.lemmas.List.Folds.{list_any_none}
use Rattle.std.proofs.lemmas.Str.Parse.{IsNumeralModel, numerals_by_value, tells_all_ascii_digits}
use Rattle.da_base.specs.Words.{Bytes, before_byte, after_byte}
use Rattle.da_tabline.specs.Parts.{Lacks}
use Rattle.da_tabline.proofs.NumberLemmas.{number_of_decimal}
use Rattle.da_tabline.proofs.PartLemmas.{before_byte_at, after_byte_at}
use Rattle.da_fields.specs.declared.answer.Answer.{Answer}
use Rattle.da_msgs.specs.declared.kinds.ConnKind.{ConnKind}
use Rattle.da_msgs.specs.declared.kinds.ConnKind.TheVariants.{Client, Master}
use Rattle.da_query.specs.AnswerLines.{answer_line}
use Rattle.da_query.proofs.PrintedAgain.{answer_line-Lacks_end, script_answer-plain, script_answered_again}
use Rattle.da_query.proofs.QueryReading.{number_again}
use Rattle.da_play.specs.declared.input.Input.{Input}
use Rattle.da_play.specs.declared.input.Input.TheVariants.{Opened, Line, Broken, Gone, Take, Answered, Late, Tick}
use Rattle.da_script.specs.Random.{AreRandom, random_text}
use Rattle.da_script.specs.Events.{answered, event_after, event_line, event_of, fits_a_script, input_of, input_words, kind_word, line_of, IsPlain, InputIsHeld}
use Rattle.da_script.proofs.RandomTexts.{random_again, random_text-Lacks_space, random_text-Lacks_end}

-- ---- numbers

own : IsNumeralModel (λ ds. all_ascii_digits ds ≡ true) (digits_value 10)
own = numerals_by_value _ tells_all_ascii_digits

digit_at_least : (c : ℕ) → is_ascii_digit c ≡ true → 48 ≤ c
digit_at_least c h = grind (arith, nat_tests)

-- a digit is another byte than one that is no digit
digits_lack : (byte : ℕ) (text : Bytes) → byte < 48 → all_ascii_digits text ≡ true → Lacks byte text
digits_lack byte [] small digits = All-nil (λ c. eqb c byte ≡ false)
digits_lack byte (c ∷ cs) small digits =
    let parts = and_parts (is_ascii_digit c) (all_ascii_digits cs) digits in
    let digit : 48 ≤ c = digit_at_least c parts.0 in
    All-cons (λ x. eqb x byte ≡ false) c cs (ne_eqb c byte (λ e. omega (arith, digit, small))) (digits_lack byte cs small parts.1)

decimal_lacks : (byte n : ℕ) → byte < 48 → n < 2 ^ 64 → Lacks byte (decimal n)
decimal_lacks byte n small fits = digits_lack byte (decimal n) small (digits_decimal own n fits)

small_number : (n : ℕ) → n < 2 ^ 32 → n < 2 ^ 64
small_number n small = omega (arith, small)

-- ---- words

-- parts with a space between them
pub regrouped : (a b c : Bytes) → (((a ++ 32 ∷ []) ++ b) ++ 32 ∷ []) ++ c ≡ a ++ 32 ∷ (b ++ 32 ∷ c)
regrouped a b c =
    append_assoc ((a ++ 32 ∷ []) ++ b) (32 ∷ []) c ∙ append_assoc (a ++ 32 ∷ []) b (32 ∷ c) ∙ append_assoc a (32 ∷ []) (b ++ 32 ∷ c)

pub opened_again : (kind : ConnKind) (random : Bytes) → AreRandom random → input_of (input_words (Opened kind random)) ≡ Some (Opened kind random)
opened_again Client random are = rw (random_again random are) refl
opened_again Master random are = rw (random_again random are) refl

line_parts : (conn : ℕ) (random text : Bytes) → conn < 2 ^ 32 → AreRandom random → length text ≤ 8192
    → line_of (decimal conn ++ 32 ∷ (random_text random ++ 32 ∷ text)) ≡ Some (Line conn text random)
line_parts conn random text small are short =
    let no_space = decimal_lacks 32 conn (omega arith) (small_number conn small) in
    let in_random = random_text-Lacks_space random in
    let rest = random_text random ++ 32 ∷ text in
    rw (
      before_byte_at 32 (decimal conn) rest no_space,
      after_byte_at 32 (decimal conn) rest no_space,
      number_again conn small,
      before_byte_at 32 (random_text random) text in_random,
      after_byte_at 32 (random_text random) text in_random,
      random_again random are,
      le-leb (length text) 8192 short,
    ) refl

pub line_again : (conn : ℕ) (random text : Bytes) → conn < 2 ^ 32 → AreRandom random → length text ≤ 8192
    → input_of (input_words (Line conn text random)) ≡ Some (Line conn text random)
line_again conn random text small are short = ap line_of (regrouped (decimal conn) (random_text random) text) ∙ line_parts conn random text small are short

answered_again : (query : ℕ) (answer : Answer) → InputIsHeld (Answered query answer) → IsPlain (Answered query answer)
    → answered (answer_line query answer) ≡ Some (Answered query answer)
answered_again query answer held plain =
    let reported = script_answer-plain plain.0 plain.1 answer plain.2 in
    rw (script_answered_again (answer_line query answer) query answer refl held.0 held.1 reported.0 reported.1) refl

words_again : (input : Input) → InputIsHeld input → IsPlain input → input_of (input_words input) ≡ Some input
words_again (Opened kind random) held plain = opened_again kind random held
words_again (Line conn text random) held plain = line_again conn random text held.0 held.1 plain.1
words_again (Broken conn) held plain = rw (number_again conn held) refl
words_again (Gone conn) held plain = rw (number_again conn held) refl
words_again Take held plain = refl
words_again (Answered query answer) held plain = answered_again query answer held plain
words_again (Late query) held plain = rw (number_again query held) refl
words_again Tick held plain = refl

-- ---- one line

abbrev is_one_line : Bytes → Bool
is_one_line [] = true
is_one_line (c ∷ cs) = not (eqb c 10) && is_one_line cs

one_line : (word : Bytes) → is_one_line word ≡ true → Lacks 10 word
one_line [] h = All-nil (λ c. eqb c 10 ≡ false)
one_line (c ∷ cs) h =
    let parts = and_parts (not (eqb c 10)) (is_one_line cs) h in
    All-cons (λ x. eqb x 10 ≡ false) c cs (not-true (eqb c 10) parts.0) (one_line cs parts.1)

both : (a b : Bytes) → Lacks 10 a → Lacks 10 b → Lacks 10 (a ++ b)
both a b one two = All-append (λ c. eqb c 10 ≡ false) a b one two

space : Lacks 10 (codes " ")
space = one_line (codes " ") refl

number_lacks : (n : ℕ) → n < 2 ^ 32 → Lacks 10 (decimal n)
number_lacks n small = decimal_lacks 10 n (omega arith) (small_number n small)

kind_lacks : (kind : ConnKind) → Lacks 10 (kind_word kind)
kind_lacks Client = one_line (codes "client") refl
kind_lacks Master = one_line (codes "master") refl

-- words and a number
numbered_lacks : (word : Bytes) (n : ℕ) → is_one_line word ≡ true → n < 2 ^ 32 → Lacks 10 (word ++ decimal n)
numbered_lacks word n h small = both word (decimal n) (one_line word h) (number_lacks n small)

words_lack : (input : Input) → InputIsHeld input → IsPlain input → Lacks 10 (input_words input)
words_lack (Opened kind random) held plain =
    both (codes "open " ++ kind_word kind ++ codes " ") (random_text random)
    (both (codes "open " ++ kind_word kind) (codes " ") (both (codes "open ") (kind_word kind) (one_line (codes "open ") refl) (kind_lacks kind)) space)
    (random_text-Lacks_end random)
words_lack (Line conn text random) held plain =
    let numbered = numbered_lacks (codes "line ") conn refl held.0 in
    let spaced = both (codes "line " ++ decimal conn) (codes " ") numbered space in
    let with_random = both (codes "line " ++ decimal conn ++ codes " ") (random_text random) spaced (random_text-Lacks_end random) in
    both (codes "line " ++ decimal conn ++ codes " " ++ random_text random ++ codes " ") text
    (both (codes "line " ++ decimal conn ++ codes " " ++ random_text random) (codes " ") with_random space) plain.0
words_lack (Broken conn) held plain = numbered_lacks (codes "broken ") conn refl held
words_lack (Gone conn) held plain = numbered_lacks (codes "gone ") conn refl held
words_lack Take held plain = one_line (codes "take") refl
words_lack (Answered query answer) held plain =
    both (codes "answer ") (answer_line query answer) (one_line (codes "answer ") refl) (answer_line-Lacks_end query answer)
words_lack (Late query) held plain = numbered_lacks (codes "late ") query refl held
words_lack Tick held plain = one_line (codes "tick") refl

pub event_line-Lacks_end : (moment : ℕ) (input : Input) → moment < 2 ^ 64 → InputIsHeld input → IsPlain input → Lacks 10 (event_line moment input)
unfolding event_line
event_line-Lacks_end moment input small held plain =
    both (decimal moment ++ codes " ") (input_words input) (both (decimal moment) (codes " ") (decimal_lacks 10 moment (omega arith) small) space)
    (words_lack input held plain)

-- ---- the event

pub event_parts_of : (moment : ℕ) (words : Bytes) (input : Input) → moment < 2 ^ 64 → input_of words ≡ Some input
    → event_after (before_byte 32 (decimal moment ++ 32 ∷ words)) (after_byte 32 (decimal moment ++ 32 ∷ words)) ≡ Some (moment, input)
event_parts_of moment words input small spelled =
    let no_space = decimal_lacks 32 moment (omega arith) small in
    rw (
      before_byte_at 32 (decimal moment) words no_space,
      after_byte_at 32 (decimal moment) words no_space,
      number_of_decimal (2 ^ 64 - 1) moment (omega (arith, small)) small,
      spelled,
    ) refl

pub event_again : (text : Bytes) (moment : ℕ) (input : Input) → text ≡ event_line moment input → moment < 2 ^ 64 → InputIsHeld input → IsPlain input
    → length text ≤ 16384 → event_of text ≡ Some (moment, input)
unfolding event_line event_of
event_again text moment input is small held plain short =
    let one : text ≡ decimal moment ++ 32 ∷ input_words input = is ∙ append_assoc (decimal moment) (codes " ") (input_words input) in
    let no_end : list_any (λ c. eqb c 10) text ≡ false =
    list_any_none (λ c. eqb c 10) text (subst (Lacks 10) (sym is) (event_line-Lacks_end moment input small held plain)) in
    let fits : fits_a_script text ≡ true = and_from (leb (length text) 16384) (not (list_any (λ c. eqb c 10) text)) (le-leb (length text) 16384 short) (ap not no_end) in
    rw fits (ap (λ t. event_after (before_byte 32 t) (after_byte 32 t)) one ∙ event_parts_of moment (input_words input) input small (words_again input held plain))

-- of a printed line, if there was memory for it
pub printed_again : {E : Type 0} (r : Result (Vec ℕ Global) E) (moment : ℕ) (input : Input) → moment < 2 ^ 64
    → IfOk r (λ line. line.items ≡ event_line moment input) → OnOk r (InputIsHeld input)
    → IfOk r (λ line. IsPlain input → length line.items ≤ 16384 → event_of line.items ≡ Some (moment, input))
printed_again (Ok line) moment input small is held = λ plain short. event_again line.items moment input is small held plain short
printed_again (Err fault) moment input small is held = tt
