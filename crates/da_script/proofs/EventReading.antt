-- A line is read as an event exactly where it spells it.
use Rattle.std.proofs.Common.{◌≡◌, ℕ, ◌-◌, ◌^◌, ◌<◌, ◌≤◌, true, false, not, ◌&&◌, [], ◌∷◌, ◌++◌, length, Option, Some, None, leb, eqb, refl, sym, ap, ◌∙◌, subst, inl, inr, append_assoc, arith}
use Rattle.std.specs.Prelude.{bytes_eq, codes, decimal, option_map, option_and_then}
use Rattle.std.specs.List.{list_any}
use Rattle.std.specs.Str.Parse.{digits_value}
use Rattle.std.proofs.lemmas.Bool.{cases_Bool, and_parts, and_from, eqb-true, leb-true, le-leb, not-true}
use Rattle.std.proofs.lemmas.Option.{same_Some, some_pair_parts, cond_some, option_and_then_some}
use Rattle.std.proofs.lemmas.Slice.Eq.{bytes_eq-Decides}
use Rattle.da_base.specs.Words.{Bytes, before_byte, after_byte, is_numeral, number, number_of}
use Rattle.da_tabline.proofs.NumberLemmas.{decimal_from_number_of}
use Rattle.da_msgs.specs.declared.kinds.ConnKind.{ConnKind}
use Rattle.da_msgs.specs.declared.kinds.ConnKind.TheVariants.{Client, Master}
use Rattle.da_query.specs.AnswerLines.{Numbered, script_answer}
use Rattle.da_query.proofs.QueryReading.{number_again}
use Rattle.da_query.proofs.AnswerReading.{script_answer-spells, script_answer-from}
use Rattle.da_play.specs.declared.input.Input.{Input}
use Rattle.da_play.specs.declared.input.Input.TheVariants.{Opened, Line, Broken, Gone, Take, Answered, Late, Tick}
use Rattle.da_play.specs.Play.{Event}
use Rattle.da_script.specs.Random.{random_of, random_text}
use Rattle.da_script.specs.Events.{answered, event_after, event_of, event_with, fits_a_script, input_alone, input_by, input_of, input_with, input_words, kind_of, kind_word, line_after, line_with, opened, opened_with}
use Rattle.da_script.specs.EventSpelling.{SpellsInput, SpellsEvent}
use Rattle.da_script.proofs.PrintedEvents.{event_parts_of, line_again, opened_again, regrouped}
use Rattle.da_script.proofs.RandomReading.{random_of-text}

-- ---- parts of a text

-- a text is what stands before a byte, the byte, and what stands after it
parts_of : (byte : ℕ) (text rest : Bytes) → after_byte byte text ≡ Some rest → text ≡ before_byte byte text ++ byte ∷ rest
parts_of byte [] rest h = cc
parts_of byte (c ∷ cs) rest h =
    elim (cases_Bool (eqb c byte)) [
      | inl e ↦ rw e (ap (λ x. x ∷ cs) (eqb-true c byte e) ∙ ap (λ l. byte ∷ l) (same_Some cs rest (rw e at h)))
      | inr e ↦ rw e (ap (λ l. c ∷ l) (parts_of byte cs rest (rw e at h)))
    ]

whole_of : (byte : ℕ) (text : Bytes) → after_byte byte text ≡ None → before_byte byte text ≡ text
whole_of byte [] h = refl
whole_of byte (c ∷ cs) h =
    elim (cases_Bool (eqb c byte)) [
      | inl e ↦ let never : ◌≡◌ {A = Option Bytes} (Some cs) None = rw e at h in cc
      | inr e ↦ rw e (ap (λ l. c ∷ l) (whole_of byte cs (rw e at h)))
    ]

word_is : (word other : Bytes) → bytes_eq word other ≡ true → word ≡ other
word_is word other = (bytes_eq-Decides word other).0

-- a text that is read as a number is the one that is printed for it
number_of-text : (max n : ℕ) (text : Bytes) → max < 2 ^ 64 → number_of max text ≡ Some n → (text ≡ decimal n) × (n ≤ max)
number_of-text max n text small h =
    let parts = cond_some (is_numeral text && leb (digits_value 10 text) max) (digits_value 10 text) n h in
    let within : n ≤ max = subst (λ v. v ≤ max) parts.1 (leb-true (digits_value 10 text) max (and_parts (is_numeral text) (leb (digits_value 10 text) max) parts.0).1) in
    (decimal_from_number_of max n text (omega (arith, within, small)) h, within)

number-text : (n : ℕ) (text : Bytes) → number text ≡ Some n → (text ≡ decimal n) × (n < 2 ^ 32)
number-text n text h = let parts = number_of-text (2 ^ 32 - 1) n text (omega arith) h in (parts.0, omega (arith, parts.1))

-- ---- what happens

kind_of-word : (word : Bytes) (kind : ConnKind) → kind_of word ≡ Some kind → word ≡ kind_word kind
kind_of-word word kind h =
    elim (cases_Bool (bytes_eq word (codes "client"))) [
      | inl e ↦ word_is word (codes "client") e ∙ ap kind_word (same_Some Client kind (rw e at h))
      | inr other ↦
          elim (cases_Bool (bytes_eq word (codes "master"))) [
            | inl e ↦ word_is word (codes "master") e ∙ ap kind_word (same_Some Master kind (rw (other, e) at h))
            | inr none ↦ let never : ◌≡◌ {A = Option ConnKind} None (Some kind) = rw (other, none) at h in cc
          ]
    ]

opened_parts : (kind : Option ConnKind) (random : Option Bytes) (input : Input) → opened_with kind random ≡ Some input
    → (k : ConnKind) × (r : Bytes) × (kind ≡ Some k) × (random ≡ Some r) × (Opened k r ≡ input)
opened_parts (Some k) (Some r) input h = (k, r, refl, refl, same_Some (Opened k r) input h)
opened_parts None random input h = cc
opened_parts (Some k) None input h = cc

opened-spells : (rest : Bytes) (input : Input) → opened rest ≡ Some input → SpellsInput (codes "open " ++ rest) input
opened-spells rest input h =
    let parts = opened_parts (kind_of (before_byte 32 rest)) (option_and_then random_of (after_byte 32 rest)) input h in
    option_and_then_some random_of (after_byte 32 rest) parts.1 parts.3
    (λ text text_is random_is.
    let kind = kind_of-word (before_byte 32 rest) parts.0 parts.2 in
    let random = random_of-text text parts.1 random_is in
    let whole : rest ≡ kind_word parts.0 ++ 32 ∷ random_text parts.1 =
    parts_of 32 rest text text_is ∙ ap (λ w. w ++ 32 ∷ text) kind ∙ ap (λ t. kind_word parts.0 ++ 32 ∷ t) random.0 in
    let words : codes "open " ++ rest ≡ input_words (Opened parts.0 parts.1) =
    ap (λ l. codes "open " ++ l) (whole ∙ sym (append_assoc (kind_word parts.0) (32 ∷ []) (random_text parts.1))) in
    subst (SpellsInput (codes "open " ++ rest)) parts.4 (words, random.1))

line_parts_of : (conn : Option ℕ) (random : Option Bytes) (text : Bytes) (input : Input) → line_with conn random text ≡ Some input
    → (n : ℕ) × (r : Bytes) × (conn ≡ Some n) × (random ≡ Some r) × (length text ≤ 8192) × (Line n text r ≡ input)
line_parts_of (Some n) (Some r) text input h =
    elim (cases_Bool (leb (length text) 8192)) [
      | inl e ↦ (n, r, refl, refl, leb-true (length text) 8192 e, same_Some (Line n text r) input (rw e at h))
      | inr e ↦ let never : ◌≡◌ {A = Option Input} None (Some input) = rw e at h in cc
    ]
line_parts_of None random text input h = cc
line_parts_of (Some n) None text input h = cc

-- behind the connection stand the random bytes and the text
line_rest-spells : (rest after : Bytes) (input : Input) → after_byte 32 rest ≡ Some after
    → line_after (number (before_byte 32 rest)) (Some after) ≡ Some input → SpellsInput (codes "line " ++ rest) input
line_rest-spells rest after input after_is h =
    option_and_then_some (line_with (number (before_byte 32 rest)) (random_of (before_byte 32 after))) (after_byte 32 after) input h
    (λ text text_is made.
    let parts = line_parts_of (number (before_byte 32 rest)) (random_of (before_byte 32 after)) text input made in
    let conn = number-text parts.0 (before_byte 32 rest) parts.2 in
    let random = random_of-text (before_byte 32 after) parts.1 parts.3 in
    let behind : after ≡ random_text parts.1 ++ 32 ∷ text = parts_of 32 after text text_is ∙ ap (λ w. w ++ 32 ∷ text) random.0 in
    let whole : rest ≡ decimal parts.0 ++ 32 ∷ (random_text parts.1 ++ 32 ∷ text) =
    parts_of 32 rest after after_is ∙ ap (λ w. w ++ 32 ∷ after) conn.0 ∙ ap (λ l. decimal parts.0 ++ 32 ∷ l) behind in
    let words : codes "line " ++ rest ≡ input_words (Line parts.0 text parts.1) =
    ap (λ l. codes "line " ++ l) (whole ∙ sym (regrouped (decimal parts.0) (random_text parts.1) text)) in
    subst (SpellsInput (codes "line " ++ rest)) parts.5 (words, (conn.1, random.1), parts.4))

line-spells : (rest : Bytes) (after : Option Bytes) (input : Input) → after_byte 32 rest ≡ after
    → line_after (number (before_byte 32 rest)) after ≡ Some input → SpellsInput (codes "line " ++ rest) input
line-spells rest None input after_is h = cc
line-spells rest (Some after) input after_is h = line_rest-spells rest after input after_is h

some_of_map : {A B : Type 0} (f : A → B) (o : Option A) (y : B) → option_map f o ≡ Some y → (x : A) × (o ≡ Some x) × (f x ≡ y)
some_of_map f None y h = cc
some_of_map f (Some x) y h = (x, refl, same_Some (f x) y h)

-- a word and a number
numbered-spells : (word rest : Bytes) (make : ℕ → Input) (input : Input) → option_map make (number rest) ≡ Some input
    → ((n : ℕ) → (word ++ rest ≡ word ++ decimal n) → n < 2 ^ 32 → SpellsInput (word ++ rest) (make n)) → SpellsInput (word ++ rest) input
numbered-spells word rest make input h spelled =
    let parts = some_of_map make (number rest) input h in
    let n = number-text parts.0 rest parts.1 in
    subst (SpellsInput (word ++ rest)) parts.2 (spelled parts.0 (ap (λ l. word ++ l) n.0) n.1)

answered-spells : (rest : Bytes) (input : Input) → answered rest ≡ Some input → SpellsInput (codes "answer " ++ rest) input
answered-spells rest input h =
    let parts = some_of_map (λ (p : Numbered). Answered p.0 p.1) (script_answer rest) input h in
    subst (SpellsInput (codes "answer " ++ rest)) parts.2 (rest, refl, script_answer-spells rest parts.0.0 parts.0.1 parts.1)

-- a word before a space and the rest
word_first : (words word other rest : Bytes) → words ≡ word ++ 32 ∷ rest → word ≡ other → words ≡ other ++ 32 ∷ rest
word_first words word other rest is word_is = is ∙ ap (λ w. w ++ 32 ∷ rest) word_is

with-spells : (words word rest : Bytes) (input : Input) → words ≡ word ++ 32 ∷ rest → input_with word rest ≡ Some input → SpellsInput words input
with-spells words word rest input is h =
    elim (cases_Bool (bytes_eq word (codes "open"))) [
      | inl e ↦ subst (λ w. SpellsInput w input) (sym (word_first words word (codes "open") rest is (word_is word _ e))) (opened-spells rest input (rw e at h))
      | inr no_open ↦
          elim (cases_Bool (bytes_eq word (codes "line"))) [
            | inl e ↦
                subst (λ w. SpellsInput w input) (sym (word_first words word (codes "line") rest is (word_is word _ e)))
                (line-spells rest (after_byte 32 rest) input refl (rw (no_open, e) at h))
            | inr no_line ↦
                elim (cases_Bool (bytes_eq word (codes "broken"))) [
                  | inl e ↦
                      subst (λ w. SpellsInput w input) (sym (word_first words word (codes "broken") rest is (word_is word _ e)))
                      (numbered-spells (codes "broken ") rest (λ n. Broken n) input (rw (no_open, no_line, e) at h) (λ n words small. (words, small)))
                  | inr no_broken ↦
                      elim (cases_Bool (bytes_eq word (codes "gone"))) [
                        | inl e ↦
                            subst (λ w. SpellsInput w input) (sym (word_first words word (codes "gone") rest is (word_is word _ e)))
                            (numbered-spells (codes "gone ") rest (λ n. Gone n) input (rw (no_open, no_line, no_broken, e) at h) (λ n words small. (words, small)))
                        | inr no_gone ↦
                            elim (cases_Bool (bytes_eq word (codes "answer"))) [
                              | inl e ↦
                                  subst (λ w. SpellsInput w input) (sym (word_first words word (codes "answer") rest is (word_is word _ e)))
                                  (answered-spells rest input (rw (no_open, no_line, no_broken, no_gone, e) at h))
                              | inr no_answer ↦
                                  elim (cases_Bool (bytes_eq word (codes "late"))) [
                                    | inl e ↦
                                        subst (λ w. SpellsInput w input) (sym (word_first words word (codes "late") rest is (word_is word _ e)))
                                        (numbered-spells (codes "late ") rest (λ n. Late n) input (rw (no_open, no_line, no_broken, no_gone, no_answer, e) at h)
                                        (λ n words small. (words, small)))
                                    | inr no_late ↦
                                        let never : ◌≡◌ {A = Option Input} None (Some input) =
                                        rw (no_open, no_line, no_broken, no_gone, no_answer, no_late) at h in cc
                                  ]
                            ]
                      ]
                ]
          ]
    ]

alone-spells : (word : Bytes) (input : Input) → input_alone word ≡ Some input → SpellsInput word input
alone-spells word input h =
    elim (cases_Bool (bytes_eq word (codes "take"))) [
      | inl e ↦ subst (SpellsInput word) (same_Some Take input (rw e at h)) (word_is word (codes "take") e)
      | inr no_take ↦
          elim (cases_Bool (bytes_eq word (codes "tick"))) [
            | inl e ↦ subst (SpellsInput word) (same_Some Tick input (rw (no_take, e) at h)) (word_is word (codes "tick") e)
            | inr no_tick ↦ let never : ◌≡◌ {A = Option Input} None (Some input) = rw (no_take, no_tick) at h in cc
          ]
    ]

by-spells : (words : Bytes) (rest : Option Bytes) (input : Input) → after_byte 32 words ≡ rest → input_by (before_byte 32 words) rest ≡ Some input
    → SpellsInput words input
by-spells words None input rest_is h = alone-spells words input (ap input_alone (sym (whole_of 32 words rest_is)) ∙ h)
by-spells words (Some rest) input rest_is h = with-spells words (before_byte 32 words) rest input (parts_of 32 words rest rest_is) h

-- ---- the line

event_with_parts : (moment : Option ℕ) (input : Option Input) (event : Event) → event_with moment input ≡ Some event
    → (moment ≡ Some event.0) × (input ≡ Some event.1)
event_with_parts (Some m) (Some i) event h = let e = same_Some (m, i) event h in (ap (λ (p : Event). Some p.0) e, ap (λ (p : Event). Some p.1) e)
event_with_parts None input event h = cc
event_with_parts (Some m) None event h = cc

fits_parts : (line : Bytes) → fits_a_script line ≡ true → (length line ≤ 16384) × (list_any (λ c. eqb c 10) line ≡ false)
fits_parts line h =
    let parts = and_parts (leb (length line) 16384) (not (list_any (λ c. eqb c 10) line)) h in
    (leb-true (length line) 16384 parts.0, not-true (list_any (λ c. eqb c 10) line) parts.1)

after-spells : (line : Bytes) (words : Option Bytes) (moment : ℕ) (input : Input) → fits_a_script line ≡ true → after_byte 32 line ≡ words
    → event_after (before_byte 32 line) words ≡ Some (moment, input) → SpellsEvent line moment input
after-spells line None moment input fits words_are h = cc
after-spells line (Some words) moment input fits words_are h =
    let parts = event_with_parts (number_of (2 ^ 64 - 1) (before_byte 32 line)) (input_of words) (moment, input) h in
    let text = number_of-text (2 ^ 64 - 1) moment (before_byte 32 line) (omega arith) parts.0 in
    let line_fits = fits_parts line fits in
    record {
      short = line_fits.0;
      no_end = line_fits.1;
      small = omega (arith, text.1);
      words = words;
      whole = parts_of 32 line words words_are ∙ ap (λ w. w ++ 32 ∷ words) text.0;
      spelled = by-spells words (after_byte 32 words) input refl parts.1;
    }

pub event_of-spells : (line : Bytes) (moment : ℕ) (input : Input) → event_of line ≡ Some (moment, input) → SpellsEvent line moment input
unfolding event_of
event_of-spells line moment input h =
    elim (cases_Bool (fits_a_script line)) [
      | inl e ↦ after-spells line (after_byte 32 line) moment input e refl (rw e at h)
      | inr e ↦ let never : ◌≡◌ {A = Option Event} None (Some (moment, input)) = rw e at h in cc
    ]

input-from : (words : Bytes) (input : Input) → SpellsInput words input → input_of words ≡ Some input
input-from words (Opened kind random) s = ap input_of s.0 ∙ opened_again kind random s.1
input-from words (Line conn text random) s = ap input_of s.0 ∙ line_again conn random text s.1.0 s.1.1 s.2
input-from words (Broken conn) s = ap input_of s.0 ∙ rw (number_again conn s.1) refl
input-from words (Gone conn) s = ap input_of s.0 ∙ rw (number_again conn s.1) refl
input-from words Take s = ap input_of s
input-from words (Answered query answer) s = ap input_of s.1 ∙ rw (script_answer-from s.0 query answer s.2) refl
input-from words (Late query) s = ap input_of s.0 ∙ rw (number_again query s.1) refl
input-from words Tick s = ap input_of s

pub event_of-from : (line : Bytes) (moment : ℕ) (input : Input) → SpellsEvent line moment input → event_of line ≡ Some (moment, input)
unfolding event_of
event_of-from line moment input s =
    let fits : fits_a_script line ≡ true =
    and_from (leb (length line) 16384) (not (list_any (λ c. eqb c 10) line)) (le-leb (length line) 16384 s.short) (ap not s.no_end) in
    rw fits (ap (λ t. event_after (before_byte 32 t) (after_byte 32 t)) s.whole ∙ event_parts_of moment s.words input s.small (input-from s.words input s.spelled))

pub one_event : (line : Bytes) (moment other : ℕ) (input another : Input) → SpellsEvent line moment input → SpellsEvent line other another
    → (moment ≡ other) × (input ≡ another)
one_event line moment other input another s t =
    some_pair_parts moment other input another (sym (event_of-from line moment input s) ∙ event_of-from line other another t)
