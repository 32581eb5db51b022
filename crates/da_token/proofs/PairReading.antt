-- The pairs of a message are read as they are written.
use Rattle.std.proofs.Common.{◌≡◌, ℕ, Bool, true, false, cond, not, ◌&&◌, List, [], ◌∷◌, ◌++◌, length, Option, Some, None, is_some, eqb, codes, refl, sym, ap, ◌∙◌, subst, inl, inr, append_assoc, arith}
use Rattle.std.specs.List.{list_all, list_any, join_with_byte}
use Rattle.std.specs.Char.{is_ascii_alphabetic}
use Rattle.std.proofs.lemmas.Bool.{cases_Bool, eqb-true, ne_eqb, and_parts, and_from, or_parts, not-true}
use Rattle.std.proofs.lemmas.List.Elements.{All-nil, All-cons, All-head, All-tail, All-append}
use Rattle.std.proofs.lemmas.List.Splits.{slice_split_at, join_with_byte-slice_split}
use Rattle.std.proofs.lemmas.Option.{same_Some}
use Rattle.da_base.specs.Words.{Bytes, pieces, before_byte, after_byte, is_empty}
use Rattle.da_tabline.specs.Parts.{Lacks, SplitsAt}
use Rattle.da_tabline.proofs.PartLemmas.{before_byte_at, after_byte_at, pieces-Lacks, pieces-SplitsAt}
use Rattle.da_token.specs.Message.{Pair, is_key, is_value, is_pair, pair_text, written_pairs, auth_values, same_letters}
use Rattle.da_token.specs.Reading.{is_written_pair, auth_in, may_follow, found_with, auth_after}
use Rattle.da_token.proofs.Options.{cond_option}

-- ---- the loop over the pieces

pub no_end : (found : Option Bytes) (rest : Bytes) → Lacks 1 rest → auth_after found (pieces 1 rest) ≡ None
no_end found rest lacks = ap (auth_after found) (pieces-Lacks 1 rest lacks)

-- a text has a first piece, which is empty where the text is, and so are the others
some_piece : (text : Bytes) → (p : Bytes) × (ps : List Bytes) × (pieces 1 text ≡ p ∷ ps)
some_piece [] = ([], [], refl)
some_piece (c ∷ cs) =
    elim (cases_Bool (eqb c 1)) [
      | inl e ↦ ([], pieces 1 cs, rw e)
      | inr e ↦ let more = some_piece cs in (c ∷ more.0, more.1, rw (e, more.2))
    ]

ends_at : (found : Option Bytes) (more : Bytes) → auth_after found ([] ∷ pieces 1 more) ≡ cond (is_empty more) found None
ends_at found [] = refl
ends_at found (c ∷ cs) =
    let more = some_piece cs in
    elim (cases_Bool (eqb c 1)) [
      | inl e ↦ rw (e, more.2)
      | inr e ↦ rw (e, more.2)
    ]

no_length : (text : Bytes) → eqb (length text) 0 ≡ true → text ≡ []
no_length [] h = refl
no_length (c ∷ cs) h = absurd (omega (arith, eqb-true (length (c ∷ cs)) 0 h))

some_length : (c : ℕ) (cs : Bytes) → eqb (length (c ∷ cs)) 0 ≡ false
some_length c cs = ne_eqb (length (c ∷ cs)) 0 (λ e. omega (arith, e))

pub at_end : (found : Option Bytes) (rest pair more : Bytes) → SplitsAt 1 rest pair more → eqb (length pair) 0 ≡ true
    → auth_after found (pieces 1 rest) ≡ cond (is_empty more) found None
at_end found rest pair more cut empty =
    ap (auth_after found) (pieces-SplitsAt 1 rest pair more cut) ∙ ap (λ p. auth_after found (p ∷ pieces 1 more)) (no_length pair empty) ∙ ends_at found more

goes_on : (found : Option Bytes) (pair next : Bytes) (more : List Bytes) → eqb (length pair) 0 ≡ false
    → auth_after found (pair ∷ next ∷ more) ≡ cond (may_follow found pair) (auth_after (found_with found (auth_in pair)) (next ∷ more)) None
goes_on found [] next more h = cc
goes_on found (c ∷ cs) next more h = refl

pair_then : (found : Option Bytes) (rest pair more : Bytes) → SplitsAt 1 rest pair more → eqb (length pair) 0 ≡ false
    → auth_after found (pieces 1 rest) ≡ cond (may_follow found pair) (auth_after (found_with found (auth_in pair)) (pieces 1 more)) None
pair_then found rest pair more cut some =
    let next = some_piece more in
    ap (auth_after found) (pieces-SplitsAt 1 rest pair more cut)
    ∙ ap (λ ps. auth_after found (pair ∷ ps)) next.2
    ∙ goes_on found pair next.0 next.1 some
    ∙ ap (λ ps. cond (may_follow found pair) (auth_after (found_with found (auth_in pair)) ps) None) (sym next.2)

pub may_not_follow : (found : Option Bytes) (rest pair more : Bytes) → SplitsAt 1 rest pair more → eqb (length pair) 0 ≡ false → may_follow found pair ≡ false
    → auth_after found (pieces 1 rest) ≡ None
may_not_follow found rest pair more cut some wrong =
    pair_then found rest pair more cut some ∙ ap (λ b. cond b (auth_after (found_with found (auth_in pair)) (pieces 1 more)) None) wrong

pub follows : (found : Option Bytes) (rest pair more : Bytes) → SplitsAt 1 rest pair more → eqb (length pair) 0 ≡ false → may_follow found pair ≡ true
    → auth_after found (pieces 1 rest) ≡ auth_after (found_with found (auth_in pair)) (pieces 1 more)
follows found rest pair more cut some right =
    pair_then found rest pair more cut some ∙ ap (λ b. cond b (auth_after (found_with found (auth_in pair)) (pieces 1 more)) None) right

-- ---- one pair

-- what the one value of `auth` is, of these
abbrev pub only : List Bytes → Option Bytes
only [] = None
only (value ∷ []) = Some value
only (value ∷ other ∷ more) = None

abbrev pub listed : Option Bytes → List Bytes
listed None = []
listed (Some value) = value ∷ []

Lacks-letters : (byte : ℕ) (key : Bytes) → is_ascii_alphabetic byte ≡ false → list_all is_ascii_alphabetic key ≡ true → Lacks byte key
Lacks-letters byte [] none h = All-nil (λ c. eqb c byte ≡ false)
Lacks-letters byte (c ∷ cs) none h =
    let parts = and_parts (is_ascii_alphabetic c) (list_all is_ascii_alphabetic cs) h in
    All-cons (λ d. eqb d byte ≡ false) c cs
    (elim (cases_Bool (eqb c byte)) [
      | inl e ↦ let same : is_ascii_alphabetic c ≡ is_ascii_alphabetic byte = ap is_ascii_alphabetic (eqb-true c byte e) in cc
      | inr e ↦ e
    ]) (Lacks-letters byte cs none parts.1)

Lacks-value : (value : Bytes) → list_any (λ c. eqb c 1) value ≡ false → Lacks 1 value
Lacks-value [] h = All-nil (λ c. eqb c 1 ≡ false)
Lacks-value (c ∷ cs) h = let parts = or_parts (eqb c 1) (list_any (λ d. eqb d 1) cs) h in All-cons (λ d. eqb d 1 ≡ false) c cs parts.0 (Lacks-value cs parts.1)

-- the parts of a pair
pub record HasKey (pair : Pair) : Type 0 where
  pub no_equals : Lacks 61 pair.key
  pub no_end : Lacks 1 (pair_text pair)
  pub first : ℕ
  pub others : Bytes
  pub is : pair.key ≡ first ∷ others

key_parts : (key : Bytes) → is_key key ≡ true → (first : ℕ) × (others : Bytes) × (key ≡ first ∷ others)
key_parts [] h = cc
key_parts (c ∷ cs) h = (c, cs, refl)

pair_parts : (pair : Pair) → is_pair pair ≡ true → HasKey pair
pair_parts pair h =
    let tests = and_parts (is_key pair.key) (is_value pair.value) h in
    let letters = (and_parts (not (is_empty pair.key)) (list_all is_ascii_alphabetic pair.key) tests.0).1 in
    let key = key_parts pair.key tests.0 in
    record {
      no_equals = Lacks-letters 61 pair.key refl letters;
      no_end = All-append (λ c. eqb c 1 ≡ false) pair.key (61 ∷ pair.value) (Lacks-letters 1 pair.key refl letters)
          (All-cons (λ c. eqb c 1 ≡ false) 61 pair.value refl (Lacks-value pair.value (not-true _ tests.1)));
      first = key.0;
      others = key.1;
      is = key.2;
    }

-- what a written pair is read as
pub record ReadsPair (pair : Pair) : Type 0 where
  pub written : is_written_pair (pair_text pair) ≡ true
  pub auth : auth_in (pair_text pair) ≡ cond (same_letters pair.key (codes "auth")) (Some pair.value) None

reads_pair : (pair : Pair) → is_pair pair ≡ true → ReadsPair pair
reads_pair pair h =
    let parts = pair_parts pair h in
    let before = before_byte_at 61 pair.key pair.value parts.no_equals in
    let after = after_byte_at 61 pair.key pair.value parts.no_equals in
    record {
      written = and_from (is_key (before_byte 61 (pair_text pair))) (is_some (after_byte 61 (pair_text pair)))
          (ap is_key before ∙ (and_parts (is_key pair.key) (is_value pair.value) h).0) (ap is_some after);
      auth = ap (λ key. cond (same_letters key (codes "auth")) (after_byte 61 (pair_text pair)) None) before
          ∙ ap (λ value. cond (same_letters pair.key (codes "auth")) value None) after;
    }

-- ---- all pairs

abbrev pub pair_pieces : List Pair → List Bytes
pair_pieces [] = [] ∷ [] ∷ []
pair_pieces (pair ∷ pairs) = pair_text pair ∷ pair_pieces pairs

pieces-pairs : (pairs : List Pair) → list_all is_pair pairs ≡ true → pieces 1 (written_pairs pairs ++ 1 ∷ []) ≡ pair_pieces pairs
pieces-pairs [] h = refl
pieces-pairs (pair ∷ pairs) h =
    let tests = and_parts (is_pair pair) (list_all is_pair pairs) h in
    ap (pieces 1) (append_assoc (pair_text pair ++ 1 ∷ []) (written_pairs pairs) (1 ∷ []) ∙ append_assoc (pair_text pair) (1 ∷ []) (written_pairs pairs ++ 1 ∷ []))
    ∙ slice_split_at (λ c. eqb c 1) (pair_text pair) 1 (written_pairs pairs ++ 1 ∷ []) (pair_parts pair tests.0).no_end refl
    ∙ ap (λ ps. pair_text pair ∷ ps) (pieces-pairs pairs tests.1)

some_pair_pieces : (pairs : List Pair) → (p : Bytes) × (ps : List Bytes) × (pair_pieces pairs ≡ p ∷ ps)
some_pair_pieces [] = ([], [] ∷ [], refl)
some_pair_pieces (pair ∷ pairs) = (pair_text pair, pair_pieces pairs, refl)

text_length : (pair : Pair) → HasKey pair → eqb (length (pair_text pair)) 0 ≡ false
text_length pair parts = ap (λ key. eqb (length (key ++ 61 ∷ pair.value)) 0) parts.is ∙ some_length parts.first (parts.others ++ 61 ∷ pair.value)

pair_step : (found : Option Bytes) (pair : Pair) (pairs : List Pair) → is_pair pair ≡ true
    → auth_after found (pair_text pair ∷ pair_pieces pairs)
    ≡ cond (may_follow found (pair_text pair)) (auth_after (found_with found (auth_in (pair_text pair))) (pair_pieces pairs)) None
pair_step found pair pairs is =
    let next = some_pair_pieces pairs in
    ap (λ ps. auth_after found (pair_text pair ∷ ps)) next.2
    ∙ goes_on found (pair_text pair) next.0 next.1 (text_length pair (pair_parts pair is))
    ∙ ap (λ ps. cond (may_follow found (pair_text pair)) (auth_after (found_with found (auth_in (pair_text pair))) ps) None) (sym next.2)

-- what is found with one value more, or none
only_step : (found : Option Bytes) (is_auth : Bool) (value : Bytes) (values : List Bytes) (after : Option Bytes → Option Bytes) → ((f : Option Bytes) → after f ≡ only (listed f ++ values))
    → cond (not (is_some found && is_some (cond is_auth (Some value) None))) (after (found_with found (cond is_auth (Some value) None))) None
    ≡ only (listed found ++ cond is_auth (value ∷ values) values)
only_step None true value values after h = h (Some value)
only_step None false value values after h = h None
only_step (Some found) true value values after h = refl
only_step (Some found) false value values after h = h (Some found)

-- whatever was found, the one value is the only one of it and the pairs'
auth_after-pairs : (found : Option Bytes) (pairs : List Pair) → list_all is_pair pairs ≡ true
    → auth_after found (pair_pieces pairs) ≡ only (listed found ++ auth_values pairs)
auth_after-pairs None [] h = refl
auth_after-pairs (Some value) [] h = refl
auth_after-pairs found (pair ∷ pairs) h =
    let tests = and_parts (is_pair pair) (list_all is_pair pairs) h in
    let reads = reads_pair pair tests.0 in
    pair_step found pair pairs tests.0
    ∙ ap (λ written. cond (written && not (is_some found && is_some (auth_in (pair_text pair)))) (auth_after (found_with found (auth_in (pair_text pair))) (pair_pieces pairs)) None) reads.written
    ∙ ap (λ auth. cond (not (is_some found && is_some auth)) (auth_after (found_with found auth) (pair_pieces pairs)) None) reads.auth
    ∙ only_step found (same_letters pair.key (codes "auth")) pair.value (auth_values pairs) (λ f. auth_after f (pair_pieces pairs)) (λ f. auth_after-pairs f pairs tests.1)

pub auth_from : (pairs : List Pair) (value : Bytes) → list_all is_pair pairs ≡ true → auth_values pairs ≡ value ∷ []
    → auth_after None (pieces 1 (written_pairs pairs ++ 1 ∷ [])) ≡ Some value
auth_from pairs value h one = ap (auth_after None) (pieces-pairs pairs h) ∙ auth_after-pairs None pairs h ∙ ap only one

-- ---- and the other way

abbrev pub EachLacks : List Bytes → Type 0
EachLacks [] = Unit {0}
EachLacks (p ∷ ps) = Lacks 1 p × EachLacks ps

pieces_lack : (text : Bytes) → EachLacks (pieces 1 text)
pieces_lack [] = (All-nil (λ c. eqb c 1 ≡ false), tt)
pieces_lack (c ∷ cs) =
    elim (cases_Bool (eqb c 1)) [
      | inl e ↦ rw e (All-nil (λ d. eqb d 1 ≡ false), pieces_lack cs)
      | inr e ↦
          let more = some_piece cs in
          let each = subst EachLacks more.2 (pieces_lack cs) in
          rw (e, more.2) (All-cons (λ d. eqb d 1 ≡ false) c more.0 e each.0, each.1)
    ]

some_value : {A : Type 0} (o : Option A) → is_some o ≡ true → (x : A) × (o ≡ Some x)
some_value None h = cc
some_value (Some x) h = (x, refl)

-- a text that is cut at a byte is what stands before it, the byte and what stands after it
pub cut_whole : (byte : ℕ) (text back : Bytes) → after_byte byte text ≡ Some back → text ≡ before_byte byte text ++ byte ∷ back
cut_whole byte [] back h = cc
cut_whole byte (c ∷ cs) back h =
    elim (cases_Bool (eqb c byte)) [
      | inl e ↦
          let same : cs ≡ back = same_Some cs back (rw e at h) in
          rw e (ap (λ x. x ∷ cs) (eqb-true c byte e) ∙ ap (λ l. byte ∷ l) same)
      | inr e ↦ rw e (ap (λ l. c ∷ l) (cut_whole byte cs back (rw e at h)))
    ]

value_lacks : (key value : Bytes) → Lacks 1 (key ++ 61 ∷ value) → list_any (λ c. eqb c 1) value ≡ false
value_lacks [] value h = any_lacks value (All-tail (λ c. eqb c 1 ≡ false) 61 value h)
  where
    any_lacks : (text : Bytes) → Lacks 1 text → list_any (λ c. eqb c 1) text ≡ false
    any_lacks [] lacks = refl
    any_lacks (c ∷ cs) lacks = rw (All-head (λ d. eqb d 1 ≡ false) c cs lacks) (any_lacks cs (All-tail (λ d. eqb d 1 ≡ false) c cs lacks))
value_lacks (c ∷ cs) value h = value_lacks cs value (All-tail (λ d. eqb d 1 ≡ false) c (cs ++ 61 ∷ value) h)

-- the text is this pair
record IsPair (text : Bytes) (pair : Pair) : Type 0 where
  pub spelled : text ≡ pair_text pair
  pub right : is_pair pair ≡ true
  pub auth : auth_in text ≡ cond (same_letters pair.key (codes "auth")) (Some pair.value) None

written_pair-is : (text : Bytes) → Lacks 1 text → is_written_pair text ≡ true → (pair : Pair) × IsPair text pair
written_pair-is text lacks h =
    let tests = and_parts (is_key (before_byte 61 text)) (is_some (after_byte 61 text)) h in
    let value = some_value (after_byte 61 text) tests.1 in
    let whole = cut_whole 61 text value.0 value.1 in (
      record { key = before_byte 61 text; value = value.0 },
      record {
        spelled = whole;
        right = and_from (is_key (before_byte 61 text)) (is_value value.0) tests.0 (ap not (value_lacks (before_byte 61 text) value.0 (subst (Lacks 1) whole lacks)));
        auth = ap (λ o. cond (same_letters (before_byte 61 text) (codes "auth")) o None) value.1;
      },
    )

-- the pieces are these pairs, whose one value of `auth`, with what was found before, is this
pub record ArePairs (found : Option Bytes) (ps : List Bytes) (value : Bytes) : Type 0 where
  pub pairs : List Pair
  pub spelled : ps ≡ pair_pieces pairs
  pub right : list_all is_pair pairs ≡ true
  pub one : listed found ++ auth_values pairs ≡ value ∷ []

is_none_left : (next : Bytes) (more : List Bytes) → (is_empty next && is_empty more) ≡ true → ◌≡◌ {A = List Bytes} ([] ∷ next ∷ more) ([] ∷ [] ∷ [])
is_none_left [] [] h = refl
is_none_left [] (p ∷ ps) h = cc
is_none_left (c ∷ cs) more h = cc

found_only : (found : Option Bytes) (value : Bytes) → found ≡ Some value → listed found ++ [] ≡ value ∷ []
found_only found value h = ap (λ f. listed f ++ []) h

listed_step : (found : Option Bytes) (is_auth : Bool) (value : Bytes) (values : List Bytes) → not (is_some found && is_some (cond is_auth (Some value) None)) ≡ true
    → listed found ++ cond is_auth (value ∷ values) values ≡ listed (found_with found (cond is_auth (Some value) None)) ++ values
listed_step None true value values h = refl
listed_step None false value values h = refl
listed_step (Some found) true value values h = cc
listed_step (Some found) false value values h = refl

more_pairs : (found : Option Bytes) (text next : Bytes) (more : List Bytes) (value : Bytes) → Lacks 1 text → may_follow found text ≡ true
    → ArePairs (found_with found (auth_in text)) (next ∷ more) value → ArePairs found (text ∷ next ∷ more) value
more_pairs found text next more value lacks follow are =
    let tests = and_parts (is_written_pair text) (not (is_some found && is_some (auth_in text))) follow in
    let first = written_pair-is text lacks tests.0 in
    let pair = first.0 in
    let once = ap (λ auth. not (is_some found && is_some auth)) (sym first.1.auth) ∙ tests.1 in
    record {
      pairs = pair ∷ are.pairs;
      spelled = ap (λ t. t ∷ next ∷ more) first.1.spelled ∙ ap (λ ps. pair_text pair ∷ ps) are.spelled;
      right = and_from (is_pair pair) (list_all is_pair are.pairs) first.1.right are.right;
      one = listed_step found (same_letters pair.key (codes "auth")) pair.value (auth_values are.pairs) once
          ∙ ap (λ auth. listed (found_with found auth) ++ auth_values are.pairs) (sym first.1.auth) ∙ are.one;
    }

auth_after-is : (found : Option Bytes) (ps : List Bytes) (value : Bytes) → EachLacks ps → auth_after found ps ≡ Some value → ArePairs found ps value
auth_after-is found [] value each h = cc
auth_after-is found (last ∷ []) value each h = cc
auth_after-is found ([] ∷ next ∷ more) value each h =
    let tests = cond_option (is_empty next && is_empty more) found value h in
    record { pairs = []; spelled = is_none_left next more tests.0; right = refl; one = found_only found value tests.1 }
auth_after-is found ((c ∷ cs) ∷ next ∷ more) value each h =
    let tests = cond_option (may_follow found (c ∷ cs)) (auth_after (found_with found (auth_in (c ∷ cs))) (next ∷ more)) value h in
    more_pairs found (c ∷ cs) next more value each.0 tests.0 (auth_after-is (found_with found (auth_in (c ∷ cs))) (next ∷ more) value each.1 tests.1)

join_step : (text : Bytes) (ps : List Bytes) (p : Bytes) (more : List Bytes) → ps ≡ p ∷ more → join_with_byte 1 (text ∷ ps) ≡ text ++ 1 ∷ join_with_byte 1 ps
join_step text ps p more e = rw e

joined-pairs : (pairs : List Pair) → join_with_byte 1 (pair_pieces pairs) ≡ written_pairs pairs ++ 1 ∷ []
joined-pairs [] = refl
joined-pairs (pair ∷ pairs) =
    let next = some_pair_pieces pairs in
    join_step (pair_text pair) (pair_pieces pairs) next.0 next.1 next.2
    ∙ ap (λ l. pair_text pair ++ 1 ∷ l) (joined-pairs pairs)
    ∙ sym (append_assoc (pair_text pair ++ 1 ∷ []) (written_pairs pairs) (1 ∷ []) ∙ append_assoc (pair_text pair) (1 ∷ []) (written_pairs pairs ++ 1 ∷ []))

-- the text is these pairs, of which one is `auth` with this value
pub record IsBody (body value : Bytes) : Type 0 where
  pub pairs : List Pair
  pub spelled : body ≡ written_pairs pairs ++ 1 ∷ []
  pub right : list_all is_pair pairs ≡ true
  pub one : auth_values pairs ≡ value ∷ []

pub auth-is : (body value : Bytes) → auth_after None (pieces 1 body) ≡ Some value → IsBody body value
auth-is body value h =
    let are = auth_after-is None (pieces 1 body) value (pieces_lack body) h in
    record {
      pairs = are.pairs;
      spelled = sym (join_with_byte-slice_split 1 body) ∙ ap (join_with_byte 1) are.spelled ∙ joined-pairs are.pairs;
      right = are.right;
      one = are.one;
    }
