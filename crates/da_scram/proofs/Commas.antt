-- Texts in pieces with commas between them.
use Rattle.std.proofs.Common.{◌≡◌, ℕ, ◌<◌, Bool, true, false, cond, not, ◌&&◌, ◌||◌, List, [], ◌∷◌, ◌++◌, length, flat_map, eqb, codes, refl, sym, ap, ◌∙◌, inl, inr, append-nil, append_assoc, arith}
use Rattle.std.specs.Prelude.{nat_le}
use Rattle.std.specs.List.{list_all, list_any, join_with_byte}
use Rattle.std.proofs.lemmas.Bool.{cases_Bool, cases_eq, ne_eqb, eqb-true, and_parts, or_parts, not-true}
use Rattle.std.proofs.lemmas.List.Elements.{All-nil, All-cons, All-append}
use Rattle.std.proofs.lemmas.List.Splits.{slice_split_at, join_with_byte-slice_split}
use Rattle.std.proofs.lemmas.List.Concat.{flat_map-append}
use Rattle.da_base.specs.Words.{Bytes, pieces}
use Rattle.da_tabline.specs.Parts.{Lacks, SplitsAt}
use Rattle.da_tabline.proofs.PartLemmas.{pieces-Lacks, pieces-SplitsAt}
use Rattle.da_scram.specs.Messages.{is_letter, is_extension, is_nonce, listed, written_letter, written, written_authzid}

abbrev pub IsNoComma : ℕ → Type 0
IsNoComma c = eqb c 44 ≡ false

pub Lacks-cons : (c : ℕ) (cs : Bytes) → IsNoComma c → Lacks 44 cs → Lacks 44 (c ∷ cs)
Lacks-cons c cs first rest = All-cons IsNoComma c cs first rest

pub Lacks-nil : Lacks 44 []
Lacks-nil = All-nil IsNoComma

pub Lacks-append : (front back : Bytes) → Lacks 44 front → Lacks 44 back → Lacks 44 (front ++ back)
Lacks-append front back f b = All-append IsNoComma front back f b

-- ---- pieces

abbrev pub EachLacks : List Bytes → Type 0
EachLacks [] = Unit {0}
EachLacks (p ∷ ps) = Lacks 44 p × EachLacks ps

pub EachLacks-append : (front back : List Bytes) → EachLacks front → EachLacks back → EachLacks (front ++ back)
EachLacks-append [] back f b = b
EachLacks-append (p ∷ front) back f b = (f.0, EachLacks-append front back f.1 b)

pub pieces-at : (front back : Bytes) → Lacks 44 front → pieces 44 (front ++ 44 ∷ back) ≡ front ∷ pieces 44 back
pieces-at front back lacks = slice_split_at (λ c. eqb c 44) front 44 back lacks refl

pub pieces-listed : (front : Bytes) (more : List Bytes) → Lacks 44 front → EachLacks more → pieces 44 (front ++ listed more) ≡ front ∷ more
pieces-listed front [] lacks each = ap (pieces 44) (append-nil front) ∙ pieces-Lacks 44 front lacks
pieces-listed front (p ∷ more) lacks each = pieces-at front (p ++ listed more) lacks ∙ ap (λ ps. front ∷ ps) (pieces-listed p more each.0 each.1)

pub joined-listed : (front : Bytes) (more : List Bytes) → join_with_byte 44 (front ∷ more) ≡ front ++ listed more
joined-listed front [] = sym (append-nil front)
joined-listed front (p ∷ more) = ap (λ text. front ++ 44 ∷ text) (joined-listed p more)

pub joined-pieces : (text : Bytes) (ps : List Bytes) → pieces 44 text ≡ ps → text ≡ join_with_byte 44 ps
joined-pieces text ps e = sym (join_with_byte-slice_split 44 text) ∙ ap (join_with_byte 44) e

pub listed-last : (more : List Bytes) (last : Bytes) → listed (more ++ last ∷ []) ≡ listed more ++ 44 ∷ last
listed-last more last = flat_map-append (λ extension. 44 ∷ extension) more (last ∷ []) ∙ ap (λ text. listed more ++ 44 ∷ text) (append-nil last)

-- ---- what the pieces between commas are

pub wrong_piece : (rest extension more : Bytes) → SplitsAt 44 rest extension more → is_extension extension ≡ false → list_all is_extension (pieces 44 rest) ≡ false
wrong_piece rest extension more cut wrong = ap (list_all is_extension) (pieces-SplitsAt 44 rest extension more cut) ∙ rw wrong

pub right_piece : (rest extension more : Bytes) → SplitsAt 44 rest extension more → is_extension extension ≡ true
    → list_all is_extension (pieces 44 more) ≡ list_all is_extension (pieces 44 rest)
right_piece rest extension more cut right = sym (ap (list_all is_extension) (pieces-SplitsAt 44 rest extension more cut) ∙ rw right)

and-true : (b : Bool) → (b && true) ≡ b
and-true true = refl
and-true false = refl

pub last_piece : (rest : Bytes) → Lacks 44 rest → is_extension rest ≡ list_all is_extension (pieces 44 rest)
last_piece rest lacks = sym (ap (list_all is_extension) (pieces-Lacks 44 rest lacks) ∙ and-true (is_extension rest))

-- ---- what has no comma

Lacks-list_any : (text : Bytes) → list_any (λ e. eqb e 44) text ≡ false → Lacks 44 text
Lacks-list_any [] h = Lacks-nil
Lacks-list_any (c ∷ cs) h = let parts = or_parts (eqb c 44) (list_any (λ e. eqb e 44) cs) h in Lacks-cons c cs parts.0 (Lacks-list_any cs parts.1)

no_comma_other : (c : ℕ) (test : ℕ → Bool) → test 44 ≡ false → test c ≡ true → IsNoComma c
no_comma_other c test none is =
    elim (cases_Bool (eqb c 44)) [
      | inl e ↦ let same : test c ≡ test 44 = ap test (eqb-true c 44 e) in cc
      | inr e ↦ e
    ]

pub Lacks-extension : (text : Bytes) → is_extension text ≡ true → Lacks 44 text
Lacks-extension [] h = cc
Lacks-extension (c ∷ []) h = cc
Lacks-extension (c ∷ d ∷ text) h =
    let parts = and_parts _ (not (list_any (λ e. eqb e 44) text)) h in
    let front = and_parts (is_letter c) (eqb d 61) parts.0 in
    Lacks-cons c (d ∷ text) (no_comma_other c is_letter refl front.0)
    (Lacks-cons d text (no_comma_other d (λ x. eqb x 61) refl front.1) (Lacks-list_any text (not-true _ parts.1)))

pub EachLacks-extensions : (extensions : List Bytes) → list_all is_extension extensions ≡ true → EachLacks extensions
EachLacks-extensions [] h = tt
EachLacks-extensions (e ∷ es) h =
    let parts = and_parts (is_extension e) (list_all is_extension es) h in (Lacks-extension e parts.0, EachLacks-extensions es parts.1)

abbrev is_nonce_letter : ℕ → Bool
is_nonce_letter c = nat_le 33 c && nat_le c 126 && not (eqb c 44)

Lacks-nonce_letters : (text : Bytes) → list_all is_nonce_letter text ≡ true → Lacks 44 text
Lacks-nonce_letters [] h = Lacks-nil
Lacks-nonce_letters (c ∷ cs) h =
    let parts = and_parts (is_nonce_letter c) (list_all is_nonce_letter cs) h in
    Lacks-cons c cs (not-true _ (and_parts _ (not (eqb c 44)) parts.0).1) (Lacks-nonce_letters cs parts.1)

pub Lacks-nonce : (text : Bytes) → is_nonce text ≡ true → Lacks 44 text
Lacks-nonce text h = Lacks-nonce_letters text (and_parts _ (list_all is_nonce_letter text) h).1

Lacks-written_letter : (c : ℕ) → Lacks 44 (written_letter c)
Lacks-written_letter c =
    elim (cases_Bool (eqb c 44)) [
      | inl e ↦ rw e (Lacks-cons 61 (50 ∷ 67 ∷ []) refl (Lacks-cons 50 (67 ∷ []) refl (Lacks-cons 67 [] refl Lacks-nil)))
      | inr other ↦
          elim (cases_Bool (eqb c 61)) [
            | inl e ↦ rw (other, e) (Lacks-cons 61 (51 ∷ 68 ∷ []) refl (Lacks-cons 51 (68 ∷ []) refl (Lacks-cons 68 [] refl Lacks-nil)))
            | inr e ↦ rw (other, e) (Lacks-cons c [] other Lacks-nil)
          ]
    ]

pub Lacks-written : (name : Bytes) → Lacks 44 (written name)
Lacks-written [] = Lacks-nil
Lacks-written (c ∷ cs) = Lacks-append (written_letter c) (written cs) (Lacks-written_letter c) (Lacks-written cs)

pub Lacks-written_authzid : (authzid : Bytes) → Lacks 44 (written_authzid authzid)
Lacks-written_authzid [] = Lacks-nil
Lacks-written_authzid (c ∷ cs) = Lacks-cons 97 (61 ∷ written (c ∷ cs)) refl (Lacks-cons 61 (written (c ∷ cs)) refl (Lacks-written (c ∷ cs)))
