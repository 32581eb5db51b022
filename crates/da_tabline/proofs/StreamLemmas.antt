-- Lemmas on streams that come in pieces.
use Rattle.std.proofs.Common.{◌≡◌, ℕ, ◌+◌, ◌<◌, ◌≤◌, Bool, true, false, List, [], ◌∷◌, ◌++◌, length, take, drop, leb, eqb, cond, refl, sym, ap, ◌∙◌, subst, inl, inr, arith, append-nil, append_assoc}
use Rattle.std.specs.List.{AllByRecursion}
use Rattle.std.proofs.lemmas.Bool.{cases_Bool, eqb-true, leb-true, leb-false, lt-leb, le-leb}
use Rattle.std.proofs.lemmas.List.{length_push, take-append-drop, same_from_push, drop-append-le, drop-drop}
use Rattle.std.proofs.lemmas.List.Elements.{All-nil, All-push}
use Rattle.std.proofs.lemmas.List.Splits.{slice_split_none, slice_split_at}
use Rattle.da_base.specs.Words.{Bytes, pieces}
use Rattle.da_tabline.specs.Lines.{AreLines, LineCut, IsLineCut, before_long, with_ends, with_lines, line_cut, Cutter, new_cutter, after_feed, after_take, cutter_after, Use, Feed, Take, after_uses, bytes_fed, lines_taken}
use Rattle.da_tabline.specs.Parts.{Lacks}
use Rattle.da_tabline.proofs.LineLemmas.{IsFit, cut_from, line_cut-append, line_cut-fits, after_feed_none}

-- ---- one cut

pieces_of_lines : (lines : List Bytes) (rest : Bytes) → AllByRecursion (Lacks 10) lines → Lacks 10 rest → pieces 10 (with_ends lines ++ rest) ≡ lines ++ rest ∷ []
pieces_of_lines [] rest each last = slice_split_none (λ c. eqb c 10) rest last
pieces_of_lines (line ∷ lines) rest each last =
    ap (pieces 10) (append_assoc (line ++ 10 ∷ []) (with_ends lines) rest ∙ append_assoc line (10 ∷ []) (with_ends lines ++ rest))
    ∙ slice_split_at (λ c. eqb c 10) line 10 (with_ends lines ++ rest) each.0 refl
    ∙ ap (λ ps. line ∷ ps) (pieces_of_lines lines rest each.1 last)

pub one_cut : (bytes : Bytes) (lines others : List Bytes) (rest other : Bytes) → AreLines bytes lines rest → AreLines bytes others other
    → (lines ≡ others) × (rest ≡ other)
one_cut bytes lines others rest other one two =
    same_from_push lines others rest other
    (sym (pieces_of_lines lines rest one.each one.last) ∙ ap (pieces 10) (sym one.whole ∙ two.whole) ∙ pieces_of_lines others other two.each two.last)

-- ---- the cut is right

right_after : (max : ℕ) (line more rest : Bytes) (lines : List Bytes) (is_long : Bool) → Lacks 10 line → length line ≤ max
    → IsLineCut max more (record { lines = lines; rest = rest; is_long = is_long })
    → IsLineCut max (line ++ 10 ∷ more) (record { lines = line ∷ lines; rest = rest; is_long = is_long })
right_after max line more rest lines true lacks short right =
    let long = right.whole.0 in
    record {
      short = (short, right.short);
      whole = (
        record {
          begun = long.begun;
          more = long.more;
          whole =
              ap (λ l. line ++ 10 ∷ l) long.whole ∙ sym (append_assoc line (10 ∷ []) (with_ends lines ++ (long.begun ++ long.more)))
              ∙ sym (append_assoc (line ++ 10 ∷ []) (with_ends lines) (long.begun ++ long.more));
          each = (lacks, long.each);
          last = long.last;
          longer = long.longer;
        },
        right.whole.1,
      );
    }
right_after max line more rest lines false lacks short right =
    let all = right.whole.0 in
    record {
      short = (short, right.short);
      whole = (
        record {
          whole =
              ap (λ l. line ++ 10 ∷ l) all.whole ∙ sym (append_assoc line (10 ∷ []) (with_ends lines ++ rest))
              ∙ sym (append_assoc (line ++ 10 ∷ []) (with_ends lines) rest);
          each = (lacks, all.each);
          last = all.last;
        },
        right.whole.1,
      );
    }

right_before_long : (max : ℕ) (begun more : Bytes) → Lacks 10 begun → max < length begun → IsLineCut max (begun ++ more) before_long
right_before_long max begun more lacks longer =
    record {
      short = tt;
      whole = (record { begun = begun; more = more; whole = refl; each = tt; last = lacks; longer = longer }, refl);
    }

cut_from-right : (max : ℕ) (begun bytes : Bytes) → Lacks 10 begun → IsLineCut max (begun ++ bytes) (cut_from max begun bytes)
cut_from-right max begun [] lacks =
    elim (cases_Bool (leb (length begun) max)) [
      | inl e ↦
          rw e (record { short = tt; whole = (record { whole = append-nil begun; each = tt; last = lacks }, leb-true _ _ e) })
      | inr e ↦ rw e (right_before_long max begun [] lacks (leb-false _ _ e))
    ]
cut_from-right max begun (c ∷ cs) lacks =
    elim (cases_Bool (eqb c 10)) [
      | inl e ↦
          subst (λ x. IsLineCut max (begun ++ x ∷ cs) (cut_from max begun (c ∷ cs))) (sym (eqb-true c 10 e))
          (elim (cases_Bool (leb (length begun) max)) [
            | inl f ↦
                let more = cut_from-right max [] cs (All-nil (λ x. eqb x 10 ≡ false)) in
                rw (e, f) (right_after max begun cs (cut_from max [] cs).rest (cut_from max [] cs).lines (cut_from max [] cs).is_long lacks (leb-true _ _ f) more)
            | inr f ↦ rw (e, f) (right_before_long max begun (10 ∷ cs) lacks (leb-false _ _ f))
          ])
      | inr e ↦
          rw e
          (subst (λ bytes. IsLineCut max bytes (cut_from max (begun ++ c ∷ []) cs)) (append_assoc begun (c ∷ []) cs)
          (cut_from-right max (begun ++ c ∷ []) cs (All-push (λ x. eqb x 10 ≡ false) begun c lacks e)))
    ]

pub line_cut-right : (max : ℕ) (bytes : Bytes) → IsLineCut max bytes (line_cut max bytes)
line_cut-right max bytes =
    let lacks = All-nil (λ x. eqb x 10 ≡ false) in
    rw (line_cut-append max [] bytes lacks) (cut_from-right max [] bytes lacks)

-- ---- one piece after another

-- what more bytes make of a cut
abbrev then_cut : ℕ → LineCut → Bytes → LineCut
then_cut max cut bytes = cond cut.is_long cut (with_lines cut.lines (cut_from max cut.rest bytes))

cut_from_long : (max : ℕ) (begun bytes : Bytes) → leb (length begun) max ≡ false → cut_from max begun bytes ≡ before_long
cut_from_long max begun [] long = rw long
cut_from_long max begun (c ∷ cs) long =
    elim (cases_Bool (eqb c 10)) [
      | inl e ↦ rw (e, long)
      | inr e ↦ rw e (cut_from_long max (begun ++ c ∷ []) cs (lt-leb _ _ (omega (arith, leb-false _ _ long, length_push begun c))))
    ]

with_lines_then : (max : ℕ) (lines : List Bytes) (cut : LineCut) (bytes : Bytes) → with_lines lines (then_cut max cut bytes) ≡ then_cut max (with_lines lines cut) bytes
with_lines_then max lines cut bytes =
    elim (cases_Bool cut.is_long) [
      | inl e ↦ rw e
      | inr e ↦ rw (e, append_assoc lines cut.lines (cut_from max cut.rest bytes).lines)
    ]

cut_from-append : (max : ℕ) (begun bytes more : Bytes) → cut_from max begun (bytes ++ more) ≡ then_cut max (cut_from max begun bytes) more
cut_from-append max begun [] more =
    elim (cases_Bool (leb (length begun) max)) [
      | inl e ↦ rw e
      | inr e ↦ rw e (cut_from_long max begun more e)
    ]
cut_from-append max begun (c ∷ cs) more =
    elim (cases_Bool (eqb c 10)) [
      | inl e ↦
          elim (cases_Bool (leb (length begun) max)) [
            | inl f ↦ rw (e, f) (ap (with_lines (begun ∷ [])) (cut_from-append max [] cs more) ∙ with_lines_then max (begun ∷ []) (cut_from max [] cs) more)
            | inr f ↦ rw (e, f)
          ]
      | inr e ↦ rw e (cut_from-append max (begun ++ c ∷ []) cs more)
    ]

-- ---- a cutter, one feed after another

after_feed_long : (c : Cutter) (bytes : Bytes) → c.is_long ≡ true → after_feed c bytes ≡ c
after_feed_long c bytes long = rw long

after_feed_going : (c : Cutter) (bytes : Bytes) (cut : LineCut) → c.is_long ≡ false → line_cut c.max (c.rest ++ bytes) ≡ cut
    → after_feed c bytes ≡ record { max = c.max; ready = c.ready ++ cut.lines; rest = cut.rest; is_long = cut.is_long }
after_feed_going c bytes cut going e = rw (going, e)

after_cut : Cutter → LineCut → Cutter
after_cut c cut = record { max = c.max; ready = c.ready ++ cut.lines; rest = cut.rest; is_long = cut.is_long }

after_cut_fed : (c : Cutter) (cut : LineCut) (more : Bytes) → Lacks 10 cut.rest → after_feed (after_cut c cut) more ≡ after_cut c (then_cut c.max cut more)
unfolding after_cut
after_cut_fed c cut more lacks =
    elim (cases_Bool cut.is_long) [
      | inl e ↦ rw e
      | inr e ↦ rw (e, line_cut-append c.max cut.rest more lacks, append_assoc c.ready cut.lines (cut_from c.max cut.rest more).lines)
    ]

fed_cut : (c : Cutter) (bytes : Bytes) → c.is_long ≡ false → Lacks 10 c.rest → after_feed c bytes ≡ after_cut c (cut_from c.max c.rest bytes)
unfolding after_cut
fed_cut c bytes going lacks = after_feed_going c bytes (cut_from c.max c.rest bytes) going (line_cut-append c.max c.rest bytes lacks)

-- bytes in two feeds are the same bytes in one
pub after_feed-append : (c : Cutter) (bytes more : Bytes) → Lacks 10 c.rest → after_feed (after_feed c bytes) more ≡ after_feed c (bytes ++ more)
after_feed-append c bytes more lacks =
    elim (cases_Bool c.is_long) [
      | inl e ↦
          ap (λ d. after_feed d more) (after_feed_long c bytes e) ∙ after_feed_long c more e ∙ sym (after_feed_long c (bytes ++ more) e)
      | inr e ↦
          let cut = line_cut-append c.max c.rest bytes lacks in
          let open_yet : Lacks 10 (cut_from c.max c.rest bytes).rest =
          subst (λ l. Lacks 10 l.rest) cut (line_cut-fits c.max (c.rest ++ bytes)).open_yet in
          ap (λ d. after_feed d more) (fed_cut c bytes e lacks) ∙ after_cut_fed c (cut_from c.max c.rest bytes) more open_yet
          ∙ ap (after_cut c) (sym (cut_from-append c.max c.rest bytes more)) ∙ sym (fed_cut c (bytes ++ more) e lacks)
    ]

after_feed-nil : (c : Cutter) → IsFit c.max c.rest → after_feed c [] ≡ c
after_feed-nil c fit =
    elim (cases_Bool c.is_long) [
      | inl e ↦ after_feed_long c [] e
      | inr e ↦ after_feed_none c [] e fit.open_yet (All-nil (λ x. eqb x 10 ≡ false)) (omega (arith, fit.short)) ∙ rw (append-nil c.rest)
    ]

after_feed-fit : (c : Cutter) (bytes : Bytes) → IsFit c.max c.rest → IsFit (after_feed c bytes).max (after_feed c bytes).rest
after_feed-fit c bytes fit =
    elim (cases_Bool c.is_long) [
      | inl e ↦ rw (after_feed_long c bytes e) fit
      | inr e ↦ rw (after_feed_going c bytes (line_cut c.max (c.rest ++ bytes)) e refl) (line_cut-fits c.max (c.rest ++ bytes))
    ]

-- what was taken doesn't matter to a feed
after_take-feed : (c : Cutter) (bytes : Bytes)
    → (take 1 c.ready ++ (after_feed (after_take c) bytes).ready ≡ (after_feed c bytes).ready)
    × ((after_feed (after_take c) bytes).rest ≡ (after_feed c bytes).rest)
    × ((after_feed (after_take c) bytes).is_long ≡ (after_feed c bytes).is_long)
after_take-feed c bytes =
    elim (cases_Bool c.is_long) [
      | inl e ↦ rw e (take-append-drop 1 c.ready, refl, refl)
      | inr e ↦
          rw e (
            sym (append_assoc (take 1 c.ready) (drop 1 c.ready) (line_cut c.max (c.rest ++ bytes)).lines)
                ∙ ap (λ l. l ++ (line_cut c.max (c.rest ++ bytes)).lines) (take-append-drop 1 c.ready),
            refl,
            refl,
          )
    ]

-- the uses of a cutter gave what one feed of all bytes gives
record Gave (c : Cutter) (uses : List Use) (whole : Cutter) : Type 0 where
  ready : lines_taken c uses ++ (after_uses c uses).ready ≡ whole.ready
  rest : (after_uses c uses).rest ≡ whole.rest
  is_long : (after_uses c uses).is_long ≡ whole.is_long

gave : (c : Cutter) (uses : List Use) → IsFit c.max c.rest → Gave c uses (after_feed c (bytes_fed uses))
gave c [] fit = let same = after_feed-nil c fit in record { ready = ap (λ s. s.ready) (sym same); rest = ap (λ s. s.rest) (sym same); is_long = ap (λ s. s.is_long) (sym same) }
gave c (Feed bytes ∷ uses) fit =
    let more = gave (after_feed c bytes) uses (after_feed-fit c bytes fit) in
    let whole = after_feed-append c bytes (bytes_fed uses) fit.open_yet in
    record {
      ready = more.ready ∙ ap (λ s. s.ready) whole;
      rest = more.rest ∙ ap (λ s. s.rest) whole;
      is_long = more.is_long ∙ ap (λ s. s.is_long) whole;
    }
gave c (Take ∷ uses) fit =
    let more = gave (after_take c) uses fit in
    let whole = after_take-feed c (bytes_fed uses) in
    record {
      ready =
          append_assoc (take 1 c.ready) (lines_taken (after_take c) uses) (after_uses (after_take c) uses).ready
          ∙ ap (λ l. take 1 c.ready ++ l) more.ready ∙ whole.0;
      rest = more.rest ∙ whole.1;
      is_long = more.is_long ∙ whole.2;
    }

pub all_uses : (max : ℕ) (uses : List Use) →
    (lines_taken (new_cutter max) uses ++ (after_uses (new_cutter max) uses).ready ≡ (line_cut max (bytes_fed uses)).lines)
    × ((after_uses (new_cutter max) uses).rest ≡ (line_cut max (bytes_fed uses)).rest)
    × ((after_uses (new_cutter max) uses).is_long ≡ (line_cut max (bytes_fed uses)).is_long)
all_uses max uses =
    let all = gave (new_cutter max) uses (record { short = omega arith; open_yet = All-nil (λ x. eqb x 10 ≡ false) }) in
    (all.ready, all.rest, all.is_long)

-- ---- a cutter from the first byte on

abbrev left_of : ℕ → ℕ → LineCut → Cutter
left_of max n cut = record { max = max; ready = drop n cut.lines; rest = cut.rest; is_long = cut.is_long }

left_of-feed : (max n : ℕ) (cut : LineCut) (more : Bytes) → Lacks 10 cut.rest → n ≤ length cut.lines → after_feed (left_of max n cut) more ≡ left_of max n (then_cut max cut more)
left_of-feed max n cut more lacks taken =
    elim (cases_Bool cut.is_long) [
      | inl e ↦ rw e
      | inr e ↦ rw (e, line_cut-append max cut.rest more lacks, drop-append-le n cut.lines (cut_from max cut.rest more).lines taken)
    ]

-- before the first byte
pub cutter_after_none : (max : ℕ) → cutter_after max [] 0 ≡ new_cutter max
cutter_after_none max = rw (le-leb 0 max (omega arith))

-- more bytes
pub cutter_after_feed : (max : ℕ) (bytes more : Bytes) (n : ℕ) → n ≤ length (line_cut max bytes).lines
    → after_feed (cutter_after max bytes n) more ≡ cutter_after max (bytes ++ more) n
cutter_after_feed max bytes more n taken =
    let nothing = All-nil (λ x. eqb x 10 ≡ false) in
    let cut = line_cut-append max [] bytes nothing in
    let whole : line_cut max (bytes ++ more) ≡ then_cut max (line_cut max bytes) more =
    line_cut-append max [] (bytes ++ more) nothing ∙ cut_from-append max [] bytes more ∙ ap (λ l. then_cut max l more) (sym cut) in
    left_of-feed max n (line_cut max bytes) more (line_cut-fits max bytes).open_yet taken ∙ ap (left_of max n) (sym whole)

-- one line taken
pub cutter_after_take : (max : ℕ) (bytes : Bytes) (n : ℕ) → after_take (cutter_after max bytes n) ≡ cutter_after max bytes (n + 1)
cutter_after_take max bytes n = ap {A = List Bytes} (λ ready. record (cutter_after max bytes n) { ready = ready }) (drop-drop 1 n (line_cut max bytes).lines)
