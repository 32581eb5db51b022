-- Lemmas on what bytes are cut into.
use Rattle.std.proofs.Common.{◌≡◌, ℕ, ◌+◌, ◌<◌, ◌≤◌, Bool, true, false, List, [], ◌∷◌, ◌++◌, length, leb, eqb, cond, refl, sym, ap, ◌∙◌, inl, inr, arith, append-nil, append_assoc, Result, Ok, Err}
use Rattle.std.proofs.lemmas.Bool.{cases_Bool, eqb-true, leb-true, le-leb, lt-leb}
use Rattle.std.proofs.lemmas.List.{length-append}
use Rattle.std.proofs.lemmas.List.Elements.{All-nil, All-push, All-append}
use Rattle.std.proofs.lemmas.List.Splits.{slice_split_none, slice_split_at}
use Rattle.da_base.specs.Words.{Bytes, pieces}
use Rattle.da_tabline.specs.Lines.{LineCut, before_long, open_line, with_lines, cut_of, line_cut, Cutter, after_feed}
use Rattle.da_tabline.specs.Feeding.{Feeds, Keeps}
use Rattle.da_tabline.specs.declared.cutter.LineFault.{LineFault}
use Rattle.da_tabline.specs.declared.cutter.LineFault.TheVariants.{TooLong, NoMemory}
use Rattle.da_tabline.specs.Parts.{Lacks, SplitsAt}

-- there is at least one piece
some_piece : (text : Bytes) → (p : Bytes) × (ps : List Bytes) × (pieces 10 text ≡ p ∷ ps)
some_piece [] = ([], [], refl)
some_piece (c ∷ cs) =
    elim (cases_Bool (eqb c 10)) [
      | inl e ↦ ([], pieces 10 cs, rw e)
      | inr e ↦ let more = some_piece cs in (c ∷ more.0, more.1, rw (e, more.2))
    ]

cut_of-cons : (max : ℕ) (line more : Bytes)
    → cut_of max (line ∷ pieces 10 more) ≡ cond (leb (length line) max) (with_lines (line ∷ []) (line_cut max more)) before_long
cut_of-cons max line more = let next = some_piece more in rw next.2

-- the first line of a text
pub line_cut_at : (max : ℕ) (line more : Bytes) → Lacks 10 line
    → line_cut max (line ++ 10 ∷ more) ≡ cond (leb (length line) max) (with_lines (line ∷ []) (line_cut max more)) before_long
line_cut_at max line more lacks = ap (cut_of max) (slice_split_at (λ c. eqb c 10) line 10 more lacks refl) ∙ cut_of-cons max line more

-- a text that has no LF
pub line_cut_none : (max : ℕ) (rest : Bytes) → Lacks 10 rest → line_cut max rest ≡ cond (leb (length rest) max) (open_line rest) before_long
line_cut_none max rest lacks = ap (cut_of max) (slice_split_none (λ c. eqb c 10) rest lacks)

-- ---- byte by byte

-- what an open line and the bytes after it are cut into
abbrev pub cut_from : ℕ → Bytes → Bytes → LineCut
cut_from max begun [] = cond (leb (length begun) max) (open_line begun) before_long
cut_from max begun (c ∷ cs) =
    cond (eqb c 10) (cond (leb (length begun) max) (with_lines (begun ∷ []) (cut_from max [] cs)) before_long) (cut_from max (begun ++ c ∷ []) cs)

pub line_cut-append : (max : ℕ) (begun bytes : Bytes) → Lacks 10 begun → line_cut max (begun ++ bytes) ≡ cut_from max begun bytes
line_cut-append max begun [] lacks = ap (line_cut max) (append-nil begun) ∙ line_cut_none max begun lacks
line_cut-append max begun (c ∷ cs) lacks =
    elim (cases_Bool (eqb c 10)) [
      | inl e ↦
          ap (λ x. line_cut max (begun ++ x ∷ cs)) (eqb-true c 10 e) ∙ line_cut_at max begun cs lacks
          ∙ rw e (ap (λ cut. cond (leb (length begun) max) (with_lines (begun ∷ []) cut) before_long) (line_cut-append max [] cs (All-nil (λ x. eqb x 10 ≡ false))))
      | inr e ↦
          ap (line_cut max) (sym (append_assoc begun (c ∷ []) cs))
          ∙ line_cut-append max (begun ++ c ∷ []) cs (All-push (λ x. eqb x 10 ≡ false) begun c lacks e)
          ∙ rw e
    ]

-- ---- the open line

-- it has at most max bytes, and no LF
pub record IsFit (max : ℕ) (rest : Bytes) : Type 0 where
  pub short : length rest ≤ max
  pub open_yet : Lacks 10 rest

nothing_fits : (max : ℕ) → IsFit max []
nothing_fits max = record { short = omega arith; open_yet = All-nil (λ x. eqb x 10 ≡ false) }

cut_from-fits : (max : ℕ) (begun bytes : Bytes) → Lacks 10 begun → IsFit max (cut_from max begun bytes).rest
cut_from-fits max begun [] lacks =
    elim (cases_Bool (leb (length begun) max)) [
      | inl e ↦ rw e (record { short = leb-true _ _ e; open_yet = lacks })
      | inr e ↦ rw e (nothing_fits max)
    ]
cut_from-fits max begun (c ∷ cs) lacks =
    elim (cases_Bool (eqb c 10)) [
      | inl e ↦
          elim (cases_Bool (leb (length begun) max)) [
            | inl f ↦ rw (e, f) (cut_from-fits max [] cs (All-nil (λ x. eqb x 10 ≡ false)))
            | inr f ↦ rw (e, f) (nothing_fits max)
          ]
      | inr e ↦ rw e (cut_from-fits max (begun ++ c ∷ []) cs (All-push (λ x. eqb x 10 ≡ false) begun c lacks e))
    ]

pub line_cut-fits : (max : ℕ) (bytes : Bytes) → IsFit max (line_cut max bytes).rest
line_cut-fits max bytes =
    let lacks = All-nil (λ x. eqb x 10 ≡ false) in
    rw (line_cut-append max [] bytes lacks) (cut_from-fits max [] bytes lacks)

-- ---- a cutter after a feed

closed : (c : Cutter) (bytes : Bytes) (cut : LineCut) → c.is_long ≡ false → line_cut c.max (c.rest ++ bytes) ≡ cut
    → after_feed c bytes ≡ record { max = c.max; ready = c.ready ++ cut.lines; rest = cut.rest; is_long = cut.is_long }
closed c bytes cut going e = rw (going, e)

pub after_feed_none : (c : Cutter) (bytes : Bytes) → c.is_long ≡ false → Lacks 10 c.rest → Lacks 10 bytes → length c.rest + length bytes ≤ c.max
    → after_feed c bytes ≡ record c { rest = c.rest ++ bytes }
after_feed_none c bytes going lacks more fits =
    let short : leb (length (c.rest ++ bytes)) c.max ≡ true = le-leb _ _ (omega (arith, length-append c.rest bytes)) in
    closed c bytes (open_line (c.rest ++ bytes)) going
    (line_cut_none c.max (c.rest ++ bytes) (All-append (λ x. eqb x 10 ≡ false) c.rest bytes lacks more) ∙ rw short)
    ∙ rw (append-nil c.ready, going)

pub after_feed_none_long : (c : Cutter) (bytes : Bytes) → c.is_long ≡ false → Lacks 10 c.rest → Lacks 10 bytes → c.max < length c.rest + length bytes
    → after_feed c bytes ≡ record { max = c.max; ready = c.ready; rest = []; is_long = true }
after_feed_none_long c bytes going lacks more longer =
    let long : leb (length (c.rest ++ bytes)) c.max ≡ false = lt-leb _ _ (omega (arith, length-append c.rest bytes)) in
    closed c bytes before_long going
    (line_cut_none c.max (c.rest ++ bytes) (All-append (λ x. eqb x 10 ≡ false) c.rest bytes lacks more) ∙ rw long)
    ∙ rw (append-nil c.ready)

cut_at_end : (c : Cutter) (end more : Bytes) → Lacks 10 c.rest → Lacks 10 end
    → line_cut c.max (c.rest ++ (end ++ 10 ∷ more)) ≡ cond (leb (length (c.rest ++ end)) c.max) (with_lines ((c.rest ++ end) ∷ []) (line_cut c.max more)) before_long
cut_at_end c end more lacks ended =
    ap (line_cut c.max) (sym (append_assoc c.rest end (10 ∷ more))) ∙ line_cut_at c.max (c.rest ++ end) more (All-append (λ x. eqb x 10 ≡ false) c.rest end lacks ended)

pub after_feed_end : (c : Cutter) (end more : Bytes) → c.is_long ≡ false → Lacks 10 c.rest → Lacks 10 end → length c.rest + length end ≤ c.max
    → (lines : List Bytes) (rest : Bytes) (is_long : Bool) → record { lines = lines; rest = rest; is_long = is_long } ≡ line_cut c.max more
    → after_feed c (end ++ 10 ∷ more) ≡ record { max = c.max; ready = (c.ready ++ (c.rest ++ end) ∷ []) ++ lines; rest = rest; is_long = is_long }
after_feed_end c end more going lacks ended fits lines rest is_long cut =
    let short : leb (length (c.rest ++ end)) c.max ≡ true = le-leb _ _ (omega (arith, length-append c.rest end)) in
    closed c (end ++ 10 ∷ more) (with_lines ((c.rest ++ end) ∷ []) (record { lines = lines; rest = rest; is_long = is_long })) going
    (cut_at_end c end more lacks ended ∙ rw (short, ← cut))
    ∙ rw (append_assoc c.ready ((c.rest ++ end) ∷ []) lines)

pub after_feed_end_long : (c : Cutter) (end more : Bytes) → c.is_long ≡ false → Lacks 10 c.rest → Lacks 10 end → c.max < length c.rest + length end
    → after_feed c (end ++ 10 ∷ more) ≡ record { max = c.max; ready = c.ready; rest = []; is_long = true }
after_feed_end_long c end more going lacks ended longer =
    let long : leb (length (c.rest ++ end)) c.max ≡ false = lt-leb _ _ (omega (arith, length-append c.rest end)) in
    closed c (end ++ 10 ∷ more) before_long going (cut_at_end c end more lacks ended ∙ rw long) ∙ rw (append-nil c.ready)

-- ---- line by line, after the lines so far

pub cut_step : (max : ℕ) (bytes left line more : Bytes) (lines : List Bytes) → line_cut max bytes ≡ with_lines lines (line_cut max left)
    → SplitsAt 10 left line more → length line ≤ max → line_cut max bytes ≡ with_lines (lines ++ line ∷ []) (line_cut max more)
cut_step max bytes left line more lines so_far split fits =
    so_far
    ∙ ap (with_lines lines) (ap (line_cut max) split.whole ∙ line_cut_at max line more split.first)
    ∙ rw (le-leb _ _ fits, append_assoc lines (line ∷ []) (line_cut max more).lines)

pub cut_long : (max : ℕ) (bytes left line more : Bytes) (lines : List Bytes) → line_cut max bytes ≡ with_lines lines (line_cut max left)
    → SplitsAt 10 left line more → max < length line → line_cut max bytes ≡ record { lines = lines; rest = []; is_long = true }
cut_long max bytes left line more lines so_far split longer =
    so_far
    ∙ ap (with_lines lines) (ap (line_cut max) split.whole ∙ line_cut_at max line more split.first)
    ∙ rw (lt-leb _ _ longer, append-nil lines)

pub cut_end : (max : ℕ) (bytes left : Bytes) (lines : List Bytes) → line_cut max bytes ≡ with_lines lines (line_cut max left)
    → Lacks 10 left → length left ≤ max → line_cut max bytes ≡ record { lines = lines; rest = left; is_long = false }
cut_end max bytes left lines so_far lacks fits =
    so_far ∙ ap (with_lines lines) (line_cut_none max left lacks) ∙ rw (le-leb _ _ fits, append-nil lines)

pub cut_end_long : (max : ℕ) (bytes left : Bytes) (lines : List Bytes) → line_cut max bytes ≡ with_lines lines (line_cut max left)
    → Lacks 10 left → max < length left → line_cut max bytes ≡ record { lines = lines; rest = []; is_long = true }
cut_end_long max bytes left lines so_far lacks longer =
    so_far ∙ ap (with_lines lines) (line_cut_none max left lacks) ∙ rw (lt-leb _ _ longer, append-nil lines)

pub length_after_split : (byte : ℕ) (text front back : Bytes) → SplitsAt byte text front back → length text ≡ length front + length back + 1
length_after_split byte text front back s = ap length s.whole ∙ length-append front (byte ∷ back) ∙ omega arith

pub keep_feeds : (old : Cutter) (whole bytes rest : Bytes) (lines : List Bytes) (is_long : Bool) (new : Cutter) (r : Result (Unit {0}) LineFault)
    → after_feed old bytes ≡ record { max = old.max; ready = (old.ready ++ whole ∷ []) ++ lines; rest = rest; is_long = is_long }
    → Keeps old whole lines rest is_long new r → Feeds old bytes new r
keep_feeds old whole bytes rest lines is_long new (Ok done) e k = (k.0 ∙ sym e, ap (λ s. s.is_long) k.0 ∙ k.1)
keep_feeds old whole bytes rest lines is_long new (Err TooLong) e k = (k.0 ∙ sym e, ap (λ s. s.is_long) k.0 ∙ k.1)
keep_feeds old whole bytes rest lines is_long new (Err NoMemory) e k = k

pub lengthened : (inside old : Cutter) (bytes : Bytes) → inside ≡ old → record inside { rest = inside.rest ++ bytes } ≡ record old { rest = old.rest ++ bytes }
lengthened inside old bytes e = ap {A = Cutter} (λ s. record s { rest = s.rest ++ bytes }) e
