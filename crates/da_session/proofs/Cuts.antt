-- The cut of more bytes, where a cutter holds the open line alone.
use Rattle.std.proofs.Common.{◌≡◌, ℕ, false, List, [], ◌++◌, eqb, refl, sym, ap, ◌∙◌, arith}
use Rattle.std.proofs.lemmas.Bool.{le-leb}
use Rattle.std.proofs.lemmas.List.Elements.{All-nil}
use Rattle.da_base.specs.Words.{Bytes}
use Rattle.da_tabline.specs.Lines.{Cutter, after_feed, line_cut, new_cutter}
use Rattle.da_tabline.proofs.StreamLemmas.{after_feed-append}

-- the cutter that was fed these bytes, and whose lines were all taken
abbrev pub idle_cutter : ℕ → Bytes → Cutter
idle_cutter max bytes = record { max = max; ready = []; rest = (line_cut max bytes).rest; is_long = (line_cut max bytes).is_long }

pub idle_new : (max : ℕ) → idle_cutter max [] ≡ new_cutter max
idle_new max = rw (le-leb 0 max (omega arith))

pub nothing_cut : (max : ℕ) → (line_cut max []).lines ≡ []
nothing_cut max = rw (le-leb 0 max (omega arith))

pub nothing_long : (max : ℕ) → (line_cut max []).is_long ≡ false
nothing_long max = rw (le-leb 0 max (omega arith))

module _ (max : ℕ) (bytes more : Bytes) (short : (line_cut max bytes).is_long ≡ false) where
  -- what the further bytes are cut into
  further : Cutter
  further = record {
    max = max;
    ready = (line_cut max ((line_cut max bytes).rest ++ more)).lines;
    rest = (line_cut max ((line_cut max bytes).rest ++ more)).rest;
    is_long = (line_cut max ((line_cut max bytes).rest ++ more)).is_long;
  }

  fed_on : (c : Cutter) → c.is_long ≡ false → c.rest ≡ (line_cut max bytes).rest → c.max ≡ max → after_feed c more ≡ record further { ready = c.ready ++ further.ready }
  unfolding further
  fed_on c going rest same = rw (going, rest, same)

  whole : after_feed (new_cutter max) (bytes ++ more) ≡ record further { ready = (line_cut max bytes).lines ++ further.ready }
  whole =
      sym (after_feed-append (new_cutter max) bytes more (All-nil (λ x. eqb x 10 ≡ false)))
      ∙ fed_on (after_feed (new_cutter max) bytes) short refl refl

  idle_fed : after_feed (idle_cutter max bytes) more ≡ further
  unfolding further
  idle_fed = fed_on (idle_cutter max bytes) short refl refl

  -- the cutter after the further bytes
  pub fed_ready : (c : Cutter) → c ≡ after_feed (idle_cutter max bytes) more → (line_cut max (bytes ++ more)).lines ≡ (line_cut max bytes).lines ++ c.ready
  fed_ready c fed = ap (λ (d : Cutter). d.ready) whole ∙ ap (λ (l : List Bytes). (line_cut max bytes).lines ++ l) (sym (ap (λ (d : Cutter). d.ready) (fed ∙ idle_fed)))

  pub fed_long : (c : Cutter) → c ≡ after_feed (idle_cutter max bytes) more → c.is_long ≡ (line_cut max (bytes ++ more)).is_long
  unfolding further
  fed_long c fed = ap (λ (d : Cutter). d.is_long) (fed ∙ idle_fed) ∙ sym (ap (λ (d : Cutter). d.is_long) whole)

  -- and once its lines are taken
  pub fed_idle : (c left : Cutter) → c ≡ after_feed (idle_cutter max bytes) more → left ≡ record c { ready = [] } → left ≡ idle_cutter max (bytes ++ more)
  unfolding further
  fed_idle c left fed taken =
      taken ∙ ap (λ (d : Cutter). record d { ready = [] }) (fed ∙ idle_fed)
      ∙ sym (ap (λ (d : Cutter). record d { ready = [] }) whole)
