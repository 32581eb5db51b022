use Rattle.std.proofs.Common.{refl, ap, ◌∙◌, ◌∷◌, ◌++◌, arith}
use Rattle.da_tabline.proofs.PartLemmas.{pieces-Lacks, pieces-SplitsAt}
use Rattle.da_tabline.proofs.parts.four_pieces.Goals as goal

pub returns-in_default : goal.returns-in_default
returns-in_default c = rw (pieces-Lacks _ _ c.in_default.ensures.split) (omega arith)

pub returns-in_default-split_at_byte : goal.returns-in_default-split_at_byte
returns-in_default-split_at_byte c =
    rw (pieces-SplitsAt _ _ _ _ c.in-Some.ensures.split, pieces-Lacks _ _ c.in_default-split_at_byte.ensures.split) (omega arith)

pub returns-in_default-split_at_byte-2 : goal.returns-in_default-split_at_byte-2
returns-in_default-split_at_byte-2 c =
    rw (
      pieces-SplitsAt _ _ _ _ c.in-Some.ensures.split,
      pieces-SplitsAt _ _ _ _ c.in-Some-split_at_byte.ensures.split,
      pieces-Lacks _ _ c.in_default-split_at_byte-2.ensures.split,
    ) (omega arith)

pub returns-in-None : goal.returns-in-None
returns-in-None c =
    record {
      cut =
          rw (
            pieces-SplitsAt _ _ _ _ c.in-Some.ensures.split,
            pieces-SplitsAt _ _ _ _ c.in-Some-split_at_byte.ensures.split,
            pieces-SplitsAt _ _ _ _ c.in-Some-split_at_byte-2.ensures.split,
            pieces-Lacks _ _ c.in-None.ensures.split,
          ) refl;
      whole = c.in-Some.ensures.split.whole ∙ ap (λ text. c.in-Some.first.now ++ c.args.separator ∷ text) c.in-Some-split_at_byte.ensures.split.whole;
    }

pub returns-in-Some-split_at_byte-3 : goal.returns-in-Some-split_at_byte-3
returns-in-Some-split_at_byte-3 c =
    record {
      cut =
          rw (
            pieces-SplitsAt _ _ _ _ c.in-Some.ensures.split,
            pieces-SplitsAt _ _ _ _ c.in-Some-split_at_byte.ensures.split,
            pieces-SplitsAt _ _ _ _ c.in-Some-split_at_byte-2.ensures.split,
            pieces-SplitsAt _ _ _ _ c.in-Some-split_at_byte-3.ensures.split,
          ) refl;
      whole = c.in-Some.ensures.split.whole ∙ ap (λ text. c.in-Some.first.now ++ c.args.separator ∷ text) c.in-Some-split_at_byte.ensures.split.whole;
    }
