use Rattle.std.proofs.Common.{refl}
use Rattle.da_plain.proofs.PlainMessages.{pieces-Lacks, pieces-SplitsAt, plain_parts-more}
use Rattle.da_plain.proofs.plain.three_parts.Goals as goal

pub returns-in_default : goal.returns-in_default
returns-in_default c = rw (pieces-Lacks _ _ c.in_default.ensures.split) refl

pub returns-in_default-split_at_byte : goal.returns-in_default-split_at_byte
returns-in_default-split_at_byte c =
    rw (pieces-SplitsAt _ _ _ c.in-Some.ensures.split, pieces-Lacks _ _ c.in_default-split_at_byte.ensures.split) refl

pub returns-in-None : goal.returns-in-None
returns-in-None c =
    rw (
      pieces-SplitsAt _ _ _ c.in-Some.ensures.split,
      pieces-SplitsAt _ _ _ c.in-Some-split_at_byte.ensures.split,
      pieces-Lacks _ _ c.in-None.ensures.split,
    ) refl

pub returns-in-Some-split_at_byte-2 : goal.returns-in-Some-split_at_byte-2
returns-in-Some-split_at_byte-2 c =
    rw (
      pieces-SplitsAt _ _ _ c.in-Some.ensures.split,
      pieces-SplitsAt _ _ _ c.in-Some-split_at_byte.ensures.split,
      pieces-SplitsAt _ _ _ c.in-Some-split_at_byte-2.ensures.split,
    ) (plain_parts-more c.in-Some.authzid.now c.in-Some-split_at_byte.name.now c.in-Some-split_at_byte-2.field-0.0.now c.in-Some-split_at_byte-2.field-0.1.now)
