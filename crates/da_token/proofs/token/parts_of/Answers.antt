use Rattle.da_token.proofs.TokenReading.{no_dot, one_dot, two_dots, three_dots}
use Rattle.da_token.proofs.token.parts_of.Goals as goal

pub returns-in_default : goal.returns-in_default
returns-in_default c = no_dot c.args.text.now c.in_default.ensures.split

pub returns-in_default-split_at_byte : goal.returns-in_default-split_at_byte
returns-in_default-split_at_byte c = one_dot c.args.text.now _ _ c.in-Some.ensures.split c.in_default-split_at_byte.ensures.split

pub returns-in-Some-split_at_byte-2 : goal.returns-in-Some-split_at_byte-2
returns-in-Some-split_at_byte-2 c =
    three_dots c.args.text.now _ _ _ _ _ _ c.in-Some.ensures.split c.in-Some-split_at_byte.ensures.split c.in-Some-split_at_byte-2.ensures.split

pub returns-in-None : goal.returns-in-None
returns-in-None c = two_dots c.args.text.now _ _ _ _ c.in-Some.ensures.split c.in-Some-split_at_byte.ensures.split c.in-None.ensures.split
