use Rattle.std.proofs.Common.{sym, ◌∙◌}
use Rattle.da_scram.proofs.FirstReading.{none_of_is_some, some_of_is_some, no_flag, wrong_extensions, no_name, no_nonce, first_cut}
use Rattle.da_scram.proofs.first_message.checked_cut.Goals as goal

pub returns-then-not-is_flag : goal.returns-then-not-is_flag
returns-then-not-is_flag c = no_flag _ _ _ _ _ _ _ c.requires (none_of_is_some _ (sym c.is_flag.ensures ∙ c.if-not-is_flag.true))

pub returns-then-not-are_extensions : goal.returns-then-not-are_extensions
returns-then-not-are_extensions c = wrong_extensions _ _ _ _ _ _ _ c.requires (sym c.are_extensions.ensures ∙ c.if-not-are_extensions.true)

pub returns-in_default : goal.returns-in_default
returns-in_default c = no_name _ _ _ _ _ _ _ c.requires (sym c.in_default.ensures.value)

pub returns-in_default-read_nonce : goal.returns-in_default-read_nonce
returns-in_default-read_nonce c = no_nonce _ _ _ _ _ _ _ c.requires (sym c.in_default-read_nonce.ensures)

pub returns : goal.returns
returns c =
    let flag = some_of_is_some _ (sym c.is_flag.ensures ∙ c.if-not-is_flag.false) in
    first_cut _ _ _ _ _ _ _ c.requires flag.0 c.in-Some.name.now c.in-Some-read_nonce.nonce.now flag.1 (sym c.in-Some.ensures.value) (sym c.in-Some-read_nonce.ensures)
    (sym c.are_extensions.ensures ∙ c.if-not-are_extensions.false)
