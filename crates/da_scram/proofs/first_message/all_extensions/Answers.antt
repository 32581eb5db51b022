use Rattle.std.proofs.Common.{◌≡◌, true, false, sym, ◌∙◌}
use Rattle.da_scram.specs.Messages.{is_extension}
use Rattle.da_scram.proofs.Commas.{wrong_piece, right_piece, last_piece}
use Rattle.da_scram.proofs.first_message.all_extensions.Goals as goal

pub returns-then-not-is_extension : goal.returns-then-not-is_extension
returns-then-not-is_extension c =
    let wrong : is_extension c.in-Some.extension.now ≡ false = sym c.is_extension.ensures ∙ c.if-not-is_extension.true in
    sym (wrong_piece _ _ _ c.in-Some.ensures.split wrong) ∙ c.pieces.invariant

pub pieces-preserved : goal.pieces-preserved
pieces-preserved c =
    let right : is_extension c.in-Some.extension.now ≡ true = sym c.is_extension.ensures ∙ c.if-not-is_extension.false in
    right_piece _ _ _ c.in-Some.ensures.split right ∙ c.pieces.invariant

pub returns : goal.returns
returns c = c.is_extension-2.ensures ∙ last_piece _ c.in_default.ensures.split ∙ c.pieces.invariant
