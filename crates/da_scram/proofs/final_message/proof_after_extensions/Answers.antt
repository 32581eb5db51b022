use Rattle.std.proofs.Common.{◌≡◌, true, false, sym, ◌∙◌}
use Rattle.da_scram.specs.Messages.{is_extension}
use Rattle.da_scram.proofs.FinalReading.{skips_wrong, skips_one, ends_in_proof}
use Rattle.da_scram.proofs.final_message.proof_after_extensions.Goals as goal

pub returns-then-not-is_extension : goal.returns-then-not-is_extension
returns-then-not-is_extension c =
    let wrong : is_extension c.in-Some.extension.now ≡ false = sym c.is_extension.ensures ∙ c.if-not-is_extension.true in
    skips_wrong _ c.pieces.rest.now _ _ c.pieces.invariant c.in-Some.ensures.split wrong

pub pieces-preserved : goal.pieces-preserved
pieces-preserved c =
    let right : is_extension c.in-Some.extension.now ≡ true = sym c.is_extension.ensures ∙ c.if-not-is_extension.false in
    skips_one _ c.pieces.rest.now _ _ c.pieces.invariant c.in-Some.ensures.split right

pub returns : goal.returns
returns c = ends_in_proof _ c.pieces.rest.now _ c.pieces.invariant c.in_default.ensures.split c.strip_front.ensures.value
