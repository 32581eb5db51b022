use Rattle.std.proofs.Common.{◌≡◌, None, Some, option_copied, sym, ap, ◌∙◌, subst}
use Rattle.da_base.specs.Words.{after_front}
use Rattle.da_scram.specs.Messages.{final_front}
use Rattle.da_scram.specs.Cuts.{ReadsFinal}
use Rattle.da_scram.proofs.FinalReading.{no_front, no_parts, no_proof, proof_fits, reads_final}
use Rattle.da_scram.proofs.final_message.read_final.Goals as goal

pub returns-in_default : goal.returns-in_default
returns-in_default c = no_front _ _ _ _ (sym (c.in_ok-rest.ensures {u = tt}) ∙ ap option_copied c.in_default.is)

pub returns-in_default-written_proof : goal.returns-in_default-written_proof
returns-in_default-written_proof c =
    no_parts _ _ _ _ c.in-Some.rest.now (sym (c.in_ok-rest.ensures {u = tt}) ∙ ap option_copied c.in-Some.is) c.in_default-written_proof.ensures

pub returns-in_default-2 : goal.returns-in_default-2
returns-in_default-2 c =
    no_proof _ _ _ _ c.in-Some.rest.now c.in-Some-written_proof.written.now (sym (c.in_ok-rest.ensures {u = tt}) ∙ ap option_copied c.in-Some.is) c.in-Some-written_proof.ensures
    (sym (c.in_ok-proof.ensures {u = tt}) ∙ c.in_default-2.is)

pub before_proof-requires : goal.before_proof-requires
before_proof-requires c =
    proof_fits (final_front c.args.header.now c.args.nonce.now c.args.server_nonce.now) _ c.in-Some.rest.now _ (sym (c.in_ok-rest.ensures {u = tt}) ∙ ap option_copied c.in-Some.is)
    c.in-Some-written_proof.ensures

pub returns : goal.returns
returns c =
    subst (λ front. ReadsFinal c.args.header.now c.args.nonce.now c.args.server_nonce.now c.args.text.now front c.in-Some-2.proof) (sym c.before_proof.ensures)
    (reads_final _ _ _ _ c.in-Some.rest.now c.in-Some-written_proof.written.now _ (sym (c.in_ok-rest.ensures {u = tt}) ∙ ap option_copied c.in-Some.is) c.in-Some-written_proof.ensures
    (sym (c.in_ok-proof.ensures {u = tt}) ∙ c.in-Some-2.is))
