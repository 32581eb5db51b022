use Rattle.std.proofs.Common.{◌≡◌, ◌≢◌, subst, MatchOption, IfSome, Some, None, length}
use Rattle.da_base.specs.Words.{from_base64, to_base64}
use Rattle.base64.specs.GeneralPurpose.{IsBytes}
use Rattle.da_scram.proofs.FinalReading.{proof_decided}
use Rattle.da_scram.proofs.final_message.read_proof.Goals as goal

pub returns-in-Some : goal.returns-in-Some
returns-in-Some c =
    proof_decided c.args.text.now c.in-Some.bytes.items _
    (subst (λ read. MatchOption read (from_base64 c.args.text.now ≡ None) (λ bytes. from_base64 c.args.text.now ≡ Some bytes.items)) c.in-Some.is c.in_ok-bytes.ensures.read)
    (subst (λ read. IfSome read (λ bytes. IsBytes bytes.items)) c.in-Some.is c.in_ok-bytes.ensures.bytes)
    (subst (λ read. IfSome read (λ bytes. c.args.text.now ≡ to_base64 bytes.items)) c.in-Some.is c.in_ok-bytes.ensures.exact)
    (subst (λ bytes. MatchOption c.proof_of.result (length bytes ≢ 32) (λ proof. (proof ≡ bytes) × (length bytes ≡ 32))) c.deref.ensures.value c.proof_of.ensures)
