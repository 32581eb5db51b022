-- Expired passwords let nobody in, and codes are told to those who know them.
use Rattle.std.proofs.Common.{◌≡◌, refl, sym, ◌∙◌, ap, Option, Some, None, [], ◌∷◌, ℕ, ◌≤◌, ◌<◌, ◌==◌, Bool, true, false, if◌then◌else◌, nat_le, true≢false, arith}
use Rattle.std.proofs.lemmas.Bool.{eqb-true}
use Rattle.std.proofs.lemmas.Option.{same_Some}
use Rattle.da_tables.proofs.Cases.{at_most, is_at_most}
use Rattle.da_base.specs.Words.{nth, passes_option}
use Rattle.da_laws.proofs.GrantStands.{grants_stand}
use Rattle.da_laws.proofs.LineLaw.{replies_are_lines}
use Rattle.da_laws.proofs.OkLaw.{tells_ok, verdict_okay}
use Rattle.da_laws.proofs.StageLaw.{stage_is_attempt's}
use Rattle.da_laws.specs.CodeLaws.{CodesAreTold, EndsWith, ExpiredIsNotGranted, ExpiredIsNotOk, OthersSeeNoCode}
use Rattle.da_laws.specs.GrantLaws.{StandsOn}
use Rattle.da_lines.specs.Grants.{granted}
use Rattle.da_msgs.specs.declared.kinds.Mech.{Mech}
use Rattle.da_passdb.specs.declared.chain.Verdict.{Verdict}
use Rattle.da_passdb.specs.declared.chain.VerdictKind.{VerdictKind}
use Rattle.da_passdb.specs.declared.chain.VerdictKind.TheVariants.{Ok as IsOkay, Expired as IsExpired}
use Rattle.da_play.specs.Effects.{reply_lines}
use Rattle.da_request.specs.Attempts.{after_chain, after_verdict, attempt_stage, stage_from}
use Rattle.da_request.specs.Requests.{decision, decision_in, final_line, is_login_success, request_stage, timed_failure}
use Rattle.da_request.specs.declared.request.Grant.{Grant}
use Rattle.da_request.specs.declared.request.Request.{Request}
use Rattle.da_request.specs.declared.stages.Decision.{Decision}
use Rattle.da_request.specs.declared.stages.Decision.TheVariants.{Failure, Success, UserFailure, UserGiven, UserUnknown}
use Rattle.da_request.specs.declared.stages.Stage.{Stage}
use Rattle.da_request.specs.declared.stages.Stage.TheVariants.{Asks, Awaits, Decided}
use Rattle.da_settings.specs.declared.settings.Settings.{Settings}
use Rattle.da_tables.specs.Connections.{knows_codes, knows_codes_in}
use Rattle.da_tables.specs.declared.connections.Connection.{Connection}
use Rattle.da_tables.specs.declared.tables.Tables.{Tables}

-- ---- who is told a code

told_line : (settings : Settings) (tables : Tables) (n : ℕ) (r : Request) (b : Bool) (d : Decision) →
    nth tables.requests n ≡ Some r → decision settings r ≡ Some d → knows_codes_in tables r.conn ≡ b → reply_lines settings tables n ≡ (r.conn, final_line b r.id d) ∷ []
told_line settings tables n r b d here e k = replies_are_lines settings tables n r d here e ∙ ap (λ (x : Bool). (r.conn, final_line x r.id d) ∷ []) k

knows_by : (tables : Tables) (conn : ℕ) (c : Connection) → nth tables.connections conn ≡ Some c → knows_codes_in tables conn ≡ knows_codes c
knows_by tables conn c there = ap (passes_option knows_codes) there

too_few : (n : ℕ) → n < 2 → nat_le 2 n ≡ false
too_few n h = go (nat_le 2 n) refl
  where
    go : (b : Bool) → nat_le 2 n ≡ b → b ≡ false
    go true e = (let most : 2 ≤ n = at_most 2 n e in let bad : ⊥ = omega (arith, most, h) in absurd bad)
    go false e = refl

pub codes_are_told : CodesAreTold
codes_are_told settings tables n r c minor user authz temp disabled code reason here there said least e =
    told_line settings tables n r true (Failure user authz temp disabled code reason) here e
    (knows_by tables r.conn c there ∙ ap (passes_option (λ m. nat_le 2 m)) said ∙ is_at_most 2 minor least)

pub others_see_no_code : OthersSeeNoCode
others_see_no_code settings tables n r c user authz temp disabled code reason here there lesser e =
    told_line settings tables n r false (Failure user authz temp disabled code reason) here e (knows_by tables r.conn c there ∙ go c.minor refl)
  where
    go : (o : Option ℕ) → c.minor ≡ o → passes_option (λ m. nat_le 2 m) o ≡ false
    go None said = refl
    go (Some minor) said = too_few minor (lesser minor said)

-- ---- a login whose chain ended with Expired

-- the stage of a login whose chain has ended
pub ended_stage : (settings : Settings) (r : Request) (mech : Mech) (v : Verdict) (w : EndsWith settings r mech v) → request_stage settings r ≡ after_verdict v.kind mech settings w.attempt v
unfolding attempt_stage
ended_stage settings r mech v w =
    stage_is_attempt's settings r w.attempt w.attempts ∙ ap (stage_from settings w.attempt) w.opens ∙ ap (after_chain mech settings w.attempt) w.ends

untold : (s : Stage) → (tells_ok s ≡ true → ⊥) → passes_option is_login_success (decision_in s) ≡ false
unfolding tells_ok
untold (Awaits text) h = refl
untold (Asks q) h = refl
untold (Decided (Success user fields last)) h = absurd (h refl)
untold (Decided (Failure user authz temp disabled code reason)) h = refl
untold (Decided (UserGiven user fields)) h = refl
untold (Decided UserUnknown) h = refl
untold (Decided UserFailure) h = refl

is_expired_kind : VerdictKind → Bool
is_expired_kind IsExpired = true
is_expired_kind _ = false

not_both : (k : VerdictKind) → k ≡ IsExpired → k ≡ IsOkay → ⊥
unfolding is_expired_kind
not_both k expired okay = true≢false (sym (ap is_expired_kind expired) ∙ ap is_expired_kind okay)

pub expired_is_not_ok : ExpiredIsNotOk
unfolding decision
expired_is_not_ok settings r mech v w e = go r.is_timed_out
  where
    go : (b : Bool) → passes_option is_login_success (if b then Some (timed_failure settings r) else decision_in (request_stage settings r)) ≡ false
    go true = refl
    go false =
        ap (λ s. passes_option is_login_success (decision_in s)) (ended_stage settings r mech v w)
        ∙ untold (after_verdict v.kind mech settings w.attempt v) (λ t. not_both v.kind e (verdict_okay mech settings w.attempt v t))

false_or : (b : Bool) → (b ≡ true → ⊥) → b ≡ false
false_or true h = absurd (h refl)
false_or false h = refl

pub expired_is_not_granted : ExpiredIsNotGranted
expired_is_not_granted settings moment tables pid client cookie n r mech v there w e = go (granted settings moment tables pid client cookie) refl
  where
    refuted : (grant : Grant) → StandsOn settings moment tables pid client cookie grant → grant.request ≡ n → ⊥
    refuted grant s same =
        let login_is : r ≡ s.login = same_Some r s.login (sym there ∙ ap (nth tables.requests) (sym same) ∙ s.is_made) in
        true≢false (sym (ap (passes_option is_login_success) s.is_okay)
        ∙ sym (ap (λ (q : Request). passes_option is_login_success (decision settings q)) login_is)
        ∙ expired_is_not_ok settings r mech v w e)

    go : (o : Option Grant) → granted settings moment tables pid client cookie ≡ o → passes_option (λ (grant : Grant). grant.request == n) o ≡ false
    go None x = refl
    go (Some grant) x = false_or (grant.request == n) (λ is. refuted grant (grants_stand settings moment tables pid client cookie grant x) (eqb-true grant.request n is))
