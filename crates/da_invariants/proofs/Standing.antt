-- What is done stays, whatever comes later.
use Rattle.std.proofs.Common.{◌≡◌, refl, sym, ◌∙◌, ap, Option, Some, List, [], ◌∷◌, ◌++◌, ℕ, zero, suc, Bool, true, false, codes, if◌then◌else◌, is_some, option_map, slice_get, ◌||◌, true≢false}
use Rattle.da_msgs.specs.declared.code.Code.TheVariants.{Timeout}
use Rattle.std.specs.List.{list_any}
use Rattle.std.proofs.lemmas.Option.{none-some, same_Some}
use Rattle.da_base.specs.Words.{nth}
use Rattle.da_tables.specs.Connections.{is_used}
use Rattle.da_play.specs.History.{tables_of}
use Rattle.da_request.specs.Requests.{is_granted_for, decision, decision_in, request_stage, timed_failure}
use Rattle.da_invariants.proofs.SameStage.{same_login, same_stage}
use Rattle.da_settings.specs.declared.settings.Settings.{Settings}
use Rattle.da_passdb.specs.declared.login.Login.{Login}
use Rattle.da_request.specs.declared.request.Request.{Request}
use Rattle.da_request.specs.declared.stages.Decision.{Decision}
use Rattle.da_request.specs.declared.stages.Decision.TheVariants.{Failure}
use Rattle.da_invariants.specs.StandingLaws.{WhatIsDoneStands, UsedStaysUsed, DecisionsStand}
use Rattle.da_steps.proofs.Standing.{entry_stands, tables_later, all_same}
use Rattle.da_steps.specs.Standing.{RequestStands}

pub what_is_done_stands : WhatIsDoneStands
what_is_done_stands settings [] h = all_same (tables_of settings h)
what_is_done_stands settings (e ∷ newer) h =
    tables_later (tables_of settings h) (tables_of settings (newer ++ h)) (tables_of settings (e ∷ newer ++ h)) (what_is_done_stands settings newer h) (entry_stands settings (tables_of settings (newer ++ h)) e)

-- ---- what is used

some_row : {A : Type 0} (comparison : A → Bool) (xs : List A) → list_any comparison xs ≡ true → (n : ℕ) × (x : A) × (nth xs n ≡ Some x) × (comparison x ≡ true)
some_row comparison [] e = absurd (true≢false (sym e))
some_row {A} comparison (x ∷ xs) e = go (some_row comparison xs) (comparison x) refl
  where
    next : (n : ℕ) × (y : A) × (nth xs n ≡ Some y) × (comparison y ≡ true) → (n : ℕ) × (y : A) × (nth (x ∷ xs) n ≡ Some y) × (comparison y ≡ true)
    next (zero, y, d, t) = absurd (none-some y d)
    next (suc n, y, d, t) = (suc (suc n), y, d, t)

    go : (list_any comparison xs ≡ true → (n : ℕ) × (y : A) × (nth xs n ≡ Some y) × (comparison y ≡ true)) → (b : Bool) → comparison x ≡ b → (n : ℕ) × (y : A) × (nth (x ∷ xs) n ≡ Some y) × (comparison y ≡ true)
    go further true d = (1, x, refl, d)
    go further false d = next (further (sym (ap (λ (b : Bool). b || list_any comparison xs) d) ∙ e))

pub row_any : {A : Type 0} (comparison : A → Bool) (xs : List A) (n : ℕ) (x : A) → slice_get xs n ≡ Some x → comparison x ≡ true → list_any comparison xs ≡ true
row_any comparison [] n x e t = absurd (none-some x e)
row_any comparison (y ∷ xs) zero x e t = ap (λ (b : Bool). b || list_any comparison xs) (ap comparison (same_Some y x e) ∙ t)
row_any comparison (y ∷ xs) (suc n) x e t = any_second (comparison y) (row_any comparison xs n x e t)
  where
    any_second : (b : Bool) {c : Bool} → c ≡ true → (b || c) ≡ true
    any_second true d = refl
    any_second false d = d

pub used_stays_used : UsedStaysUsed
used_stays_used settings newer h n used = go (some_row (λ q. is_granted_for n q.body) (tables_of settings h).requests used)
  where
    later : (m : ℕ) (r : Request) → nth (tables_of settings h).requests m ≡ Some r → is_granted_for n r.body ≡ true → is_used (tables_of settings (newer ++ h)) n ≡ true
    later zero r e g = absurd (none-some r e)
    later (suc m) r e g = found ((what_is_done_stands settings newer h).requests (suc m) r e)
      where
        found : (s : Request) × (nth (tables_of settings (newer ++ h)).requests (suc m) ≡ Some s) × RequestStands r s → is_used (tables_of settings (newer ++ h)) n ≡ true
        found (s, is, k) = row_any (λ q. is_granted_for n q.body) (tables_of settings (newer ++ h)).requests m s is (k.grant n ∙ g)

    go : (m : ℕ) × (r : Request) × (nth (tables_of settings h).requests m ≡ Some r) × (is_granted_for n r.body ≡ true) → is_used (tables_of settings (newer ++ h)) n ≡ true
    go (m, r, e, g) = later m r e g

-- ---- what is decided

abbrev timed_failure_for : Option Login → Decision
timed_failure_for login = Failure (option_map (λ l. l.user) login) false false false Timeout (Some (codes "Timed out"))

-- what is decided by its limit is told for the same user, and what is decided by its stage has the same stage
pub same_decision : (settings : Settings) (r s : Request) → RequestStands r s → is_some r.decided ≡ true → decision settings s ≡ decision settings r
unfolding decision
same_decision settings r s k d = go r.is_timed_out refl
  where
    go : (b : Bool) → r.is_timed_out ≡ b → decision settings s ≡ decision settings r
    go true t =
        ap (λ (b : Bool). if b then Some (timed_failure settings s) else decision_in (request_stage settings s)) (k.timed_out d ∙ t)
        ∙ ap (λ l. Some (timed_failure_for l)) (same_login settings r s k.random k.start (k.body d))
        ∙ sym (ap (λ (b : Bool). if b then Some (timed_failure settings r) else decision_in (request_stage settings r)) t)
    go false t =
        ap (λ (b : Bool). if b then Some (timed_failure settings s) else decision_in (request_stage settings s)) (k.timed_out d ∙ t)
        ∙ ap decision_in (same_stage settings r s k.random k.start (k.body d) (k.answers d t))
        ∙ sym (ap (λ (b : Bool). if b then Some (timed_failure settings r) else decision_in (request_stage settings r)) t)

pub decisions_stand : DecisionsStand
decisions_stand settings newer h n r e d =
    let later : (s : Request) × (nth (tables_of settings (newer ++ h)).requests n ≡ Some s) × RequestStands r s = (what_is_done_stands settings newer h).requests n r e in
    (later.0, later.1, same_decision settings r later.0 later.2 d)
