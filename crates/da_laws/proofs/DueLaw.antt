-- After an entry no reply that is due is left over.
use Rattle.std.proofs.Common.{◌≡◌, refl, sym, ◌∙◌, ap, ap₂, Option, Some, None, option_map, if◌then◌else◌, List, ◌∷◌, ℕ, Bool, true, false, cond, not, ◌&&◌, is_some, nat_le}
use Rattle.da_tables.proofs.Cases.{and_false, and_second, by_test, not_true}
use Rattle.da_laws.proofs.WhatTestsSay.{late_undecided}
use Rattle.da_invariants.proofs.Standing.{same_decision}
use Rattle.da_steps.proofs.Standing.{is_there}
use Rattle.da_steps.specs.Standing.{RequestStands}
use Rattle.da_play.proofs.RequestParts.{EachKeeps, EachRow, each_before, each_later, no_row_passes}
use Rattle.da_base.specs.Words.{later, passes_option}
use Rattle.da_fields.specs.declared.answer.Answer.{Answer}
use Rattle.da_play.specs.History.{before_input, tables_of}
use Rattle.da_request.specs.Requests.{new_request, with_answer}
use Rattle.da_laws.specs.ReplyLaws.{NothingDueIsLeft}
use Rattle.da_request.specs.Requests.{has_nodelay, is_due, is_failure, is_held, due_from, due_moment, is_undecided, limit_moment, reply_delay}
use Rattle.da_play.specs.declared.input.Entry.{Entry}
use Rattle.da_play.specs.declared.input.Input.{Input}
use Rattle.da_settings.specs.declared.settings.Settings.{Settings}
use Rattle.da_request.specs.declared.request.Request.{Request}
use Rattle.da_tables.specs.declared.tables.Tables.{Tables}
use Rattle.da_request.specs.Requests.{with_late_answer}
use Rattle.da_request.specs.Requests.{with_text}
use Rattle.da_request.specs.Requests.{cancelled}

-- its reply isn't due
abbrev Rests : Settings → ℕ → ℕ → Request → Type 0
Rests settings moment n r = is_due settings moment r ≡ false

-- a request that isn't held isn't due
unheld : (settings : Settings) (moment : ℕ) (r : Request) → is_held r ≡ false → is_due settings moment r ≡ false
unfolding is_due
unheld settings moment r e = ap (λ b. b && passes_option (λ due. nat_le due moment) (due_moment settings r)) e

undecided_unheld : (r s : Request) → is_undecided r ≡ true → s.decided ≡ r.decided → is_held s ≡ false
undecided_unheld r s u e = ap (λ o. is_some o && not s.is_cancelled && not (is_some s.replied)) e
    ∙ ap (λ b. b && not s.is_cancelled && not (is_some s.replied)) (not_true _ (and_second _ _ u))

-- ---- each part of an entry

replied_unheld : (r : Request) (moment : ℕ) → is_held (record r { replied = Some moment }) ≡ false
replied_unheld r moment = and_false (is_some r.decided && not r.is_cancelled)

cancelled_unheld : (r : Request) → is_held (cancelled r) ≡ false
cancelled_unheld r = ap (λ b. b && not (is_some r.replied)) (and_false (is_some r.decided))

-- a request that is replied where it is due isn't due any more
answered_now : (settings : Settings) (moment : ℕ) (r : Request) → is_due settings moment (cond (is_due settings moment r) (record r { replied = Some moment }) r) ≡ false
answered_now settings moment r = by_test (λ s. is_due settings moment s ≡ false) (is_due settings moment r) (record r { replied = Some moment }) r
    (λ e. unheld settings moment (record r { replied = Some moment }) (replied_unheld r moment)) (λ e. e)

-- the reply to a request that was timed out is due at its limit
pub due_at_limit : (settings : Settings) (r : Request) (decided : ℕ) → r.is_timed_out ≡ true → due_from settings r decided ≡ limit_moment settings r
due_at_limit settings r decided t = ap (λ (b : Bool). if b then limit_moment settings r else later decided (reply_delay settings r)) t

-- the reply to a request that wasn't timed out is due after its delay
pub due_after : (settings : Settings) (r : Request) (decided : ℕ) → r.is_timed_out ≡ false → due_from settings r decided ≡ later decided (reply_delay settings r)
due_after settings r decided t = ap (λ (b : Bool). if b then limit_moment settings r else later decided (reply_delay settings r)) t

-- what is decided stays due at the same moment
pub same_due : (settings : Settings) (r s : Request) → RequestStands r s → is_some r.decided ≡ true → due_moment settings s ≡ due_moment settings r
unfolding reply_delay
same_due settings r s k d = go r.is_timed_out refl
  where
    noted : (m : ℕ) × (r.decided ≡ Some m)
    noted = is_there r.decided d

    by_moment : due_from settings s noted.0 ≡ due_from settings r noted.0 → due_moment settings s ≡ due_moment settings r
    by_moment e = ap (option_map (due_from settings s)) (k.decided noted.0 noted.1) ∙ ap (λ (m : ℕ). Some m) e ∙ sym (ap (option_map (due_from settings r)) noted.1)

    go : (b : Bool) → r.is_timed_out ≡ b → due_moment settings s ≡ due_moment settings r
    go true t = by_moment (due_at_limit settings s noted.0 (k.timed_out d ∙ t) ∙ ap (λ (start : ℕ). later start settings.request_limit) k.start ∙ sym (due_at_limit settings r noted.0 t))
    go false t = by_moment (due_after settings s noted.0 (k.timed_out d ∙ t)
        ∙ ap (later noted.0) (ap₂ (λ o a. cond (passes_option is_failure o && not (has_nodelay a)) settings.failure_delay 0) (same_decision settings r s k d) (k.answers d t))
        ∙ sym (due_after settings r noted.0 t))

answered_due : (settings : Settings) (db : ℕ) (answer : Answer) (r : Request) → r.is_timed_out ≡ true → (o : Option ℕ) → option_map (due_from settings (with_answer db answer r)) o ≡ option_map (due_from settings r) o
answered_due settings db answer r t None = refl
answered_due settings db answer r t (Some d) = ap (λ (m : ℕ). Some m) (due_at_limit settings (with_answer db answer r) d t ∙ sym (due_at_limit settings r d t))

-- a late answer is one of a request that isn't decided, so it isn't held, or that was timed out, whose reply was due at its
-- limit
late_rests : (settings : Settings) (moment db : ℕ) (answer : Answer) (r : Request) → is_due settings moment r ≡ false → is_due settings moment (with_late_answer db answer r) ≡ false
unfolding is_due
late_rests settings moment db answer r e = by_test (λ s. is_due settings moment s ≡ false) (is_some r.decided && not r.is_timed_out) r (with_answer db answer r)
    (λ w. e) (λ w. go r.is_timed_out refl w)
  where
    go : (b : Bool) → r.is_timed_out ≡ b → (is_some r.decided && not r.is_timed_out) ≡ false → is_due settings moment (with_answer db answer r) ≡ false
    go true t w = ap (λ (o : Option ℕ). is_held r && passes_option (λ due. nat_le due moment) o) (answered_due settings db answer r t r.decided) ∙ e
    go false t w = unheld settings moment (with_answer db answer r) (ap (λ b. b && not r.is_cancelled && not (is_some r.replied)) (late_undecided r t w))

keeps : (settings : Settings) (moment : ℕ) (before : Tables) (entered : Input) → EachKeeps settings moment before entered (Rests settings moment)
keeps settings moment before entered = record {
  text = λ n text r u q. unheld settings moment (with_text text r) (undecided_unheld r (with_text text r) u refl);
  answer = λ n db answer r u q. unheld settings moment (with_answer db answer r) (undecided_unheld r (with_answer db answer r) u refl);
  late = λ n db answer r u q. late_rests settings moment db answer r q;
  cancel = λ n r q. unheld settings moment (cancelled r) (cancelled_unheld r);
  make = λ conn id random body m. unheld settings moment (new_request moment conn id random body) refl;
  decide = λ n r d u e q. answered_now settings moment (record r { decided = Some moment });
}

before_rests : (settings : Settings) (moment : ℕ) (input : Input) (tables : Tables) → EachRow (Rests settings moment) (before_input settings moment input tables).requests
before_rests settings moment input tables =
    each_before settings moment (λ n r. Unit {0}) (λ n r. Unit {0}) (Rests settings moment) (record { times_out = λ n r p. tt; replies = λ n r p. answered_now settings moment r }) input tables (λ n r e. tt)

pub all_rest : (settings : Settings) (e : Entry) (g : List Entry) → EachRow (Rests settings e.moment) (tables_of settings (e ∷ g)).requests
all_rest settings e g =
    each_later settings (tables_of settings g) e (Rests settings e.moment) (keeps settings e.moment (before_input settings e.moment e.input (tables_of settings g)) e.input)
    (before_rests settings e.moment e.input (tables_of settings g))

pub nothing_due_is_left : NothingDueIsLeft
nothing_due_is_left settings e g = no_row_passes (is_due settings e.moment) (tables_of settings (e ∷ g)).requests (all_rest settings e g)
