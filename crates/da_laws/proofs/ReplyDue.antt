-- A final reply is one of a request that is decided, by its stage or by its limit, and whose reply is due.
use Rattle.std.proofs.Common.{◌≡◌, ◌⊎◌, inl, inr, refl, sym, ◌∙◌, ap, subst, Option, Some, None, List, ◌∷◌, ℕ, zero, suc, ◌+◌, ◌≤◌, ◌==◌, Bool, true, false, cond, not, ◌&&◌, is_some, nat_le, true≢false, arith}
use Rattle.da_tables.proofs.Cases.{by_test, and_first, and_second}
use Rattle.da_base.specs.Words.{nth, option_or_else, passes_option}
use Rattle.da_fields.specs.declared.answer.Answer.{Answer}
use Rattle.da_laws.proofs.DueLaw.{same_due}
use Rattle.da_laws.proofs.Noted.{history_noted}
use Rattle.da_laws.proofs.RepliedOnce.{at_most_one, entry_replies, none_any, replies_at, replies_of, times}
use Rattle.da_laws.specs.ReplyLaws.{RepliesAreDue}
use Rattle.da_play.proofs.RequestParts.{BeforeEach, EachKeeps, EachRow, each_before, each_later}
use Rattle.da_play.specs.Effects.{effects, final_replies}
use Rattle.da_play.specs.History.{before_input, tables_of}
use Rattle.da_play.specs.declared.input.Entry.{Entry}
use Rattle.da_play.specs.declared.input.Input.{Input}
use Rattle.da_request.specs.Requests.{cancelled, due_moment, is_due, is_held, is_over_limit, is_undecided, replied, replied_if_due, timed_out, with_answer, with_late_answer}
use Rattle.da_request.specs.declared.request.Request.{Request}
use Rattle.da_settings.specs.declared.settings.Settings.{Settings}
use Rattle.da_steps.proofs.Standing.{cancelled_stands, is_there, late_stands, reply_stands, undecided_is}
use Rattle.da_steps.specs.Standing.{RequestStands}
use Rattle.da_tables.specs.declared.tables.Tables.{Tables}

-- replied at this moment, which its reply has reached
record IsToldNow (settings : Settings) (moment : ℕ) (r : Request) : Type 0 where
  pub decided : is_some r.decided ≡ true
  pub replied : r.replied ≡ Some moment
  pub in_time : passes_option (λ due. nat_le due moment) (due_moment settings r) ≡ true

still_told : (settings : Settings) (moment : ℕ) (r s : Request) → RequestStands r s → IsToldNow settings moment r → IsToldNow settings moment s
still_told settings moment r s k t = record {
  decided = (let was : (m : ℕ) × (r.decided ≡ Some m) = is_there r.decided t.decided in ap is_some (k.decided was.0 was.1));
  replied = k.replied moment t.replied;
  in_time = ap (passes_option (λ due. nat_le due moment)) (same_due settings r s k t.decided) ∙ t.in_time;
}

told_now : (settings : Settings) (moment : ℕ) (r : Request) → is_due settings moment r ≡ true → IsToldNow settings moment (replied_if_due settings moment r)
unfolding is_due
told_now settings moment r e = record {
  decided = (let was : (m : ℕ) × (r.decided ≡ Some m) = is_there r.decided decided in ap is_some ((reply_stands settings moment r).decided was.0 was.1));
  replied = ap (λ (b : Bool). (cond b (replied moment r) r).replied) e;
  in_time = ap (passes_option (λ due. nat_le due moment)) (same_due settings r (replied_if_due settings moment r) (reply_stands settings moment r) decided) ∙ and_second (is_held r) _ e;
}
  where
    decided : is_some r.decided ≡ true
    decided = and_first (is_some r.decided) _ (and_first (is_some r.decided && not r.is_cancelled) _ (and_first (is_held r) _ e))

module _ (settings : Settings) (moment : ℕ) (origin : Tables) (entered : Input) where
  -- what is replied was replied before the entry
  abbrev WasTold : ℕ → Request → Type 0
  WasTold n r = is_some r.replied ≡ true → replies_at origin.requests n ≡ 1

  -- or is replied now
  abbrev IsTold : ℕ → Request → Type 0
  IsTold n r = is_some r.replied ≡ true → (replies_at origin.requests n ≡ 1) ⊎ IsToldNow settings moment r

  kept : (n : ℕ) (r s : Request) → RequestStands r s → is_some s.replied ≡ is_some r.replied → IsTold n r → IsTold n s
  kept n r s k same p x = go (p (sym same ∙ x))
    where
      go : (replies_at origin.requests n ≡ 1) ⊎ IsToldNow settings moment r → (replies_at origin.requests n ≡ 1) ⊎ IsToldNow settings moment s
      go (inl was) = inl was
      go (inr now) = inr (still_told settings moment r s k now)

  replies_told : (n : ℕ) (r : Request) → WasTold n r → IsTold n (replied_if_due settings moment r)
  replies_told n r p = by_test (IsTold n) (is_due settings moment r) (replied moment r) r
      (λ e x. inr (subst (IsToldNow settings moment) (ap (λ (b : Bool). cond b (replied moment r) r) e) (told_now settings moment r e))) (λ e x. inl (p x))

  before_told : BeforeEach settings moment WasTold WasTold IsTold
  before_told = record {
    times_out = λ n r p. by_test (WasTold n) (is_over_limit settings moment r) (timed_out moment r) r (λ e. p) (λ e. p);
    replies = replies_told;
  }

  unreplied : (r : Request) → is_undecided r ≡ true → is_some r.replied ≡ true → ⊥
  unreplied r u x = true≢false (sym x ∙ (undecided_is r u).1)

  late_told : (n db : ℕ) (answer : Answer) (r : Request) → is_undecided r ≡ false → IsTold n r → IsTold n (with_late_answer db answer r)
  late_told n db answer r u p = kept n r (with_late_answer db answer r) (late_stands db answer r)
      (by_test (λ (s : Request). is_some s.replied ≡ is_some r.replied) (is_some r.decided && not r.is_timed_out) r (with_answer db answer r) (λ e. refl) (λ e. refl)) p

  keeps_told : EachKeeps settings moment (before_input settings moment entered origin) entered IsTold
  keeps_told = record {
    text = λ n text r u p x. absurd (unreplied r u x);
    answer = λ n db answer r u p x. absurd (unreplied r u x);
    late = late_told;
    cancel = λ n r p. kept n r (cancelled r) (cancelled_stands r) refl p;
    make = λ conn id random body m x. absurd (true≢false (sym x));
    decide = λ n r d u e p. replies_told n (record r { decided = Some moment }) (λ x. absurd (unreplied r u x));
  }

  first_told : EachRow WasTold origin.requests
  first_told n r is x = ap (λ (o : Option Request). option_or_else o 0 replies_of) is ∙ ap (λ (b : Bool). cond b 1 0) x

all_told : (settings : Settings) (e : Entry) (g : List Entry) → EachRow (IsTold settings e.moment (tables_of settings g) e.input) (tables_of settings (e ∷ g)).requests
all_told settings e g =
    let origin : Tables = tables_of settings g in
    each_later settings origin e (IsTold settings e.moment origin e.input) (keeps_told settings e.moment origin e.input)
    (each_before settings e.moment (WasTold settings e.moment origin e.input) (WasTold settings e.moment origin e.input) (IsTold settings e.moment origin e.input)
    (before_told settings e.moment origin e.input) e.input origin (first_told settings e.moment origin e.input))

-- a request that has a reply
replied_one : (o : Option Request) → option_or_else o 0 replies_of ≡ 1 → (r : Request) × (o ≡ Some r) × (is_some r.replied ≡ true)
replied_one None e = (let bad : ⊥ = omega (arith, e) in absurd bad)
replied_one (Some r) e = (r, refl, go (is_some r.replied) e)
  where
    go : (b : Bool) → ◌≡◌ {A = ℕ} (cond b 1 0) 1 → b ≡ true
    go true e = refl
    go false e = (let bad : ⊥ = omega (arith, e) in absurd bad)

pub replies_are_due : RepliesAreDue
replies_are_due settings e g n reported = (now.0, now.1, (history_noted settings (e ∷ g) n now.0 now.1).has_decision told.decided, told.replied, told.in_time)
  where
    tables : Tables
    tables = tables_of settings g

    final : Tables
    final = tables_of settings (e ∷ g)

    all : replies_at final.requests n ≡ replies_at tables.requests n + times n (final_replies (effects settings tables e))
    all = entry_replies settings tables e n

    few : replies_at final.requests n ≤ 1
    few = at_most_one (nth final.requests n)

    new : (k : ℕ) → times n (final_replies (effects settings tables e)) ≡ k → (replies_at tables.requests n ≡ 0) × (replies_at final.requests n ≡ 1)
    new zero none = absurd (true≢false (sym reported ∙ none_any (λ m. m == n) (final_replies (effects settings tables e)) none))
    new (suc k) more = (omega (arith, all, few, more), omega (arith, all, few, more))

    once : (replies_at tables.requests n ≡ 0) × (replies_at final.requests n ≡ 1)
    once = new (times n (final_replies (effects settings tables e))) refl

    now : (r : Request) × (nth final.requests n ≡ Some r) × (is_some r.replied ≡ true)
    now = replied_one (nth final.requests n) once.1

    told : IsToldNow settings e.moment now.0
    told = go (all_told settings e g n now.0 now.1 now.2)
      where
        go : (replies_at tables.requests n ≡ 1) ⊎ IsToldNow settings e.moment now.0 → IsToldNow settings e.moment now.0
        go (inl was) = (let none : replies_at tables.requests n ≡ 0 = once.0 in let bad : ⊥ = omega (arith, was, none) in absurd bad)
        go (inr told) = told
