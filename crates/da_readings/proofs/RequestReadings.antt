-- When a request was decided and replied is what the entries did.
use Rattle.std.proofs.Common.{◌≡◌, ◌⊎◌, inl, inr, refl, sym, ◌∙◌, ap, Option, Some, None, List, [], ◌∷◌, ℕ, suc, length, Bool, true, false, is_some, not, ◌&&◌, true≢false}
use Rattle.std.proofs.lemmas.Option.{none-some, same_Some}
use Rattle.da_tables.proofs.Cases.{by_test, and_first, and_second, not_true}
use Rattle.da_tables.proofs.Rows.{nth-past}
use Rattle.da_play.proofs.RequestParts.{BeforeEach, EachKeeps, EachRow, each_before, each_later}
use Rattle.da_laws.proofs.Noted.{history_noted}
use Rattle.da_invariants.proofs.OpenQueries.{nowhere, none_there}
use Rattle.da_readings.proofs.QueryReadings.{later_among}
use Rattle.da_steps.proofs.Standing.{before_stands, undecided_is}
use Rattle.da_base.specs.Words.{nth}
use Rattle.da_fields.specs.declared.answer.Answer.{Answer}
use Rattle.da_play.specs.History.{tables_of, after, before_input}
use Rattle.da_request.specs.Requests.{replied_if_due, has_limit, is_over_limit, replied, timed_out, timed_out_if_over}
use Rattle.da_request.specs.Requests.{with_answer}
use Rattle.da_readings.specs.RowReadings.{WasDecided, WasReplied, DecidedIsFirst, RepliedIsFirst}
use Rattle.da_request.specs.Requests.{is_undecided, is_pending, is_due, is_held, decision}
use Rattle.da_steps.specs.Standing.{RequestStands}
use Rattle.da_play.specs.declared.input.Entry.{Entry}
use Rattle.da_settings.specs.declared.settings.Settings.{Settings}
use Rattle.da_request.specs.declared.request.Request.{Request}
use Rattle.da_tables.specs.declared.tables.Tables.{Tables}

-- ---- one entry

module _ (settings : Settings) (e : Entry) (origin : Tables) where
  abbrev before : Tables
  before = before_input settings e.moment e.input origin

  -- decided by this entry, which found it undecided
  abbrev NewlyDecided : ℕ → ℕ → Type 0
  NewlyDecided n m = (m ≡ e.moment) × ((s : Request) → nth origin.requests n ≡ Some s → (s.decided ≡ None) × (s.is_cancelled ≡ false))

  abbrev NewlyReplied : ℕ → ℕ → Type 0
  NewlyReplied n m = (m ≡ e.moment) × ((s : Request) → nth origin.requests n ≡ Some s → (s.replied ≡ None) × (s.is_cancelled ≡ false))

  -- request n before the entry had this
  abbrev Had : (Request → Option ℕ) → ℕ → ℕ → Type 0
  Had mark n m = (s : Request) × (nth origin.requests n ≡ Some s) × (mark s ≡ Some m)

  -- what a request has was had before or is new, and what it hasn't, it hadn't
  record Came (n : ℕ) (r : Request) : Type 0 where
    pub decided : (m : ℕ) → r.decided ≡ Some m → Had (λ s. s.decided) n m ⊎ NewlyDecided n m
    pub replied : (m : ℕ) → r.replied ≡ Some m → Had (λ s. s.replied) n m ⊎ NewlyReplied n m
    pub undecided : r.decided ≡ None → (s : Request) → nth origin.requests n ≡ Some s → s.decided ≡ None
    pub unreplied : r.replied ≡ None → (s : Request) → nth origin.requests n ≡ Some s → s.replied ≡ None
    pub uncancelled : r.is_cancelled ≡ false → (s : Request) → nth origin.requests n ≡ Some s → s.is_cancelled ≡ false

  came_first : (n : ℕ) (r : Request) → nth origin.requests n ≡ Some r → Came n r
  came_first n r is = record {
    decided = λ m d. inl (r, is, d);
    replied = λ m d. inl (r, is, d);
    undecided = λ d s at. ap (λ (y : Request). y.decided) (same_Some s r (sym at ∙ is)) ∙ d;
    unreplied = λ d s at. ap (λ (y : Request). y.replied) (same_Some s r (sym at ∙ is)) ∙ d;
    uncancelled = λ d s at. ap (λ (y : Request). y.is_cancelled) (same_Some s r (sym at ∙ is)) ∙ d;
  }

  -- a request that is decided now was neither decided nor cancelled
  came_decided : (n : ℕ) (r s : Request) → r.decided ≡ None → r.is_cancelled ≡ false → s.decided ≡ Some e.moment → s.replied ≡ r.replied → Came n r → Came n s
  came_decided n r s d c now same p = record {
    decided = λ m x. inr (same_Some m e.moment (sym x ∙ now), λ q at. (p.undecided d q at, p.uncancelled c q at));
    replied = λ m x. p.replied m (sym same ∙ x);
    undecided = λ x. absurd (none-some e.moment (sym x ∙ now));
    unreplied = λ x. p.unreplied (sym same ∙ x);
    uncancelled = λ x. p.uncancelled c;
  }

  -- what undecided requests are
  open_is : (r : Request) → is_undecided r ≡ true → (r.decided ≡ None) × (r.is_cancelled ≡ false)
  open_is r u = (none_there r.decided (undecided_is r u).0, not_true r.is_cancelled (and_first (not r.is_cancelled) _ (and_first (is_pending r) _ u)))

  timed_out_came : (n : ℕ) (r : Request) → nth origin.requests n ≡ Some r → Came n (timed_out_if_over settings e.moment r)
  unfolding is_over_limit
  timed_out_came n r is = by_test (Came n) (is_over_limit settings e.moment r) (timed_out e.moment r) r
      (λ over. let o : (r.decided ≡ None) × (r.is_cancelled ≡ false) = open_is r (and_second _ (is_undecided r) (and_first (has_limit r) _ over)) in
      came_decided n r (timed_out e.moment r) o.0 o.1 refl refl (came_first n r is))
      (λ x. came_first n r is)

  -- a request that is replied now was neither replied nor cancelled
  reply_came : (n : ℕ) (r : Request) → Came n r → Came n (replied_if_due settings e.moment r)
  unfolding is_due
  reply_came n r p = by_test (Came n) (is_due settings e.moment r) (replied e.moment r) r (λ due. record {
    decided = p.decided;
    replied = λ m x. inr (
      sym (same_Some e.moment m x),
      λ s at. (
        p.unreplied (none_there r.replied (not_true (is_some r.replied) (and_second (is_some r.decided && not r.is_cancelled) _ (and_first (is_held r) _ due)))) s at,
        p.uncancelled (not_true r.is_cancelled (and_second (is_some r.decided) _ (and_first (is_some r.decided && not r.is_cancelled) _ (and_first (is_held r) _ due)))) s at,
      ),
    );
    undecided = p.undecided;
    unreplied = λ x. absurd (none-some e.moment (sym x));
    uncancelled = p.uncancelled;
  }) (λ x. p)

  before_came : BeforeEach settings e.moment (λ n r. nth origin.requests n ≡ Some r) Came Came
  before_came = record { times_out = timed_out_came; replies = reply_came }

  answer_came : (n db : ℕ) (answer : Answer) (r : Request) → Came n r → Came n (with_answer db answer r)
  answer_came n db answer r p = record { decided = p.decided; replied = p.replied; undecided = p.undecided; unreplied = p.unreplied; uncancelled = p.uncancelled }

  -- a new request was no row before
  no_row : (s : Request) → nth origin.requests (suc (length before.requests)) ≡ Some s → ⊥
  no_row s at =
      let still : (t : Request) × (nth before.requests (suc (length before.requests)) ≡ Some t) × RequestStands s t = (before_stands settings e.moment e.input origin).requests (suc (length before.requests)) s at in
      nth-past before.requests still.0 still.1

  keeps_came : EachKeeps settings e.moment before e.input Came
  keeps_came = record {
    text = λ n text r u p. record { decided = p.decided; replied = p.replied; undecided = p.undecided; unreplied = p.unreplied; uncancelled = p.uncancelled };
    answer = λ n db answer r u p. answer_came n db answer r p;
    late = λ n db answer r u p. by_test (Came n) (is_some r.decided && not r.is_timed_out) r (with_answer db answer r) (λ x. p) (λ x. answer_came n db answer r p);
    cancel = λ n r p. record { decided = p.decided; replied = p.replied; undecided = p.undecided; unreplied = p.unreplied; uncancelled = λ c. absurd (true≢false c) };
    make = λ conn id random body m. record {
      decided = λ k x. absurd (none-some k x);
      replied = λ k x. absurd (none-some k x);
      undecided = λ x s at. absurd (no_row s at);
      unreplied = λ x s at. absurd (no_row s at);
      uncancelled = λ x s at. absurd (no_row s at);
    };
    decide = λ n r d u x p. reply_came n (record r { decided = Some e.moment }) (came_decided n r (record r { decided = Some e.moment }) (open_is r u).0 (open_is r u).1 refl refl p);
  }

  entry_came : EachRow Came (after settings origin e).requests
  entry_came = each_later settings origin e Came keeps_came (each_before settings e.moment (λ n r. nth origin.requests n ≡ Some r) Came Came before_came e.input origin (λ n r is. is))

-- ---- a history

module _ (settings : Settings) where
  -- at the end of a history, what isn't noted isn't decided by its stage
  not_decided : (g : List Entry) (n : ℕ) (s : Request) → nth (tables_of settings g).requests n ≡ Some s → s.decided ≡ None → s.is_cancelled ≡ false → is_some (decision settings s) ≡ false
  not_decided g n s is d c = go (is_some (decision settings s)) refl
    where
      go : (b : Bool) → is_some (decision settings s) ≡ b → b ≡ false
      go true x = absurd (true≢false (sym ((history_noted settings g n s is).noted x c) ∙ ap is_some d))
      go false x = refl

  decided_by : (h : List Entry) (n m : ℕ) (r : Request) → nth (tables_of settings h).requests n ≡ Some r → r.decided ≡ Some m → WasDecided settings h n m
  decided_by [] n m r is d = absurd (nowhere n r is)
  decided_by (e ∷ g) n m r is d = go (decided_by g n m) ((entry_came settings e (tables_of settings g) n r is).decided m d)
    where
      go : ((s : Request) → nth (tables_of settings g).requests n ≡ Some s → s.decided ≡ Some m → WasDecided settings g n m) →
          Had settings e (tables_of settings g) (λ (s : Request). s.decided) n m ⊎ NewlyDecided settings e (tables_of settings g) n m → WasDecided settings (e ∷ g) n m
      go earlier (inl (s, stood, had)) =
          let old : WasDecided settings g n m = earlier s stood had in
          record {
            entry = old.entry;
            older = old.older;
            among = later_among e g old.entry old.older old.among;
            at_moment = old.at_moment;
            not_before = old.not_before;
            request = old.request;
            is_there = old.is_there;
            is_decided = old.is_decided;
          }
      go earlier (inr (x, fresh)) = record {
        entry = e;
        older = g;
        among = record { newer = []; is_there = refl };
        at_moment = sym x;
        not_before = λ s at. not_decided g n s at (fresh s at).0 (fresh s at).1;
        request = r;
        is_there = is;
        is_decided = (history_noted settings (e ∷ g) n r is).has_decision (ap is_some d);
      }

  replied_by : (h : List Entry) (n m : ℕ) (r : Request) → nth (tables_of settings h).requests n ≡ Some r → r.replied ≡ Some m → WasReplied settings h n m
  replied_by [] n m r is d = absurd (nowhere n r is)
  replied_by (e ∷ g) n m r is d = go (replied_by g n m) ((entry_came settings e (tables_of settings g) n r is).replied m d)
    where
      go : ((s : Request) → nth (tables_of settings g).requests n ≡ Some s → s.replied ≡ Some m → WasReplied settings g n m) →
          Had settings e (tables_of settings g) (λ (s : Request). s.replied) n m ⊎ NewlyReplied settings e (tables_of settings g) n m → WasReplied settings (e ∷ g) n m
      go earlier (inl (s, stood, had)) =
          let old : WasReplied settings g n m = earlier s stood had in
          record { entry = old.entry; older = old.older; among = later_among e g old.entry old.older old.among; at_moment = old.at_moment; not_before = old.not_before }
      go earlier (inr (x, fresh)) = record { entry = e; older = g; among = record { newer = []; is_there = refl }; at_moment = sym x; not_before = fresh }

pub decided_is_first : DecidedIsFirst
decided_is_first settings h n m r is d = decided_by settings h n m r is d

pub replied_is_first : RepliedIsFirst
replied_is_first settings h n m r is d = replied_by settings h n m r is d
