-- What is decided, by its stage or by its limit, is noted as decided.
use Rattle.std.proofs.Common.{◌≡◌, ◌⊎◌, inl, inr, refl, sym, ◌∙◌, ap, subst, Option, Some, None, List, [], ◌∷◌, ◌++◌, ℕ, suc, Bool, true, false, length, is_some, not, ◌&&◌, ◌||◌, if◌then◌else◌, true≢false}
use Rattle.std.proofs.lemmas.Option.{none-some, same_Some}
use Rattle.da_tables.proofs.Cases.{by_test, and_first, and_second, not_true}
use Rattle.da_laws.proofs.WhatTestsSay.{late_undecided}
use Rattle.da_play.proofs.EntryParts.{InputParts, ContinuedParts, an_entry_gives}
use Rattle.da_play.proofs.RequestParts.{EachRow, each_before, each_continued, each_input, no_rows}
use Rattle.da_invariants.proofs.Marks.{AllMarked, IsMarked, before_marked, history_marked, keeps_marked}
use Rattle.da_tables.proofs.Rows.{of_changed, of_appended, of_mapped, nth-unchanged, same_or_not}
use Rattle.da_invariants.proofs.SameStage.{same_stage}
use Rattle.da_base.specs.Words.{nth, changed_nth, passes_option}
use Rattle.da_fields.specs.declared.answer.Answer.{Answer}
use Rattle.da_play.specs.History.{before_input, tables_of}
use Rattle.da_request.specs.Requests.{timed_failure, timed_out, timed_out_if_over, with_decision, replied_if_due}
use Rattle.da_request.specs.Requests.{new_request, with_text}
use Rattle.da_request.specs.Requests.{with_answer, with_late_answer}
use Rattle.da_laws.specs.ReplyLaws.{DecisionsAreNoted}
use Rattle.da_request.specs.Requests.{is_undecided, is_over_limit, is_pending, is_due, is_held, request_stage, decision, decision_in}
use Rattle.da_tables.specs.Tables.{with_end}
use Rattle.da_request.specs.Requests.{cancelled, as_cancelled_of, is_of}
use Rattle.da_play.specs.declared.input.Entry.{Entry}
use Rattle.da_play.specs.declared.input.Input.{Input}
use Rattle.da_settings.specs.declared.settings.Settings.{Settings}
use Rattle.da_request.specs.declared.stages.Decision.{Decision}
use Rattle.da_request.specs.declared.request.Request.{Request}
use Rattle.da_request.specs.declared.stages.Stage.{Stage}
use Rattle.da_request.specs.declared.stages.Stage.TheVariants.{Decided}
use Rattle.da_tables.specs.declared.tables.Tables.{Tables}

module _ (settings : Settings) where
  -- decided, and so noted unless it is cancelled; and replied only when it is noted
  pub record IsNoted (r : Request) : Type 0 where
    pub noted : is_some (decision settings r) ≡ true → r.is_cancelled ≡ false → is_some r.decided ≡ true
    pub replied : is_some r.replied ≡ true → is_some r.decided ≡ true
    pub has_decision : is_some r.decided ≡ true → is_some (decision settings r) ≡ true

  -- each request is noted but for this one
  abbrev pub AllNotedBut : Option ℕ → List Request → Type 0
  AllNotedBut m rs = (n : ℕ) (r : Request) → nth rs n ≡ Some r → (m ≡ Some n → ⊥) → IsNoted r

  abbrev pub AllNoted : List Request → Type 0
  AllNoted rs = EachRow (λ n. IsNoted) rs

  all_but_none : (rs : List Request) → AllNoted rs → AllNotedBut None rs
  all_but_none rs p n r e h = p n r e

  all_of_none : (rs : List Request) → AllNotedBut None rs → AllNoted rs
  all_of_none rs p n r e = p n r e (λ d. none-some n d)

  changed_noted : (f : Request → Request) (rs : List Request) (m : ℕ) → ((r : Request) → nth rs m ≡ Some r → IsNoted (f r)) → AllNotedBut (Some m) rs → AllNoted (changed_nth f rs m)
  changed_noted f rs m h p n r e = go (of_changed f rs m n r e)
    where
      go : ((n ≡ m) × (s : Request) × (nth rs m ≡ Some s) × (r ≡ f s)) ⊎ ((n ≡ m → ⊥) × (nth rs n ≡ Some r)) → IsNoted r
      go (inl (d, s, is, w)) = subst IsNoted (sym w) (h s is)
      go (inr (d, is)) = p n r is (λ x. d (sym (same_Some m n x)))

  -- whatever the request is that continues
  changed_but : (f : Request → Request) (rs : List Request) (m : ℕ) → AllNotedBut (Some m) rs → AllNotedBut (Some m) (changed_nth f rs m)
  changed_but f rs m p n r e h = p n r (sym (nth-unchanged f rs m n (λ d. h (ap (λ (k : ℕ). Some k) (sym d)))) ∙ e) h

  weaker_but : (m : ℕ) (rs : List Request) → AllNoted rs → AllNotedBut (Some m) rs
  weaker_but m rs p n r e h = p n r e

  -- it has a decision where it is timed out or its stage is decided
  decided_either : (r : Request) → is_some (decision settings r) ≡ (r.is_timed_out || is_some (decision_in (request_stage settings r)))
  unfolding decision
  decided_either r = go r.is_timed_out
    where
      go : (b : Bool) → is_some (if b then Some (timed_failure settings r) else decision_in (request_stage settings r)) ≡ (b || is_some (decision_in (request_stage settings r)))
      go true = refl
      go false = refl

  same_decision : (r s : Request) → s.is_timed_out ≡ r.is_timed_out → request_stage settings s ≡ request_stage settings r → is_some (decision settings s) ≡ is_some (decision settings r)
  same_decision r s t e =
      decided_either s ∙ ap (λ (b : Bool). b || is_some (decision_in (request_stage settings s))) t
      ∙ ap (λ (x : Stage). r.is_timed_out || is_some (decision_in x)) e ∙ sym (decided_either r)

  timed_decision : (r : Request) → r.is_timed_out ≡ true → is_some (decision settings r) ≡ true
  timed_decision r t = decided_either r ∙ ap (λ (b : Bool). b || is_some (decision_in (request_stage settings r))) t

  cancelled_noted : (r : Request) → IsNoted r → IsNoted (cancelled r)
  cancelled_noted r p = record { noted = λ d e. absurd (true≢false e); replied = λ e. p.replied e; has_decision = λ e. same_decision r (cancelled r) refl (same_stage settings r (cancelled r) refl refl refl refl) ∙ p.has_decision e }

  cancelled_of_noted : (conn : ℕ) (r : Request) → IsNoted r → IsNoted (as_cancelled_of conn r)
  cancelled_of_noted conn r p = by_test IsNoted (is_of conn r) (cancelled r) r (λ e. cancelled_noted r p) (λ e. p)

  -- a late answer goes to a request that isn't undecided
  late_noted : (db : ℕ) (answer : Answer) (r : Request) → is_undecided r ≡ false → IsMarked r → IsNoted r → IsNoted (with_late_answer db answer r)
  late_noted db answer r u k p = by_test IsNoted (is_some r.decided && not r.is_timed_out) r (with_answer db answer r) (λ e. p) (λ e. more r.is_timed_out refl e)
    where
      unreplied : is_some r.decided ≡ false → (b : Bool) → is_some r.replied ≡ b → b ≡ false
      unreplied e true d = absurd (true≢false (sym (p.replied d) ∙ e))
      unreplied e false d = refl

      undecided : is_some r.decided ≡ false → r.is_cancelled ≡ false → ⊥
      undecided e c = true≢false (sym (ap (λ (b : Bool). not b && not (is_some r.replied) && not (is_some r.decided)) c
          ∙ ap (λ (b : Bool). not b && not (is_some r.decided)) (unreplied e (is_some r.replied) refl) ∙ ap not e) ∙ u)

      more : (b : Bool) → r.is_timed_out ≡ b → (is_some r.decided && not r.is_timed_out) ≡ false → IsNoted (with_answer db answer r)
      more true t e = record { noted = λ d c. k.decided t; replied = λ x. p.replied x; has_decision = λ x. timed_decision (with_answer db answer r) t }
      more false t e =
          let d : is_some r.decided ≡ false = late_undecided r t e in
          record { noted = λ x c. absurd (undecided d c); replied = λ x. p.replied x; has_decision = λ x. absurd (true≢false (sym x ∙ d)) }

  due_noted : (moment : ℕ) (r : Request) → IsNoted r → IsNoted (replied_if_due settings moment r)
  unfolding is_due
  due_noted moment r p = by_test IsNoted (is_due settings moment r) (record r { replied = Some moment }) r
      (λ e. let d : is_some r.decided ≡ true = and_first (is_some r.decided) _ (and_first (is_some r.decided && not r.is_cancelled) _ (and_first (is_held r) _ e)) in
      record { noted = λ x c. d; replied = λ x. d; has_decision = λ x. same_decision r (record r { replied = Some moment }) refl (same_stage settings r (record r { replied = Some moment }) refl refl refl refl) ∙ p.has_decision x })
      (λ e. p)

  decision_noted : (moment : ℕ) (r : Request) → is_some (decision settings r) ≡ true → IsNoted (with_decision settings moment r)
  decision_noted moment r d = by_test IsNoted (is_due settings moment (record r { decided = Some moment })) (record r { decided = Some moment; replied = Some moment }) (record r { decided = Some moment })
      (λ e. record { noted = λ x c. refl; replied = λ x. refl; has_decision = λ x. same_decision r (record r { decided = Some moment; replied = Some moment }) refl (same_stage settings r _ refl refl refl refl) ∙ d })
      (λ e. record { noted = λ x c. refl; replied = λ x. refl; has_decision = λ x. same_decision r (record r { decided = Some moment }) refl (same_stage settings r _ refl refl refl refl) ∙ d })

  decided_by : (r : Request) {d : Decision} → request_stage settings r ≡ Decided d → is_some (decision settings r) ≡ true
  decided_by r e = decided_either r ∙ ap (λ (s : Stage). r.is_timed_out || is_some (decision_in s)) e ∙ or_true r.is_timed_out
    where
      or_true : (b : Bool) → (b || true) ≡ true
      or_true true = refl
      or_true false = refl

  -- a request that is timed out now is decided
  time_out_noted : (moment : ℕ) (r : Request) → IsNoted r → IsNoted (timed_out_if_over settings moment r)
  time_out_noted moment r p = by_test IsNoted (is_over_limit settings moment r) (timed_out moment r) r
      (λ e. record { noted = λ x c. refl; replied = λ x. refl; has_decision = λ x. timed_decision (timed_out moment r) refl }) (λ e. p)

  -- an undecided request isn't timed out
  not_timed : (r : Request) → IsMarked r → is_undecided r ≡ true → r.is_timed_out ≡ false
  not_timed r k u = go r.is_timed_out refl
    where
      go : (b : Bool) → r.is_timed_out ≡ b → r.is_timed_out ≡ false
      go true t = absurd (true≢false (sym (k.decided t) ∙ not_true (is_some r.decided) (and_second (is_pending r) _ u)))
      go false t = t

  -- who awaits a message or asks isn't decided
  open_noted : (r : Request) → is_undecided r ≡ true → IsMarked r → decision_in (request_stage settings r) ≡ None → IsNoted r
  open_noted r u k e = record {
    noted = λ d c. absurd (true≢false (sym d ∙ decided_either r ∙ ap (λ (b : Bool). b || is_some (decision_in (request_stage settings r))) (not_timed r k u) ∙ ap is_some e));
    replied = λ d. absurd (true≢false (sym d ∙ not_true (is_some r.replied) (and_second (not r.is_cancelled) _ (and_first (is_pending r) _ u))));
    has_decision = λ d. absurd (true≢false (sym d ∙ not_true (is_some r.decided) (and_second (is_pending r) _ u)));
  }

  stage_noted : (rs : List Request) (m : ℕ) (r : Request) → nth rs m ≡ Some r → IsNoted r → AllNotedBut (Some m) rs → AllNoted rs
  stage_noted rs m r is p all n s e = go (same_or_not n m)
    where
      go : (n ≡ m) ⊎ (n ≡ m → ⊥) → IsNoted s
      go (inl d) = subst IsNoted (same_Some r s (sym is ∙ ap (nth rs) (sym d) ∙ e)) p
      go (inr d) = all n s e (λ x. d (sym (same_Some m n x)))

  module _ (moment : ℕ) (before : Tables) (entered : Input) (hits : List ℕ) where
    abbrev pub noted_but : Tables → Option ℕ → List ℕ → Type 0
    noted_but tables m done = AllNotedBut m tables.requests × AllMarked tables.requests

    abbrev pub all_noted : Tables → Option ℕ → Type 0
    all_noted tables m = AllNoted tables.requests

    abbrev marks : InputParts settings moment before entered (λ tables m. AllMarked tables.requests)
    marks = each_input settings moment before entered hits (λ n. IsMarked) (keeps_marked settings moment before entered)

    abbrev later_marks : ContinuedParts settings moment before entered hits (λ tables m done. AllMarked tables.requests) (λ tables m. AllMarked tables.requests)
    later_marks = each_continued settings moment before entered hits (λ n. IsMarked) (keeps_marked settings moment before entered)

    end_noted : (conn : ℕ) → AllNotedBut None before.requests → AllNotedBut None (with_end conn before).requests
    unfolding with_end
    end_noted conn p n r e h =
        let was : (s : Request) × (nth before.requests n ≡ Some s) × (r ≡ as_cancelled_of conn s) = of_mapped (as_cancelled_of conn) before.requests n r e in
        subst IsNoted (sym was.2) (cancelled_of_noted conn was.0 (p n was.0 was.1 h))

    made_noted : (r : Request) → AllNotedBut None before.requests → AllNotedBut (Some (suc (length before.requests))) (before.requests ++ r ∷ [])
    made_noted r p n s e h = go (of_appended before.requests r s n e)
      where
        go : ((n ≡ suc (length before.requests)) × (s ≡ r)) ⊎ (nth before.requests n ≡ Some s) → IsNoted s
        go (inl (at, same)) = absurd (h (ap (λ (k : ℕ). Some k) (sym at)))
        go (inr is) = p n s is (λ d. none-some n d)

    late_all : (n db : ℕ) (answer : Answer) → passes_option is_undecided (nth before.requests n) ≡ false → AllMarked before.requests → AllNotedBut None before.requests →
        AllNotedBut None (changed_nth (with_late_answer db answer) before.requests n)
    late_all n db answer u k p = all_but_none _ (changed_noted (with_late_answer db answer) before.requests n
        (λ r e. late_noted db answer r (sym (ap (passes_option is_undecided) e) ∙ u) (k n r e) (p n r e (λ d. none-some n d))) (weaker_but n before.requests (all_of_none before.requests p)))

    pub input_noted : InputParts settings moment before entered (λ tables m. AllNotedBut m tables.requests × AllMarked tables.requests)
    input_noted = record {
      opens = λ kind random l p. (p.0, p.1);
      tells = λ conn change h told p. (p.0, p.1);
      ends = λ conn e p. (end_noted conn p.0, marks.ends conn e p.1);
      cancels = λ n e p. (
        all_but_none _ (changed_noted cancelled before.requests n (λ r e. cancelled_noted r (p.0 n r e (λ d. none-some n d))) (weaker_but n before.requests (all_of_none before.requests p.0))),
        marks.cancels n e p.1,
      );
      texts = λ conn id random text m r is w p. (changed_but (with_text text) before.requests _ (weaker_but _ before.requests (all_of_none before.requests p.0)), marks.texts conn id random text m r is w p.1);
      makes = λ conn id random body m p. (made_noted (new_request moment conn id random body) p.0, marks.makes conn id random body m p.1);
      loses = λ query given a g is run lost u p. (weaker_but a.request before.requests (all_of_none before.requests p.0), p.1);
      loses_late = λ query given a g is run lost u p. (p.0, p.1);
      answers = λ query given a g is run counts u p. (changed_but (with_answer a.question.db _) before.requests a.request (weaker_but a.request before.requests (all_of_none before.requests p.0)), marks.answers query given a g is run counts u p.1);
      lates = λ query given a g is run counts u p. (late_all a.request a.question.db _ u p.1 p.0, marks.lates query given a g is run counts u p.1);
    }

    pub continued_noted : ContinuedParts settings moment before entered hits noted_but all_noted
    continued_noted = record {
      hit = λ tables continued number done rest a p is e w u q. (changed_but (with_answer a.question.db p.0) tables.requests continued q.0, later_marks.hit tables continued number done rest a p is e w u q.1);
      misses = λ tables continued number done rest e w q. q;
      rests = λ tables q. all_of_none tables.requests q.0;
      awaits = λ tables n r text is u e q. stage_noted tables.requests n r is (open_noted r u (q.1 n r is) (ap decision_in e)) q.0;
      asks = λ tables n r question is u e q. stage_noted tables.requests n r is (open_noted r u (q.1 n r is) (ap decision_in e)) q.0;
      decides = λ tables n r d is u e q. changed_noted (with_decision settings moment) tables.requests n (λ s x. decision_noted moment s (decided_by s (subst (λ (y : Request). request_stage settings y ≡ Decided d) (same_Some r s (sym is ∙ x)) e))) q.0;
      kept = λ tables m query given a l run is k q. q;
    }

  pub before_noted : (moment : ℕ) (input : Input) (tables : Tables) → AllNoted tables.requests → AllNoted (before_input settings moment input tables).requests
  before_noted moment input tables p =
      each_before settings moment (λ n. IsNoted) (λ n. IsNoted) (λ n. IsNoted) (record { times_out = λ n. time_out_noted moment; replies = λ n. due_noted moment }) input tables p

  pub history_noted : (h : List Entry) → AllNoted (tables_of settings h).requests
  history_noted [] = no_rows (λ n. IsNoted)
  history_noted (e ∷ g) =
      let before : Tables = before_input settings e.moment e.input (tables_of settings g) in
      an_entry_gives settings (tables_of settings g) e (noted_but e.moment before e.input e.hits) (all_noted e.moment before e.input e.hits)
      (input_noted e.moment before e.input e.hits) (continued_noted e.moment before e.input e.hits)
      (all_but_none before.requests (before_noted e.moment e.input (tables_of settings g) (history_noted g)), before_marked settings e.moment e.input (tables_of settings g) (history_marked settings g))

pub decisions_are_noted : DecisionsAreNoted
decisions_are_noted settings h n r e = (history_noted settings h n r e).noted
