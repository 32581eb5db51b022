-- Clients' requests are timed out at their limit, and told so once.
use Rattle.std.proofs.Common.{◌≡◌, refl, sym, ◌∙◌, ap, subst, Option, Some, None, List, ℕ, ◌+◌, ◌<◌, Bool, true, false, cond, is_some, map, not, ◌&&◌, ◌==◌, if◌then◌else◌, nat_le, option_map, option_to_list, true≢false, ne_eqb, arith}
use Rattle.std.proofs.lemmas.Bool.Decides.{nat_tests}
use Rattle.std.proofs.lemmas.Option.{same_Some}
use Rattle.da_base.specs.Words.{nth, count_where, later as later_by, option_or_else, passes_option}
use Rattle.da_invariants.proofs.Marks.{IsMarked, history_marked}
use Rattle.da_laws.proofs.RepliedOnce.{entry_replies, none_any, replies_at, replies_of, some_any, times, times-append}
use Rattle.da_laws.specs.LimitLaws.{IsTimedOut, LimitsTimeOut, NoLimitIsPassed, TakesTheFirst, TimedOutIsSilent, TimedOutIsTold, told}
use Rattle.da_play.proofs.EntryParts.{ContinuedUndecided, IsSound, before_gives, sound_input}
use Rattle.da_play.specs.Effects.{continued_if, effects, final_replies}
use Rattle.da_play.specs.History.{after, after_input, before_input, tables_of}
use Rattle.da_play.specs.declared.input.Entry.{Entry}
use Rattle.da_play.specs.declared.input.Input.{Input}
use Rattle.da_request.specs.Requests.{challenge_in, decision, decision_in, has_limit, is_authentication, is_due, is_over_limit, is_pending, is_undecided, limit_moment, replied_if_due, request_stage, timed_failure, timed_out, timed_out_if_over}
use Rattle.da_request.specs.declared.request.Request.{Request}
use Rattle.da_settings.specs.declared.settings.Settings.{Settings}
use Rattle.da_steps.proofs.Standing.{all_same, before_stands, entry_stands, input_stands, is_there, request_later, rest_stands, undecided_is}
use Rattle.da_steps.proofs.TakeSteps.{hands_out}
use Rattle.da_steps.specs.Standing.{RequestStands, TablesStand}
use Rattle.da_tables.proofs.Cases.{by_test, and_first, and_second, not_true}
use Rattle.da_tables.proofs.Rows.{nth-map}
use Rattle.da_tables.specs.Tables.{AfterInput, with_due_replied, with_timed_out}
use Rattle.da_tables.specs.declared.tables.Tables.{Tables}

pub timed_out_is_told : TimedOutIsTold
unfolding decision
timed_out_is_told settings r t = ap (λ (b : Bool). if b then Some (timed_failure settings r) else decision_in (request_stage settings r)) t

pub takes_the_first : TakesTheFirst
takes_the_first settings e g l = hands_out settings e (tables_of settings g) l

-- ---- an entry that finds a request at its limit

-- timed out, decided and replied at this moment
record IsDone (moment : ℕ) (r : Request) : Type 0 where
  pub marked : r.is_timed_out ≡ true
  pub decided : r.decided ≡ Some moment
  pub replied : r.replied ≡ Some moment

-- timed out and decided, and due at this moment
record IsOver (settings : Settings) (moment : ℕ) (r : Request) : Type 0 where
  pub marked : r.is_timed_out ≡ true
  pub decided : r.decided ≡ Some moment
  pub due : is_due settings moment r ≡ true

over_now : (settings : Settings) (moment : ℕ) (r : Request) → is_over_limit settings moment r ≡ true → IsOver settings moment (timed_out_if_over settings moment r)
unfolding is_due is_over_limit
over_now settings moment r e = subst (IsOver settings moment) (sym (ap (λ (b : Bool). cond b (timed_out moment r) r) e)) (record { marked = refl; decided = refl; due = due_now })
  where
    open_now : is_pending r ≡ true
    open_now = and_first (is_pending r) _ (and_second (is_authentication r.body) (is_undecided r) (and_first (has_limit r) _ e))

    due_now : is_due settings moment (timed_out moment r) ≡ true
    due_now = ap (λ (b : Bool). b && nat_le (limit_moment settings r) moment) open_now ∙ and_second (has_limit r) (nat_le (limit_moment settings r) moment) e

done_now : (settings : Settings) (moment : ℕ) (r : Request) → IsOver settings moment r → IsDone moment (replied_if_due settings moment r)
done_now settings moment r o = subst (IsDone moment) (sym (ap (λ (b : Bool). cond b (record r { replied = Some moment }) r) o.due)) (record { marked = o.marked; decided = o.decided; replied = refl })

-- what holds of request n among these
abbrev Holds : (Request → Type 0) → ℕ → List Request → Type 0
Holds P n rs = (r : Request) × (nth rs n ≡ Some r) × P r

mapped_holds : (P Q : Request → Type 0) (f : Request → Request) → ((r : Request) → P r → Q (f r)) → (n : ℕ) (rs : List Request) → Holds P n rs → Holds Q n (map f rs)
mapped_holds P Q f h n rs (r, is, p) = (f r, nth-map f rs n ∙ ap (option_map f) is, h r p)

over_holds : (settings : Settings) (moment n : ℕ) (t : Tables) → Holds (λ r. is_over_limit settings moment r ≡ true) n t.requests → Holds (IsOver settings moment) n (with_timed_out settings moment t).requests
unfolding with_timed_out
over_holds settings moment n t p = mapped_holds (λ r. is_over_limit settings moment r ≡ true) (IsOver settings moment) (timed_out_if_over settings moment) (over_now settings moment) n t.requests p

done_holds : (settings : Settings) (moment n : ℕ) (t : Tables) → Holds (IsOver settings moment) n t.requests → Holds (IsDone moment) n (with_due_replied settings moment t).requests
unfolding with_due_replied
done_holds settings moment n t p = mapped_holds (IsOver settings moment) (IsDone moment) (replied_if_due settings moment) (done_now settings moment) n t.requests p

done_before : (settings : Settings) (moment n : ℕ) (input : Input) (tables : Tables) (r : Request) → nth tables.requests n ≡ Some r → is_over_limit settings moment r ≡ true → Holds (IsDone moment) n (before_input settings moment input tables).requests
done_before settings moment n input tables r is over =
    before_gives settings moment tables input (λ t. Holds (λ r. is_over_limit settings moment r ≡ true) n t.requests) (λ t. Holds (IsOver settings moment) n t.requests) (λ t. Holds (IsDone moment) n t.requests)
    (record { takes = λ l. (r, is, over); stays = (r, is, over); times_out = over_holds settings moment n; replies = done_holds settings moment n })

module _ (settings : Settings) (e : Entry) (g : List Entry) where
  abbrev tables : Tables
  tables = tables_of settings g

  abbrev before : Tables
  before = before_input settings e.moment e.input tables

  abbrev there : AfterInput
  there = after_input settings e.moment e.input before

  abbrev final : Tables
  final = after settings tables e

  -- what stands before the input stands after it
  sound : IsSound settings e.moment before e.input (λ x m. TablesStand before x) (input_stands settings e.moment before before e.input e.hits) there
  sound = sound_input settings e.moment before e.input (λ x m. TablesStand before x) (input_stands settings e.moment before before e.input e.hits) e.input refl (all_same before)

  -- a request that is decided before the input isn't the one that continues
  not_continued : (n : ℕ) (r : Request) → nth before.requests n ≡ Some r → is_some r.decided ≡ true → there.continued ≡ Some n → ⊥
  not_continued n r is d c = go (sound.fact.requests n r is)
    where
      undecided : passes_option is_undecided (nth there.tables.requests n) ≡ true
      undecided = subst (ContinuedUndecided there.tables.requests) c sound.continued

      go : (s : Request) × (nth there.tables.requests n ≡ Some s) × RequestStands r s → ⊥
      go (s, at, k) =
          let was : (m : ℕ) × (r.decided ≡ Some m) = is_there r.decided d in
          true≢false (sym (ap is_some (k.decided was.0 was.1)) ∙ (undecided_is s (sym (ap (passes_option is_undecided) at) ∙ undecided)).0)

  quiet_continued : (holds : Request → Bool) (rs : List Request) (n : ℕ) (o : Option ℕ) → (o ≡ Some n → ⊥) → times n (option_to_list (continued_if holds rs o)) ≡ 0
  quiet_continued holds rs n None h = refl
  quiet_continued holds rs n (Some m) h = by_test (λ (o : Option ℕ). times n (option_to_list o) ≡ 0) (passes_option holds (nth rs m)) (Some m) None
      (λ x. ap (λ (b : Bool). let k : ℕ = cond b 1 0 in k + 0) (ne_eqb m n (λ d. h (ap (λ (k : ℕ). Some k) d))))
      (λ x. refl)

  no_challenge : (n : ℕ) → (there.continued ≡ Some n → ⊥) → times n (option_to_list (effects settings tables e).challenged) ≡ 0
  unfolding effects
  no_challenge n h = quiet_continued (λ r. is_some (challenge_in (request_stage settings r))) final.requests n there.continued h

  no_own_reply : (n : ℕ) → (there.continued ≡ Some n → ⊥) → times n (option_to_list (effects settings tables e).replied) ≡ 0
  unfolding effects
  no_own_reply n h = quiet_continued (λ r. is_some r.replied) final.requests n there.continued h

  replied_at : (rs : List Request) (n : ℕ) (r : Request) (b : Bool) → nth rs n ≡ Some r → is_some r.replied ≡ b → replies_at rs n ≡ cond b 1 0
  replied_at rs n r b is k = ap (λ (o : Option Request). option_or_else o 0 replies_of) is ∙ ap (λ (x : Bool). cond x 1 0) k

  told_times : (n : ℕ) → (there.continued ≡ Some n → ⊥) → times n (told (effects settings tables e)) ≡ times n (final_replies (effects settings tables e))
  told_times n h =
      let append : times n (told (effects settings tables e)) ≡ times n (final_replies (effects settings tables e)) + times n (option_to_list (effects settings tables e).challenged) =
      times-append n (final_replies (effects settings tables e)) (option_to_list (effects settings tables e).challenged) in
      let none : times n (option_to_list (effects settings tables e).challenged) ≡ 0 = no_challenge n h in
      omega (arith, append, none)

over_unreplied : (settings : Settings) (moment : ℕ) (r : Request) → is_over_limit settings moment r ≡ true → is_some r.replied ≡ false
unfolding is_over_limit
over_unreplied settings moment r e = (undecided_is r (and_second (is_authentication r.body) (is_undecided r) (and_first (has_limit r) _ e))).1

-- ---- the laws

pub timed_out_is_silent : TimedOutIsSilent
timed_out_is_silent settings e g n r is t = none_any (λ m. m == n) (told (effects settings (tables_of settings g) e)) none
  where
    marked : IsMarked r
    marked = history_marked settings g n r is

    still : (s : Request) × (nth (before_input settings e.moment e.input (tables_of settings g)).requests n ≡ Some s) × RequestStands r s
    still = (before_stands settings e.moment e.input (tables_of settings g)).requests n r is

    decided : is_some still.0.decided ≡ true
    decided = let was : (m : ℕ) × (r.decided ≡ Some m) = is_there r.decided (marked.decided t) in ap is_some (still.2.decided was.0 was.1)

    silent : (after_input settings e.moment e.input (before_input settings e.moment e.input (tables_of settings g))).continued ≡ Some n → ⊥
    silent = not_continued settings e g n still.0 still.1 decided

    later : (s : Request) × (nth (after settings (tables_of settings g) e).requests n ≡ Some s) × RequestStands r s
    later = (entry_stands settings (tables_of settings g) e).requests n r is

    replied : is_some later.0.replied ≡ true
    replied = let was : (m : ℕ) × (r.replied ≡ Some m) = is_there r.replied (marked.replied t) in ap is_some (later.2.replied was.0 was.1)

    none : count_where (λ m. m == n) (told (effects settings (tables_of settings g) e)) ≡ 0
    none =
        let all : replies_at (after settings (tables_of settings g) e).requests n ≡ replies_at (tables_of settings g).requests n + times n (final_replies (effects settings (tables_of settings g) e)) =
        entry_replies settings (tables_of settings g) e n in
        let first : replies_at (tables_of settings g).requests n ≡ 1 = replied_at settings e g (tables_of settings g).requests n r true is (marked.replied t) in
        let last : replies_at (after settings (tables_of settings g) e).requests n ≡ 1 = replied_at settings e g (after settings (tables_of settings g) e).requests n later.0 true later.1 replied in
        let same : times n (told (effects settings (tables_of settings g) e)) ≡ times n (final_replies (effects settings (tables_of settings g) e)) = told_times settings e g n silent in
        omega (arith, all, first, last, same)

pub limits_time_out : LimitsTimeOut
limits_time_out settings e g n r is over = record {
  request = later.0;
  is_there = later.1;
  is_timed_out = later.2.timed_out (ap is_some done.2.decided) ∙ done.2.marked;
  is_decided = later.2.decided e.moment done.2.decided;
  is_replied = later.2.replied e.moment done.2.replied;
  is_due = some_any (λ m. m == n) (effects settings (tables_of settings g) e).due due_once;
  once = omega (arith, same, final_once);
}
  where
    done : Holds (IsDone e.moment) n (before_input settings e.moment e.input (tables_of settings g)).requests
    done = done_before settings e.moment n e.input (tables_of settings g) r is over

    from_before : (s : Request) × (nth (after_input settings e.moment e.input (before_input settings e.moment e.input (tables_of settings g))).tables.requests n ≡ Some s) × RequestStands done.0 s
    from_before = (sound settings e g).fact.requests n done.0 done.1

    then_later : (s : Request) × (nth (after settings (tables_of settings g) e).requests n ≡ Some s) × RequestStands from_before.0 s
    then_later = (rest_stands settings (tables_of settings g) e).requests n from_before.0 from_before.1

    later : (s : Request) × (nth (after settings (tables_of settings g) e).requests n ≡ Some s) × RequestStands done.0 s
    later = (then_later.0, then_later.1, request_later done.0 from_before.0 then_later.0 from_before.2 then_later.2)

    silent : (after_input settings e.moment e.input (before_input settings e.moment e.input (tables_of settings g))).continued ≡ Some n → ⊥
    silent = not_continued settings e g n done.0 done.1 (ap is_some done.2.decided)

    same : times n (told (effects settings (tables_of settings g) e)) ≡ times n (final_replies (effects settings (tables_of settings g) e))
    same = told_times settings e g n silent

    unreplied : is_some r.replied ≡ false
    unreplied = over_unreplied settings e.moment r over

    final_once : times n (final_replies (effects settings (tables_of settings g) e)) ≡ 1
    final_once =
        let all : replies_at (after settings (tables_of settings g) e).requests n ≡ replies_at (tables_of settings g).requests n + times n (final_replies (effects settings (tables_of settings g) e)) =
        entry_replies settings (tables_of settings g) e n in
        let first : replies_at (tables_of settings g).requests n ≡ 0 = replied_at settings e g (tables_of settings g).requests n r false is unreplied in
        let last : replies_at (after settings (tables_of settings g) e).requests n ≡ 1 = replied_at settings e g (after settings (tables_of settings g) e).requests n later.0 true later.1 (ap is_some (later.2.replied e.moment done.2.replied)) in
        omega (arith, all, first, last)

    due_once : times n (effects settings (tables_of settings g) e).due ≡ 1
    due_once =
        let parts : times n (final_replies (effects settings (tables_of settings g) e)) ≡ times n (effects settings (tables_of settings g) e).due + times n (option_to_list (effects settings (tables_of settings g) e).replied) =
        times-append n (effects settings (tables_of settings g) e).due (option_to_list (effects settings (tables_of settings g) e).replied) in
        let none : times n (option_to_list (effects settings (tables_of settings g) e).replied) ≡ 0 = no_own_reply settings e g n silent in
        omega (arith, parts, none, final_once)

pub no_limit_is_passed : NoLimitIsPassed
unfolding is_over_limit
no_limit_is_passed settings e g n q r first last limited = go (nat_le (limit_moment settings r) e.moment) refl
  where
    later : (s : Request) × (nth (after settings (tables_of settings g) e).requests n ≡ Some s) × RequestStands q s
    later = (entry_stands settings (tables_of settings g) e).requests n q first

    stands : RequestStands q r
    stands = subst (RequestStands q) (same_Some later.0 r (sym later.1 ∙ last)) later.2

    open_now : (is_some r.decided ≡ false) × (is_some r.replied ≡ false)
    open_now = undecided_is r (and_second (is_authentication r.body) (is_undecided r) limited)

    uncancelled : r.is_cancelled ≡ false
    uncancelled = not_true r.is_cancelled (and_first (not r.is_cancelled) _ (and_first (is_pending r) _ (and_second (is_authentication r.body) (is_undecided r) limited)))

    none_before : (a b : Option ℕ) → ((m : ℕ) → a ≡ Some m → b ≡ Some m) → is_some b ≡ false → is_some a ≡ false
    none_before None b h d = refl
    none_before (Some m) b h d = absurd (true≢false (sym (ap is_some (h m refl)) ∙ d))

    uncancelled_before : (b : Bool) → (b ≡ true → r.is_cancelled ≡ true) → b ≡ false
    uncancelled_before true h = absurd (true≢false (sym (h refl) ∙ uncancelled))
    uncancelled_before false h = refl

    was_limited : has_limit q ≡ true
    was_limited =
        ap (λ (b : Bool). b && is_undecided q) (sym stands.is_client ∙ and_first (is_authentication r.body) (is_undecided r) limited)
        ∙ ap (λ (b : Bool). not b && not (is_some q.replied) && not (is_some q.decided)) (uncancelled_before q.is_cancelled stands.cancelled)
        ∙ ap (λ (b : Bool). not b && not (is_some q.decided)) (none_before q.replied r.replied stands.replied open_now.1)
        ∙ ap not (none_before q.decided r.decided stands.decided open_now.0)

    go : (b : Bool) → nat_le (limit_moment settings r) e.moment ≡ b → e.moment < limit_moment settings r
    go false d = grind (arith, nat_tests, d)
    go true d = absurd (true≢false (sym (ap is_some (out.is_decided)) ∙ (ap (λ (x : Request). is_some x.decided) (same_Some out.request r (sym out.is_there ∙ last)) ∙ open_now.0)))
      where
        over : is_over_limit settings e.moment q ≡ true
        over = ap (λ (b : Bool). b && nat_le (limit_moment settings q) e.moment) was_limited ∙ ap (λ (start : ℕ). nat_le (later_by start settings.request_limit) e.moment) (sym stands.start) ∙ d

        out : IsTimedOut settings e g n
        out = limits_time_out settings e g n q first over
