-- A query without an answer is what its request asks.
use Rattle.std.proofs.Common.{◌≡◌, ◌⊎◌, inl, inr, refl, sym, ◌∙◌, ap, subst, Option, Some, None, List, [], ◌∷◌, ◌++◌, ℕ, zero, suc, Bool, true, false, map, length, is_some, not, ◌&&◌, true≢false}
use Rattle.std.proofs.lemmas.Option.{none-some, same_Some}
use Rattle.da_tables.proofs.Cases.{by_test, and_first, and_second, not_true}
use Rattle.da_play.proofs.EntryParts.{InputParts, ContinuedParts, an_entry_gives, before_gives}
use Rattle.da_tables.proofs.Rows.{of_changed, of_appended, nth-past, nth-unchanged}
use Rattle.da_steps.proofs.Standing.{RowsStand, longer_rows, mapped_rows, changed_rows, undecided_is}
use Rattle.da_base.specs.Words.{Bytes, nth, changed_nth}
use Rattle.da_fields.specs.declared.answer.Answer.{Answer}
use Rattle.da_play.specs.History.{tables_of, after, before_input}
use Rattle.da_tables.specs.Tables.{with_due_replied, with_timed_out}
use Rattle.da_request.specs.Requests.{timed_out, timed_out_if_over, with_decision, replied_if_due}
use Rattle.da_tables.specs.Queries.{as_taken}
use Rattle.da_tables.specs.Queries.{used_again}
use Rattle.da_tables.specs.Hits.{hit_comparison, hit_with}
use Rattle.da_request.specs.Requests.{new_request, with_text, is_awaiting}
use Rattle.da_request.specs.Requests.{with_answer, with_late_answer}
use Rattle.da_tables.specs.RecordedAnswers.{answered_by, recorded_answer}
use Rattle.da_tables.specs.Queries.{is_running, first_waiting}
use Rattle.da_invariants.specs.QueryLaws.{IsAsked, OpenQueriesAreAsked}
use Rattle.da_request.specs.Requests.{is_undecided, is_due, is_held, is_over_limit, request_stage, question_in, challenge_in}
use Rattle.da_invariants.proofs.SameStage.{same_stage}
use Rattle.da_tables.specs.Tables.{with_end}
use Rattle.da_request.specs.Requests.{cancelled, as_cancelled_of, is_of}
use Rattle.da_play.specs.declared.input.Entry.{Entry}
use Rattle.da_play.specs.declared.input.Input.{Input}
use Rattle.da_settings.specs.declared.settings.Settings.{Settings}
use Rattle.da_tables.specs.declared.queries.QueryRow.{QueryRow}
use Rattle.da_request.specs.declared.stages.Question.{Question}
use Rattle.da_request.specs.declared.request.Request.{Request}
use Rattle.da_request.specs.declared.stages.Stage.{Stage}
use Rattle.da_request.specs.declared.stages.Stage.TheVariants.{Awaits, Asks, Decided}
use Rattle.da_tables.specs.declared.tables.Tables.{Tables}

abbrev pub AllAsked : Settings → List Request → List QueryRow → Type 0
AllAsked settings rs qs = (k : ℕ) (a : QueryRow) → nth qs k ≡ Some a → a.answer ≡ None → IsAsked settings rs qs k a

-- no open query is this request's
abbrev pub NoneOf : List QueryRow → Option ℕ → Type 0
NoneOf qs None = Unit {0}
NoneOf qs (Some n) = (k : ℕ) (a : QueryRow) → nth qs k ≡ Some a → a.answer ≡ None → a.request ≡ n → ⊥

pub none_there : {A : Type 0} (o : Option A) → is_some o ≡ false → o ≡ None
none_there None e = refl
none_there (Some x) e = absurd (true≢false e)

-- ---- other rows of requests

-- a request asks the same, and where it isn't timed out, what wasn't decided is neither decided nor replied
pub record AsksSame (settings : Settings) (r s : Request) : Type 0 where
  pub timed : s.is_timed_out ≡ false → r.is_timed_out ≡ false
  pub decided : s.is_timed_out ≡ false → r.decided ≡ None → s.decided ≡ None
  pub replied : s.is_timed_out ≡ false → r.decided ≡ None → s.replied ≡ r.replied
  pub stage : request_stage settings s ≡ request_stage settings r

module _ (settings : Settings) where
  asks_same : (r : Request) → AsksSame settings r r
  asks_same r = record { timed = λ t. t; decided = λ t e. e; replied = λ t e. refl; stage = refl }

  asks_same_later : (a b c : Request) → AsksSame settings a b → AsksSame settings b c → AsksSame settings a c
  asks_same_later a b c f g = record {
    timed = λ t. f.timed (g.timed t);
    decided = λ t e. g.decided t (f.decided (g.timed t) e);
    replied = λ t e. g.replied t (f.decided (g.timed t) e) ∙ f.replied (g.timed t) e;
    stage = g.stage ∙ f.stage;
  }

  cancelled_asks : (r : Request) → AsksSame settings r (cancelled r)
  cancelled_asks r = record { timed = λ t. t; decided = λ t e. e; replied = λ t e. refl; stage = same_stage settings r (cancelled r) refl refl refl refl }

  cancelled_of_asks : (conn : ℕ) (r : Request) → AsksSame settings r (as_cancelled_of conn r)
  cancelled_of_asks conn r = by_test (AsksSame settings r) (is_of conn r) (cancelled r) r (λ e. cancelled_asks r) (λ e. asks_same r)

  undecided_isn't_due : (moment : ℕ) (r : Request) → r.decided ≡ None → is_due settings moment r ≡ true → ⊥
  unfolding is_due
  undecided_isn't_due moment r d e = true≢false (sym (and_first (is_some r.decided) _ (and_first (is_some r.decided && not r.is_cancelled) _ (and_first (is_held r) _ e))) ∙ ap is_some d)

  due_asks : (moment : ℕ) (r : Request) → AsksSame settings r (replied_if_due settings moment r)
  due_asks moment r = by_test (AsksSame settings r) (is_due settings moment r) (record r { replied = Some moment }) r
      (λ e. record {
        timed = λ t. t;
        decided = λ t d. d;
        replied = λ t d. absurd (undecided_isn't_due moment r d e);
        stage = same_stage settings r (record r { replied = Some moment }) refl refl refl refl;
      })
      (λ e. asks_same r)

  timed_asks : (moment : ℕ) (r : Request) → AsksSame settings r (timed_out_if_over settings moment r)
  timed_asks moment r = by_test (AsksSame settings r) (is_over_limit settings moment r) (timed_out moment r) r
      (λ e. record {
        timed = λ t. absurd (true≢false t);
        decided = λ t d. absurd (true≢false t);
        replied = λ t d. refl;
        stage = same_stage settings r (timed_out moment r) refl refl refl refl;
      })
      (λ e. asks_same r)

  other_requests : (rs ss : List Request) (qs : List QueryRow) → RowsStand (AsksSame settings) rs ss → AllAsked settings rs qs → AllAsked settings ss qs
  other_requests rs ss qs rows p k a e o =
      let was : IsAsked settings rs qs k a = p k a e o in
      let now : (s : Request) × (nth ss a.request ≡ Some s) × AsksSame settings was.request s = rows a.request was.request was.is_there in
      record {
        request = now.0;
        is_there = now.1;
        is_not_decided = λ t. now.2.decided t (was.is_not_decided (now.2.timed t));
        is_not_replied = λ t. now.2.replied t (was.is_not_decided (now.2.timed t)) ∙ was.is_not_replied (now.2.timed t);
        asks = ap question_in now.2.stage ∙ was.asks;
        is_only = was.is_only;
      }

  -- a request without an open query may change as it will
  elsewhere : (f : Request → Request) (rs : List Request) (n : ℕ) (qs : List QueryRow) → AllAsked settings rs qs → NoneOf qs (Some n) → AllAsked settings (changed_nth f rs n) qs
  elsewhere f rs n qs p none k a e o =
      let was : IsAsked settings rs qs k a = p k a e o in
      record {
        request = was.request;
        is_there = nth-unchanged f rs n a.request (λ d. none k a e o d) ∙ was.is_there;
        is_not_decided = was.is_not_decided;
        is_not_replied = was.is_not_replied;
        asks = was.asks;
        is_only = was.is_only;
      }

  longer_requests : (rs ss : List Request) (qs : List QueryRow) → AllAsked settings rs qs → AllAsked settings (rs ++ ss) qs
  longer_requests rs ss qs p = other_requests rs (rs ++ ss) qs (longer_rows (AsksSame settings) asks_same asks_same_later rs ss) p

  -- ---- other rows of queries

  record KeepsOpen (f : QueryRow → QueryRow) : Type 0 where
    pub request : (a : QueryRow) → (f a).request ≡ a.request
    pub question : (a : QueryRow) → (f a).question ≡ a.question
    pub unanswered : (a : QueryRow) → (f a).answer ≡ None → a.answer ≡ None

  record WasOpen (qs : List QueryRow) (n : ℕ) (b : QueryRow) : Type 0 where
    pub row : QueryRow
    pub stood : nth qs n ≡ Some row
    pub unanswered : row.answer ≡ None
    pub request : b.request ≡ row.request
    pub question : b.question ≡ row.question

  was_open : (f : QueryRow → QueryRow) → KeepsOpen f → (qs : List QueryRow) (m n : ℕ) (b : QueryRow) → nth (changed_nth f qs m) n ≡ Some b → b.answer ≡ None → WasOpen qs n b
  was_open f k qs m n b e o = go (of_changed f qs m n b e)
    where
      go : ((n ≡ m) × (a : QueryRow) × (nth qs m ≡ Some a) × (b ≡ f a)) ⊎ ((n ≡ m → ⊥) × (nth qs n ≡ Some b)) → WasOpen qs n b
      go (inl (d, a, is, w)) = record {
        row = a;
        stood = ap (nth qs) d ∙ is;
        unanswered = k.unanswered a (sym (ap (λ (x : QueryRow). x.answer) w) ∙ o);
        request = ap (λ (x : QueryRow). x.request) w ∙ k.request a;
        question = ap (λ (x : QueryRow). x.question) w ∙ k.question a;
      }
      go (inr (d, is)) = record { row = b; stood = is; unanswered = o; request = refl; question = refl }

  none_of_changed : (f : QueryRow → QueryRow) → KeepsOpen f → (qs : List QueryRow) (m n : ℕ) → NoneOf qs (Some n) → NoneOf (changed_nth f qs m) (Some n)
  none_of_changed f k qs m n none i b e o d =
      let was : WasOpen qs i b = was_open f k qs m i b e o in none i was.row was.stood was.unanswered (sym was.request ∙ d)

  changed_queries : (f : QueryRow → QueryRow) → KeepsOpen f → (rs : List Request) (qs : List QueryRow) (m : ℕ) → AllAsked settings rs qs → AllAsked settings rs (changed_nth f qs m)
  changed_queries f k rs qs m p i b e o =
      let was : WasOpen qs i b = was_open f k qs m i b e o in
      let asked : IsAsked settings rs qs i was.row = p i was.row was.stood was.unanswered in
      record {
        request = asked.request;
        is_there = ap (nth rs) was.request ∙ asked.is_there;
        is_not_decided = asked.is_not_decided;
        is_not_replied = asked.is_not_replied;
        asks = asked.asks ∙ ap (λ (x : Question). Some x) (sym was.question);
        is_only = λ j c x y z. let other : WasOpen qs j c = was_open f k qs m j c x y in asked.is_only j other.row other.stood other.unanswered (sym other.request ∙ z ∙ was.request);
      }

  taken_keeps : (moment : ℕ) → KeepsOpen (as_taken moment)
  taken_keeps moment = record { request = λ a. refl; question = λ a. refl; unanswered = λ a e. e }

  used_keeps : (comparison : Option Bool) → KeepsOpen (used_again comparison)
  used_keeps comparison = record { request = λ a. refl; question = λ a. refl; unanswered = λ a e. e }

  answered_keeps : (moment : ℕ) (r : Option Request) (answer : Answer) → KeepsOpen (answered_by settings moment r answer)
  answered_keeps moment r answer = record { request = λ a. refl; question = λ a. refl; unanswered = λ a e. absurd (none-some (answer, moment) (sym e)) }

  -- the answered query was the only open one of its request
  none_of_answered : (moment : ℕ) (r : Option Request) (answer : Answer) (rs : List Request) (qs : List QueryRow) (k : ℕ) (a : QueryRow) → nth qs k ≡ Some a → a.answer ≡ None →
      AllAsked settings rs qs → NoneOf (changed_nth (answered_by settings moment r answer) qs k) (Some a.request)
  none_of_answered moment r answer rs qs k a is o p i b e x d = go (of_changed (answered_by settings moment r answer) qs k i b e)
    where
      go : ((i ≡ k) × (c : QueryRow) × (nth qs k ≡ Some c) × (b ≡ answered_by settings moment r answer c)) ⊎ ((i ≡ k → ⊥) × (nth qs i ≡ Some b)) → ⊥
      go (inl (same, c, at, w)) = none-some (answer, moment) (sym x ∙ ap (λ (y : QueryRow). y.answer) w)
      go (inr (other, at)) = other ((p k a is o).is_only i b at x d)

  -- ---- a new query

  asked_anew : (rs : List Request) (qs : List QueryRow) (new : QueryRow) (r : Request) → nth rs new.request ≡ Some r → is_undecided r ≡ true → question_in (request_stage settings r) ≡ Some new.question →
      AllAsked settings rs qs → NoneOf qs (Some new.request) → AllAsked settings rs (qs ++ new ∷ [])
  asked_anew rs qs new r is u asks p none k a e o = go (of_appended qs new a k e)
    where
      only_new : (m : ℕ) (b : QueryRow) → nth (qs ++ new ∷ []) m ≡ Some b → b.answer ≡ None → b.request ≡ new.request → m ≡ suc (length qs)
      only_new m b x y z = which (of_appended qs new b m x)
        where
          which : ((m ≡ suc (length qs)) × (b ≡ new)) ⊎ (nth qs m ≡ Some b) → m ≡ suc (length qs)
          which (inl (at, same)) = at
          which (inr at) = absurd (none m b at y z)

      go : ((k ≡ suc (length qs)) × (a ≡ new)) ⊎ (nth qs k ≡ Some a) → IsAsked settings rs (qs ++ new ∷ []) k a
      go (inl (at, same)) = record {
        request = r;
        is_there = ap (λ (x : QueryRow). nth rs x.request) same ∙ is;
        is_not_decided = λ t. none_there r.decided (undecided_is r u).0;
        is_not_replied = λ t. none_there r.replied (undecided_is r u).1;
        asks = asks ∙ ap (λ (x : QueryRow). Some x.question) (sym same);
        is_only = λ m b x y z. only_new m b x y (z ∙ ap (λ (x : QueryRow). x.request) same) ∙ sym at;
      }
      go (inr at) =
          let was : IsAsked settings rs qs k a = p k a at o in
          record {
            request = was.request;
            is_there = was.is_there;
            is_not_decided = was.is_not_decided;
            is_not_replied = was.is_not_replied;
            asks = was.asks;
            is_only = λ m b x y z. which m b y z (of_appended qs new b m x);
          }
        where
          which : (m : ℕ) (b : QueryRow) → b.answer ≡ None → b.request ≡ a.request → ((m ≡ suc (length qs)) × (b ≡ new)) ⊎ (nth qs m ≡ Some b) → m ≡ k
          which m b y z (inl (x, same)) = absurd (none k a at o (sym z ∙ ap (λ (x : QueryRow). x.request) same))
          which m b y z (inr x) = (p k a at o).is_only m b x y z

-- ---- the parts of an entry

module _ (settings : Settings) (moment : ℕ) (before : Tables) (entered : Input) (hits : List ℕ) where
  pub record AreAsked (tables : Tables) (m : Option ℕ) : Type 0 where
    pub all : AllAsked settings tables.requests tables.queries
    pub none : NoneOf tables.queries m

  abbrev pub asked_now : Tables → Option ℕ → List ℕ → Type 0
  asked_now tables m done = AreAsked tables m

  abbrev pub all_asked : Tables → Option ℕ → Type 0
  all_asked tables m = AllAsked settings tables.requests tables.queries

  quiet : (tables : Tables) → AllAsked settings tables.requests tables.queries → AreAsked tables None
  quiet tables p = record { all = p; none = tt }

  end_asked : (conn : ℕ) → AllAsked settings before.requests before.queries → AllAsked settings (with_end conn before).requests (with_end conn before).queries
  unfolding with_end
  end_asked conn p = other_requests settings before.requests (map (as_cancelled_of conn) before.requests) before.queries
      (mapped_rows (AsksSame settings) (asks_same settings) (asks_same_later settings) (as_cancelled_of conn) (cancelled_of_asks settings conn) before.requests) p

  -- who awaits a message asks nothing
  awaiting_asks_nothing : (s : Stage) (q : Question) → is_some (challenge_in s) ≡ true → question_in s ≡ Some q → ⊥
  awaiting_asks_nothing (Awaits text) q w e = none-some q e
  awaiting_asks_nothing (Asks p) q w e = true≢false (sym w)
  awaiting_asks_nothing (Decided d) q w e = none-some q e

  text_asked : (n : ℕ) (text : Bytes) (r : Request) → nth before.requests n ≡ Some r → is_awaiting settings r ≡ true → AllAsked settings before.requests before.queries →
      AreAsked (record before { requests = changed_nth (with_text text) before.requests n }) (Some n)
  text_asked n text r is w p = record { all = elsewhere settings (with_text text) before.requests n before.queries p none; none = none }
    where
      none : NoneOf before.queries (Some n)
      none k a e o d =
          let asked : IsAsked settings before.requests before.queries k a = p k a e o in
          awaiting_asks_nothing (request_stage settings r) a.question (and_second (is_undecided r) _ w)
          (subst (λ (x : Request). question_in (request_stage settings x) ≡ Some a.question) (same_Some asked.request r (sym asked.is_there ∙ ap (nth before.requests) d ∙ is)) asked.asks)

  made_asked : (r : Request) → AllAsked settings before.requests before.queries → AreAsked (record before { requests = before.requests ++ r ∷ [] }) (Some (suc (length before.requests)))
  made_asked r p = record {
    all = longer_requests settings before.requests (r ∷ []) before.queries p;
    none = λ k a e o d. let asked : IsAsked settings before.requests before.queries k a = p k a e o in nth-past before.requests asked.request (ap (nth before.requests) (sym d) ∙ asked.is_there);
  }

  module _ (query : ℕ) (answer : Answer) (a : QueryRow) (is : nth before.queries query ≡ Some a) (run : is_running a ≡ true) (p : AllAsked settings before.requests before.queries) where
    abbrev change : QueryRow → QueryRow
    change = answered_by settings moment (nth before.requests a.request) answer

    unanswered : a.answer ≡ None
    unanswered = none_there a.answer (not_true (is_some a.answer) (and_second (is_some a.taken) _ run))

    none_left : NoneOf (changed_nth change before.queries query) (Some a.request)
    none_left = none_of_answered settings moment (nth before.requests a.request) answer before.requests before.queries query a is unanswered p

    lost_asked : AllAsked settings before.requests (changed_nth change before.queries query)
    lost_asked = changed_queries settings change (answered_keeps settings moment (nth before.requests a.request) answer) before.requests before.queries query p

    answered_asked : (f : Request → Request) → AllAsked settings (changed_nth f before.requests a.request) (changed_nth change before.queries query)
    answered_asked f = elsewhere settings f before.requests a.request (changed_nth change before.queries query)
        lost_asked none_left

  pub input_asked : InputParts settings moment before entered (λ tables m. AreAsked tables m)
  input_asked = record {
    opens = λ kind random l p. quiet _ p.all;
    tells = λ conn change h told p. quiet _ p.all;
    ends = λ conn e p. quiet _ (end_asked conn p.all);
    cancels = λ n e p. quiet _ (other_requests settings before.requests _ before.queries
        (changed_rows (AsksSame settings) (asks_same settings) (asks_same_later settings) cancelled before.requests n (λ r x. cancelled_asks settings r)) p.all);
    texts = λ conn id random text m r is w p. text_asked _ text r is w p.all;
    makes = λ conn id random body m p. made_asked (new_request moment conn id random body) p.all;
    loses = λ query given a g is run lost u p. record {
      all = lost_asked query (recorded_answer a.question.kind given) a is run p.all;
      none = none_left query (recorded_answer a.question.kind given) a is run p.all;
    };
    loses_late = λ query given a g is run lost u p. quiet _ (lost_asked query (recorded_answer a.question.kind given) a is run p.all);
    answers = λ query given a g is run counts u p. record {
      all = answered_asked query (recorded_answer a.question.kind given) a is run p.all (with_answer a.question.db (recorded_answer a.question.kind given));
      none = none_left query (recorded_answer a.question.kind given) a is run p.all;
    };
    lates = λ query given a g is run counts u p. quiet _ (answered_asked query (recorded_answer a.question.kind given) a is run p.all (with_late_answer a.question.db (recorded_answer a.question.kind given)));
  }

  hit_asked : (tables : Tables) (continued number : ℕ) (a : QueryRow) (answer : Answer) → AreAsked tables (Some continued) → AreAsked (hit_with settings continued number a answer tables) (Some continued)
  hit_asked tables continued number a answer p =
      let f : QueryRow → QueryRow = used_again (hit_comparison settings answer (nth tables.requests continued)) in
      let k : KeepsOpen settings f = used_keeps settings (hit_comparison settings answer (nth tables.requests continued)) in
      let none : NoneOf (changed_nth f tables.queries number) (Some continued) = none_of_changed settings f k tables.queries number continued p.none in
      record {
        all = elsewhere settings (with_answer a.question.db answer) tables.requests continued (changed_nth f tables.queries number) (changed_queries settings f k tables.requests tables.queries number p.all) none;
        none = none;
      }

  pub continued_asked : ContinuedParts settings moment before entered hits asked_now all_asked
  continued_asked = record {
    hit = λ tables continued number done rest a p is e w u q. hit_asked tables continued number a p.0 q;
    misses = λ tables continued number done rest e w q. q;
    rests = λ tables q. q.all;
    awaits = λ tables n r text is u e q. q.all;
    asks = λ tables n r question is u e q. asked_anew settings tables.requests tables.queries _ r is u (ap question_in e) q.all q.none;
    decides = λ tables n r d is u e q. elsewhere settings (with_decision settings moment) tables.requests n tables.queries q.all q.none;
    kept = λ tables m query given a l run is k q. q;
  }

pub due_all_asked : (settings : Settings) (moment : ℕ) (tables : Tables) → AllAsked settings tables.requests tables.queries → AllAsked settings (with_due_replied settings moment tables).requests (with_due_replied settings moment tables).queries
unfolding with_due_replied
due_all_asked settings moment tables p = other_requests settings tables.requests (map (replied_if_due settings moment) tables.requests) tables.queries
    (mapped_rows (AsksSame settings) (asks_same settings) (asks_same_later settings) (replied_if_due settings moment) (due_asks settings moment) tables.requests) p

timed_all_asked : (settings : Settings) (moment : ℕ) (tables : Tables) → AllAsked settings tables.requests tables.queries → AllAsked settings (with_timed_out settings moment tables).requests (with_timed_out settings moment tables).queries
unfolding with_timed_out
timed_all_asked settings moment tables p = other_requests settings tables.requests (map (timed_out_if_over settings moment) tables.requests) tables.queries
    (mapped_rows (AsksSame settings) (asks_same settings) (asks_same_later settings) (timed_out_if_over settings moment) (timed_asks settings moment) tables.requests) p

-- what comes before an input's own effect asks nothing
pub before_all_asked : (settings : Settings) (moment : ℕ) (input : Input) (tables : Tables) → AllAsked settings tables.requests tables.queries →
    AllAsked settings (before_input settings moment input tables).requests (before_input settings moment input tables).queries
before_all_asked settings moment input tables p =
    before_gives settings moment tables input (λ t. AllAsked settings t.requests t.queries) (λ t. AllAsked settings t.requests t.queries) (λ t. AllAsked settings t.requests t.queries) (record {
      takes = λ is. changed_queries settings (as_taken moment) (taken_keeps settings moment) tables.requests tables.queries (first_waiting tables) p;
      stays = p;
      times_out = timed_all_asked settings moment;
      replies = due_all_asked settings moment;
    })

pub entry_asked : (settings : Settings) (tables : Tables) (e : Entry) → AllAsked settings tables.requests tables.queries → AllAsked settings (after settings tables e).requests (after settings tables e).queries
entry_asked settings tables e p =
    let before : Tables = before_input settings e.moment e.input tables in
    an_entry_gives settings tables e (asked_now settings e.moment before e.input e.hits) (all_asked settings e.moment before e.input e.hits)
    (input_asked settings e.moment before e.input e.hits) (continued_asked settings e.moment before e.input e.hits) (record { all = before_all_asked settings e.moment e.input tables p; none = tt })

pub nowhere : {A : Type 0} (k : ℕ) (a : A) → nth [] k ≡ Some a → ⊥
nowhere zero a e = none-some a e
nowhere (suc k) a e = none-some a e

start_asked : (settings : Settings) → AllAsked settings [] []
start_asked settings k a e o = absurd (nowhere k a e)

pub history_asked : (settings : Settings) (h : List Entry) → AllAsked settings (tables_of settings h).requests (tables_of settings h).queries
history_asked settings [] = start_asked settings
history_asked settings (e ∷ g) = entry_asked settings (tables_of settings g) e (history_asked settings g)

pub open_queries_are_asked : OpenQueriesAreAsked
open_queries_are_asked settings h = history_asked settings h
