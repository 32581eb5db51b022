-- What the tables say of queries is what the entries did.
use Rattle.std.proofs.Common.{◌≡◌, ◌⊎◌, inl, inr, refl, sym, ◌∙◌, ap, ap₂, subst, Option, Some, None, List, [], ◌∷◌, ◌++◌, ℕ, zero, suc, true}
use Rattle.std.proofs.lemmas.Option.{none-some, same_Some}
use Rattle.da_readings.proofs.Came.{WasThere, AllCame, came_same, came_changed, came_longer}
use Rattle.da_play.proofs.EntryParts.{BeforeParts, InputParts, ContinuedParts, an_entry_gives, before_gives, told_queries}
use Rattle.da_invariants.proofs.KeysLaw.{IsRecorded, told_is_recorded}
use Rattle.da_invariants.proofs.OpenQueries.{nowhere}
use Rattle.da_tables.proofs.Rows.{passing, is_listed}
use Rattle.da_invariants.proofs.Standing.{what_is_done_stands}
use Rattle.da_steps.proofs.Standing.{rest_stands}
use Rattle.da_base.specs.Words.{nth, changed_nth, passes_option}
use Rattle.da_fields.specs.declared.answer.Answer.{Answer}
use Rattle.da_play.specs.History.{tables_of, after, after_input, before_input}
use Rattle.da_tables.specs.Tables.{with_due_replied, with_timed_out}
use Rattle.da_tables.specs.Queries.{as_taken}
use Rattle.da_tables.specs.Queries.{used_again}
use Rattle.da_tables.specs.Hits.{hit_comparison}
use Rattle.da_tables.specs.RecordedAnswers.{answered_by, recorded_answer}
use Rattle.da_tables.specs.Queries.{first_waiting, is_running, is_running_in, is_waiting}
use Rattle.da_readings.specs.RowReadings.{Among, WasTaken, WasAnswered, QueriesAreRead}
use Rattle.da_play.specs.History.{Tells}
use Rattle.da_steps.specs.Standing.{TablesStand, QueryStands}
use Rattle.da_tables.specs.Tables.{with_end}
use Rattle.da_play.specs.declared.input.Entry.{Entry}
use Rattle.da_play.specs.declared.input.Input.TheVariants.{Take}
use Rattle.da_settings.specs.declared.settings.Settings.{Settings}
use Rattle.da_tables.specs.declared.queries.QueryRow.{QueryRow}
use Rattle.da_request.specs.declared.stages.Question.{Question}
use Rattle.da_tables.specs.declared.tables.Tables.{Tables}
use Rattle.da_steps.proofs.TakeSteps.{hands_out, taken_row}

-- ---- what a Take handed out

module _ (settings : Settings) (e : Entry) (origin : Tables) where
  abbrev before : Tables
  before = before_input settings e.moment e.input origin

  abbrev NewlyTaken : ℕ → QueryRow → ℕ → Type 0
  NewlyTaken n a m = (e.input ≡ Take) × (n ≡ first_waiting origin) × (m ≡ e.moment)

  abbrev NewlyAnswered : ℕ → QueryRow → Answer × ℕ → Type 0
  NewlyAnswered n a p = (given : Answer) × Tells e.input n given × (is_running_in origin n ≡ true) × (recorded_answer a.question.kind given ≡ p.0) × (p.1 ≡ e.moment)

  -- a query keeps its question
  abbrev KeepsQuestion : QueryRow → QueryRow → Type 0
  KeepsQuestion a b = a.question ≡ b.question

  keeps : (a : QueryRow) → KeepsQuestion a a
  keeps a = refl

  keeps_on : (a b c : QueryRow) → KeepsQuestion a b → KeepsQuestion b c → KeepsQuestion a c
  keeps_on a b c p q = p ∙ q

  abbrev TakenCame : List QueryRow → Type 0
  TakenCame qs = AllCame (λ (a : QueryRow). a.taken) KeepsQuestion NewlyTaken origin.queries qs

  abbrev AnsweredCame : List QueryRow → Type 0
  AnsweredCame qs = AllCame (λ (a : QueryRow). a.answer) KeepsQuestion NewlyAnswered origin.queries qs

  record BothCame (qs : List QueryRow) : Type 0 where
    pub taken : TakenCame qs
    pub answered : AnsweredCame qs

  taken_continues : (n : ℕ) (a b : QueryRow) (m : ℕ) → b.question ≡ a.question → NewlyTaken n a m → NewlyTaken n b m
  taken_continues n a b m q w = w

  answered_continues : (n : ℕ) (a b : QueryRow) (p : Answer × ℕ) → b.question ≡ a.question → NewlyAnswered n a p → NewlyAnswered n b p
  answered_continues n a b p q (given, t, r, k, m) = (given, t, r, ap (λ x. recorded_answer x.kind given) q ∙ k, m)

  -- a change that touches neither
  both_changed : (f : QueryRow → QueryRow) → ((a : QueryRow) → (f a).question ≡ a.question) → ((a : QueryRow) → (f a).taken ≡ a.taken) → ((a : QueryRow) → (f a).answer ≡ a.answer) →
      (qs : List QueryRow) (m : ℕ) → BothCame qs → BothCame (changed_nth f qs m)
  both_changed f q t w qs m p = record {
    taken = came_changed (λ (a : QueryRow). a.taken) KeepsQuestion NewlyTaken origin.queries keeps keeps_on taken_continues f qs m q (λ a x is d. inl (sym (t a) ∙ d)) p.taken;
    answered = came_changed (λ (a : QueryRow). a.answer) KeepsQuestion NewlyAnswered origin.queries keeps keeps_on answered_continues f qs m q (λ a x is d. inl (sym (w a) ∙ d)) p.answered;
  }

  both_taken : e.input ≡ Take → BothCame origin.queries → BothCame (changed_nth (as_taken e.moment) origin.queries (first_waiting origin))
  both_taken l p = record {
    taken = came_changed (λ (a : QueryRow). a.taken) KeepsQuestion NewlyTaken origin.queries keeps keeps_on taken_continues (as_taken e.moment) origin.queries (first_waiting origin) (λ a. refl)
        (λ a x is d. inr (l, refl, sym (same_Some e.moment x d))) p.taken;
    answered = came_changed (λ (a : QueryRow). a.answer) KeepsQuestion NewlyAnswered origin.queries keeps keeps_on answered_continues (as_taken e.moment) origin.queries (first_waiting origin) (λ a. refl) (λ a x is d. inl d) p.answered;
  }

  -- a query of which an answer is told runs after an entry's first part exactly where it ran before the entry
  same_running : (n : ℕ) (given : Answer) → Tells e.input n given → is_running_in before n ≡ is_running_in origin n
  same_running n given t = ap (λ (qs : List QueryRow). passes_option is_running (nth qs n)) (told_queries settings e.moment origin e.input n given t)

  both_answered : (query : ℕ) (given : Answer) (a : QueryRow) → Tells e.input query given → nth before.queries query ≡ Some a → is_running a ≡ true → BothCame before.queries →
      BothCame (changed_nth (answered_by settings e.moment (nth before.requests a.request) (recorded_answer a.question.kind given)) before.queries query)
  both_answered query given a g is run p = record {
    taken = came_changed (λ (x : QueryRow). x.taken) KeepsQuestion NewlyTaken origin.queries keeps keeps_on taken_continues (answered_by settings e.moment (nth before.requests a.request) (recorded_answer a.question.kind given)) before.queries query (λ x. refl) (λ x m at d. inl d) p.taken;
    answered = came_changed (λ (x : QueryRow). x.answer) KeepsQuestion NewlyAnswered origin.queries keeps keeps_on answered_continues (answered_by settings e.moment (nth before.requests a.request) (recorded_answer a.question.kind given)) before.queries query (λ x. refl)
        (λ x y at d. inr (
          given,
          g,
          sym (same_running query given g) ∙ ap (passes_option is_running) is ∙ run,
          ap (λ (z : QueryRow). recorded_answer z.question.kind given) (same_Some x a (sym at ∙ is)) ∙ ap (λ (z : Answer × ℕ). z.0) (same_Some _ y d),
          sym (ap (λ (z : Answer × ℕ). z.1) (same_Some _ y d)),
        )) p.answered;
  }

  both_longer : (qs : List QueryRow) (new : QueryRow) → new.taken ≡ None → new.answer ≡ None → BothCame qs → BothCame (qs ++ new ∷ [])
  both_longer qs new t w p = record {
    taken = came_longer (λ (a : QueryRow). a.taken) KeepsQuestion NewlyTaken origin.queries keeps keeps_on taken_continues qs new t p.taken;
    answered = came_longer (λ (a : QueryRow). a.answer) KeepsQuestion NewlyAnswered origin.queries keeps keeps_on answered_continues qs new w p.answered;
  }

  abbrev came_now : Tables → Option ℕ → List ℕ → Type 0
  came_now tables m done = BothCame tables.queries

  abbrev came_after : Tables → Option ℕ → Type 0
  came_after tables m = BothCame tables.queries

  end_came : (conn : ℕ) → BothCame before.queries → BothCame (with_end conn before).queries
  unfolding with_end
  end_came conn p = p

  input_came : InputParts settings e.moment before e.input (λ tables m. BothCame tables.queries)
  input_came = record {
    opens = λ kind random l p. p;
    tells = λ conn change h told p. p;
    ends = λ conn x p. end_came conn p;
    cancels = λ n x p. p;
    texts = λ conn id random text m r is w p. p;
    makes = λ conn id random body m p. p;
    loses = λ query given a g is run lost u p. both_answered query given a g is run p;
    loses_late = λ query given a g is run lost u p. both_answered query given a g is run p;
    answers = λ query given a g is run counts u p. both_answered query given a g is run p;
    lates = λ query given a g is run counts u p. both_answered query given a g is run p;
  }

  continued_came : ContinuedParts settings e.moment before e.input e.hits came_now came_after
  continued_came = record {
    hit = λ tables continued number done rest a p is x w u q. both_changed (used_again (hit_comparison settings p.0 (nth tables.requests continued))) (λ a. refl) (λ a. refl) (λ a. refl) tables.queries number q;
    misses = λ tables continued number done rest x w q. q;
    rests = λ tables q. q;
    awaits = λ tables n r text is u x q. q;
    asks = λ tables n r question is u x q. both_longer tables.queries _ refl refl q;
    decides = λ tables n r d is u x q. q;
    kept = λ tables m query given a l run is k q. q;
  }

  start_came : BothCame origin.queries
  start_came = record { taken = came_same (λ (a : QueryRow). a.taken) KeepsQuestion NewlyTaken origin.queries keeps keeps_on taken_continues; answered = came_same (λ (a : QueryRow). a.answer) KeepsQuestion NewlyAnswered origin.queries keeps keeps_on answered_continues }

  before_came : BeforeParts settings e.moment origin e.input (λ tables. BothCame tables.queries) (λ tables. BothCame tables.queries) (λ tables. BothCame tables.queries)
  unfolding with_due_replied with_timed_out
  before_came = record { takes = λ l. both_taken l start_came; stays = start_came; times_out = λ tables p. p; replies = λ tables p. p }

  entry_came : BothCame (after settings origin e).queries
  entry_came = an_entry_gives settings origin e came_now came_after input_came continued_came
      (before_gives settings e.moment origin e.input (λ tables. BothCame tables.queries) (λ tables. BothCame tables.queries) (λ tables. BothCame tables.queries) before_came)

-- ---- a history

pub later_among : (e : Entry) (g : List Entry) (entry : Entry) (older : List Entry) → Among g entry older → Among (e ∷ g) entry older
later_among e g entry older a = record { newer = e ∷ a.newer; is_there = ap (λ (x : List Entry). e ∷ x) a.is_there }

module _ (settings : Settings) where
  taken_by : (h : List Entry) (n m : ℕ) (a : QueryRow) → nth (tables_of settings h).queries n ≡ Some a → a.taken ≡ Some m → WasTaken settings h n m
  taken_by [] n m a is t = absurd (nowhere n a is)
  taken_by (e ∷ g) n m a is t = go (taken_by g n m) ((entry_came settings e (tables_of settings g)).taken n a m is t)
    where
      go : ((b : QueryRow) → nth (tables_of settings g).queries n ≡ Some b → b.taken ≡ Some m → WasTaken settings g n m) →
          WasThere (λ (a : QueryRow). a.taken) (KeepsQuestion settings e (tables_of settings g)) (NewlyTaken settings e (tables_of settings g)) (tables_of settings g).queries n a m ⊎ NewlyTaken settings e (tables_of settings g) n a m → WasTaken settings (e ∷ g) n m
      go earlier (inl w) =
          let old : WasTaken settings g n m = earlier w.row w.stood w.had in
          record { entry = old.entry; older = old.older; among = later_among e g old.entry old.older old.among; is_take = old.is_take; at_moment = old.at_moment; hands_out = old.hands_out }
      go earlier (inr (l, k, d)) = record {
        entry = e;
        older = g;
        among = record { newer = []; is_there = refl };
        is_take = l;
        at_moment = sym d;
        hands_out = hands_out settings e (tables_of settings g) l ∙ ap (λ (x : ℕ). Some x) (sym k);
      }

  answered_by_entry : (h : List Entry) (n : ℕ) (a : QueryRow) (answer : Answer) (m : ℕ) → nth (tables_of settings h).queries n ≡ Some a → a.answer ≡ Some (answer, m) → WasAnswered settings h n a answer m
  answered_by_entry [] n a answer m is t = absurd (nowhere n a is)
  answered_by_entry (e ∷ g) n a answer m is t = go (λ b. answered_by_entry g n b answer m) ((entry_came settings e (tables_of settings g)).answered n a (answer, m) is t)
    where
      go : ((b : QueryRow) → nth (tables_of settings g).queries n ≡ Some b → b.answer ≡ Some (answer, m) → WasAnswered settings g n b answer m) →
          WasThere (λ (a : QueryRow). a.answer) (KeepsQuestion settings e (tables_of settings g)) (NewlyAnswered settings e (tables_of settings g)) (tables_of settings g).queries n a (answer, m) ⊎ NewlyAnswered settings e (tables_of settings g) n a (answer, m) → WasAnswered settings (e ∷ g) n a answer m
      go earlier (inl w) =
          let old : WasAnswered settings g n w.row answer m = earlier w.row w.stood w.had in
          record {
            entry = old.entry;
            older = old.older;
            among = later_among e g old.entry old.older old.among;
            at_moment = old.at_moment;
            given = old.given;
            tells = old.tells;
            is_running = old.is_running;
            is_answer_recorded = ap (λ x. recorded_answer x.kind old.given) w.same ∙ old.is_answer_recorded;
          }
      go earlier (inr (given, w, r, k, d)) = record {
        entry = e;
        older = g;
        among = record { newer = []; is_there = refl };
        at_moment = sym d;
        given = given;
        tells = w;
        is_running = r;
        is_answer_recorded = k;
      }

  -- ---- what an entry did still stands

  module _ (e : Entry) (g : List Entry) where
    abbrev now : Tables
    now = before_input settings e.moment e.input (tables_of settings g)

    -- what is told of a running query is recorded
    told_row : (n : ℕ) (given : Answer) → Tells e.input n given → is_running_in (tables_of settings g) n ≡ true →
        (b : QueryRow) × (nth (tables_of settings (e ∷ g)).queries n ≡ Some b) × (b.answer ≡ Some (recorded_answer b.question.kind given, e.moment))
    told_row n given t run = go (passing is_running (nth now.queries n) (same_running settings e (tables_of settings g) n given t ∙ run))
      where
        go : (a : QueryRow) × (nth now.queries n ≡ Some a) × (is_running a ≡ true) → (b : QueryRow) × (nth (tables_of settings (e ∷ g)).queries n ≡ Some b) × (b.answer ≡ Some (recorded_answer b.question.kind given, e.moment))
        go (a, at, w) = of_row (told_is_recorded settings e.moment n given now a at w e.input t)
          where
            of_row : IsRecorded (after_input settings e.moment e.input now).tables.queries n a (recorded_answer a.question.kind given) e.moment →
                (b : QueryRow) × (nth (tables_of settings (e ∷ g)).queries n ≡ Some b) × (b.answer ≡ Some (recorded_answer b.question.kind given, e.moment))
            of_row i = later ((rest_stands settings (tables_of settings g) e).queries n i.row i.is_there)
              where
                later : (c : QueryRow) × (nth (tables_of settings (e ∷ g)).queries n ≡ Some c) × QueryStands i.row c → (b : QueryRow) × (nth (tables_of settings (e ∷ g)).queries n ≡ Some b) × (b.answer ≡ Some (recorded_answer b.question.kind given, e.moment))
                later (c, x, s) = (c, x, s.answer (recorded_answer a.question.kind given, e.moment) i.is_answer_recorded ∙ ap (λ (q : Question). Some (recorded_answer q.kind given, e.moment)) (sym (s.question ∙ i.question)))

  stands_to : (h : List Entry) (entry : Entry) (older : List Entry) → Among h entry older → TablesStand (tables_of settings (entry ∷ older)) (tables_of settings h)
  stands_to h entry older a = subst (λ (x : List Entry). TablesStand (tables_of settings (entry ∷ older)) (tables_of settings x)) (sym a.is_there) (what_is_done_stands settings a.newer (entry ∷ older))

  of_take : (h : List Entry) (n m : ℕ) → WasTaken settings h n m → (a : QueryRow) → nth (tables_of settings h).queries n ≡ Some a → a.taken ≡ Some m
  of_take h zero m w a is = absurd (none-some a is)
  of_take h (suc n) m w a is = go (taken_row settings w.entry w.older n w.is_take w.hands_out)
    where
      go : (b : QueryRow) × (nth (tables_of settings (w.entry ∷ w.older)).queries (suc n) ≡ Some b) × (b.taken ≡ Some w.entry.moment) → a.taken ≡ Some m
      go (b, at, t) = later ((stands_to h w.entry w.older w.among).queries (suc n) b at)
        where
          later : (c : QueryRow) × (nth (tables_of settings h).queries (suc n) ≡ Some c) × QueryStands b c → a.taken ≡ Some m
          later (c, y, s) = ap (λ (z : QueryRow). z.taken) (same_Some a c (sym is ∙ y)) ∙ s.taken w.entry.moment t ∙ ap (λ (k : ℕ). Some k) w.at_moment

  of_entry : (h : List Entry) (n : ℕ) (a : QueryRow) (answer : Answer) (m : ℕ) → nth (tables_of settings h).queries n ≡ Some a → WasAnswered settings h n a answer m → a.answer ≡ Some (answer, m)
  of_entry h n a answer m is w = go (told_row w.entry w.older n w.given w.tells w.is_running)
    where
      go : (b : QueryRow) × (nth (tables_of settings (w.entry ∷ w.older)).queries n ≡ Some b) × (b.answer ≡ Some (recorded_answer b.question.kind w.given, w.entry.moment)) → a.answer ≡ Some (answer, m)
      go (b, at, t) = later ((stands_to h w.entry w.older w.among).queries n b at)
        where
          later : (c : QueryRow) × (nth (tables_of settings h).queries n ≡ Some c) × QueryStands b c → a.answer ≡ Some (answer, m)
          later (c, y, s) =
              let same : a ≡ c = same_Some a c (sym is ∙ y) in
              let kind : recorded_answer b.question.kind w.given ≡ answer = ap (λ (q : Question). recorded_answer q.kind w.given) (sym s.question ∙ ap (λ (z : QueryRow). z.question) (sym same)) ∙ w.is_answer_recorded in
              ap (λ (z : QueryRow). z.answer) same ∙ s.answer (recorded_answer b.question.kind w.given, w.entry.moment) t ∙ ap₂ (λ (x : Answer) (k : ℕ). Some (x, k)) kind w.at_moment

pub queries_are_read : QueriesAreRead
queries_are_read settings = (
  record { by_take = taken_by settings; of_take = of_take settings },
  record { by_entry = answered_by_entry settings; of_entry = of_entry settings },
  record {
    waiting = λ h k. is_listed (is_waiting (tables_of settings h)) k (tables_of settings h).queries;
    running = λ h k. is_listed is_running k (tables_of settings h).queries;
  },
)
