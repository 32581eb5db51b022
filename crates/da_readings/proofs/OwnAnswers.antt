-- The answers of a request are those of its own queries and of its hits, in order.
use Rattle.std.proofs.Common.{◌≡◌, ◌⊎◌, inl, inr, refl, sym, ◌∙◌, ap, ap₂, subst, Option, Some, None, List, [], ◌∷◌, ◌++◌, ℕ, zero, suc, Bool, true, false, cond, map, flat_map, option_map, option_and_then, is_some, not, ◌&&◌, append-nil, append_assoc, ◌==◌, eq-eqb, ne_eqb}
use Rattle.std.proofs.lemmas.Option.{none-some, same_Some}
use Rattle.da_tables.proofs.Cases.{by_test, and_second, not_true}
use Rattle.da_play.proofs.EntryParts.{InputParts, ContinuedParts, IsSound, sound_input, continued_gives, before_gives, told_queries}
use Rattle.da_invariants.proofs.KeysLaw.{IsRecorded, told_is_recorded}
use Rattle.da_invariants.proofs.KnownHits.{IsKnown, AllKnown, one_known, continued_known, known_under, told_row, IsSameHit, same_hit, known_stays}
use Rattle.da_invariants.proofs.Lost.{SameQuery, lost_once_told, lost_later}
use Rattle.da_invariants.proofs.OpenQueries.{AllAsked, history_asked, before_all_asked, none_there}
use Rattle.da_tables.proofs.Rows.{same_or_not, nth-changed, nth-unchanged, passing, listed, listed_at, changed_listed, map_listed, new_listed}
use Rattle.da_steps.proofs.Standing.{input_stands, continued_stands, before_stands, rest_stands, tables_later, all_same}
use Rattle.da_base.specs.Words.{nth, changed_nth, passes_option, option_or_else}
use Rattle.da_fields.specs.Answers.{Answers}
use Rattle.da_fields.specs.declared.answer.Answer.{Answer}
use Rattle.da_fields.specs.declared.answer.Answer.TheVariants.{Internal}
use Rattle.da_fields.specs.declared.answer.Why.TheVariants.{Late as WasLate}
use Rattle.da_readings.specs.ListReadings.{if_continued, told_query, own_answer, answers_read, AnswersAreRead}
use Rattle.da_tables.specs.RecordedAnswers.{answer_under, is_lost, is_lost_in}
use Rattle.da_play.specs.History.{tables_of, after, after_input, before_input}
use Rattle.da_tables.specs.Tables.{with_due_replied, with_timed_out}
use Rattle.da_request.specs.Requests.{with_decision, replied_if_due, is_over_limit, timed_out, timed_out_if_over}
use Rattle.da_tables.specs.Hits.{hit_with}
use Rattle.da_play.specs.Legal.{IsLegal, ContinuedHits}
use Rattle.da_request.specs.Requests.{new_request, with_text}
use Rattle.da_tables.specs.RecordedAnswers.{answered_by, recorded_answer}
use Rattle.da_tables.specs.Queries.{is_running}
use Rattle.da_request.specs.Requests.{with_answer, with_late_answer}
use Rattle.da_invariants.specs.QueryLaws.{IsAsked}
use Rattle.da_play.specs.History.{Tells}
use Rattle.da_request.specs.Requests.{is_due, is_undecided}
use Rattle.da_steps.specs.Standing.{TablesStand, QueryStands}
use Rattle.da_tables.specs.Tables.{AfterInput, with_end}
use Rattle.da_request.specs.Requests.{cancelled, as_cancelled_of, is_of}
use Rattle.da_play.specs.declared.input.Entry.{Entry}
use Rattle.da_play.specs.declared.input.Input.{Input}
use Rattle.da_play.specs.declared.input.Input.TheVariants.{Opened, Line, Broken, Gone, Take, Answered, Late, Tick}
use Rattle.da_settings.specs.declared.settings.Settings.{Settings}
use Rattle.da_tables.specs.declared.queries.QueryRow.{QueryRow}
use Rattle.da_request.specs.declared.stages.Question.{Question}
use Rattle.da_request.specs.declared.request.Request.{Request}
use Rattle.da_tables.specs.declared.tables.Tables.{Tables}

-- ---- the answers of a row

abbrev answers_of : Request → Answers
answers_of r = r.answers

abbrev answers_at : List Request → ℕ → Answers
answers_at rs n = listed_at answers_of rs n

-- one request has one answer more
abbrev if_same : ℕ → ℕ → Answers → Answers
if_same m n xs = cond (m == n) xs []

answered_more : (f : Request → Request) (more : Answers) (rs : List Request) (m : ℕ) (r : Request) → nth rs m ≡ Some r → (f r).answers ≡ r.answers ++ more → (n : ℕ) →
    answers_at (changed_nth f rs m) n ≡ answers_at rs n ++ if_same m n more
answered_more f more rs m r is h n = go (same_or_not n m)
  where
    go : (n ≡ m) ⊎ (n ≡ m → ⊥) → answers_at (changed_nth f rs m) n ≡ answers_at rs n ++ if_same m n more
    go (inl d) = ap (answers_at (changed_nth f rs m)) d ∙ ap (listed answers_of) (nth-changed f rs m ∙ ap (option_map f) is) ∙ h
        ∙ sym (ap₂ (λ (xs ys : Answers). xs ++ ys) (ap (answers_at rs) d ∙ ap (listed answers_of) is) (ap (λ (b : Bool). cond b more []) (eq-eqb m n (sym d))))
    go (inr d) = ap (listed answers_of) (nth-unchanged f rs m n d) ∙ sym (ap (λ (b : Bool). answers_at rs n ++ cond b more []) (ne_eqb m n (λ x. d (sym x))) ∙ append-nil (answers_at rs n))

abbrev under : ℕ → Option (Answer × ℕ) → Answers
under db o = option_or_else o [] (λ p. (db, p.0) ∷ [])

abbrev no_answers : Bool → Answers
no_answers b = cond b [] []

-- an input that tells an answer names its query
pub told_given : (i : Input) (query : ℕ) (given : Answer) → Tells i query given → told_query i ≡ Some query
told_given (Opened kind random) query given x = absurd x
told_given (Line conn text random) query given x = absurd x
told_given (Broken conn) query given x = absurd x
told_given (Gone conn) query given x = absurd x
told_given Take query given x = absurd x
told_given (Answered n answer) query given x = ap (λ (k : ℕ). Some k) x.0
told_given (Late n) query given x = ap (λ (k : ℕ). Some k) x.0
told_given Tick query given x = absurd x

-- and the answer
pub given_of : (i : Input) (query : ℕ) → told_query i ≡ Some query → (given : Answer) × Tells i query given
given_of (Opened kind random) query x = absurd (none-some query x)
given_of (Line conn text random) query x = absurd (none-some query x)
given_of (Broken conn) query x = absurd (none-some query x)
given_of (Gone conn) query x = absurd (none-some query x)
given_of Take query x = absurd (none-some query x)
given_of (Answered m answer) query x = (answer, (same_Some m query x, refl))
given_of (Late m) query x = (Internal WasLate, (same_Some m query x, refl))
given_of Tick query x = absurd (none-some query x)

-- ---- one entry

module _ (settings : Settings) (e : Entry) (origin : Tables) where
  abbrev before : Tables
  before = before_input settings e.moment e.input origin

  abbrev h : AfterInput
  h = after_input settings e.moment e.input before

  -- the answer that the input tells, where its query was one of request n
  abbrev fresh : Tables → ℕ → Answers
  fresh tables n = option_or_else (told_query e.input) [] (own_answer before.queries tables.queries n)

  unanswered : (a : QueryRow) → is_running a ≡ true → a.answer ≡ None
  unanswered a run = none_there a.answer (not_true (is_some a.answer) (and_second (is_some a.taken) _ run))

  narrowed : (b c : Bool) (xs : Answers) → cond b xs [] ≡ [] → cond (b && c) xs [] ≡ []
  narrowed true true xs x = x
  narrowed true false xs x = refl
  narrowed false c xs x = refl

  -- a query that runs has no answer
  none_own : (n k : ℕ) → own_answer before.queries before.queries n k ≡ []
  none_own n k = go (nth before.queries k) refl
    where
      by_run : (a : QueryRow) (b : Bool) → is_running a ≡ b → cond (b && (a.request == n)) (under a.question.db a.answer) [] ≡ []
      by_run a false x = refl
      by_run a true x = ap (λ (o : Option (Answer × ℕ)). cond (a.request == n) (under a.question.db o) []) (unanswered a x) ∙ nothing (a.request == n)
        where
          nothing : (b : Bool) → no_answers b ≡ []
          nothing true = refl
          nothing false = refl

      go : (o : Option QueryRow) → nth before.queries k ≡ o → cond (passes_option (λ a. is_running a && (a.request == n)) o && not (is_lost_in before.queries k)) (told_row o) [] ≡ []
      go None x = refl
      go (Some a) x = narrowed (is_running a && (a.request == n)) (not (is_lost_in before.queries k)) (under a.question.db a.answer) (by_run a (is_running a) refl)

  none_fresh : (n : ℕ) → fresh before n ≡ []
  none_fresh n = go (told_query e.input)
    where
      go : (o : Option ℕ) → option_or_else o [] (own_answer before.queries before.queries n) ≡ []
      go None = refl
      go (Some k) = none_own n k

  abbrev Grew : Tables → Type 0
  Grew tables = (n : ℕ) → answers_at tables.requests n ≡ answers_at before.requests n ++ fresh tables n

  -- the queries are as they were, and so are the answers of requests
  same_grew : (rs : List Request) → ((n : ℕ) → answers_at rs n ≡ answers_at before.requests n) → Grew (record before { requests = rs })
  same_grew rs k n = k n ∙ sym (ap (λ xs. answers_at before.requests n ++ xs) (none_fresh n) ∙ append-nil (answers_at before.requests n))

  cancelled_answers : (conn : ℕ) (r : Request) → (as_cancelled_of conn r).answers ≡ r.answers
  cancelled_answers conn r = by_test (λ (x : Request). x.answers ≡ r.answers) (is_of conn r) (cancelled r) r (λ x. refl) (λ x. refl)

  due_answers : (moment : ℕ) (r : Request) → (replied_if_due settings moment r).answers ≡ r.answers
  due_answers moment r = by_test (λ (x : Request). x.answers ≡ r.answers) (is_due settings moment r) (record r { replied = Some moment }) r (λ x. refl) (λ x. refl)

  end_grew : (conn : ℕ) → Grew (with_end conn before)
  unfolding with_end
  end_grew conn = same_grew (map (as_cancelled_of conn) before.requests) (map_listed answers_of (as_cancelled_of conn) (cancelled_answers conn) before.requests)

  -- an answer that loses its query is none of its request's
  lost_grew : (query : ℕ) (answer : Answer) (a : QueryRow) (g : QueryRow → QueryRow) → told_query e.input ≡ Some query → nth before.queries query ≡ Some a → ((x : QueryRow) → SameQuery x (g x)) →
      ((m : ℕ) × ((g a).answer ≡ Some (answer, m))) → is_lost before.queries query a answer ≡ true → Grew (record before { queries = changed_nth g before.queries query })
  lost_grew query answer a g reported is keeps w lost n =
      sym (ap (λ (xs : Answers). answers_at before.requests n ++ xs) (ap (λ (o : Option ℕ). option_or_else o [] (own_answer before.queries (changed_nth g before.queries query) n)) reported
      ∙ ap (λ (b : Bool). cond (passes_option (λ x. is_running x && (x.request == n)) (nth before.queries query) && not b) (answer_under (changed_nth g before.queries query) query) [])
      (lost_once_told g keeps before.queries query a (answer, w.0) is w.1 ∙ lost)
      ∙ never (passes_option (λ x. is_running x && (x.request == n)) (nth before.queries query)))
      ∙ append-nil (answers_at before.requests n))
    where
      never : (b : Bool) → cond (b && false) (answer_under (changed_nth g before.queries query) query) [] ≡ []
      never true = refl
      never false = refl

  -- an answer is told
  tell_grew : (query : ℕ) (answer : Answer) (a : QueryRow) (f : Request → Request) (g : QueryRow → QueryRow) → told_query e.input ≡ Some query → nth before.queries query ≡ Some a → is_running a ≡ true →
      ((x : QueryRow) → SameQuery x (g x)) → ((m : ℕ) × ((g a).answer ≡ Some (answer, m))) → is_lost before.queries query a answer ≡ false → (r : Request) → nth before.requests a.request ≡ Some r → (f r).answers ≡ r.answers ++ (a.question.db, answer) ∷ [] →
      Grew (record before { requests = changed_nth f before.requests a.request; queries = changed_nth g before.queries query })
  tell_grew query answer a f g reported is run keeps w counts r at more n =
      answered_more f ((a.question.db, answer) ∷ []) before.requests a.request r at more n
      ∙ sym (ap (λ xs. answers_at before.requests n ++ xs) (ap (λ (o : Option ℕ). option_or_else o [] (own_answer before.queries (changed_nth g before.queries query) n)) reported
      ∙ ap₂ (λ (o : Option QueryRow) (b : Bool). cond (passes_option (λ x. is_running x && (x.request == n)) o && not b) (answer_under (changed_nth g before.queries query) query) [])
      is (lost_once_told g keeps before.queries query a (answer, w.0) is w.1 ∙ counts)
      ∙ ap (λ (b : Bool). cond (b && (a.request == n) && true) (answer_under (changed_nth g before.queries query) query) []) run
      ∙ as_told (a.request == n)
      (known_under (changed_nth g before.queries query) query (g a) (answer, w.0) (nth-changed g before.queries query ∙ ap (option_map g) is) w.1 ∙ ap (λ (x : Question). (x.db, answer) ∷ []) (keeps a).question)))
    where
      as_told : (b : Bool) → answer_under (changed_nth g before.queries query) query ≡ (a.question.db, answer) ∷ [] → cond (b && true) (answer_under (changed_nth g before.queries query) query) [] ≡ cond b ((a.question.db, answer) ∷ []) []
      as_told true x = x
      as_told false x = refl

  module _ (asked : AllAsked settings before.requests before.queries) where
    input_grew : InputParts settings e.moment before e.input (λ tables m. Grew tables)
    input_grew = record {
      opens = λ kind random l p. p;
      tells = λ conn change k told p. p;
      ends = λ conn x p. end_grew conn;
      cancels = λ n x p. same_grew _ (changed_listed answers_of cancelled (λ r. refl) before.requests n);
      texts = λ conn id random text m r is w p. same_grew _ (changed_listed answers_of (with_text text) (λ r. refl) before.requests _);
      makes = λ conn id random body m p. same_grew _ (λ n. new_listed answers_of before.requests (new_request e.moment conn id random body) n refl);
      loses = λ query given a g is run lost u p. lost_grew query (recorded_answer a.question.kind given) a (answered_by settings e.moment (nth before.requests a.request) (recorded_answer a.question.kind given)) (told_given e.input query given g) is (λ x. record { request = refl; question = refl }) (e.moment, refl) lost;
      loses_late = λ query given a g is run lost u p. lost_grew query (recorded_answer a.question.kind given) a (answered_by settings e.moment (nth before.requests a.request) (recorded_answer a.question.kind given)) (told_given e.input query given g) is (λ x. record { request = refl; question = refl }) (e.moment, refl) lost;
      answers = λ query given a g is run counts u p. of_request query a (recorded_answer a.question.kind given) is run counts (with_answer a.question.db (recorded_answer a.question.kind given)) (λ r d. refl) (told_given e.input query given g);
      lates = λ query given a g is run counts u p. of_request query a (recorded_answer a.question.kind given) is run counts (with_late_answer a.question.db (recorded_answer a.question.kind given))
          (λ r d. ap (λ (b : Bool). (cond b r (with_answer a.question.db (recorded_answer a.question.kind given) r)).answers) d) (told_given e.input query given g);
    }
      where
        -- who is asked isn't decided, unless it was timed out, and then it has its late answers
        still_told : (r : Request) → (r.is_timed_out ≡ false → r.decided ≡ None) → (is_some r.decided && not r.is_timed_out) ≡ false
        still_told r h = by_mark r.is_timed_out refl
          where
            none_told : (o : Option ℕ) → (is_some o && false) ≡ false
            none_told None = refl
            none_told (Some m) = refl

            by_mark : (b : Bool) → r.is_timed_out ≡ b → (is_some r.decided && not r.is_timed_out) ≡ false
            by_mark true d = ap (λ (c : Bool). is_some r.decided && not c) d ∙ none_told r.decided
            by_mark false d = ap (λ (o : Option ℕ). is_some o && not r.is_timed_out) (h d)

        of_request : (query : ℕ) (a : QueryRow) (answer : Answer) → nth before.queries query ≡ Some a → is_running a ≡ true → is_lost before.queries query a answer ≡ false →
            (f : Request → Request) → ((r : Request) → (is_some r.decided && not r.is_timed_out) ≡ false → (f r).answers ≡ r.answers ++ (a.question.db, answer) ∷ []) →
            told_query e.input ≡ Some query →
            Grew (record before { requests = changed_nth f before.requests a.request; queries = changed_nth (answered_by settings e.moment (nth before.requests a.request) answer) before.queries query })
        of_request query a answer is run counts f more reported =
            let row : IsAsked settings before.requests before.queries query a = asked query a is (unanswered a run) in
            tell_grew query answer a f (answered_by settings e.moment (nth before.requests a.request) answer) reported is run (λ x. record { request = refl; question = refl }) (e.moment, refl) counts row.request row.is_there (more row.request (still_told row.request row.is_not_decided))

  -- ---- hits

  module _ (stand : TablesStand origin h.tables) (known : AllKnown origin e.hits) where
    abbrev HasHits : Tables → Option ℕ → List ℕ → Type 0
    HasHits tables m done = (n : ℕ) → answers_at tables.requests n ≡ answers_at h.tables.requests n ++ if_continued m n (flat_map (answer_under origin.queries) done)

    record HitsNow (these : Tables) (m : Option ℕ) (done : List ℕ) : Type 0 where
      pub tables : TablesStand origin these
      pub answers : HasHits these m done

    abbrev hits_after : Tables → Option ℕ → Type 0
    hits_after tables m = HasHits tables m e.hits

    continued_stand : ContinuedParts settings e.moment before e.input e.hits (λ tables m done. TablesStand origin tables) (λ tables m. TablesStand origin tables)
    continued_stand = continued_stands settings e.moment origin before e.input e.hits

    flat-more : (xs : List ℕ) (k : ℕ) → flat_map (answer_under origin.queries) (xs ++ k ∷ []) ≡ flat_map (answer_under origin.queries) xs ++ answer_under origin.queries k
    flat-more [] k = append-nil (answer_under origin.queries k)
    flat-more (x ∷ xs) k = ap (λ (ys : Answers). answer_under origin.queries x ++ ys) (flat-more xs k) ∙ sym (append_assoc (answer_under origin.queries x) (flat_map (answer_under origin.queries) xs) (answer_under origin.queries k))

    hit_under : (tables : Tables) (number : ℕ) (a : QueryRow) (p : Answer × ℕ) → nth tables.queries number ≡ Some a → a.answer ≡ Some p → TablesStand origin tables → (k : IsKnown origin number) → answer_under origin.queries number ≡ (a.question.db, p.0) ∷ []
    hit_under tables number a p is x t k =
        let s : IsSameHit origin number k a p = same_hit origin tables number a p is x t k in
        known_under origin.queries number k.row k.pair k.is_there k.is_answered ∙ ap₂ (λ (q : Question) (y : Answer × ℕ). (q.db, y.0) ∷ []) s.question s.pair

    hit_answers : (tables : Tables) (continued number : ℕ) (done : List ℕ) (a : QueryRow) (p : Answer × ℕ) → IsKnown origin number → nth tables.queries number ≡ Some a → a.answer ≡ Some p → (r : Request) → nth tables.requests continued ≡ Some r →
        HitsNow tables (Some continued) done → HasHits (hit_with settings continued number a p.0 tables) (Some continued) (done ++ number ∷ [])
    hit_answers tables continued number done a p k is x r at q n =
        answered_more (with_answer a.question.db p.0) ((a.question.db, p.0) ∷ []) tables.requests continued r at refl n
        ∙ ap (λ (xs : Answers). xs ++ if_same continued n ((a.question.db, p.0) ∷ [])) (q.answers n)
        ∙ append_assoc (answers_at h.tables.requests n) (if_same continued n (flat_map (answer_under origin.queries) done)) (if_same continued n ((a.question.db, p.0) ∷ []))
        ∙ ap (λ (xs : Answers). answers_at h.tables.requests n ++ xs) (joined (continued == n)
        ∙ ap (λ (xs : Answers). cond (continued == n) (flat_map (answer_under origin.queries) done ++ xs) []) (sym (hit_under tables number a p is x q.tables k))
        ∙ ap (λ (xs : Answers). cond (continued == n) xs []) (sym (flat-more done number)))
      where
        joined : (b : Bool) → cond b (flat_map (answer_under origin.queries) done) [] ++ cond b ((a.question.db, p.0) ∷ []) [] ≡ cond b (flat_map (answer_under origin.queries) done ++ (a.question.db, p.0) ∷ []) []
        joined true = refl
        joined false = refl

    continued_hits : ContinuedParts settings e.moment before e.input e.hits HitsNow hits_after
    continued_hits = record {
      hit = λ tables continued number done rest a p is x w u q. record {
        tables = continued_stand.hit tables continued number done rest a p is x w u q.tables;
        answers = of_continued tables continued number done rest a p is x w q (passing is_undecided (nth tables.requests continued) u);
      };
      misses = λ tables continued number done rest x w q. absurd (known_stays origin tables number q.tables (one_known origin done rest number (subst (AllKnown origin) (sym w) known)) x);
      rests = λ tables q. none tables q.answers;
      awaits = λ tables n r text is u x q. q.answers;
      asks = λ tables n r question is u x q. q.answers;
      decides = λ tables k r d is u x q n. changed_listed answers_of (with_decision settings e.moment) (λ s. due_answers e.moment (record s { decided = Some e.moment })) tables.requests k n ∙ q.answers n;
      kept = λ tables m query given a l run is k q. q;
    }
      where
        of_continued : (tables : Tables) (continued number : ℕ) (done rest : List ℕ) (a : QueryRow) (p : Answer × ℕ) → nth tables.queries number ≡ Some a → a.answer ≡ Some p → done ++ number ∷ rest ≡ e.hits → HitsNow tables (Some continued) done →
            (r : Request) × (nth tables.requests continued ≡ Some r) × (is_undecided r ≡ true) → HasHits (hit_with settings continued number a p.0 tables) (Some continued) (done ++ number ∷ [])
        of_continued tables continued number done rest a p is x w q (r, at, u) = hit_answers tables continued number done a p (one_known origin done rest number (subst (AllKnown origin) (sym w) known)) is x r at q

        none : (tables : Tables) → HasHits tables None [] → HasHits tables None e.hits
        none tables q = q

    -- what was told stands after the entry
    abbrev IsSameTold : ℕ → Type 0
    IsSameTold k = (answer_under h.tables.queries k ≡ answer_under (after settings origin e).queries k) × (is_lost_in (after settings origin e).queries k ≡ is_lost_in h.tables.queries k)

    still_own : (k n : ℕ) → ((given : Answer) → Tells e.input k given → (a : QueryRow) → nth before.queries k ≡ Some a → is_running a ≡ true → IsSameTold k) →
        told_query e.input ≡ Some k → own_answer before.queries h.tables.queries n k ≡ own_answer before.queries (after settings origin e).queries n k
    still_own k n same reported = go (nth before.queries k) refl
      where
        by_run : (a : QueryRow) → nth before.queries k ≡ Some a → (b : Bool) → is_running a ≡ b →
            cond ((b && (a.request == n)) && not (is_lost_in h.tables.queries k)) (answer_under h.tables.queries k) []
            ≡ cond ((b && (a.request == n)) && not (is_lost_in (after settings origin e).queries k)) (answer_under (after settings origin e).queries k) []
        by_run a is false x = refl
        by_run a is true x =
            let t : (given : Answer) × Tells e.input k given = given_of e.input k reported in
            let s : IsSameTold k = same t.0 t.1 a is x in
            ap₂ (λ (xs : Answers) (c : Bool). cond ((a.request == n) && not c) xs []) s.0 (sym s.1)

        go : (o : Option QueryRow) → nth before.queries k ≡ o →
            cond (passes_option (λ a. is_running a && (a.request == n)) o && not (is_lost_in h.tables.queries k)) (answer_under h.tables.queries k) []
            ≡ cond (passes_option (λ a. is_running a && (a.request == n)) o && not (is_lost_in (after settings origin e).queries k)) (answer_under (after settings origin e).queries k) []
        go None x = refl
        go (Some a) x = by_run a x (is_running a) refl

    told_stands : (k : ℕ) (given : Answer) → Tells e.input k given → (a : QueryRow) → nth before.queries k ≡ Some a → is_running a ≡ true → IsSameTold k
    told_stands k given t a is run = go (told_is_recorded settings e.moment k given before a is run e.input t)
      where
        go : IsRecorded h.tables.queries k a (recorded_answer a.question.kind given) e.moment → IsSameTold k
        go i = later ((rest_stands settings origin e).queries k i.row i.is_there)
          where
            later : (c : QueryRow) × (nth (after settings origin e).queries k ≡ Some c) × QueryStands i.row c → IsSameTold k
            later (c, at, s) = (
              known_under h.tables.queries k i.row _ i.is_there i.is_answer_recorded
                  ∙ ap (λ (q : Question). (q.db, recorded_answer a.question.kind given) ∷ []) (sym s.question) ∙ sym (known_under (after settings origin e).queries k c _ at (s.answer _ i.is_answer_recorded)),
              lost_later h.tables.queries (after settings origin e).queries (rest_stands settings origin e).queries k i.row (recorded_answer a.question.kind given, e.moment) i.is_there i.is_answer_recorded,
            )

    fresh_after : (n : ℕ) → fresh h.tables n ≡ fresh (after settings origin e) n
    fresh_after n = go (told_query e.input) refl
      where
        go : (o : Option ℕ) → told_query e.input ≡ o → option_or_else o [] (own_answer before.queries h.tables.queries n) ≡ option_or_else o [] (own_answer before.queries (after settings origin e).queries n)
        go None x = refl
        go (Some k) x = still_own k n (told_stands k) x

    entry_answers : AllAsked settings before.requests before.queries → (n : ℕ) →
        answers_at (after settings origin e).requests n ≡ answers_at before.requests n ++ fresh (after settings origin e) n ++ if_continued h.continued n (flat_map (answer_under origin.queries) e.hits)
    unfolding after
    entry_answers asked n =
        let s : IsSound settings e.moment before e.input (λ tables m. Grew tables) (input_grew asked) h = sound_input settings e.moment before e.input (λ tables m. Grew tables) (input_grew asked) e.input refl
        (λ m. sym (ap (λ xs. answers_at before.requests m ++ xs) (none_fresh m) ∙ append-nil (answers_at before.requests m))) in
        continued_gives settings e.moment before e.input e.hits HitsNow hits_after continued_hits h (record { tables = stand; answers = λ m. sym (nothing h.continued m) }) s.continued n
        ∙ ap (λ (xs : Answers). xs ++ if_continued h.continued n (flat_map (answer_under origin.queries) e.hits)) (s.fact n ∙ ap (λ (xs : Answers). answers_at before.requests n ++ xs) (fresh_after n))
      where
        nothing : (o : Option ℕ) (m : ℕ) → answers_at h.tables.requests m ++ if_continued o m [] ≡ answers_at h.tables.requests m
        nothing o m = ap (λ (xs : Answers). answers_at h.tables.requests m ++ xs) (empty (passes_option (λ k. k == m) o)) ∙ append-nil (answers_at h.tables.requests m)
          where
            empty : (b : Bool) → no_answers b ≡ []
            empty true = refl
            empty false = refl

-- ---- a legal history

-- what comes before the input's own effect gives no answers
abbrev SameAnswers : Tables → Tables → Type 0
SameAnswers origin tables = (n : ℕ) → answers_at tables.requests n ≡ answers_at origin.requests n

answers_before : (settings : Settings) (e : Entry) (origin : Tables) → SameAnswers origin (before_input settings e.moment e.input origin)
unfolding with_due_replied with_timed_out
answers_before settings e origin = before_gives settings e.moment origin e.input (SameAnswers origin) (SameAnswers origin) (SameAnswers origin) (record {
  takes = λ l n. refl;
  stays = λ n. refl;
  times_out = λ tables q n. map_listed answers_of (timed_out_if_over settings e.moment) timed tables.requests n ∙ q n;
  replies = λ tables q n. map_listed answers_of (replied_if_due settings e.moment) (due_answers settings e origin e.moment) tables.requests n ∙ q n;
})
  where
    timed : (r : Request) → (timed_out_if_over settings e.moment r).answers ≡ r.answers
    timed r = by_test (λ (x : Request). x.answers ≡ r.answers) (is_over_limit settings e.moment r) (timed_out e.moment r) r (λ x. refl) (λ x. refl)

-- an answer is told to the queries as they were before the entry
told_before : (settings : Settings) (e : Entry) (origin : Tables) (after_entry : List QueryRow) (n : ℕ) →
    option_or_else (told_query e.input) [] (own_answer (before_input settings e.moment e.input origin).queries after_entry n) ≡ option_or_else (told_query e.input) [] (own_answer origin.queries after_entry n)
told_before settings e origin after_entry n = go (told_query e.input) refl
  where
    go : (o : Option ℕ) → told_query e.input ≡ o → option_or_else o [] (own_answer (before_input settings e.moment e.input origin).queries after_entry n) ≡ option_or_else o [] (own_answer origin.queries after_entry n)
    go None x = refl
    go (Some k) x =
        let t : (given : Answer) × Tells e.input k given = given_of e.input k x in
        ap (λ (qs : List QueryRow). own_answer qs after_entry n k) (told_queries settings e.moment origin e.input k t.0 t.1)

one_entry : (settings : Settings) (e : Entry) (tables : Tables) → AllAsked settings tables.requests tables.queries →
    ContinuedHits settings e.moment tables (option_and_then (nth (after_input settings e.moment e.input (before_input settings e.moment e.input tables)).tables.requests) (after_input settings e.moment e.input (before_input settings e.moment e.input tables)).continued) e.hits →
    (n : ℕ) → answers_at (after settings tables e).requests n
    ≡ answers_at tables.requests n ++ option_or_else (told_query e.input) [] (own_answer tables.queries (after settings tables e).queries n)
    ++ if_continued (after_input settings e.moment e.input (before_input settings e.moment e.input tables)).continued n (flat_map (answer_under tables.queries) e.hits)
one_entry settings e tables asked hits n =
    let before : Tables = before_input settings e.moment e.input tables in
    let h : AfterInput = after_input settings e.moment e.input before in
    let s : IsSound settings e.moment before e.input (λ x m. TablesStand before x) _ h =
    sound_input settings e.moment before e.input (λ x m. TablesStand before x) (input_stands settings e.moment before before e.input e.hits) e.input refl (all_same before) in
    entry_answers settings e tables (tables_later tables before h.tables (before_stands settings e.moment e.input tables) s.fact) (continued_known settings e.moment tables _ e.hits hits) (before_all_asked settings e.moment e.input tables asked) n
    ∙ ap₂ (λ (xs ys : Answers). xs ++ ys ++ if_continued h.continued n (flat_map (answer_under tables.queries) e.hits))
    (answers_before settings e tables n) (told_before settings e tables (after settings tables e).queries n)

all_answers : (settings : Settings) (h : List Entry) → IsLegal settings h → (n : ℕ) → answers_at (tables_of settings h).requests n ≡ answers_read settings h n
all_answers settings [] legal zero = refl
all_answers settings [] legal (suc n) = refl
all_answers settings (e ∷ g) legal n =
    one_entry settings e (tables_of settings g) (history_asked settings g) legal.1.hits n
    ∙ ap (λ (xs : Answers). xs ++ option_or_else (told_query e.input) [] (own_answer (tables_of settings g).queries (after settings (tables_of settings g) e).queries n)
    ++ if_continued (after_input settings e.moment e.input (before_input settings e.moment e.input (tables_of settings g))).continued n (flat_map (answer_under (tables_of settings g).queries) e.hits)) (all_answers settings g legal.0 n)

pub answers_are_read : AnswersAreRead
answers_are_read settings h legal n r is = sym (ap (listed answers_of) is) ∙ all_answers settings h legal n
