-- What the uses of an answer found is what the entries did.
use Rattle.std.proofs.Common.{◌≡◌, ◌⊎◌, inl, inr, refl, sym, ◌∙◌, ap, ap₂, subst, Option, Some, None, List, [], ◌∷◌, ◌++◌, ℕ, zero, suc, Bool, true, false, cond, option_to_list, option_map, option_and_then, is_some, ◌&&◌, append-nil, append_assoc, ◌==◌, eq-eqb, ne_eqb}
use Rattle.da_tables.proofs.Cases.{and_second, not_true}
use Rattle.da_play.proofs.EntryParts.{InputParts, ContinuedParts, ContinuedUndecided, IsSound, sound_input, continued_gives, before_gives, told_queries}
use Rattle.da_invariants.proofs.KeysLaw.{IsRecorded, told_is_recorded}
use Rattle.da_invariants.proofs.OpenQueries.{none_there}
use Rattle.da_invariants.proofs.KnownHits.{IsKnown, AllKnown, one_known, continued_known, known_under, IsSameHit, same_hit, known_stays}
use Rattle.da_readings.proofs.OwnAnswers.{told_given, given_of}
use Rattle.da_tables.proofs.Rows.{same_or_not, nth-changed, nth-unchanged, passing, listed, listed_at, changed_listed, new_listed}
use Rattle.da_steps.proofs.Standing.{input_stands, continued_stands, before_stands, rest_stands, tables_later, all_same}
use Rattle.da_base.specs.Words.{nth, changed_nth, passes_option, option_or_else}
use Rattle.da_fields.specs.Answers.{Answers}
use Rattle.da_fields.specs.declared.answer.Answer.{Answer}
use Rattle.da_tables.specs.RecordedAnswers.{answer_under}
use Rattle.da_readings.specs.ListReadings.{told_query, use_by, own_use, own_comparisons, with_one_hit, hit_use, hit_comparisons, uses_read, ComparisonsAreRead}
use Rattle.da_play.specs.History.{tables_of, after, after_input, before_input}
use Rattle.da_tables.specs.Tables.{with_due_replied, with_timed_out}
use Rattle.da_tables.specs.Queries.{as_taken}
use Rattle.da_tables.specs.Hits.{hit_with, hit_comparison}
use Rattle.da_tables.specs.Queries.{used_again}
use Rattle.da_play.specs.Legal.{IsLegal, ContinuedHits}
use Rattle.da_tables.specs.RecordedAnswers.{answered_by, compared_by, recorded_answer}
use Rattle.da_request.specs.Requests.{use_comparison, with_answer}
use Rattle.da_tables.specs.Queries.{with_comparison, is_running, first_waiting}
use Rattle.da_play.specs.History.{Tells}
use Rattle.da_request.specs.Requests.{is_undecided}
use Rattle.da_steps.specs.Standing.{TablesStand, QueryStands}
use Rattle.da_tables.specs.Tables.{AfterInput, with_end}
use Rattle.da_play.specs.declared.input.Entry.{Entry}
use Rattle.da_settings.specs.declared.settings.Settings.{Settings}
use Rattle.da_tables.specs.declared.queries.QueryRow.{QueryRow}
use Rattle.da_request.specs.declared.stages.Question.{Question}
use Rattle.da_request.specs.declared.request.Request.{Request}
use Rattle.da_tables.specs.declared.tables.Tables.{Tables}

-- ---- the tests of a row

abbrev tests_of : QueryRow → List Bool
tests_of a = a.comparisons

abbrev tests_at : List QueryRow → ℕ → List Bool
tests_at qs k = listed_at tests_of qs k

abbrev if_at : ℕ → ℕ → List Bool → List Bool
if_at m k xs = cond (m == k) xs []

-- one query has more tests
tested_more : (f : QueryRow → QueryRow) (more : List Bool) (qs : List QueryRow) (m : ℕ) (a : QueryRow) → nth qs m ≡ Some a → (f a).comparisons ≡ more ++ a.comparisons → (k : ℕ) → tests_at (changed_nth f qs m) k ≡ if_at m k more ++ tests_at qs k
tested_more f more qs m a is h k = go (same_or_not k m)
  where
    go : (k ≡ m) ⊎ (k ≡ m → ⊥) → tests_at (changed_nth f qs m) k ≡ if_at m k more ++ tests_at qs k
    go (inl d) = ap (tests_at (changed_nth f qs m)) d ∙ ap (listed tests_of) (nth-changed f qs m ∙ ap (option_map f) is) ∙ h
        ∙ sym (ap₂ (λ (xs ys : List Bool). xs ++ ys) (ap (λ (b : Bool). cond b more []) (eq-eqb m k (sym d))) (ap (tests_at qs) d ∙ ap (listed tests_of) is))
    go (inr d) = ap (listed tests_of) (nth-unchanged f qs m k d) ∙ sym (ap (λ (b : Bool). cond b more [] ++ tests_at qs k) (ne_eqb m k (λ x. d (sym x))))

with_test_is : (comparison : Option Bool) (comparisons : List Bool) → with_comparison comparison comparisons ≡ option_to_list comparison ++ comparisons
with_test_is None comparisons = refl
with_test_is (Some matched) comparisons = refl

tested_is : (settings : Settings) (o : Option Request) (q : Question) (answer : Answer) (comparisons : List Bool) → compared_by settings o q answer comparisons ≡ option_to_list (use_by settings o q answer) ++ comparisons
tested_is settings None q answer comparisons = refl
tested_is settings (Some r) q answer comparisons = with_test_is (use_comparison settings r q answer) comparisons

abbrev no_tests : Bool → List Bool
no_tests b = cond b [] []

none : (b : Bool) → no_tests b ≡ []
none true = refl
none false = refl

-- ---- one entry

module _ (settings : Settings) (e : Entry) (origin : Tables) where
  abbrev before : Tables
  before = before_input settings e.moment e.input origin

  abbrev h : AfterInput
  h = after_input settings e.moment e.input before

  -- what the own use found of the answer that the input tells
  abbrev fresh : Tables → ℕ → List Bool
  fresh tables k = option_or_else (told_query e.input) [] (own_comparisons settings before.requests before.queries tables.queries k)

  unanswered : (a : QueryRow) → is_running a ≡ true → a.answer ≡ None
  unanswered a run = none_there a.answer (not_true (is_some a.answer) (and_second (is_some a.taken) _ run))

  none_own : (k j : ℕ) → own_comparisons settings before.requests before.queries before.queries k j ≡ []
  none_own k j = go (nth before.queries j)
    where
      by_run : (a : QueryRow) (b : Bool) → is_running a ≡ b → cond (b && (j == k)) (own_use settings before.requests (Some a)) [] ≡ []
      by_run a false x = refl
      by_run a true x = ap (λ (o : Option (Answer × ℕ)). cond (j == k) (option_or_else o [] (λ p. option_to_list (use_by settings (nth before.requests a.request) a.question p.0))) []) (unanswered a x) ∙ none (j == k)

      go : (o : Option QueryRow) → cond (passes_option is_running o && (j == k)) (own_use settings before.requests o) [] ≡ []
      go None = refl
      go (Some a) = by_run a (is_running a) refl

  none_fresh : (k : ℕ) → fresh before k ≡ []
  none_fresh k = go (told_query e.input)
    where
      go : (o : Option ℕ) → option_or_else o [] (own_comparisons settings before.requests before.queries before.queries k) ≡ []
      go None = refl
      go (Some j) = none_own k j

  abbrev Tested : Tables → Type 0
  Tested tables = (k : ℕ) → tests_at tables.queries k ≡ fresh tables k ++ tests_at before.queries k

  untouched : Tested before
  untouched k = sym (ap (λ (xs : List Bool). xs ++ tests_at before.queries k) (none_fresh k))

  end_tested : (conn : ℕ) → Tested (with_end conn before)
  unfolding with_end
  end_tested conn = untouched

  -- an answer is told
  tell_tested : (query : ℕ) (given : Answer) (a : QueryRow) → Tells e.input query given → nth before.queries query ≡ Some a → is_running a ≡ true → (k : ℕ) →
      tests_at (changed_nth (answered_by settings e.moment (nth before.requests a.request) (recorded_answer a.question.kind given)) before.queries query) k
      ≡ option_or_else (told_query e.input) [] (own_comparisons settings before.requests before.queries (changed_nth (answered_by settings e.moment (nth before.requests a.request) (recorded_answer a.question.kind given)) before.queries query) k)
      ++ tests_at before.queries k
  tell_tested query given a t is run k =
      tested_more (answered_by settings e.moment (nth before.requests a.request) (recorded_answer a.question.kind given)) (option_to_list (use_by settings (nth before.requests a.request) a.question (recorded_answer a.question.kind given))) before.queries query a is (tested_is settings (nth before.requests a.request) a.question (recorded_answer a.question.kind given) a.comparisons) k
      ∙ sym (ap (λ (xs : List Bool). xs ++ tests_at before.queries k)
      (ap (λ (o : Option ℕ). option_or_else o [] (own_comparisons settings before.requests before.queries (changed_nth (answered_by settings e.moment (nth before.requests a.request) (recorded_answer a.question.kind given)) before.queries query) k)) (told_given e.input query given t)
      ∙ ap (λ (b : Bool). cond (b && (query == k)) (own_use settings before.requests (nth (changed_nth (answered_by settings e.moment (nth before.requests a.request) (recorded_answer a.question.kind given)) before.queries query) query)) []) (ap (passes_option is_running) is ∙ run)
      ∙ ap (λ (o : Option QueryRow). cond (query == k) (own_use settings before.requests o) []) (nth-changed (answered_by settings e.moment (nth before.requests a.request) (recorded_answer a.question.kind given)) before.queries query ∙ ap (option_map (answered_by settings e.moment (nth before.requests a.request) (recorded_answer a.question.kind given))) is)))

  input_tested : InputParts settings e.moment before e.input (λ tables m. Tested tables)
  input_tested = record {
    opens = λ kind random l p. p;
    tells = λ conn change x told p. p;
    ends = λ conn x p. end_tested conn;
    cancels = λ n x p. p;
    texts = λ conn id random text m r is w p. p;
    makes = λ conn id random body m p. p;
    loses = λ query given a g is run lost u p. tell_tested query given a g is run;
    loses_late = λ query given a g is run lost u p. tell_tested query given a g is run;
    answers = λ query given a g is run counts u p. tell_tested query given a g is run;
    lates = λ query given a g is run counts u p. tell_tested query given a g is run;
  }

  -- ---- hits

  module _ (stand : TablesStand origin h.tables) (known : AllKnown origin e.hits) where
    -- the request with the answers of these hits
    abbrev with_done : Request → List ℕ → Request
    with_done r [] = r
    with_done r (n ∷ ns) = with_done (with_one_hit origin.queries r n) ns

    done_more : (r : Request) (ns : List ℕ) (n : ℕ) → with_done r (ns ++ n ∷ []) ≡ with_one_hit origin.queries (with_done r ns) n
    done_more r [] n = refl
    done_more r (m ∷ ns) n = done_more (with_one_hit origin.queries r m) ns n

    tests_more : (r : Request) (ns : List ℕ) (n k : ℕ) → hit_comparisons settings origin.queries r (ns ++ n ∷ []) k ≡ if_at n k (hit_use settings (with_done r ns) (nth origin.queries n)) ++ hit_comparisons settings origin.queries r ns k
    tests_more r [] n k = sym (append-nil _)
    tests_more r (m ∷ ns) n k =
        ap (λ (xs : List Bool). xs ++ if_at m k (hit_use settings r (nth origin.queries m))) (tests_more (with_one_hit origin.queries r m) ns n k)
        ∙ append_assoc (if_at n k (hit_use settings (with_done r (m ∷ ns)) (nth origin.queries n))) (hit_comparisons settings origin.queries (with_one_hit origin.queries r m) ns k) (if_at m k (hit_use settings r (nth origin.queries m)))

    -- the request that continues, with the answers of the hits that it has had
    abbrev ContinuedIs : Tables → Option ℕ → List ℕ → Option Request → Type 0
    ContinuedIs tables None done o = Unit {0}
    ContinuedIs tables (Some n) done None = ⊥
    ContinuedIs tables (Some n) done (Some r) = nth tables.requests n ≡ Some (with_done r done)

    abbrev row : Option ℕ → Option Request
    row m = option_and_then (nth h.tables.requests) m

    abbrev tests_by : Option Request → List ℕ → ℕ → List Bool
    tests_by o done k = option_or_else o [] (λ r. hit_comparisons settings origin.queries r done k)

    record HitsNow (these : Tables) (m : Option ℕ) (done : List ℕ) : Type 0 where
      pub tables : TablesStand origin these
      pub continued : ContinuedIs these m done (row m)
      pub comparisons : (k : ℕ) → tests_at these.queries k ≡ tests_by (row m) done k ++ tests_at h.tables.queries k

    abbrev hits_after : Tables → Option ℕ → Type 0
    hits_after tables m = (k : ℕ) → tests_at tables.queries k ≡ tests_by (row m) e.hits k ++ tests_at h.tables.queries k

    continued_stand : ContinuedParts settings e.moment before e.input e.hits (λ tables m done. TablesStand origin tables) (λ tables m. TablesStand origin tables)
    continued_stand = continued_stands settings e.moment origin before e.input e.hits

    -- a hit's row is the one that was known
    record IsHit (tables : Tables) (number : ℕ) (a : QueryRow) (p : Answer × ℕ) : Type 0 where
      pub under : answer_under origin.queries number ≡ (a.question.db, p.0) ∷ []
      pub finds : (r : Request) → hit_use settings r (nth origin.queries number) ≡ option_to_list (hit_comparison settings p.0 (Some r))

    is_hit : (tables : Tables) (number : ℕ) (a : QueryRow) (p : Answer × ℕ) → nth tables.queries number ≡ Some a → a.answer ≡ Some p → TablesStand origin tables → IsKnown origin number → IsHit tables number a p
    is_hit tables number a p is x t k =
        let s : IsSameHit origin number k a p = same_hit origin tables number a p is x t k in
        record {
          under = known_under origin.queries number k.row k.pair k.is_there k.is_answered ∙ ap₂ (λ (q : Question) (y : Answer × ℕ). (q.db, y.0) ∷ []) s.question s.pair;
          finds = λ r. ap (hit_use settings r) k.is_there ∙ ap (λ (o : Option (Answer × ℕ)). option_or_else o [] (λ y. option_to_list (hit_comparison settings y.0 (Some r)))) (k.is_answered ∙ ap (λ (y : Answer × ℕ). Some y) s.pair);
        }

    hit_now : (tables : Tables) (continued number : ℕ) (done rest : List ℕ) (a : QueryRow) (p : Answer × ℕ) → nth tables.queries number ≡ Some a → a.answer ≡ Some p → done ++ number ∷ rest ≡ e.hits →
        TablesStand origin (hit_with settings continued number a p.0 tables) → (o : Option Request) → row (Some continued) ≡ o → HitsNow tables (Some continued) done → HitsNow (hit_with settings continued number a p.0 tables) (Some continued) (done ++ number ∷ [])
    hit_now tables continued number done rest a p is x w t None d q = absurd (subst (λ (o : Option Request). ContinuedIs tables (Some continued) done o) d q.continued)
    hit_now tables continued number done rest a p is x w t (Some r) d q = record {
      tables = t;
      continued = subst (λ (o : Option Request). ContinuedIs (hit_with settings continued number a p.0 tables) (Some continued) (done ++ number ∷ []) o) (sym d)
          (nth-changed (with_answer a.question.db p.0) tables.requests continued ∙ ap (option_map (with_answer a.question.db p.0)) now
          ∙ ap (λ (xs : Answers). Some (record (with_done r done) { answers = (with_done r done).answers ++ xs })) (sym hit.under) ∙ ap (λ (s : Request). Some s) (sym (done_more r done number)));
      comparisons = λ k. tested_more (used_again (hit_comparison settings p.0 (nth tables.requests continued))) (option_to_list (hit_comparison settings p.0 (nth tables.requests continued))) tables.queries number a is (with_test_is (hit_comparison settings p.0 (nth tables.requests continued)) a.comparisons) k
          ∙ ap₂ (λ (xs ys : List Bool). xs ++ ys)
          (ap (if_at number k) (ap (λ (o : Option Request). option_to_list (hit_comparison settings p.0 o)) now ∙ sym (hit.finds (with_done r done))))
          (q.comparisons k ∙ ap (λ (o : Option Request). tests_by o done k ++ tests_at h.tables.queries k) d)
          ∙ sym (append_assoc (if_at number k (hit_use settings (with_done r done) (nth origin.queries number))) (hit_comparisons settings origin.queries r done k) (tests_at h.tables.queries k))
          ∙ ap (λ (xs : List Bool). xs ++ tests_at h.tables.queries k) (sym (tests_more r done number k))
          ∙ ap (λ (o : Option Request). tests_by o (done ++ number ∷ []) k ++ tests_at h.tables.queries k) (sym d);
    }
      where
        now : nth tables.requests continued ≡ Some (with_done r done)
        now = subst (λ (o : Option Request). ContinuedIs tables (Some continued) done o) d q.continued

        hit : IsHit tables number a p
        hit = is_hit tables number a p is x q.tables (one_known origin done rest number (subst (AllKnown origin) (sym w) known))

    continued_hits : ContinuedParts settings e.moment before e.input e.hits HitsNow hits_after
    continued_hits = record {
      hit = λ tables continued number done rest a p is x w u q. hit_now tables continued number done rest a p is x w (continued_stand.hit tables continued number done rest a p is x w u q.tables) (row (Some continued)) refl q;
      misses = λ tables continued number done rest x w q. absurd (known_stays origin tables number q.tables (one_known origin done rest number (subst (AllKnown origin) (sym w) known)) x);
      rests = λ tables q. q.comparisons;
      awaits = λ tables n r text is u x q. q.comparisons;
      asks = λ tables n r question is u x q k. new_listed tests_of tables.queries _ k refl ∙ q.comparisons k;
      decides = λ tables n r d is u x q. q.comparisons;
      kept = λ tables m query given a l run is k q. q;
    }

    -- what was told stands after the entry
    same_use : (j : ℕ) (given : Answer) → Tells e.input j given → (a : QueryRow) → nth before.queries j ≡ Some a → is_running a ≡ true →
        own_use settings before.requests (nth h.tables.queries j) ≡ own_use settings before.requests (nth (after settings origin e).queries j)
    same_use j given t a is run = go (told_is_recorded settings e.moment j given before a is run e.input t)
      where
        go : IsRecorded h.tables.queries j a (recorded_answer a.question.kind given) e.moment → own_use settings before.requests (nth h.tables.queries j) ≡ own_use settings before.requests (nth (after settings origin e).queries j)
        go i = later ((rest_stands settings origin e).queries j i.row i.is_there)
          where
            later : (c : QueryRow) × (nth (after settings origin e).queries j ≡ Some c) × QueryStands i.row c → own_use settings before.requests (nth h.tables.queries j) ≡ own_use settings before.requests (nth (after settings origin e).queries j)
            later (c, at, s) =
                ap (own_use settings before.requests) i.is_there
                ∙ ap (λ (o : Option (Answer × ℕ)). option_or_else o [] (λ p. option_to_list (use_by settings (nth before.requests i.row.request) i.row.question p.0))) (i.is_answer_recorded ∙ sym (s.answer (recorded_answer a.question.kind given, e.moment) i.is_answer_recorded))
                ∙ ap₂ (λ (x : ℕ) (q : Question). option_or_else c.answer [] (λ p. option_to_list (use_by settings (nth before.requests x) q p.0))) (sym s.request) (sym s.question)
                ∙ sym (ap (own_use settings before.requests) at)

    same_own : (k j : ℕ) → told_query e.input ≡ Some j → own_comparisons settings before.requests before.queries h.tables.queries k j ≡ own_comparisons settings before.requests before.queries (after settings origin e).queries k j
    same_own k j reported = go (nth before.queries j) refl
      where
        by_run : (a : QueryRow) → nth before.queries j ≡ Some a → (b : Bool) → is_running a ≡ b →
            cond (b && (j == k)) (own_use settings before.requests (nth h.tables.queries j)) [] ≡ cond (b && (j == k)) (own_use settings before.requests (nth (after settings origin e).queries j)) []
        by_run a is false x = refl
        by_run a is true x = let t : (given : Answer) × Tells e.input j given = given_of e.input j reported in ap (λ (xs : List Bool). cond (j == k) xs []) (same_use j t.0 t.1 a is x)

        go : (o : Option QueryRow) → nth before.queries j ≡ o →
            cond (passes_option is_running o && (j == k)) (own_use settings before.requests (nth h.tables.queries j)) [] ≡ cond (passes_option is_running o && (j == k)) (own_use settings before.requests (nth (after settings origin e).queries j)) []
        go None x = refl
        go (Some a) x = by_run a x (is_running a) refl

    fresh_after : (k : ℕ) → fresh h.tables k ≡ fresh (after settings origin e) k
    fresh_after k = go (told_query e.input) refl
      where
        go : (o : Option ℕ) → told_query e.input ≡ o → option_or_else o [] (own_comparisons settings before.requests before.queries h.tables.queries k) ≡ option_or_else o [] (own_comparisons settings before.requests before.queries (after settings origin e).queries k)
        go None x = refl
        go (Some j) x = same_own k j x

    no_hits : (o : Option Request) (k : ℕ) → tests_by o [] k ≡ []
    no_hits None k = refl
    no_hits (Some r) k = refl

    continued_is : (m : Option ℕ) → ContinuedUndecided h.tables.requests m → ContinuedIs h.tables m [] (row m)
    continued_is None u = tt
    continued_is (Some n) u = go (passing is_undecided (nth h.tables.requests n) u)
      where
        go : (r : Request) × (nth h.tables.requests n ≡ Some r) × (is_undecided r ≡ true) → ContinuedIs h.tables (Some n) [] (nth h.tables.requests n)
        go (r, is, w) = subst (λ (o : Option Request). ContinuedIs h.tables (Some n) [] o) (sym is) is

    entry_tests : (k : ℕ) → tests_at (after settings origin e).queries k ≡ tests_by (row h.continued) e.hits k ++ (fresh (after settings origin e) k ++ tests_at before.queries k)
    unfolding after
    entry_tests k =
        let s : IsSound settings e.moment before e.input (λ tables m. Tested tables) input_tested h = sound_input settings e.moment before e.input (λ tables m. Tested tables) input_tested e.input refl untouched in
        continued_gives settings e.moment before e.input e.hits HitsNow hits_after continued_hits h
        (record { tables = stand; continued = continued_is h.continued s.continued; comparisons = λ j. sym (ap (λ (xs : List Bool). xs ++ tests_at h.tables.queries j) (no_hits (row h.continued) j)) }) s.continued k
        ∙ ap (λ (xs : List Bool). tests_by (row h.continued) e.hits k ++ xs) (s.fact k ∙ ap (λ (xs : List Bool). xs ++ tests_at before.queries k) (fresh_after k))

-- ---- a legal history

-- what comes before the input's own effect tests nothing
abbrev SameTests : Tables → Tables → Type 0
SameTests origin tables = (k : ℕ) → tests_at tables.queries k ≡ tests_at origin.queries k

tests_before : (settings : Settings) (e : Entry) (origin : Tables) → SameTests origin (before_input settings e.moment e.input origin)
unfolding with_due_replied with_timed_out
tests_before settings e origin = before_gives settings e.moment origin e.input (SameTests origin) (SameTests origin) (SameTests origin) (record {
  takes = λ l k. changed_listed tests_of (as_taken e.moment) (λ a. refl) origin.queries (first_waiting origin) k;
  stays = λ k. refl;
  times_out = λ tables q. q;
  replies = λ tables q. q;
})

-- an answer is told to the queries as they were before the entry
told_before : (settings : Settings) (e : Entry) (origin : Tables) (after_entry : List QueryRow) (k : ℕ) →
    option_or_else (told_query e.input) [] (own_comparisons settings (before_input settings e.moment e.input origin).requests (before_input settings e.moment e.input origin).queries after_entry k)
    ≡ option_or_else (told_query e.input) [] (own_comparisons settings (before_input settings e.moment e.input origin).requests origin.queries after_entry k)
told_before settings e origin after_entry k = go (told_query e.input) refl
  where
    go : (o : Option ℕ) → told_query e.input ≡ o →
        option_or_else o [] (own_comparisons settings (before_input settings e.moment e.input origin).requests (before_input settings e.moment e.input origin).queries after_entry k)
        ≡ option_or_else o [] (own_comparisons settings (before_input settings e.moment e.input origin).requests origin.queries after_entry k)
    go None x = refl
    go (Some j) x =
        let t : (given : Answer) × Tells e.input j given = given_of e.input j x in
        ap (λ (qs : List QueryRow). own_comparisons settings (before_input settings e.moment e.input origin).requests qs after_entry k j) (told_queries settings e.moment origin e.input j t.0 t.1)

one_entry : (settings : Settings) (e : Entry) (tables : Tables) →
    ContinuedHits settings e.moment tables (option_and_then (nth (after_input settings e.moment e.input (before_input settings e.moment e.input tables)).tables.requests) (after_input settings e.moment e.input (before_input settings e.moment e.input tables)).continued) e.hits →
    (k : ℕ) → tests_at (after settings tables e).queries k
    ≡ option_or_else (option_and_then (nth (after_input settings e.moment e.input (before_input settings e.moment e.input tables)).tables.requests) (after_input settings e.moment e.input (before_input settings e.moment e.input tables)).continued) [] (λ r. hit_comparisons settings tables.queries r e.hits k)
    ++ (option_or_else (told_query e.input) [] (own_comparisons settings (before_input settings e.moment e.input tables).requests tables.queries (after settings tables e).queries k) ++ tests_at tables.queries k)
one_entry settings e tables hits k =
    let before : Tables = before_input settings e.moment e.input tables in
    let h : AfterInput = after_input settings e.moment e.input before in
    let s : IsSound settings e.moment before e.input (λ x m. TablesStand before x) _ h =
    sound_input settings e.moment before e.input (λ x m. TablesStand before x) (input_stands settings e.moment before before e.input e.hits) e.input refl (all_same before) in
    entry_tests settings e tables (tables_later tables before h.tables (before_stands settings e.moment e.input tables) s.fact) (continued_known settings e.moment tables _ e.hits hits) k
    ∙ ap₂ (λ (xs ys : List Bool). option_or_else (option_and_then (nth h.tables.requests) h.continued) [] (λ r. hit_comparisons settings tables.queries r e.hits k) ++ (xs ++ ys))
    (told_before settings e tables (after settings tables e).queries k) (tests_before settings e tables k)

all_tests : (settings : Settings) (h : List Entry) → IsLegal settings h → (k : ℕ) → tests_at (tables_of settings h).queries k ≡ uses_read settings h k
all_tests settings [] legal zero = refl
all_tests settings [] legal (suc k) = refl
all_tests settings (e ∷ g) legal k =
    one_entry settings e (tables_of settings g) legal.1.hits k
    ∙ ap (λ (xs : List Bool). option_or_else (option_and_then (nth (after_input settings e.moment e.input (before_input settings e.moment e.input (tables_of settings g))).tables.requests) (after_input settings e.moment e.input (before_input settings e.moment e.input (tables_of settings g))).continued) [] (λ r. hit_comparisons settings (tables_of settings g).queries r e.hits k)
    ++ (option_or_else (told_query e.input) [] (own_comparisons settings (before_input settings e.moment e.input (tables_of settings g)).requests (tables_of settings g).queries (after settings (tables_of settings g) e).queries k) ++ xs)) (all_tests settings g legal.0 k)

pub comparisons_are_read : ComparisonsAreRead
comparisons_are_read settings h legal k a is = sym (ap (listed tests_of) is) ∙ all_tests settings h legal k
