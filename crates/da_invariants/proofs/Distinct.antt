-- The answers of a request are those of distinct databases.
use Rattle.std.proofs.Common.{◌≡◌, ◌⊎◌, inl, inr, refl, sym, ◌∙◌, ap, ap₂, subst, Option, Some, None, List, [], ◌∷◌, ◌++◌, ℕ, suc, ◌+◌, ◌≤◌, Bool, true, false, cond, not, ◌&&◌, length, is_some, ◌==◌, option_map, option_and_then, true≢false, append_assoc, zero-le, arith}
use Rattle.std.proofs.lemmas.Bool.{eqb-true}
use Rattle.std.proofs.lemmas.Option.{none-some, same_Some}
use Rattle.da_invariants.proofs.AsksNew.{asks_new}
use Rattle.da_tables.proofs.Cases.{by_test, and_second, not_true}
use Rattle.da_play.proofs.EntryParts.{InputParts, ContinuedParts, ContinuedUndecided, IsSound, sound_input, before_gives, continued_gives}
use Rattle.da_invariants.proofs.Keys.{keys_equal}
use Rattle.da_invariants.proofs.KeysLaw.{newest_has}
use Rattle.da_invariants.proofs.KnownHits.{usable_known, known_stays}
use Rattle.da_invariants.proofs.OpenQueries.{AllAsked, history_asked, before_all_asked, nowhere}
use Rattle.da_tables.proofs.Rows.{of_changed, of_appended, of_mapped, passing, nth-changed}
use Rattle.da_steps.proofs.Standing.{input_stands, continued_stands, before_stands, tables_later, all_same}
use Rattle.da_base.specs.Words.{nth, changed_nth, count_where, option_or_else}
use Rattle.da_keys.specs.Keys.{same_key}
use Rattle.da_keys.specs.declared.key.Key.{Key}
use Rattle.da_fields.specs.Answers.{Answers, answer_from}
use Rattle.da_fields.specs.declared.answer.Answer.{Answer}
use Rattle.da_play.specs.History.{tables_of, after, after_input, before_input}
use Rattle.da_tables.specs.Tables.{with_due_replied, with_timed_out}
use Rattle.da_request.specs.Requests.{is_over_limit, timed_out, timed_out_if_over, with_decision, replied_if_due}
use Rattle.da_tables.specs.Hits.{AreHits, IsUsable, answer_of, with_hit, hit_with}
use Rattle.da_play.specs.Legal.{IsLegal, ContinuedHits}
use Rattle.da_request.specs.Requests.{new_request, with_text}
use Rattle.da_tables.specs.RecordedAnswers.{key_of}
use Rattle.da_tables.specs.Queries.{is_running}
use Rattle.da_request.specs.Requests.{with_answer, with_late_answer}
use Rattle.da_invariants.specs.QueryLaws.{IsAsked, AnswersAreDistinct}
use Rattle.da_request.specs.Requests.{is_due, request_stage, question_in, is_undecided}
use Rattle.da_steps.specs.Standing.{TablesStand, QueryStands}
use Rattle.da_tables.specs.Tables.{AfterInput, with_end}
use Rattle.da_request.specs.Requests.{cancelled, as_cancelled_of, is_of}
use Rattle.da_play.specs.declared.input.Entry.{Entry}
use Rattle.da_play.specs.declared.input.Input.{Input}
use Rattle.da_settings.specs.declared.settings.Settings.{Settings}
use Rattle.da_tables.specs.declared.queries.QueryRow.{QueryRow}
use Rattle.da_request.specs.declared.stages.Question.{Question}
use Rattle.da_request.specs.declared.request.Request.{Request}
use Rattle.da_tables.specs.declared.tables.Tables.{Tables}

-- no database is named twice
abbrev pub AreDistinct : Answers → Type 0
AreDistinct answers = (db : ℕ) → count_where (λ p. p.0 == db) answers ≤ 1

abbrev pub AllDistinct : List Request → Type 0
AllDistinct rs = (n : ℕ) (r : Request) → nth rs n ≡ Some r → AreDistinct r.answers

-- ---- one answer more

none_named : (answers : Answers) (db : ℕ) → answer_from db answers ≡ None → count_where (λ p. p.0 == db) answers ≡ 0
none_named [] db e = refl
none_named (p ∷ answers) db e = go (p.0 == db) refl e (none_named answers db)
  where
    go : (b : Bool) → (p.0 == db) ≡ b → cond b (Some p.1) (answer_from db answers) ≡ None → (answer_from db answers ≡ None → count_where (λ p. p.0 == db) answers ≡ 0) →
        count_where (λ p. p.0 == db) (p ∷ answers) ≡ 0
    go true d x rest = absurd (none-some p.1 (sym x))
    go false d x rest = ap₂ (λ (c : Bool) (n : ℕ). cond c 1 0 + n) d (rest x)

count_append : (answers more : Answers) (db : ℕ) → count_where (λ p. p.0 == db) (answers ++ more) ≡ count_where (λ p. p.0 == db) answers + count_where (λ p. p.0 == db) more
count_append [] more db = omega arith
count_append (p ∷ answers) more db = let rest : count_where (λ p. p.0 == db) (answers ++ more) ≡ count_where (λ p. p.0 == db) answers + count_where (λ p. p.0 == db) more = count_append answers more db in omega (arith, rest)

one_more : (answers : Answers) (new : ℕ) (answer : Answer) → answer_from new answers ≡ None → AreDistinct answers → AreDistinct (answers ++ (new, answer) ∷ [])
one_more answers new answer e d db = go (new == db) refl
  where
    go : (b : Bool) → (new == db) ≡ b → count_where (λ p. p.0 == db) (answers ++ (new, answer) ∷ []) ≤ 1
    go true x =
        let none : count_where (λ p. p.0 == db) answers ≡ 0 = none_named answers db (subst (λ (k : ℕ). answer_from k answers ≡ None) (eqb-true new db x) e) in
        let sum : count_where (λ p. p.0 == db) (answers ++ (new, answer) ∷ []) ≡ count_where (λ p. p.0 == db) answers + (cond (new == db) 1 0 + 0) = count_append answers ((new, answer) ∷ []) db in
        let last : cond (new == db) 1 0 ≡ 1 = ap (λ (b : Bool). let n : ℕ = cond b 1 0 in n) x in
        omega (arith, none, sum, last)
    go false x =
        let at_most : count_where (λ p. p.0 == db) answers ≤ 1 = d db in
        let sum : count_where (λ p. p.0 == db) (answers ++ (new, answer) ∷ []) ≡ count_where (λ p. p.0 == db) answers + (cond (new == db) 1 0 + 0) = count_append answers ((new, answer) ∷ []) db in
        let last : cond (new == db) 1 0 ≡ 0 = ap (λ (b : Bool). let n : ℕ = cond b 1 0 in n) x in
        omega (arith, at_most, sum, last)

changed_distinct : (f : Request → Request) (rs : List Request) (m : ℕ) → ((r : Request) → nth rs m ≡ Some r → AreDistinct r.answers → AreDistinct (f r).answers) → AllDistinct rs → AllDistinct (changed_nth f rs m)
changed_distinct f rs m h p n r e = go (of_changed f rs m n r e)
  where
    go : ((n ≡ m) × (s : Request) × (nth rs m ≡ Some s) × (r ≡ f s)) ⊎ ((n ≡ m → ⊥) × (nth rs n ≡ Some r)) → AreDistinct r.answers
    go (inl (d, s, is, w)) = subst (λ (x : Request). AreDistinct x.answers) (sym w) (h s is (p m s is))
    go (inr (d, is)) = p n r is

same_answers : (settings : Settings) (moment : ℕ) (r : Request) → (replied_if_due settings moment r).answers ≡ r.answers
same_answers settings moment r = by_test (λ (x : Request). x.answers ≡ r.answers) (is_due settings moment r) (record r { replied = Some moment }) r (λ e. refl) (λ e. refl)

module _ (settings : Settings) (moment : ℕ) (before : Tables) (entered : Input) (hits : List ℕ) (asked : AllAsked settings before.requests before.queries) where
  end_distinct : (conn : ℕ) → AllDistinct before.requests → AllDistinct (with_end conn before).requests
  unfolding with_end
  end_distinct conn p n r e = go (of_mapped (as_cancelled_of conn) before.requests n r e)
    where
      go : (s : Request) × (nth before.requests n ≡ Some s) × (r ≡ as_cancelled_of conn s) → AreDistinct r.answers
      go (s, is, w) = subst (λ (x : Request). AreDistinct x.answers) (sym w) (by_test (λ (x : Request). AreDistinct x.answers) (is_of conn s) (cancelled s) s (λ d. p n s is) (λ d. p n s is))

  made_distinct : (r : Request) → r.answers ≡ [] → AllDistinct before.requests → AllDistinct (before.requests ++ r ∷ [])
  made_distinct r none p n s e = go (of_appended before.requests r s n e)
    where
      go : ((n ≡ suc (length before.requests)) × (s ≡ r)) ⊎ (nth before.requests n ≡ Some s) → AreDistinct s.answers
      go (inl (d, w)) = subst AreDistinct (sym (ap (λ (x : Request). x.answers) w ∙ none)) (λ db. zero-le)
      go (inr is) = p n s is

  unanswered : (a : QueryRow) → is_running a ≡ true → a.answer ≡ None
  unanswered a run = go a.answer (not_true (is_some a.answer) (and_second (is_some a.taken) _ run))
    where
      go : (o : Option (Answer × ℕ)) → is_some o ≡ false → o ≡ None
      go None e = refl
      go (Some x) e = absurd (true≢false e)

  -- the query that is answered is what its request asks, so that it has no answer of this database yet
  answer_is_new : (query : ℕ) (a : QueryRow) (answer : Answer) → nth before.queries query ≡ Some a → is_running a ≡ true → (r : Request) → nth before.requests a.request ≡ Some r →
      AreDistinct r.answers → AreDistinct (with_answer a.question.db answer r).answers
  answer_is_new query a answer is run r at d =
      let row : IsAsked settings before.requests before.queries query a = asked query a is (unanswered a run) in
      one_more r.answers a.question.db answer
      (asks_new settings r a.question (subst (λ (x : Request). question_in (request_stage settings x) ≡ Some a.question) (same_Some row.request r (sym row.is_there ∙ at)) row.asks)) d

  late_is_new : (query : ℕ) (a : QueryRow) (answer : Answer) → nth before.queries query ≡ Some a → is_running a ≡ true → (r : Request) → nth before.requests a.request ≡ Some r →
      AreDistinct r.answers → AreDistinct (with_late_answer a.question.db answer r).answers
  late_is_new query a answer is run r at d = by_test (λ (x : Request). AreDistinct x.answers) (is_some r.decided && not r.is_timed_out) r (with_answer a.question.db answer r) (λ e. d) (λ e. answer_is_new query a answer is run r at d)

  input_distinct : InputParts settings moment before entered (λ tables m. AllDistinct tables.requests)
  input_distinct = record {
    opens = λ kind random l p. p;
    tells = λ conn change h told p. p;
    ends = λ conn e p. end_distinct conn p;
    cancels = λ n e p. changed_distinct cancelled before.requests n (λ r is d. d) p;
    texts = λ conn id random text m r is w p. changed_distinct (with_text text) before.requests _ (λ s at d. d) p;
    makes = λ conn id random body m p. made_distinct (new_request moment conn id random body) refl p;
    loses = λ query given a g is run lost u p. p;
    loses_late = λ query given a g is run lost u p. p;
    answers = λ query given a g is run counts u p. changed_distinct (with_answer a.question.db _) before.requests a.request (answer_is_new query a _ is run) p;
    lates = λ query given a g is run counts u p. changed_distinct (with_late_answer a.question.db _) before.requests a.request (late_is_new query a _ is run) p;
  }

  -- ---- hits

  module _ (origin hs : Tables) (same : TablesStand origin hs) where
    -- the request that continues has these hits still to come
    pub record HasToCome (tables : Tables) (n : ℕ) (done : List ℕ) : Type 0 where
      pub request : Request
      pub is_there : nth tables.requests n ≡ Some request
      pub to_come : (rest : List ℕ) → done ++ rest ≡ hits → AreHits settings moment origin request rest

    abbrev pub ContinuedToCome : Tables → Option ℕ → List ℕ → Type 0
    ContinuedToCome tables None done = Unit {0}
    ContinuedToCome tables (Some n) done = HasToCome tables n done

    pub record DistinctNow (these : Tables) (m : Option ℕ) (done : List ℕ) : Type 0 where
      pub tables : TablesStand origin these
      pub all : AllDistinct these.requests
      pub continued : ContinuedToCome these m done

    abbrev pub all_distinct : Tables → Option ℕ → Type 0
    all_distinct tables m = AllDistinct tables.requests

    continued_stand : ContinuedParts settings moment before entered hits (λ tables m done. TablesStand origin tables) (λ tables m. TablesStand origin tables)
    continued_stand = continued_stands settings moment origin before entered hits

    -- the hit is the answer of what is asked
    pub hit_is_asked : (tables : Tables) (number : ℕ) (a : QueryRow) (p : Answer × ℕ) → nth tables.queries number ≡ Some a → a.answer ≡ Some p → TablesStand origin tables → (r : Request) (q : Question) → IsUsable settings moment origin r q number →
        (q.db ≡ a.question.db) × (answer_of origin number ≡ Some p.0)
    hit_is_asked tables number a p is e t r q u = go (newest_has origin (key_of q) origin.cacheable number u.is_newest)
      where
        go : (b : QueryRow) × (nth origin.queries number ≡ Some b) × (same_key (key_of q) (key_of b.question) ≡ true) → (q.db ≡ a.question.db) × (answer_of origin number ≡ Some p.0)
        go (b, at, k) = later (t.queries number b at)
          where
            reported : answer_of origin number ≡ option_map (λ (x : Answer × ℕ). x.0) b.answer
            reported = ap (option_and_then (λ (x : QueryRow). option_map (λ (y : Answer × ℕ). y.0) x.answer)) at

            later : (c : QueryRow) × (nth tables.queries number ≡ Some c) × QueryStands b c → (q.db ≡ a.question.db) × (answer_of origin number ≡ Some p.0)
            later (c, x, s) =
                let same_row : c ≡ a = same_Some c a (sym x ∙ is) in
                let recorded : b.answer ≡ Some (u.answer, u.recorded) = ap (λ (y : QueryRow). y.answer) (same_Some b u.query (sym at ∙ u.is_there)) ∙ u.is_answer_recorded in
                let still : a.answer ≡ Some (u.answer, u.recorded) = sym (ap (λ (y : QueryRow). y.answer) same_row) ∙ s.answer (u.answer, u.recorded) recorded in (
                  ap (λ (y : Key). y.db) (keys_equal (key_of q) (key_of b.question) k) ∙ sym (ap (λ (y : Question). y.db) s.question) ∙ ap (λ (y : QueryRow). y.question.db) same_row,
                  reported ∙ ap (option_map (λ (y : Answer × ℕ). y.0)) (recorded ∙ sym still ∙ e),
                )

    hit_distinct : (tables : Tables) (continued number : ℕ) (done rest : List ℕ) (a : QueryRow) (p : Answer × ℕ) → nth tables.queries number ≡ Some a → a.answer ≡ Some p → done ++ number ∷ rest ≡ hits →
        TablesStand origin (hit_with settings continued number a p.0 tables) → DistinctNow tables (Some continued) done → DistinctNow (hit_with settings continued number a p.0 tables) (Some continued) (done ++ number ∷ [])
    hit_distinct tables continued number done rest a p is e w t q = go (q.continued.to_come (number ∷ rest) w)
      where
        go : (question : Question) × (question_in (request_stage settings q.continued.request) ≡ Some question) × IsUsable settings moment origin q.continued.request question number × AreHits settings moment origin (with_hit origin question number q.continued.request) rest →
            DistinctNow (hit_with settings continued number a p.0 tables) (Some continued) (done ++ number ∷ [])
        go (question, asks, usable, further) = record {
          tables = t;
          all = changed_distinct (with_answer a.question.db p.0) tables.requests continued (λ s at d. grown s at d) q.all;
          continued = record {
            request = with_answer a.question.db p.0 q.continued.request;
            is_there = nth-changed (with_answer a.question.db p.0) tables.requests continued ∙ ap (option_map (with_answer a.question.db p.0)) q.continued.is_there;
            to_come = λ more x. subst (λ (ns : List ℕ). AreHits settings moment origin (with_answer a.question.db p.0 q.continued.request) ns) (same_rest more x)
                (subst (λ (s : Request). AreHits settings moment origin s rest) hit_is further);
          };
        }
          where
            found : (question.db ≡ a.question.db) × (answer_of origin number ≡ Some p.0)
            found = hit_is_asked tables number a p is e q.tables q.continued.request question usable

            hit_is : with_hit origin question number q.continued.request ≡ with_answer a.question.db p.0 q.continued.request
            hit_is = ap (λ (o : Option Answer). option_or_else o q.continued.request (λ answer. with_answer question.db answer q.continued.request)) found.1 ∙ ap (λ (k : ℕ). with_answer k p.0 q.continued.request) found.0

            grown : (s : Request) → nth tables.requests continued ≡ Some s → AreDistinct s.answers → AreDistinct (with_answer a.question.db p.0 s).answers
            grown s at d = one_more s.answers a.question.db p.0
                (subst (λ (x : Request). answer_from a.question.db x.answers ≡ None) (same_Some q.continued.request s (sym q.continued.is_there ∙ at)) (subst (λ (k : ℕ). answer_from k q.continued.request.answers ≡ None) found.0 (asks_new settings q.continued.request question asks))) d

            same_rest : (more : List ℕ) → (done ++ number ∷ []) ++ more ≡ hits → rest ≡ more
            same_rest more x = cancel done (w ∙ sym x ∙ append_assoc done (number ∷ []) more)
              where
                tail : List ℕ → List ℕ
                tail [] = []
                tail (y ∷ ys) = ys

                cancel : (ds : List ℕ) → ds ++ number ∷ rest ≡ ds ++ number ∷ more → rest ≡ more
                cancel [] y = ap tail y
                cancel (d ∷ ds) y = cancel ds (ap tail y)

    missed : (tables : Tables) (continued number : ℕ) (done rest : List ℕ) → answer_of tables number ≡ None → done ++ number ∷ rest ≡ hits → DistinctNow tables (Some continued) done → ⊥
    missed tables continued number done rest e w q = go (q.continued.to_come (number ∷ rest) w)
      where
        go : (question : Question) × (question_in (request_stage settings q.continued.request) ≡ Some question) × IsUsable settings moment origin q.continued.request question number
            × AreHits settings moment origin (with_hit origin question number q.continued.request) rest → ⊥
        go (question, asks, u, further) = known_stays origin tables number q.tables (usable_known settings moment origin q.continued.request question number u) e

    pub continued_distinct : ContinuedParts settings moment before entered hits DistinctNow all_distinct
    continued_distinct = record {
      hit = λ tables continued number done rest a p is e w u q. hit_distinct tables continued number done rest a p is e w (continued_stand.hit tables continued number done rest a p is e w u q.tables) q;
      misses = λ tables continued number done rest e w q. absurd (missed tables continued number done rest e w q);
      rests = λ tables q. q.all;
      awaits = λ tables n r text is u e q. q.all;
      asks = λ tables n r question is u e q. q.all;
      decides = λ tables n r d is u e q. changed_distinct (with_decision settings moment) tables.requests n (λ s at x. subst AreDistinct (sym (same_answers settings moment (record s { decided = Some moment }))) x) q.all;
      kept = λ tables m query given a l run is k q. q;
    }

-- ---- one entry, and a legal history

due_distinct : (settings : Settings) (moment : ℕ) (tables : Tables) → AllDistinct tables.requests → AllDistinct (with_due_replied settings moment tables).requests
unfolding with_due_replied
due_distinct settings moment tables p n r e = go (of_mapped (replied_if_due settings moment) tables.requests n r e)
  where
    go : (s : Request) × (nth tables.requests n ≡ Some s) × (r ≡ replied_if_due settings moment s) → AreDistinct r.answers
    go (s, is, w) = subst AreDistinct (sym (ap (λ (x : Request). x.answers) w ∙ same_answers settings moment s)) (p n s is)

timed_distinct : (settings : Settings) (moment : ℕ) (tables : Tables) → AllDistinct tables.requests → AllDistinct (with_timed_out settings moment tables).requests
unfolding with_timed_out
timed_distinct settings moment tables p n r e = go (of_mapped (timed_out_if_over settings moment) tables.requests n r e)
  where
    go : (s : Request) × (nth tables.requests n ≡ Some s) × (r ≡ timed_out_if_over settings moment s) → AreDistinct r.answers
    go (s, is, w) = subst AreDistinct (sym (ap (λ (x : Request). x.answers) w ∙ by_test (λ (x : Request). x.answers ≡ s.answers) (is_over_limit settings moment s) (timed_out moment s) s (λ d. refl) (λ d. refl))) (p n s is)

pub before_distinct : (settings : Settings) (moment : ℕ) (input : Input) (tables : Tables) → AllDistinct tables.requests → AllDistinct (before_input settings moment input tables).requests
before_distinct settings moment input tables p =
    before_gives settings moment tables input (λ t. AllDistinct t.requests) (λ t. AllDistinct t.requests) (λ t. AllDistinct t.requests)
    (record { takes = λ is. p; stays = p; times_out = timed_distinct settings moment; replies = due_distinct settings moment })

module _ (settings : Settings) (tables : Tables) (e : Entry) (asked : AllAsked settings tables.requests tables.queries) where
  abbrev pub tables_before : Tables
  tables_before = before_input settings e.moment e.input tables

  abbrev pub own_effect : AfterInput
  own_effect = after_input settings e.moment e.input tables_before

  pub asked_before : AllAsked settings tables_before.requests tables_before.queries
  asked_before = before_all_asked settings e.moment e.input tables asked

  -- what the input's own effect leaves stands
  pub effect_undecided : ContinuedUndecided own_effect.tables.requests own_effect.continued
  effect_undecided =
      let s : IsSound settings e.moment tables_before e.input (λ x m. TablesStand tables_before x) _ own_effect =
      sound_input settings e.moment tables_before e.input (λ x m. TablesStand tables_before x) (input_stands settings e.moment tables_before tables_before e.input e.hits) e.input refl (all_same tables_before) in
      s.continued

  pub effect_stands : TablesStand tables own_effect.tables
  effect_stands =
      let s : IsSound settings e.moment tables_before e.input (λ x m. TablesStand tables_before x) _ own_effect =
      sound_input settings e.moment tables_before e.input (λ x m. TablesStand tables_before x) (input_stands settings e.moment tables_before tables_before e.input e.hits) e.input refl (all_same tables_before) in
      tables_later tables tables_before own_effect.tables (before_stands settings e.moment e.input tables) s.fact

  to_come : (m : Option ℕ) → ContinuedUndecided own_effect.tables.requests m →
      ContinuedHits settings e.moment tables (option_and_then (nth own_effect.tables.requests) m) e.hits → ContinuedToCome settings e.moment tables_before e.input e.hits asked_before tables own_effect.tables effect_stands own_effect.tables m []
  to_come None u x = tt
  to_come (Some n) u x = go (passing is_undecided (nth own_effect.tables.requests n) u)
    where
      go : (r : Request) × (nth own_effect.tables.requests n ≡ Some r) × (is_undecided r ≡ true) → HasToCome settings e.moment tables_before e.input e.hits asked_before tables own_effect.tables effect_stands own_effect.tables n []
      go (r, is, w) = record {
        request = r;
        is_there = is;
        to_come = λ rest y. subst (AreHits settings e.moment tables r) (sym y) (subst (λ (o : Option Request). ContinuedHits settings e.moment tables o e.hits) is x);
      }

  -- after the input's own effect, all answers are distinct, and the hits are still to come
  pub effect_distinct : ContinuedHits settings e.moment tables (option_and_then (nth own_effect.tables.requests) own_effect.continued) e.hits → AllDistinct tables.requests →
      DistinctNow settings e.moment tables_before e.input e.hits asked_before tables own_effect.tables effect_stands own_effect.tables own_effect.continued []
  effect_distinct hits p =
      let d : IsSound settings e.moment tables_before e.input (λ x m. AllDistinct x.requests) _ own_effect =
      sound_input settings e.moment tables_before e.input (λ x m. AllDistinct x.requests) (input_distinct settings e.moment tables_before e.input e.hits asked_before) e.input refl (before_distinct settings e.moment e.input tables p) in
      record { tables = effect_stands; all = d.fact; continued = to_come own_effect.continued effect_undecided hits }

  entry_distinct : ContinuedHits settings e.moment tables (option_and_then (nth own_effect.tables.requests) own_effect.continued) e.hits → AllDistinct tables.requests → AllDistinct (after settings tables e).requests
  unfolding after
  entry_distinct hits p =
      continued_gives settings e.moment tables_before e.input e.hits _ _ (continued_distinct settings e.moment tables_before e.input e.hits asked_before tables own_effect.tables effect_stands) own_effect
      (effect_distinct hits p) effect_undecided

start_distinct : AllDistinct []
start_distinct n r e = absurd (nowhere n r e)

pub history_distinct : (settings : Settings) (h : List Entry) → IsLegal settings h → AllDistinct (tables_of settings h).requests
history_distinct settings [] legal = start_distinct
history_distinct settings (e ∷ g) legal = entry_distinct settings (tables_of settings g) e (history_asked settings g) legal.1.hits (history_distinct settings g legal.0)

pub answers_are_distinct : AnswersAreDistinct
answers_are_distinct settings h legal = history_distinct settings h legal
