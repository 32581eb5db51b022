-- Of two queries of a request to one database the first is lost, and both ask the same: each part of an entry keeps this.
use Rattle.std.proofs.Common.{◌≡◌, ◌⊎◌, inl, inr, refl, sym, ◌∙◌, ap, subst, Option, Some, None, option_and_then, List, [], ◌∷◌, ◌++◌, ℕ, suc, ◌<◌, Bool, true, false, length, map, is_some, option_map, true≢false, arith}
use Rattle.std.proofs.lemmas.Option.{none-some, same_Some}
use Rattle.da_base.specs.Words.{nth, changed_nth, passes_option}
use Rattle.da_fields.specs.Answers.{answer_from}
use Rattle.da_fields.specs.declared.answer.Answer.{Answer}
use Rattle.da_tables.specs.Hits.{AreHits, IsUsable, answer_of, hit_comparison, hit_with, with_hit}
use Rattle.da_tables.specs.RecordedAnswers.{answered_by, is_lost, is_lost_in, recorded_answer}
use Rattle.da_invariants.proofs.AsksNew.{asks_new}
use Rattle.da_invariants.proofs.Distinct.{AllDistinct, DistinctNow, asked_before, continued_distinct, effect_distinct, effect_stands, effect_undecided, hit_is_asked, history_distinct, own_effect, tables_before}
use Rattle.da_invariants.proofs.Lost.{lost_once_told}
use Rattle.da_invariants.proofs.OpenQueries.{AllAsked, AreAsked, NoneOf, continued_asked, history_asked, input_asked, none_there, nowhere}
use Rattle.da_invariants.specs.QueryLaws.{IsAsked}
use Rattle.da_play.proofs.EntryParts.{ContinuedParts, InputParts, IsSound, before_gives, continued_gives, sound_input}
use Rattle.da_play.specs.History.{after, before_input, tables_of}
use Rattle.da_play.specs.Legal.{ContinuedHits, IsLegal}
use Rattle.da_play.specs.declared.input.Entry.{Entry}
use Rattle.da_play.specs.declared.input.Input.{Input}
use Rattle.da_request.specs.Requests.{as_cancelled_of, cancelled, is_undecided, new_request, question_in, replied_if_due, request_stage, timed_out_if_over, with_answer, with_decision, with_late_answer, with_text}
use Rattle.da_request.specs.declared.request.Request.{Request}
use Rattle.da_request.specs.declared.stages.Question.{Question}
use Rattle.da_request.specs.declared.stages.Stage.{Stage}
use Rattle.da_settings.specs.declared.settings.Settings.{Settings}
use Rattle.da_steps.specs.Standing.{TablesStand}
use Rattle.da_steps.proofs.Standing.{RowsStand}
use Rattle.da_tables.proofs.Cases.{and_second, not_true}
use Rattle.da_tables.proofs.Rows.{nth-changed, of_appended, of_changed, nth-last}
use Rattle.da_tables.specs.Queries.{as_taken, first_waiting, is_running, used_again}
use Rattle.da_tables.specs.Tables.{AfterInput, with_due_replied, with_end, with_timed_out}
use Rattle.da_tables.specs.declared.queries.QueryRow.{QueryRow}
use Rattle.da_tables.specs.declared.tables.Tables.{Tables}
use Rattle.da_invariants.proofs.Accounted.{AllAccounted, AreRepeated, Continue, KeepsAnswers, IsAskedAgain, IsAccounted, KeepsAnswer, all_kept, all_accounted_kept, answer_keeps_answers, cancelled_keeps_answers, cancelled_of_keeps_answers, changed_keep_answers, changed_kept, changed_there, changed_told, decided_isn't, decision_keeps_answers, has_answer, has_requests_kept, last_answer, keeps_own, late_keeps_answers, longer_keep_answers, longer_kept, lost_kept, mapped_keep_answers, next_is_later, none_continues, one_is_lost, repeats_kept, replied_keeps_answers, same_keep_answers, same_kept, accounted_kept, text_keeps_answers, timed_out_keeps_answers}

-- ---- the parts of an entry

abbrev pub Repeated : Settings → Tables → Option ℕ → Type 0
Repeated settings tables m = AreRepeated settings tables.requests tables.queries m

module _ (settings : Settings) where
  -- where requests change and none continues
  requests_kept : (rs ss : List Request) (qs : List QueryRow) (o : Option ℕ) → RowsStand KeepsAnswers rs ss → AreRepeated settings rs qs None → AreRepeated settings ss qs o
  requests_kept rs ss qs o rows p = all_kept settings rs ss qs qs None o rows (same_kept qs) (none_continues settings rs ss qs qs o) (λ k b e. (b, e)) (λ k b a e t. (b, e, t)) p

  -- where queries change, but not their answers
  queries_kept : (f : QueryRow → QueryRow) → ((a : QueryRow) → KeepsAnswer a (f a)) → ((a : QueryRow) → (f a).answer ≡ a.answer) → (rs : List Request) (qs : List QueryRow) (n : ℕ) →
      AreRepeated settings rs qs None → AreRepeated settings rs (changed_nth f qs n) None
  queries_kept f h t rs qs n p =
      all_kept settings rs rs qs (changed_nth f qs n) None None (same_keep_answers rs) (changed_kept f qs n (λ a is. h a)) (none_continues settings rs rs qs (changed_nth f qs n) None) (changed_there f qs n) (changed_told f t qs n) p

  taken_keeps : (moment : ℕ) (a : QueryRow) → KeepsAnswer a (as_taken moment a)
  taken_keeps moment a = record { request = refl; question = refl; answer = λ p e. e }

  used_keeps : (comparison : Option Bool) (a : QueryRow) → KeepsAnswer a (used_again comparison a)
  used_keeps comparison a = record { request = refl; question = refl; answer = λ p e. e }

  timed_kept : (moment : ℕ) (tables : Tables) → Repeated settings tables None → Repeated settings (with_timed_out settings moment tables) None
  unfolding with_timed_out
  timed_kept moment tables p = requests_kept tables.requests (map (timed_out_if_over settings moment) tables.requests) tables.queries None (mapped_keep_answers (timed_out_if_over settings moment) (timed_out_keeps_answers settings moment) tables.requests) p

  due_kept : (moment : ℕ) (tables : Tables) → Repeated settings tables None → Repeated settings (with_due_replied settings moment tables) None
  unfolding with_due_replied
  due_kept moment tables p = requests_kept tables.requests (map (replied_if_due settings moment) tables.requests) tables.queries None (mapped_keep_answers (replied_if_due settings moment) (replied_keeps_answers settings moment) tables.requests) p

  before_kept : (moment : ℕ) (input : Input) (tables : Tables) → Repeated settings tables None → Repeated settings (before_input settings moment input tables) None
  before_kept moment input tables p =
      before_gives settings moment tables input (λ t. Repeated settings t None) (λ t. Repeated settings t None) (λ t. Repeated settings t None) (record {
        takes = λ is. queries_kept (as_taken moment) (taken_keeps moment) (λ a. refl) tables.requests tables.queries (first_waiting tables) p;
        stays = p;
        times_out = timed_kept moment;
        replies = due_kept moment;
      })

module _ (settings : Settings) (moment : ℕ) (before : Tables) (entered : Input) (hits : List ℕ) (asked : AllAsked settings before.requests before.queries) where
  end_kept : (conn : ℕ) → Repeated settings before None → Repeated settings (with_end conn before) None
  unfolding with_end
  end_kept conn p = requests_kept settings before.requests (map (as_cancelled_of conn) before.requests) before.queries None (mapped_keep_answers (as_cancelled_of conn) (cancelled_of_keeps_answers conn) before.requests) p

  -- a query is answered
  module _ (query : ℕ) (answer : Answer) (a : QueryRow) (is : nth before.queries query ≡ Some a) (run : is_running a ≡ true) where
    abbrev answered : QueryRow → QueryRow
    answered = answered_by settings moment (nth before.requests a.request) answer

    abbrev now : List QueryRow
    now = changed_nth answered before.queries query

    unanswered : a.answer ≡ None
    unanswered = none_there a.answer (not_true (is_some a.answer) (and_second (is_some a.taken) _ run))

    answered_keeps : (b : QueryRow) → nth before.queries query ≡ Some b → KeepsAnswer b (answered b)
    answered_keeps b at = record {
      request = refl;
      question = refl;
      answer = λ p e. absurd (none-some p (sym unanswered ∙ ap (λ (x : QueryRow). x.answer) (same_Some a b (sym is ∙ at)) ∙ e));
    }

    rows : RowsStand KeepsAnswer before.queries now
    rows = changed_kept answered before.queries query answered_keeps

    row_is : nth now query ≡ Some (answered a)
    row_is = nth-changed answered before.queries query ∙ ap (option_map answered) is

    -- the other queries stay accounted for, and of this one it is told what becomes of it
    answer_kept : (ss : List Request) (o : Option ℕ) → RowsStand KeepsAnswers before.requests ss →
        ((r s : Request) → nth before.requests a.request ≡ Some r → nth ss a.request ≡ Some s → is_undecided s ≡ true → IsAccounted settings now o query (answered a) s) →
        Repeated settings before None → AreRepeated settings ss now o
    answer_kept ss o requests own p = record {
      requests = has_requests_kept before.requests ss before.queries now requests rows (changed_there answered before.queries query) p.requests;
      accounted = all_accounted;
      repeats = repeats_kept before.queries now rows (changed_there answered before.queries query) p.repeats;
    }
      where
        all_accounted : AllAccounted settings ss now o
        all_accounted k b x s at told there u = go (of_changed answered before.queries query k b at)
          where
            go : ((k ≡ query) × (c : QueryRow) × (nth before.queries query ≡ Some c) × (b ≡ answered c)) ⊎ ((k ≡ query → ⊥) × (nth before.queries k ≡ Some b)) → IsAccounted settings now o k b s
            go (inr (d, was)) =
                accounted_kept settings before.requests ss before.queries now None o requests rows (none_continues settings before.requests ss before.queries now o) p.requests p.accounted k b b x s was told (keeps_own b) there u
            go (inl (d, c, was, w)) = subst (λ (j : ℕ). IsAccounted settings now o j b s) (sym d) (subst (λ (z : QueryRow). IsAccounted settings now o query z s) (sym b_is) here)
              where
                b_is : b ≡ answered a
                b_is = w ∙ ap answered (same_Some c a (sym was ∙ is))

                there_a : nth ss a.request ≡ Some s
                there_a = ap (λ (z : QueryRow). nth ss z.request) (sym b_is) ∙ there

                here : IsAccounted settings now o query (answered a) s
                here = let r : (r : Request) × (nth before.requests a.request ≡ Some r) = p.requests query a is in own r.0 s r.1 there_a u

    -- a query that is lost, and whose request continues, is still what that asks
    lost_accounted : is_lost before.queries query a answer ≡ true → (r s : Request) → nth before.requests a.request ≡ Some r → nth before.requests a.request ≡ Some s → is_undecided s ≡ true → IsAccounted settings now (Some a.request) query (answered a) s
    lost_accounted lost r s was at u = inr (
      lost_once_told answered (λ b. record { request = refl; question = refl }) before.queries query a (answer, moment) is refl ∙ lost,
      inr (record { continues = refl; asks = subst (λ (x : Request). question_in (request_stage settings x) ≡ Some a.question) (same_Some row.request s (sym row.is_there ∙ at)) row.asks }),
    )
      where
        row : IsAsked settings before.requests before.queries query a
        row = asked query a is unanswered

    -- the request has the answer of one that isn't lost
    used_accounted : (o : Option ℕ) (r s : Request) → nth before.requests a.request ≡ Some r → nth (changed_nth (with_answer a.question.db answer) before.requests a.request) a.request ≡ Some s → is_undecided s ≡ true → IsAccounted settings now o query (answered a) s
    used_accounted o r s was at u = inl (subst (λ (x : Request). has_answer a.question.db x ≡ true)
        (same_Some (with_answer a.question.db answer r) s (sym (ap (option_map (with_answer a.question.db answer)) was) ∙ sym (nth-changed (with_answer a.question.db answer) before.requests a.request) ∙ at))
        (last_answer r.answers a.question.db a.question.db answer refl))

    -- who is decided, cancelled or timed out needs no answer
    late_accounted : (f : Request → Request) → ((r : Request) → KeepsAnswers r (f r)) → (o : Option ℕ) → passes_option is_undecided (nth before.requests a.request) ≡ false → (r s : Request) → nth before.requests a.request ≡ Some r →
        nth (changed_nth f before.requests a.request) a.request ≡ Some s → is_undecided s ≡ true → IsAccounted settings now o query (answered a) s
    late_accounted f h o quiet r s was at u = absurd (true≢false (sym before_u ∙ sym (ap (passes_option is_undecided) was) ∙ quiet))
      where
        s_is : f r ≡ s
        s_is = same_Some (f r) s (sym (ap (option_map f) was) ∙ sym (nth-changed f before.requests a.request) ∙ at)

        before_u : is_undecided r ≡ true
        before_u = (h r).undecided (subst (λ (x : Request). is_undecided x ≡ true) (sym s_is) u)

  input_repeats : InputParts settings moment before entered (λ tables m. Repeated settings tables m)
  input_repeats = record {
    opens = λ kind random l p. p;
    tells = λ conn change h told p. p;
    ends = λ conn e p. end_kept conn p;
    cancels = λ n e p. requests_kept settings before.requests _ before.queries None (changed_keep_answers cancelled cancelled_keeps_answers before.requests n) p;
    texts = λ conn id random text m r is w p. requests_kept settings before.requests _ before.queries _ (changed_keep_answers (with_text text) (text_keeps_answers text) before.requests _) p;
    makes = λ conn id random body m p. requests_kept settings before.requests _ before.queries _ (longer_keep_answers before.requests (new_request moment conn id random body ∷ [])) p;
    loses = λ query given a g is run lost u p.
        answer_kept query (recorded_answer a.question.kind given) a is run before.requests (Some a.request) (same_keep_answers before.requests) (lost_accounted query (recorded_answer a.question.kind given) a is run lost) p;
    loses_late = λ query given a g is run lost u p.
        answer_kept query (recorded_answer a.question.kind given) a is run before.requests None (same_keep_answers before.requests)
        (λ r s was at v. absurd (true≢false (sym v ∙ sym (ap (passes_option is_undecided) at) ∙ u))) p;
    answers = λ query given a g is run counts u p.
        answer_kept query (recorded_answer a.question.kind given) a is run (changed_nth (with_answer a.question.db (recorded_answer a.question.kind given)) before.requests a.request) (Some a.request)
        (changed_keep_answers (with_answer a.question.db (recorded_answer a.question.kind given)) (answer_keeps_answers a.question.db (recorded_answer a.question.kind given)) before.requests a.request)
        (used_accounted query (recorded_answer a.question.kind given) a is run (Some a.request)) p;
    lates = λ query given a g is run counts u p.
        answer_kept query (recorded_answer a.question.kind given) a is run (changed_nth (with_late_answer a.question.db (recorded_answer a.question.kind given)) before.requests a.request) None
        (changed_keep_answers (with_late_answer a.question.db (recorded_answer a.question.kind given)) (late_keeps_answers a.question.db (recorded_answer a.question.kind given)) before.requests a.request)
        (late_accounted query (recorded_answer a.question.kind given) a is run (with_late_answer a.question.db (recorded_answer a.question.kind given)) (late_keeps_answers a.question.db (recorded_answer a.question.kind given)) None u) p;
  }

  -- ---- hits, and what follows

  module _ (origin hs : Tables) (same : TablesStand origin hs) where
    record RepeatsNow (tables : Tables) (m : Option ℕ) (done : List ℕ) : Type 0 where
      pub asks : AreAsked settings moment before entered hits tables m
      pub distinct : DistinctNow settings moment before entered hits asked origin hs same tables m done
      pub repeated : Repeated settings tables m

    -- a hit answers what the request asks
    module _ (tables : Tables) (continued number : ℕ) (done rest : List ℕ) (a : QueryRow) (p : Answer × ℕ) (is : nth tables.queries number ≡ Some a) (e : a.answer ≡ Some p) (w : done ++ number ∷ rest ≡ hits)
        (q : RepeatsNow tables (Some continued) done) where
      abbrev comparison : Option Bool
      comparison = hit_comparison settings p.0 (nth tables.requests continued)

      abbrev used : QueryRow → QueryRow
      used = used_again comparison

      abbrev grown : Request → Request
      grown = with_answer a.question.db p.0

      hit_answers : Continue settings tables.requests (changed_nth grown tables.requests continued) tables.queries (changed_nth used tables.queries number) (Some continued) (Some continued)
      hit_answers k b r s at was is_now u c = inl (go (q.distinct.continued.to_come (number ∷ rest) w))
        where
          number_is : continued ≡ b.request
          number_is = same_Some continued b.request c.continues

          r_is : q.distinct.continued.request ≡ r
          r_is = same_Some q.distinct.continued.request r (sym q.distinct.continued.is_there ∙ ap (nth tables.requests) number_is ∙ was)

          s_is : grown r ≡ s
          s_is = same_Some (grown r) s (sym (ap (option_map grown) (ap (nth tables.requests) number_is ∙ was)) ∙ sym (nth-changed grown tables.requests continued) ∙ ap (nth (changed_nth grown tables.requests continued)) number_is ∙ is_now)

          go : (question : Question) × (question_in (request_stage settings q.distinct.continued.request) ≡ Some question) × IsUsable settings moment origin q.distinct.continued.request question number
              × AreHits settings moment origin (with_hit origin question number q.distinct.continued.request) rest → has_answer b.question.db s ≡ true
          go (question, asks, usable, more) =
              let found : (question.db ≡ a.question.db) × (answer_of origin number ≡ Some p.0) =
              hit_is_asked settings moment before entered hits asked origin hs same tables number a p is e q.distinct.tables q.distinct.continued.request question usable in
              let same_question : question ≡ b.question = same_Some question b.question (sym asks ∙ ap (λ (x : Request). question_in (request_stage settings x)) r_is ∙ c.asks) in
              subst (λ (x : Request). has_answer b.question.db x ≡ true) s_is
              (last_answer r.answers a.question.db b.question.db p.0 (sym found.0 ∙ ap (λ (x : Question). x.db) same_question))

      hit_repeats : Repeated settings (hit_with settings continued number a p.0 tables) (Some continued)
      hit_repeats =
          all_kept settings tables.requests (changed_nth grown tables.requests continued) tables.queries (changed_nth used tables.queries number) (Some continued) (Some continued)
          (changed_keep_answers grown (answer_keeps_answers a.question.db p.0) tables.requests continued) (changed_kept used tables.queries number (λ b at. used_keeps settings comparison b)) hit_answers
          (changed_there used tables.queries number) (changed_told used (λ b. refl) tables.queries number) q.repeated

    -- where the request asks nothing, no query is to be asked again
    nothing_asked : (tables : Tables) (n : ℕ) (r : Request) (stage : Stage) → nth tables.requests n ≡ Some r → request_stage settings r ≡ stage → question_in stage ≡ None →
        Repeated settings tables (Some n) → Repeated settings tables None
    nothing_asked tables n r stage is e none p =
        all_kept settings tables.requests tables.requests tables.queries tables.queries (Some n) None (same_keep_answers tables.requests) (same_kept tables.queries) further (λ k b x. (b, x)) (λ k b a x t. (b, x, t)) p
      where
        further : Continue settings tables.requests tables.requests tables.queries tables.queries (Some n) None
        further k b s t at was is_now u c = absurd (none-some b.question (sym none ∙ sym (ap question_in e)
            ∙ ap (λ (x : Request). question_in (request_stage settings x)) (same_Some r s (sym is ∙ ap (nth tables.requests) (same_Some n b.request c.continues) ∙ was)) ∙ c.asks))

    decided_repeats : (tables : Tables) (n : ℕ) → Repeated settings tables (Some n) → AreRepeated settings (changed_nth (with_decision settings moment) tables.requests n) tables.queries None
    decided_repeats tables n p =
        all_kept settings tables.requests (changed_nth (with_decision settings moment) tables.requests n) tables.queries tables.queries (Some n) None
        (changed_keep_answers (with_decision settings moment) (decision_keeps_answers settings moment) tables.requests n) (same_kept tables.queries) further (λ k b x. (b, x)) (λ k b a x t. (b, x, t)) p
      where
        further : Continue settings tables.requests (changed_nth (with_decision settings moment) tables.requests n) tables.queries tables.queries (Some n) None
        further k b r s at was is_now u c =
            let number_is : n ≡ b.request = same_Some n b.request c.continues in
            let s_is : with_decision settings moment r ≡ s = same_Some (with_decision settings moment r) s
            (sym (ap (option_map (with_decision settings moment)) (ap (nth tables.requests) number_is ∙ was)) ∙ sym (nth-changed (with_decision settings moment) tables.requests n)
            ∙ ap (nth (changed_nth (with_decision settings moment) tables.requests n)) number_is ∙ is_now) in
            absurd (decided_isn't settings moment r (subst (λ (x : Request). is_undecided x ≡ true) (sym s_is) u))

    -- a new query asks the same as each query of its request to its database before it, which is lost
    module _ (tables : Tables) (n : ℕ) (r : Request) (new : QueryRow) (is : nth tables.requests n ≡ Some r) (u : is_undecided r ≡ true) (of_it : new.request ≡ n) (asks : question_in (request_stage settings r) ≡ Some new.question) (untold : new.answer ≡ None)
        (none : NoneOf tables.queries (Some n)) (p : Repeated settings tables (Some n)) where
      not_used : (db : ℕ) → new.question.db ≡ db → has_answer db r ≡ true → ⊥
      not_used db d h = true≢false (sym h ∙ ap is_some (subst (λ (x : ℕ). answer_from x r.answers ≡ None) d (asks_new settings r new.question asks)))

      there : (a : QueryRow) → new.request ≡ a.request → nth tables.requests a.request ≡ Some r
      there a d = ap (nth tables.requests) (sym d ∙ of_it) ∙ is

      told : (k : ℕ) (a : QueryRow) → nth tables.queries k ≡ Some a → new.request ≡ a.request → (x : Answer × ℕ) × (a.answer ≡ Some x)
      told k a at d = go a.answer refl
        where
          go : (o : Option (Answer × ℕ)) → a.answer ≡ o → (x : Answer × ℕ) × (a.answer ≡ Some x)
          go None e = absurd (none k a at e (sym d ∙ of_it))
          go (Some x) e = (x, e)

      -- the query that was asked again isn't lost too, and so the request has its answer
      not_again : (k : ℕ) (a : QueryRow) → nth tables.queries k ≡ Some a → new.request ≡ a.request → new.question.db ≡ a.question.db → is_lost_in tables.queries k ≡ true → IsAskedAgain tables.queries k a → ⊥
      not_again k a at d e l g = go (told g.number g.row g.is_there (d ∙ sym g.request))
        where
          by_account : IsAccounted settings tables.queries (Some n) g.number g.row r → ⊥
          by_account (inl h) = not_used g.row.question.db (e ∙ sym g.db) h
          by_account (inr (lost, x)) =
              let equal : k ≡ g.number = one_is_lost tables.queries k g.number a g.row at g.is_there g.request g.db l lost in
              let later : k < g.number = g.is_later in
              let bad : ⊥ = omega (arith, equal, later) in bad

          go : (x : Answer × ℕ) × (g.row.answer ≡ Some x) → ⊥
          go (x, t) = by_account (p.accounted g.number g.row x r g.is_there t (there g.row (d ∙ sym g.request)) u)

      repeats_new : (k : ℕ) (a : QueryRow) → nth tables.queries k ≡ Some a → new.request ≡ a.request → new.question.db ≡ a.question.db → (is_lost_in tables.queries k ≡ true) × (new.question ≡ a.question)
      repeats_new k a at d e = go (told k a at d)
        where
          by_account : IsAccounted settings tables.queries (Some n) k a r → (is_lost_in tables.queries k ≡ true) × (new.question ≡ a.question)
          by_account (inl h) = absurd (not_used a.question.db e h)
          by_account (inr (l, inl g)) = absurd (not_again k a at d e l g)
          by_account (inr (l, inr c)) = (l, same_Some new.question a.question (sym asks ∙ c.asks))

          go : (x : Answer × ℕ) × (a.answer ≡ Some x) → (is_lost_in tables.queries k ≡ true) × (new.question ≡ a.question)
          go (x, t) = by_account (p.accounted k a x r at t (there a d) u)

      abbrev longer : List QueryRow
      longer = tables.queries ++ new ∷ []

      -- what the request still asked is asked again
      asked_again : Continue settings tables.requests tables.requests tables.queries longer (Some n) None
      asked_again k a s t at was is_now v c = inr (inl (record {
        number = suc (length tables.queries);
        is_later = next_is_later tables.queries k a at;
        row = new;
        is_there = nth-last tables.queries new;
        request = of_it ∙ same_Some n a.request c.continues;
        db = ap (λ (x : Question). x.db) (same_Some new.question a.question (sym asks ∙ ap (λ (x : Request). question_in (request_stage settings x)) s_is ∙ c.asks));
      }))
        where
          s_is : r ≡ s
          s_is = same_Some r s (sym is ∙ ap (nth tables.requests) (same_Some n a.request c.continues) ∙ was)

      asks_repeats : AreRepeated settings tables.requests longer None
      asks_repeats = record {
        requests = λ k b e. has_request k b (of_appended tables.queries new b k e);
        accounted = all_accounted_kept settings tables.requests tables.requests tables.queries longer (Some n) None (same_keep_answers tables.requests) (longer_kept tables.queries (new ∷ [])) asked_again
            (λ k b x e t. was_told k b x t (of_appended tables.queries new b k e)) p.requests p.accounted;
        repeats = λ k m a b x y l d e. both k m a b l d e (of_appended tables.queries new a k x) (of_appended tables.queries new b m y);
      }
        where
          has_request : (k : ℕ) (b : QueryRow) → ((k ≡ suc (length tables.queries)) × (b ≡ new)) ⊎ (nth tables.queries k ≡ Some b) → (s : Request) × (nth tables.requests b.request ≡ Some s)
          has_request k b (inl (d, w)) = (r, ap (λ (x : QueryRow). nth tables.requests x.request) w ∙ ap (nth tables.requests) of_it ∙ is)
          has_request k b (inr at) = p.requests k b at

          was_told : (k : ℕ) (b : QueryRow) (x : Answer × ℕ) → b.answer ≡ Some x → ((k ≡ suc (length tables.queries)) × (b ≡ new)) ⊎ (nth tables.queries k ≡ Some b) → (a : QueryRow) × (nth tables.queries k ≡ Some a) × (a.answer ≡ Some x)
          was_told k b x t (inl (d, w)) = absurd (none-some x (sym untold ∙ ap (λ (y : QueryRow). y.answer) (sym w) ∙ t))
          was_told k b x t (inr at) = (b, at, t)

          rows : RowsStand KeepsAnswer tables.queries longer
          rows = longer_kept tables.queries (new ∷ [])

          both : (k m : ℕ) (a b : QueryRow) → k < m → b.request ≡ a.request → b.question.db ≡ a.question.db → ((k ≡ suc (length tables.queries)) × (a ≡ new)) ⊎ (nth tables.queries k ≡ Some a) →
              ((m ≡ suc (length tables.queries)) × (b ≡ new)) ⊎ (nth tables.queries m ≡ Some b) → (is_lost_in longer k ≡ true) × (b.question ≡ a.question)
          both k m a b l d e (inl (x, v)) (inl (y, w)) = let bad : ⊥ = omega (arith, l, x, y) in absurd bad
          both k m a b l d e (inl (x, v)) (inr at) = let within : m < suc (length tables.queries) = next_is_later tables.queries m b at in let bad : ⊥ = omega (arith, l, x, within) in absurd bad
          both k m a b l d e (inr is_a) (inl (y, w)) =
              let found : (is_lost_in tables.queries k ≡ true) × (new.question ≡ a.question) = repeats_new k a is_a (ap (λ (z : QueryRow). z.request) (sym w) ∙ d) (ap (λ (z : QueryRow). z.question.db) (sym w) ∙ e) in
              (lost_kept tables.queries longer rows k a is_a found.0, ap (λ (z : QueryRow). z.question) w ∙ found.1)
          both k m a b l d e (inr is_a) (inr is_b) =
              let found : (is_lost_in tables.queries k ≡ true) × (b.question ≡ a.question) = p.repeats k m a b is_a is_b l d e in
              (lost_kept tables.queries longer rows k a is_a found.0, found.1)

    continued_repeats : ContinuedParts settings moment before entered hits RepeatsNow (λ tables m. Repeated settings tables None)
    continued_repeats = record {
      hit = λ tables continued number done rest a p is e w u q. record {
        asks = (continued_asked settings moment before entered hits).hit tables continued number done rest a p is e w u q.asks;
        distinct = (continued_distinct settings moment before entered hits asked origin hs same).hit tables continued number done rest a p is e w u q.distinct;
        repeated = hit_repeats tables continued number done rest a p is e w q;
      };
      misses = λ tables continued number done rest e w q. record {
        asks = q.asks;
        distinct = (continued_distinct settings moment before entered hits asked origin hs same).misses tables continued number done rest e w q.distinct;
        repeated = q.repeated;
      };
      rests = λ tables q. q.repeated;
      awaits = λ tables n r text is u e q. nothing_asked tables n r _ is e refl q.repeated;
      asks = λ tables n r question is u e q. asks_repeats tables n r _ is u refl (ap question_in e) refl q.asks.none q.repeated;
      decides = λ tables n r d is u e q. decided_repeats tables n q.repeated;
      kept = λ tables m query given a l run is k q. q;
    }

-- ---- one entry, and a legal history

entry_repeats : (settings : Settings) (tables : Tables) (e : Entry) (asked : AllAsked settings tables.requests tables.queries) →
    ContinuedHits settings e.moment tables (option_and_then (nth (own_effect settings tables e asked).tables.requests) (own_effect settings tables e asked).continued) e.hits →
    AllDistinct tables.requests → Repeated settings tables None → Repeated settings (after settings tables e) None
unfolding after
entry_repeats settings tables e asked hits d p =
    let before : Tables = tables_before settings tables e asked in
    let h : AfterInput = own_effect settings tables e asked in
    let all : AllAsked settings before.requests before.queries = asked_before settings tables e asked in
    let a : IsSound settings e.moment before e.input (λ x m. AreAsked settings e.moment before e.input e.hits x m) _ h =
    sound_input settings e.moment before e.input (λ x m. AreAsked settings e.moment before e.input e.hits x m) (input_asked settings e.moment before e.input e.hits) e.input refl (record { all = all; none = tt }) in
    let r : IsSound settings e.moment before e.input (λ x m. Repeated settings x m) _ h =
    sound_input settings e.moment before e.input (λ x m. Repeated settings x m) (input_repeats settings e.moment before e.input e.hits all) e.input refl (before_kept settings e.moment e.input tables p) in
    continued_gives settings e.moment before e.input e.hits _ _ (continued_repeats settings e.moment before e.input e.hits all tables h.tables (effect_stands settings tables e asked)) h
    (record { asks = a.fact; distinct = effect_distinct settings tables e asked hits d; repeated = r.fact }) (effect_undecided settings tables e asked)

start_repeats : (settings : Settings) → AreRepeated settings [] [] None
start_repeats settings = record {
  requests = λ k a e. absurd (nowhere k a e);
  accounted = λ k a p r e t x u. absurd (nowhere k a e);
  repeats = λ k m a b x y l r d. absurd (nowhere k a x);
}

pub history_repeats : (settings : Settings) (h : List Entry) → IsLegal settings h → Repeated settings (tables_of settings h) None
history_repeats settings [] legal = start_repeats settings
history_repeats settings (e ∷ g) legal = entry_repeats settings (tables_of settings g) e (history_asked settings g) legal.1.hits (history_distinct settings g legal.0) (history_repeats settings g legal.0)
