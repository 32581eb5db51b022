-- The request of a lost query asks the same under the next number.
use Rattle.std.proofs.Common.{◌≡◌, refl, sym, ◌∙◌, ap, subst, Option, Some, None, List, [], ◌∷◌, ◌++◌, ℕ, zero, suc, ◌+◌, Bool, true, false, cond, length, is_some, not, ◌&&◌, option_map, true≢false, arith}
use Rattle.std.proofs.lemmas.Option.{none-some, same_Some}
use Rattle.da_tables.specs.RecordedAnswers.{after_answer, after_answer_for, answered_by, answers_request, asks_again, is_kept, is_lost, is_lost_in, recorded_answer}
use Rattle.da_base.specs.Words.{changed_at, changed_nth, nth, passes_option}
use Rattle.da_fields.specs.declared.answer.Answer.{Answer}
use Rattle.da_fields.specs.declared.answer.Answer.TheVariants.{Internal}
use Rattle.da_fields.specs.declared.answer.QueryKind.{QueryKind}
use Rattle.da_fields.specs.declared.answer.QueryKind.TheVariants.{Check, Pass, User}
use Rattle.da_fields.specs.declared.answer.Why.TheVariants.{Died}
use Rattle.da_invariants.proofs.Lost.{lost_later, lost_once_told}
use Rattle.da_invariants.proofs.OpenQueries.{before_all_asked, history_asked, none_there}
use Rattle.da_invariants.specs.QueryLaws.{IsAsked}
use Rattle.da_invariants.specs.RepeatLaws.{LostIsAskedAgain}
use Rattle.da_play.proofs.EntryParts.{IsSound, sound_input, told_queries}
use Rattle.da_play.specs.History.{after, after_continued, after_input, after_stage, before_input, follows_for, follows_from, keeps, kept_for, tables_of}
use Rattle.da_play.specs.Legal.{IsLegal}
use Rattle.da_play.specs.declared.input.Entry.{Entry}
use Rattle.da_play.specs.declared.input.Input.{Input}
use Rattle.da_play.specs.declared.input.Input.TheVariants.{Answered}
use Rattle.da_request.specs.Requests.{is_pending, is_undecided, query_password, question_in, request_stage}
use Rattle.da_request.specs.declared.request.Request.{Request}
use Rattle.da_request.specs.declared.stages.Question.{Question}
use Rattle.da_request.specs.declared.stages.Stage.{Stage}
use Rattle.da_request.specs.declared.stages.Stage.TheVariants.{Asks, Awaits, Decided}
use Rattle.da_settings.specs.declared.settings.Settings.{Settings}
use Rattle.da_steps.proofs.Standing.{all_same, input_stands, rest_stands, tables_later, undecided_is}
use Rattle.da_steps.specs.Standing.{QueryStands, RequestStands, TablesStand}
use Rattle.da_tables.proofs.Cases.{by_test, and_first, and_second, not_true}
use Rattle.da_tables.proofs.Rows.{changed-length, nth-changed, nth-last, passing}
use Rattle.da_tables.specs.Queries.{is_running, is_running_in}
use Rattle.da_tables.specs.Tables.{AfterInput, continuing, continuing_none, with_query}
use Rattle.da_tables.specs.declared.queries.QueryRow.{QueryRow}
use Rattle.da_tables.specs.declared.tables.Tables.{Tables}

-- ---- rows

-- the death of a worker fits each kind of query
recorded_death : (kind : QueryKind) → recorded_answer kind (Internal Died) ≡ Internal Died
recorded_death Pass = refl
recorded_death Check = refl
recorded_death User = refl

asking : (s : Stage) (q : Question) → question_in s ≡ Some q → s ≡ Asks q
asking (Awaits text) q e = absurd (none-some q e)
asking (Asks p) q e = ap (λ (x : Question). Asks x) (same_Some p q e)
asking (Decided d) q e = absurd (none-some q e)

-- what is undecided later was so before
was_undecided : (r s : Request) → RequestStands r s → is_undecided s ≡ true → is_undecided r ≡ true
was_undecided r s k u =
    ap (λ (b : Bool). not b && not (is_some r.replied) && not (is_some r.decided)) (uncancelled r.is_cancelled k.cancelled)
    ∙ ap (λ (b : Bool). not b && not (is_some r.decided)) (none_before r.replied s.replied k.replied (undecided_is s u).1)
    ∙ ap not (none_before r.decided s.decided k.decided (undecided_is s u).0)
  where
    uncancelled : (b : Bool) → (b ≡ true → s.is_cancelled ≡ true) → b ≡ false
    uncancelled true h = absurd (true≢false (sym (h refl) ∙ not_true s.is_cancelled (and_first (not s.is_cancelled) _ (and_first (is_pending s) _ u))))
    uncancelled false h = refl

    none_before : (a b : Option ℕ) → ((m : ℕ) → a ≡ Some m → b ≡ Some m) → is_some b ≡ false → is_some a ≡ false
    none_before None b h d = refl
    none_before (Some m) b h d = absurd (true≢false (sym (ap is_some (h m refl)) ∙ d))

-- what is kept of an answer changes no query
kept_queries : (settings : Settings) (query : ℕ) (given : Answer) (o : Option QueryRow) (tables : Tables) → (kept_for settings query given o tables).queries ≡ tables.queries
kept_queries settings query given None tables = refl
kept_queries settings query given (Some a) tables = by_test (λ (x : Tables). x.queries ≡ tables.queries) (is_kept a.question.kind (recorded_answer a.question.kind given)) _ tables (λ y. refl) (λ y. refl)

-- ---- an entry that tells of a death

module _ (settings : Settings) (moment : ℕ) (g : List Entry) (k : ℕ) where
  abbrev told : Input
  told = Answered k (Internal Died)

  abbrev entry : Entry
  entry = record { moment = moment; input = told; hits = [] }

  abbrev origin : Tables
  origin = tables_of settings g

  abbrev before : Tables
  before = before_input settings moment told origin

  abbrev then_on : Tables
  then_on = (after_input settings moment told before).tables

  abbrev final : Tables
  final = tables_of settings (entry ∷ g)

  same_queries : before.queries ≡ origin.queries
  same_queries = told_queries settings moment origin told k (Internal Died) (refl, refl)

  told_keeps : (tables : Tables) → (keeps settings before told tables).queries ≡ tables.queries
  told_keeps tables = by_test (λ (x : Tables). x.queries ≡ tables.queries) (is_running_in before k) (kept_for settings k (Internal Died) (nth tables.queries k) tables) tables
      (λ y. kept_queries settings k (Internal Died) (nth tables.queries k) tables) (λ y. refl)

  -- what stands before the input stands at the end
  rows_stand : TablesStand before final
  rows_stand =
      let sound : IsSound settings moment before told (λ x m. TablesStand before x) (input_stands settings moment before before told []) (after_input settings moment told before) =
      sound_input settings moment before told (λ x m. TablesStand before x) (input_stands settings moment before before told []) told refl (all_same before) in
      tables_later before then_on final sound.fact (rest_stands settings origin entry)

  module _ (a : QueryRow) (is : nth before.queries k ≡ Some a) (run : is_running a ≡ true) where
    abbrev change : QueryRow → QueryRow
    change = answered_by settings moment (nth before.requests a.request) (Internal Died)

    abbrev answered : Tables
    answered = with_query change k before

    -- the input records the death, with the query
    records_it : after_input settings moment told before ≡ after_answer_for settings moment k a (Internal Died) before
    unfolding after_input
    records_it =
        ap (λ (o : Option QueryRow). after_answer settings moment k (Internal Died) o before) is
        ∙ ap (λ (b : Bool). cond b (after_answer_for settings moment k a (recorded_answer a.question.kind (Internal Died)) before) (continuing_none before)) run
        ∙ ap (λ (x : Answer). after_answer_for settings moment k a x before) (recorded_death a.question.kind)

    recorded_queries : then_on.queries ≡ changed_nth change before.queries k
    recorded_queries =
        ap (λ (h : AfterInput). h.tables.queries) records_it
        ∙ by_test (λ (h : AfterInput). h.tables.queries ≡ changed_nth change before.queries k) (is_lost before.queries k a (Internal Died)) (asks_again a.request answered) (answers_request a.request a.question (Internal Died) answered)
        (λ x. by_test (λ (h : AfterInput). h.tables.queries ≡ changed_nth change before.queries k) (passes_option is_undecided (nth before.requests a.request)) _ _ (λ y. refl) (λ y. refl))
        (λ x. by_test (λ (h : AfterInput). h.tables.queries ≡ changed_nth change before.queries k) (passes_option is_undecided (nth before.requests a.request)) _ _ (λ y. refl) (λ y. refl))

    -- what is lost at the end was lost by this answer
    lost_by_it : is_lost_in final.queries k ≡ true → is_lost before.queries k a (Internal Died) ≡ true
    lost_by_it lost =
        sym (lost_once_told change (λ x. record { request = refl; question = refl }) before.queries k a (Internal Died, moment) is refl)
        ∙ sym (ap (λ (qs : List QueryRow). is_lost_in qs k) recorded_queries)
        ∙ sym (lost_later then_on.queries final.queries (rest_stands settings origin entry).queries k (change a) (Internal Died, moment)
        (ap (λ (qs : List QueryRow). nth qs k) recorded_queries ∙ nth-changed change before.queries k ∙ ap (option_map change) is) refl)
        ∙ lost

    continues_it : is_lost before.queries k a (Internal Died) ≡ true → passes_option is_undecided (nth before.requests a.request) ≡ true → after_input settings moment told before ≡ continuing a.request answered
    continues_it lost u =
        records_it
        ∙ ap (λ (b : Bool). cond b (asks_again a.request answered) (answers_request a.request a.question (Internal Died) answered)) lost
        ∙ ap (λ (b : Bool). cond b (continuing a.request answered) (continuing_none answered)) u

    abbrev repeat_of : Request → QueryRow
    repeat_of r = record { request = a.request; question = a.question; password = query_password settings r a.question.kind; taken = None; answer = None; comparisons = [] }

    asks_it : is_lost before.queries k a (Internal Died) ≡ true → passes_option is_undecided (nth before.requests a.request) ≡ true → (r : Request) → nth before.requests a.request ≡ Some r → request_stage settings r ≡ Asks a.question →
        final.queries ≡ changed_nth change before.queries k ++ repeat_of r ∷ []
    unfolding after after_stage
    asks_it lost u r at stage =
        told_keeps (after_continued settings moment [] (after_input settings moment told before))
        ∙ ap (λ (h : AfterInput). (after_continued settings moment [] h).queries) (continues_it lost u)
        ∙ ap (λ (o : Option Request). (follows_for settings moment a.request o answered).queries) at
        ∙ ap (λ (s : Stage). (follows_from settings moment a.request r s answered).queries) stage

    -- the query of the next number
    repeat_there : (r : Request) → final.queries ≡ changed_nth change before.queries k ++ repeat_of r ∷ [] → nth final.queries (length origin.queries + 1) ≡ Some (repeat_of r)
    repeat_there r all =
        let number : length (changed_nth change before.queries k) ≡ length origin.queries = changed-length change before.queries k ∙ ap (λ (qs : List QueryRow). length qs) same_queries in
        let next : length origin.queries + 1 ≡ suc (length (changed_nth change before.queries k)) = omega (arith, number) in
        ap (λ (qs : List QueryRow). nth qs (length origin.queries + 1)) all ∙ ap (nth (changed_nth change before.queries k ++ repeat_of r ∷ [])) next ∙ nth-last (changed_nth change before.queries k) (repeat_of r)

  abbrev Repeats : QueryRow → Type 0
  Repeats b = (c : QueryRow) × (nth final.queries (length origin.queries + 1) ≡ Some c) × (c.request ≡ b.request) × (c.question ≡ b.question) × (c.taken ≡ None)

  asked_again : is_running_in origin k ≡ true → (b : QueryRow) (s : Request) → nth final.queries k ≡ Some b → is_lost_in final.queries k ≡ true → nth final.requests b.request ≡ Some s → is_undecided s ≡ true → Repeats b
  asked_again run b s there lost here u = of_row (passing is_running (nth before.queries k) (ap (λ (qs : List QueryRow). passes_option is_running (nth qs k)) same_queries ∙ run))
    where
      of_row : (a : QueryRow) × (nth before.queries k ≡ Some a) × (is_running a ≡ true) → Repeats b
      of_row (a, is, runs) = of_asked (before_all_asked settings moment told origin (history_asked settings g) k a is (none_there a.answer (not_true (is_some a.answer) (and_second (is_some a.taken) _ runs))))
        where
          stood : QueryStands a b
          stood = go (rows_stand.queries k a is)
            where
              go : (c : QueryRow) × (nth final.queries k ≡ Some c) × QueryStands a c → QueryStands a b
              go (c, at, x) = subst (QueryStands a) (same_Some c b (sym at ∙ there)) x

          of_asked : IsAsked settings before.requests before.queries k a → Repeats b
          of_asked i = (
            repeat_of a is runs i.request,
            repeat_there a is runs i.request (asks_it a is runs (lost_by_it a is runs lost) (ap (passes_option is_undecided) i.is_there ∙ open_before) i.request i.is_there (asking (request_stage settings i.request) a.question i.asks)),
            sym stood.request,
            sym stood.question,
            refl,
          )
            where
              open_before : is_undecided i.request ≡ true
              open_before = go (rows_stand.requests a.request i.request i.is_there)
                where
                  go : (t : Request) × (nth final.requests a.request ≡ Some t) × RequestStands i.request t → is_undecided i.request ≡ true
                  go (t, at, x) = was_undecided i.request s (subst (RequestStands i.request) (same_Some t s (sym at ∙ ap (nth final.requests) (sym stood.request) ∙ here)) x) u

-- ---- the law

-- of an entry with this input and these hits
abbrev AsksAgain : Settings → ℕ → Input → List ℕ → List Entry → ℕ → QueryRow → Request → Type 0
AsksAgain settings moment input hits g k a r =
    let e : Entry = record { moment = moment; input = input; hits = hits } in
    IsLegal settings (e ∷ g) → nth (tables_of settings (e ∷ g)).queries k ≡ Some a → is_lost_in (tables_of settings (e ∷ g)).queries k ≡ true →
    nth (tables_of settings (e ∷ g)).requests a.request ≡ Some r → is_undecided r ≡ true →
    (b : QueryRow) × (nth (tables_of settings (e ∷ g)).queries (length (tables_of settings g).queries + 1) ≡ Some b) × (b.request ≡ a.request) × (b.question ≡ a.question) × (b.taken ≡ None)

pub lost_is_asked_again : LostIsAskedAgain
lost_is_asked_again settings e g k a r legal l there lost here u quiet =
    subst (λ (i : Input). AsksAgain settings e.moment i e.hits g k a r) (sym l)
    (subst (λ (ns : List ℕ). AsksAgain settings e.moment (Answered k (Internal Died)) ns g k a r) (sym quiet)
    (λ x at was s v. asked_again settings e.moment g k x.1.is_allowed a r at was s v))
    legal there lost here u
