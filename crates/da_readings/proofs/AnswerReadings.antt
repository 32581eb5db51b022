-- The answers of a request are those of its own queries and of its hits; the cacheable answers are the answers that may be kept.
use Rattle.std.proofs.Common.{◌≡◌, refl, sym, ◌∙◌, ap, ap₂, subst, Option, Some, None, List, [], ◌∷◌, ◌++◌, ℕ, Bool, true, false, cond, ◌&&◌, true≢false}
use Rattle.da_play.proofs.EntryParts.{InputParts, ContinuedParts, IsSound, sound_input, continued_gives, with_kept, before_gives, told_queries}
use Rattle.da_steps.proofs.Standing.{input_stands, continued_stands, all_same}
use Rattle.da_base.specs.Words.{nth, passes_option, option_or_else}
use Rattle.da_readings.specs.ListReadings.{kept_query, CacheableAreRead}
use Rattle.da_play.specs.History.{tables_of, after, after_input, after_continued, before_input, keeps, kept_for}
use Rattle.da_tables.specs.Tables.{with_due_replied, with_timed_out}
use Rattle.da_tables.specs.RecordedAnswers.{is_kept, recorded_answer}
use Rattle.da_tables.specs.Queries.{is_running, is_running_in}
use Rattle.da_steps.specs.Standing.{TablesStand, QueryStands}
use Rattle.da_tables.specs.Tables.{AfterInput, with_end}
use Rattle.da_play.specs.History.{Tells}
use Rattle.da_play.specs.declared.input.Entry.{Entry}
use Rattle.da_play.specs.declared.input.Input.{Input}
use Rattle.da_play.specs.declared.input.Input.TheVariants.{Opened, Line, Broken, Gone, Take, Answered, Late, Tick}
use Rattle.da_settings.specs.declared.settings.Settings.{Settings}
use Rattle.da_tables.specs.declared.queries.QueryRow.{QueryRow}
use Rattle.da_request.specs.declared.stages.Question.{Question}
use Rattle.da_tables.specs.declared.tables.Tables.{Tables}

-- ---- cacheable answers

abbrev is_tick : Input → Bool
is_tick Tick = true
is_tick _ = false

module _ (settings : Settings) (e : Entry) (origin : Tables) where
  abbrev before : Tables
  before = before_input settings e.moment e.input origin

  abbrev h : AfterInput
  h = after_input settings e.moment e.input before

  -- nothing is recorded among the cacheable answers yet
  record Unkept (these : Tables) : Type 0 where
    pub cacheable : these.cacheable ≡ before.cacheable
    pub tables : TablesStand before these

  stand : InputParts settings e.moment before e.input (λ tables m. TablesStand before tables)
  stand = input_stands settings e.moment before before e.input e.hits

  end_same : (conn : ℕ) → (with_end conn before).cacheable ≡ before.cacheable
  unfolding with_end
  end_same conn = refl

  input_unkept : InputParts settings e.moment before e.input (λ tables m. Unkept tables)
  input_unkept = record {
    opens = λ kind random l p. record { cacheable = p.cacheable; tables = stand.opens kind random l p.tables };
    tells = λ conn change k told p. record { cacheable = p.cacheable; tables = stand.tells conn change k told p.tables };
    ends = λ conn x p. record { cacheable = end_same conn; tables = stand.ends conn x p.tables };
    cancels = λ n x p. record { cacheable = p.cacheable; tables = stand.cancels n x p.tables };
    texts = λ conn id random text m r is w p. record { cacheable = p.cacheable; tables = stand.texts conn id random text m r is w p.tables };
    makes = λ conn id random body m p. record { cacheable = p.cacheable; tables = stand.makes conn id random body m p.tables };
    loses = λ query given a g is run lost u p. record { cacheable = p.cacheable; tables = stand.loses query given a g is run lost u p.tables };
    loses_late = λ query given a g is run lost u p. record { cacheable = p.cacheable; tables = stand.loses_late query given a g is run lost u p.tables };
    answers = λ query given a g is run counts u p. record { cacheable = p.cacheable; tables = stand.answers query given a g is run counts u p.tables };
    lates = λ query given a g is run counts u p. record { cacheable = p.cacheable; tables = stand.lates query given a g is run counts u p.tables };
  }

  -- what comes before an answer is kept is the same for every input: for a Tick nothing is kept
  stand_continued : ContinuedParts settings e.moment before Tick e.hits (λ tables m done. TablesStand before tables) (λ tables m. TablesStand before tables)
  stand_continued = continued_stands settings e.moment before before Tick e.hits

  unkept_continued : ContinuedParts settings e.moment before Tick e.hits (λ tables m done. Unkept tables) (λ tables m. Unkept tables)
  unkept_continued = record {
    hit = λ tables continued number done rest a p is x w u q. record { cacheable = q.cacheable; tables = stand_continued.hit tables continued number done rest a p is x w u q.tables };
    misses = λ tables continued number done rest x w q. q;
    rests = λ tables q. q;
    awaits = λ tables n r text is u x q. q;
    asks = λ tables n r question is u x q. record { cacheable = q.cacheable; tables = stand_continued.asks tables n r question is u x q.tables };
    decides = λ tables n r d is u x q. record { cacheable = q.cacheable; tables = stand_continued.decides tables n r d is u x q.tables };
    kept = λ tables m query given a l run is k q. absurd (true≢false (ap is_tick l));
  }

  abbrev last : Tables
  last = after_continued settings e.moment e.hits h

  last_unkept : Unkept last
  last_unkept =
      let s : IsSound settings e.moment before e.input (λ tables m. Unkept tables) input_unkept h = sound_input settings e.moment before e.input (λ tables m. Unkept tables) input_unkept e.input refl (record { cacheable = refl; tables = all_same before }) in
      continued_gives settings e.moment before Tick e.hits (λ tables m done. Unkept tables) (λ tables m. Unkept tables) unkept_continued h s.fact s.continued

  keeps_on_top : (tables : Tables) → Unkept tables → (input : Input) → (keeps settings before input tables).cacheable ≡ kept_query before.queries input ++ before.cacheable
  keeps_on_top tables u (Opened kind random) = u.cacheable
  keeps_on_top tables u (Line conn text random) = u.cacheable
  keeps_on_top tables u (Broken conn) = u.cacheable
  keeps_on_top tables u (Gone conn) = u.cacheable
  keeps_on_top tables u Take = u.cacheable
  keeps_on_top tables u (Late query) = u.cacheable
  keeps_on_top tables u Tick = u.cacheable
  keeps_on_top tables u (Answered query given) = go (nth before.queries query) refl
    where
      of_row : (a : QueryRow) → nth before.queries query ≡ Some a → (b : QueryRow) → nth tables.queries query ≡ Some b → b.question ≡ a.question →
          (kept_for settings query given (nth tables.queries query) tables).cacheable ≡ cond (is_kept a.question.kind (recorded_answer a.question.kind given)) (query ∷ []) [] ++ before.cacheable
      of_row a is b at q = ap (λ (o : Option QueryRow). (kept_for settings query given o tables).cacheable) at
          ∙ by_kind (is_kept b.question.kind (recorded_answer b.question.kind given))
          ∙ ap (λ (x : Question). cond (is_kept x.kind (recorded_answer x.kind given)) (query ∷ []) [] ++ before.cacheable) q
        where
          by_kind : (c : Bool) → (cond c (with_kept settings query b.question (recorded_answer b.question.kind given) tables) tables).cacheable ≡ cond c (query ∷ []) [] ++ before.cacheable
          by_kind true = ap (λ ns. query ∷ ns) u.cacheable
          by_kind false = u.cacheable

      go : (o : Option QueryRow) → nth before.queries query ≡ o →
          (cond (is_running_in before query) (kept_for settings query given (nth tables.queries query) tables) tables).cacheable
          ≡ option_or_else o [] (λ a. cond (is_running a && is_kept a.question.kind (recorded_answer a.question.kind given)) (query ∷ []) []) ++ before.cacheable
      go None is = ap (λ (b : Bool). (cond b (kept_for settings query given (nth tables.queries query) tables) tables).cacheable) (ap (passes_option is_running) is) ∙ u.cacheable
      go (Some a) is = ap (λ (b : Bool). (cond b (kept_for settings query given (nth tables.queries query) tables) tables).cacheable) (ap (passes_option is_running) is) ∙ by_run (is_running a)
        where
          kept_row : (b : QueryRow) × (nth tables.queries query ≡ Some b) × QueryStands a b → (kept_for settings query given (nth tables.queries query) tables).cacheable ≡ cond (is_kept a.question.kind (recorded_answer a.question.kind given)) (query ∷ []) [] ++ before.cacheable
          kept_row (b, at, k) = of_row a is b at k.question

          by_run : (c : Bool) → (cond c (kept_for settings query given (nth tables.queries query) tables) tables).cacheable ≡ cond (c && is_kept a.question.kind (recorded_answer a.question.kind given)) (query ∷ []) [] ++ before.cacheable
          by_run true = kept_row (u.tables.queries query a is)
          by_run false = u.cacheable

  -- nothing is kept before the input's own effect
  same_cacheable : before.cacheable ≡ origin.cacheable
  unfolding with_due_replied with_timed_out
  same_cacheable = before_gives settings e.moment origin e.input (λ t. t.cacheable ≡ origin.cacheable) (λ t. t.cacheable ≡ origin.cacheable) (λ t. t.cacheable ≡ origin.cacheable)
      (record { takes = λ l. refl; stays = refl; times_out = λ t q. q; replies = λ t q. q })

  -- and an answer is told to the queries as they were
  same_kept : (i : Input) → e.input ≡ i → kept_query before.queries i ≡ kept_query origin.queries i
  same_kept (Opened kind random) l = refl
  same_kept (Line conn text random) l = refl
  same_kept (Broken conn) l = refl
  same_kept (Gone conn) l = refl
  same_kept Take l = refl
  same_kept (Answered query given) l = ap (λ (qs : List QueryRow). kept_query qs (Answered query given)) (told_queries settings e.moment origin e.input query given (subst (λ (i : Input). Tells i query given) (sym l) (refl, refl)))
  same_kept (Late query) l = refl
  same_kept Tick l = refl

  entry_kept : (after settings origin e).cacheable ≡ kept_query origin.queries e.input ++ origin.cacheable
  unfolding after
  entry_kept = keeps_on_top last last_unkept e.input ∙ ap₂ (λ (xs ys : List ℕ). xs ++ ys) (same_kept e.input refl) same_cacheable

pub cacheable_are_read : CacheableAreRead
cacheable_are_read settings [] = refl
cacheable_are_read settings (e ∷ g) = entry_kept settings e (tables_of settings g) ∙ ap (λ ns. kept_query (tables_of settings g).queries e.input ++ ns) (cacheable_are_read settings g)
