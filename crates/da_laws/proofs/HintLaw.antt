-- A hint is the first of all that its entry compares.
use Rattle.std.proofs.Common.{◌≡◌, refl, sym, ◌∙◌, ap, Option, Some, None, List, [], ◌∷◌, ◌++◌, ℕ, zero, suc, ◌+◌, ◌≤◌, Bool, true, false, cond, ◌&&◌, is_none, option_and_then, option_to_list, arith}
use Rattle.da_base.specs.Words.{nth, passes_option, option_or_else}
use Rattle.da_fields.specs.declared.answer.Answer.TheVariants.{Mismatch}
use Rattle.da_tables.specs.Hits.{hit_for, hits_from, with_hit, database_count}
use Rattle.da_tables.specs.RecordedAnswers.{recorded_answer}
use Rattle.da_steps.proofs.AskedDatabases.{open_count, with_one, fewer, body_numbers, request_asks}
use Rattle.da_steps.proofs.HitsMade.{open_of, hit_leaves_fewer, enough}
use Rattle.da_laws.specs.ComparisonLaws.{recorded_uses, known_uses, after_hit, uses_in_turn, entry_uses, HintsAreTheFirst}
use Rattle.da_play.specs.Comparing.{Compared, compares_after, compares_from, entry_compares, first_of_two, hint, known_answer, own_compares, recorded_compares, use_compares}
use Rattle.da_play.specs.History.{after_input, before_input, tables_of}
use Rattle.da_play.specs.Legal.{entry_moment}
use Rattle.da_play.specs.Play.{hits, refusal}
use Rattle.da_play.specs.declared.input.Entry.{Entry}
use Rattle.da_play.specs.declared.input.Input.{Input}
use Rattle.da_play.specs.declared.input.Input.TheVariants.{Opened, Line, Broken, Gone, Take, Answered, Late, Tick}
use Rattle.da_request.specs.Requests.{is_undecided, question_in, request_stage}
use Rattle.da_request.specs.declared.request.Request.{Request}
use Rattle.da_request.specs.declared.stages.Question.{Question}
use Rattle.da_settings.specs.declared.settings.Settings.{Settings}
use Rattle.da_tables.specs.Queries.{is_running}
use Rattle.da_tables.specs.Tables.{AfterInput}
use Rattle.da_tables.specs.declared.queries.QueryRow.{QueryRow}
use Rattle.da_tables.specs.declared.tables.Tables.{Tables}

-- ---- the first of a list that begins with an option

first_with : {A : Type 0} (o : Option A) (xs : List A) → first_of_two o (nth xs 1) ≡ nth (option_to_list o ++ xs) 1
first_with None xs = refl
first_with (Some x) xs = refl

first_alone : {A : Type 0} (o : Option A) → first_of_two o None ≡ nth (option_to_list o) 1
first_alone None = refl
first_alone (Some x) = refl

-- ---- along the hits

module _ (settings : Settings) (moment : ℕ) (tables : Tables) where
  abbrev known : Request → Question → Option Compared
  known r q = option_and_then (use_compares settings r q) (known_answer settings moment tables q)

  abbrev further : ℕ → Request → Question → Option Compared
  further databases r q = option_and_then (λ number. compares_from databases settings moment tables (with_hit tables q number r)) (hit_for settings moment tables r q)

  abbrev more_hits : ℕ → Request → Question → List ℕ
  more_hits databases r q = option_or_else (hit_for settings moment tables r q) [] (λ number. number ∷ hits_from databases settings moment tables (with_hit tables q number r))

  abbrev IsFirst : ℕ → Request → Type 0
  IsFirst databases r = compares_from databases settings moment tables r ≡ nth (uses_in_turn settings moment tables r (hits_from databases settings moment tables r)) 1

  -- a request that asks nothing compares nothing
  asks_nothing : (databases : ℕ) (r : Request) → question_in (request_stage settings r) ≡ None → compares_from databases settings moment tables r ≡ None
  asks_nothing zero r e = refl
  asks_nothing (suc databases) r e = ap (option_and_then (λ q. first_of_two (known r q) (further databases r q))) e

  known_none : (r : Request) → question_in (request_stage settings r) ≡ None → known_uses settings moment tables r ≡ []
  known_none r e = ap (λ (o : Option Question). option_to_list (option_and_then (known r) o)) e

  known_some : (r : Request) (q : Question) → question_in (request_stage settings r) ≡ Some q → known_uses settings moment tables r ≡ option_to_list (known r q)
  known_some r q e = ap (λ (o : Option Question). option_to_list (option_and_then (known r) o)) e

  -- no database is left that it could ask
  asks_no_more : (r : Request) → open_of settings r ≤ 0 → (o : Option Question) → question_in (request_stage settings r) ≡ o → o ≡ None
  asks_no_more r few None e = refl
  asks_no_more r few (Some q) e =
      let some_open : open_count (with_one r.answers q.db Mismatch) (body_numbers settings r.body) + 1 ≤ open_of settings r = fewer r.answers q.db Mismatch (body_numbers settings r.body) (request_asks settings r q e) in
      let bad : ⊥ = omega (arith, few, some_open) in absurd bad

  first_in_turn : (databases : ℕ) (r : Request) → open_of settings r ≤ databases → IsFirst databases r
  first_in_turn zero r few = sym (ap (λ (xs : List Compared). nth xs 1) (known_none r (asks_no_more r few (question_in (request_stage settings r)) refl)))
  first_in_turn (suc databases) r few = by_question (first_in_turn databases) (question_in (request_stage settings r)) refl
    where
      -- where no hit answers the question
      stops : (q : Question) → question_in (request_stage settings r) ≡ Some q → hit_for settings moment tables r q ≡ None → IsFirst (suc databases) r
      stops q e h =
          ap (option_and_then (λ (p : Question). first_of_two (known r p) (further databases r p))) e
          ∙ ap (λ (o : Option ℕ). first_of_two (known r q) (option_and_then (λ number. compares_from databases settings moment tables (with_hit tables q number r)) o)) h
          ∙ first_alone (known r q)
          ∙ sym (ap (λ (xs : List Compared). nth xs 1) (known_some r q e))
          ∙ sym (ap (λ (ns : List ℕ). nth (uses_in_turn settings moment tables r ns) 1)
          (ap (λ (o : Option Question). option_or_else o [] (more_hits databases r)) e ∙ ap (λ (o : Option ℕ). option_or_else o [] (λ number. number ∷ hits_from databases settings moment tables (with_hit tables q number r))) h))

      -- where a hit answers it
      goes_on : (q : Question) (number : ℕ) → question_in (request_stage settings r) ≡ Some q → hit_for settings moment tables r q ≡ Some number → IsFirst databases (with_hit tables q number r) → IsFirst (suc databases) r
      goes_on q number e h rest =
          ap (option_and_then (λ (p : Question). first_of_two (known r p) (further databases r p))) e
          ∙ ap (λ (o : Option ℕ). first_of_two (known r q) (option_and_then (λ n. compares_from databases settings moment tables (with_hit tables q n r)) o)) h
          ∙ ap (first_of_two (known r q)) rest
          ∙ first_with (known r q) (uses_in_turn settings moment tables (with_hit tables q number r) (hits_from databases settings moment tables (with_hit tables q number r)))
          ∙ sym (ap (λ (s : Request). nth (option_to_list (known r q) ++ uses_in_turn settings moment tables s (hits_from databases settings moment tables (with_hit tables q number r))) 1)
          (ap (λ (o : Option Question). option_or_else o r (λ p. with_hit tables p number r)) e))
          ∙ sym (ap (λ (xs : List Compared). nth (xs ++ uses_in_turn settings moment tables (after_hit settings tables r number) (hits_from databases settings moment tables (with_hit tables q number r))) 1) (known_some r q e))
          ∙ sym (ap (λ (ns : List ℕ). nth (uses_in_turn settings moment tables r ns) 1)
          (ap (λ (o : Option Question). option_or_else o [] (more_hits databases r)) e ∙ ap (λ (o : Option ℕ). option_or_else o [] (λ n. n ∷ hits_from databases settings moment tables (with_hit tables q n r))) h))

      by_hit : ((s : Request) → open_of settings s ≤ databases → IsFirst databases s) → (q : Question) → question_in (request_stage settings r) ≡ Some q → (o : Option ℕ) → hit_for settings moment tables r q ≡ o → IsFirst (suc databases) r
      by_hit rest q e None h = stops q e h
      by_hit rest q e (Some number) h =
          let less : open_of settings (with_hit tables q number r) + 1 ≤ open_of settings r = hit_leaves_fewer settings moment tables r q number e h in
          goes_on q number e h (rest (with_hit tables q number r) (omega (arith, less, few)))

      by_question : ((s : Request) → open_of settings s ≤ databases → IsFirst databases s) → (o : Option Question) → question_in (request_stage settings r) ≡ o → IsFirst (suc databases) r
      by_question rest None e =
          asks_nothing (suc databases) r e
          ∙ sym (ap (λ (xs : List Compared). nth xs 1) (known_none r e))
          ∙ sym (ap (λ (ns : List ℕ). nth (uses_in_turn settings moment tables r ns) 1) (ap (λ (o : Option Question). option_or_else o [] (more_hits databases r)) e))
      by_question rest (Some q) e = by_hit rest q e (hit_for settings moment tables r q) refl

-- ---- the answer that an entry records

first_of_lists : {A : Type 0} (xs ys : List A) → first_of_two (nth xs 1) (nth ys 1) ≡ nth (xs ++ ys) 1
first_of_lists [] ys = refl
first_of_lists (x ∷ xs) ys = refl

alone : {A : Type 0} (o : Option A) → o ≡ nth (option_to_list o) 1
alone None = refl
alone (Some x) = refl

recorded_first : (settings : Settings) (before : Tables) (input : Input) → own_compares settings before input ≡ nth (recorded_uses settings before input) 1
recorded_first settings before (Opened kind random) = refl
recorded_first settings before (Line conn text random) = refl
recorded_first settings before (Broken conn) = refl
recorded_first settings before (Gone conn) = refl
recorded_first settings before Take = refl
recorded_first settings before (Answered query given) = of_row (nth before.queries query)
  where
    allowed : (running undecided : Bool) (o : Option Compared) → cond (running && undecided) o None ≡ nth (cond running (cond undecided (option_to_list o) []) []) 1
    allowed false undecided o = refl
    allowed true false o = refl
    allowed true true o = alone o

    of_request : (running : Bool) (compared : Request → Option Compared) (o : Option Request) →
        cond (running && passes_option is_undecided o) (option_and_then compared o) None ≡ nth (option_or_else o [] (λ r. cond running (cond (is_undecided r) (option_to_list (compared r)) []) [])) 1
    of_request false compared None = refl
    of_request true compared None = refl
    of_request running compared (Some r) = allowed running (is_undecided r) (compared r)

    of_row : (o : Option QueryRow) → recorded_compares settings before given o ≡ nth (option_or_else o [] (λ row.
        option_or_else (nth before.requests row.request) [] (λ r.
        cond (is_running row) (cond (is_undecided r) (option_to_list (use_compares settings r row.question (recorded_answer row.question.kind given))) []) []))) 1
    of_row None = refl
    of_row (Some row) = of_request (is_running row) (λ r. use_compares settings r row.question (recorded_answer row.question.kind given)) (nth before.requests row.request)
recorded_first settings before (Late query) = refl
recorded_first settings before Tick = refl

-- ---- an entry

module _ (settings : Settings) (g : List Entry) (moment : ℕ) (input : Input) where
  abbrev before : Tables
  before = before_input settings moment input (tables_of settings g)

  abbrev there : AfterInput
  there = after_input settings moment input before

  abbrev continuing : Option Request
  continuing = option_and_then (nth there.tables.requests) there.continued

  own_hits : (r : Request) → continuing ≡ Some r → hits settings g moment input ≡ hits_from (database_count settings) settings moment (tables_of settings g) r
  unfolding hits
  own_hits r e = ap (λ (o : Option Request). option_or_else o [] (hits_from (database_count settings) settings moment (tables_of settings g))) e

  follows_first : (o : Option Request) → continuing ≡ o → option_and_then (compares_from (database_count settings) settings moment (tables_of settings g)) o
      ≡ nth (option_or_else o [] (λ r. uses_in_turn settings moment (tables_of settings g) r (hits settings g moment input))) 1
  follows_first None e = refl
  follows_first (Some r) e = first_in_turn settings moment (tables_of settings g) (database_count settings) r (enough settings r.answers r.body)
      ∙ sym (ap (λ (ns : List ℕ). nth (uses_in_turn settings moment (tables_of settings g) r ns) 1) (own_hits r e))

  entry_first : entry_compares settings g moment input ≡ nth (entry_uses settings g moment input) 1
  unfolding entry_compares
  entry_first =
      ap (λ (o : Option Compared). first_of_two o (compares_after settings moment (tables_of settings g) there)) (recorded_first settings before input)
      ∙ ap (first_of_two (nth (recorded_uses settings before input) 1)) (follows_first continuing refl)
      ∙ first_of_lists (recorded_uses settings before input) (option_or_else continuing [] (λ r. uses_in_turn settings moment (tables_of settings g) r (hits settings g moment input)))

pub hints_are_the_first : HintsAreTheFirst
unfolding hint
hints_are_the_first settings h m input =
    ap (λ (o : Option Compared). cond (is_none (refusal settings h (entry_moment h m) input)) o None) (entry_first settings h (entry_moment h m) input)
