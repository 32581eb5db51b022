-- What a use of an answer compares is what it tests.
use Rattle.std.proofs.Common.{◌≡◌, ◌⊎◌, inl, inr, refl, sym, ◌∙◌, ap, Option, Some, None, List, ℕ, zero, suc, Bool, true, false, cond, not, ◌&&◌, is_none, option_and_then}
use Rattle.da_laws.proofs.WhatTestsSay.{chained}
use Rattle.std.proofs.lemmas.Option.{none-some, same_Some}
use Rattle.da_tables.proofs.Cases.{and_first, and_second, not_true}
use Rattle.da_base.specs.Words.{Bytes, nth, passes_option}
use Rattle.da_fields.specs.Answers.{fits, is_success}
use Rattle.da_fields.specs.declared.answer.Answer.{Answer}
use Rattle.da_fields.specs.declared.answer.Answer.TheVariants.{Found, Passed, Mismatch, Unknown, Internal}
use Rattle.da_fields.specs.declared.outcome.Outcome.{Outcome}
use Rattle.da_fields.specs.declared.outcome.Outcome.TheVariants.{Success as Succeeds, Mismatch as Mismatches, Internal as Fails}
use Rattle.da_schemes.specs.Stored.{StoredPassword, stored_password, matches}
use Rattle.da_passdb.specs.Outcomes.{query_kind, outcome, fitting_outcome, password_outcome, password_compared, password_comparison, compared_with, is_let_in, is_plaintext_proof}
use Rattle.da_passdb.specs.declared.database.Passdb.{Passdb}
use Rattle.da_passdb.specs.declared.login.Login.{Login}
use Rattle.da_passdb.specs.declared.login.Proof.{Proof}
use Rattle.da_passdb.specs.declared.login.Proof.TheVariants.{Plain, Cram, Scram}
use Rattle.da_laws.specs.ComparisonLaws.{IsRecordedAnswer, IsCompared, ComparisonsAreOfPasswords, HintsAreCompared}
use Rattle.da_play.specs.Comparing.{Compared, use_compares, known_answer, first_of_two, compares_from, recorded_compares, own_compares, compares_after, entry_compares, hint}
use Rattle.da_play.specs.History.{after_input, before_input, tables_of}
use Rattle.da_tables.specs.Tables.{with_due_replied, with_timed_out}
use Rattle.da_tables.specs.Hits.{hit_for, with_hit, database_count}
use Rattle.da_play.specs.Legal.{entry_moment}
use Rattle.da_play.specs.Play.{refusal}
use Rattle.da_tables.specs.Queries.{is_running}
use Rattle.da_tables.specs.RecordedAnswers.{recorded_answer}
use Rattle.da_request.specs.Requests.{request_stage, question_in, login_of, is_authentication, is_undecided}
use Rattle.da_play.specs.declared.input.Entry.{Entry}
use Rattle.da_play.specs.declared.input.Input.{Input}
use Rattle.da_play.specs.declared.input.Input.TheVariants.{Opened, Line, Broken, Gone, Take, Answered, Late, Tick}
use Rattle.da_play.specs.declared.outputs.Refused.{Refused}
use Rattle.da_settings.specs.declared.settings.Settings.{Settings}
use Rattle.da_tables.specs.declared.queries.QueryRow.{QueryRow}
use Rattle.da_request.specs.declared.stages.Question.{Question}
use Rattle.da_request.specs.declared.request.Request.{Request}
use Rattle.da_tables.specs.declared.tables.Tables.{Tables}

-- ---- one database

abbrev is_matching : Bool → Outcome
is_matching b = cond b Succeeds Mismatches

success_by : (b : Bool) → is_success (is_matching b) ≡ b
success_by true = refl
success_by false = refl

-- a plaintext password and a stored one that can be read: the outcome is whether they match
compared_outcome : (proof : Proof) (o : Option StoredPassword) (c : Compared) → compared_with proof o ≡ Some c → is_success (password_outcome proof o) ≡ matches c.0 c.1
compared_outcome (Plain password) None c e = absurd (none-some c e)
compared_outcome (Plain password) (Some stored) c e = success_by (matches stored password) ∙ ap (λ (x : Compared). matches x.0 x.1) (same_Some (stored, password) c e)
compared_outcome Cram o c e = absurd (none-some c e)
compared_outcome Scram o c e = absurd (none-some c e)

module _ (db : Passdb) (login : Login) (checked : Bool) (stored : Bytes) (fields : List (Bytes × Bytes)) where
  abbrev guard : Bool
  guard = fits (query_kind db) (Found stored fields) && is_plaintext_proof login.proof && not db.deny && not checked && is_let_in db login.vars fields

  let_in : guard ≡ true → is_let_in db login.vars fields ≡ true
  let_in g = and_second (fits (query_kind db) (Found stored fields) && is_plaintext_proof login.proof && not db.deny && not checked) _ g

  not_checked : guard ≡ true → checked ≡ false
  not_checked g = not_true checked (and_second (fits (query_kind db) (Found stored fields) && is_plaintext_proof login.proof && not db.deny) _
      (and_first (fits (query_kind db) (Found stored fields) && is_plaintext_proof login.proof && not db.deny && not checked) _ g))

  it_fits : guard ≡ true → fits (query_kind db) (Found stored fields) ≡ true
  it_fits g = and_first (fits (query_kind db) (Found stored fields)) _
      (and_first (fits (query_kind db) (Found stored fields) && is_plaintext_proof login.proof) _
      (and_first (fits (query_kind db) (Found stored fields) && is_plaintext_proof login.proof && not db.deny) _
      (and_first (fits (query_kind db) (Found stored fields) && is_plaintext_proof login.proof && not db.deny && not checked) _ g)))

  guarded_outcome : guard ≡ true → outcome db login checked (Found stored fields) ≡ password_outcome login.proof (stored_password db.default_scheme stored)
  unfolding outcome
  guarded_outcome g =
      ap (λ (b : Bool). cond b (fitting_outcome db login checked (Found stored fields)) Fails) (it_fits g)
      ∙ ap (λ (b : Bool). cond (not b) Mismatches (cond checked Succeeds (password_outcome login.proof (stored_password db.default_scheme stored)))) (let_in g)
      ∙ ap (λ (b : Bool). cond b Succeeds (password_outcome login.proof (stored_password db.default_scheme stored))) (not_checked g)

  found_test : (c : Compared) → password_compared db login checked (Found stored fields) ≡ Some c → password_comparison db login checked (Found stored fields) ≡ Some (matches c.0 c.1)
  unfolding password_compared password_comparison
  found_test c e =
      let both : (guard ≡ true) × (compared_with login.proof (stored_password db.default_scheme stored) ≡ Some c) = gives guard _ e in
      ap (λ (b : Bool). cond b (Some (is_success (outcome db login checked (Found stored fields)))) None) both.0
      ∙ ap (λ (x : Outcome). Some (is_success x)) (guarded_outcome both.0)
      ∙ ap (λ (b : Bool). Some b) (compared_outcome login.proof (stored_password db.default_scheme stored) c both.1)
    where
      gives : (b : Bool) (o : Option Compared) → cond b o None ≡ Some c → (b ≡ true) × (o ≡ Some c)
      gives true o d = (refl, d)
      gives false o d = absurd (none-some c d)

check_is_test : (db : Passdb) (login : Login) (checked : Bool) (answer : Answer) (c : Compared) → password_compared db login checked answer ≡ Some c → password_comparison db login checked answer ≡ Some (matches c.0 c.1)
unfolding password_compared
check_is_test db login checked (Found stored fields) c e = found_test db login checked stored fields c e
check_is_test db login checked (Passed fields) c e = absurd (none-some c e)
check_is_test db login checked Mismatch c e = absurd (none-some c e)
check_is_test db login checked Unknown c e = absurd (none-some c e)
check_is_test db login checked (Internal why) c e = absurd (none-some c e)

-- ---- one use

pub comparisons_are_of_passwords : ComparisonsAreOfPasswords
comparisons_are_of_passwords settings r q answer c e = go (is_authentication r.body) e
  where
    go : (b : Bool) → cond b (option_and_then (λ login. option_and_then (λ db. password_compared db login q.checked answer) (nth settings.passdb q.db)) (login_of settings r)) None ≡ Some c →
        cond b (option_and_then (λ login. option_and_then (λ db. password_comparison db login q.checked answer) (nth settings.passdb q.db)) (login_of settings r)) None ≡ Some (matches c.0 c.1)
    go false d = absurd (none-some c d)
    go true d = of_login (chained (λ login. option_and_then (λ db. password_compared db login q.checked answer) (nth settings.passdb q.db)) (login_of settings r) c d)
      where
        of_login : (login : Login) × (login_of settings r ≡ Some login) × (option_and_then (λ db. password_compared db login q.checked answer) (nth settings.passdb q.db) ≡ Some c) →
            option_and_then (λ login. option_and_then (λ db. password_comparison db login q.checked answer) (nth settings.passdb q.db)) (login_of settings r) ≡ Some (matches c.0 c.1)
        of_login (login, is, x) = ap (option_and_then (λ l. option_and_then (λ db. password_comparison db l q.checked answer) (nth settings.passdb q.db))) is
            ∙ of_db (chained (λ db. password_compared db login q.checked answer) (nth settings.passdb q.db) c x)
          where
            of_db : (db : Passdb) × (nth settings.passdb q.db ≡ Some db) × (password_compared db login q.checked answer ≡ Some c) →
                option_and_then (λ db. password_comparison db login q.checked answer) (nth settings.passdb q.db) ≡ Some (matches c.0 c.1)
            of_db (db, at, y) = ap (option_and_then (λ d. password_comparison d login q.checked answer)) at ∙ check_is_test db login q.checked answer c y

-- ---- what an entry compares

module _ (settings : Settings) (moment : ℕ) (tables : Tables) (input : Input) (c : Compared) where
  compared : (r : Request) (q : Question) (answer : Answer) → use_compares settings r q answer ≡ Some c → IsRecordedAnswer tables input q answer ⊎ (known_answer settings moment tables q ≡ Some answer) →
      IsCompared settings moment tables input c
  compared r q answer e known = record { request = r; question = q; answer = answer; is_compared = e; is_comparison = comparisons_are_of_passwords settings r q answer c e; is_known = known }

  either : (a b : Option Compared) → first_of_two a b ≡ Some c → (a ≡ Some c) ⊎ (b ≡ Some c)
  either None b e = inr e
  either (Some x) b e = inl e

  from_known : (r : Request) (q : Question) → option_and_then (use_compares settings r q) (known_answer settings moment tables q) ≡ Some c → IsCompared settings moment tables input c
  from_known r q e = go (chained (use_compares settings r q) (known_answer settings moment tables q) c e)
    where
      go : (answer : Answer) × (known_answer settings moment tables q ≡ Some answer) × (use_compares settings r q answer ≡ Some c) → IsCompared settings moment tables input c
      go (answer, is, x) = compared r q answer x (inr is)

  from_chain : (n : ℕ) (r : Request) → compares_from n settings moment tables r ≡ Some c → IsCompared settings moment tables input c
  from_chain zero r e = absurd (none-some c e)
  from_chain (suc n) r e = of_question (from_chain n) (chained (λ q. first_of_two (option_and_then (use_compares settings r q) (known_answer settings moment tables q))
      (option_and_then (λ number. compares_from n settings moment tables (with_hit tables q number r)) (hit_for settings moment tables r q))) (question_in (request_stage settings r)) c e)
    where
      of_question : ((s : Request) → compares_from n settings moment tables s ≡ Some c → IsCompared settings moment tables input c) →
          (q : Question) × (question_in (request_stage settings r) ≡ Some q) × (first_of_two (option_and_then (use_compares settings r q) (known_answer settings moment tables q))
          (option_and_then (λ number. compares_from n settings moment tables (with_hit tables q number r)) (hit_for settings moment tables r q)) ≡ Some c) → IsCompared settings moment tables input c
      of_question further (q, is, x) = which (either _ _ x)
        where
          which : (option_and_then (use_compares settings r q) (known_answer settings moment tables q) ≡ Some c)
              ⊎ (option_and_then (λ number. compares_from n settings moment tables (with_hit tables q number r)) (hit_for settings moment tables r q) ≡ Some c) → IsCompared settings moment tables input c
          which (inl y) = from_known r q y
          which (inr y) = hit (chained (λ number. compares_from n settings moment tables (with_hit tables q number r)) (hit_for settings moment tables r q) c y)
            where
              hit : (number : ℕ) × (hit_for settings moment tables r q ≡ Some number) × (compares_from n settings moment tables (with_hit tables q number r) ≡ Some c) → IsCompared settings moment tables input c
              hit (number, at, z) = further (with_hit tables q number r) z

  module _ (before : Tables) (same : (query : ℕ) (given : Answer) → input ≡ Answered query given → before.queries ≡ tables.queries) where
    from_row : (query : ℕ) (given : Answer) → input ≡ Answered query given → (o : Option QueryRow) → nth before.queries query ≡ o → recorded_compares settings before given o ≡ Some c → IsCompared settings moment tables input c
    from_row query given l None is e = absurd (none-some c e)
    from_row query given l (Some a) is e = go (gives (is_running a && passes_option is_undecided (nth before.requests a.request)) _ e)
      where
        gives : (b : Bool) (o : Option Compared) → cond b o None ≡ Some c → o ≡ Some c
        gives true o d = d
        gives false o d = absurd (none-some c d)

        go : option_and_then (λ r. use_compares settings r a.question (recorded_answer a.question.kind given)) (nth before.requests a.request) ≡ Some c → IsCompared settings moment tables input c
        go x = of_request (chained (λ r. use_compares settings r a.question (recorded_answer a.question.kind given)) (nth before.requests a.request) c x)
          where
            of_request : (r : Request) × (nth before.requests a.request ≡ Some r) × (use_compares settings r a.question (recorded_answer a.question.kind given) ≡ Some c) → IsCompared settings moment tables input c
            of_request (r, at, y) = compared r a.question (recorded_answer a.question.kind given) y
                (inl (record { query = query; given = given; is_answered = l; row = a; is_there = ap (λ (qs : List QueryRow). nth qs query) (sym (same query given l)) ∙ is; asks = refl; is_answer_recorded = refl }))

    from_own : (i : Input) → input ≡ i → own_compares settings before i ≡ Some c → IsCompared settings moment tables input c
    from_own (Opened kind random) l e = absurd (none-some c e)
    from_own (Line conn text random) l e = absurd (none-some c e)
    from_own (Broken conn) l e = absurd (none-some c e)
    from_own (Gone conn) l e = absurd (none-some c e)
    from_own Take l e = absurd (none-some c e)
    from_own (Answered query given) l e = from_row query given l (nth before.queries query) refl e
    from_own (Late query) l e = absurd (none-some c e)
    from_own Tick l e = absurd (none-some c e)

-- where an answer comes, no query is handed out before it
same_queries : (settings : Settings) (moment : ℕ) (tables : Tables) (query : ℕ) (given : Answer) → (before_input settings moment (Answered query given) tables).queries ≡ tables.queries
unfolding before_input with_due_replied with_timed_out
same_queries settings moment tables query given = refl

answered_queries : (settings : Settings) (moment : ℕ) (tables : Tables) (input : Input) (query : ℕ) (given : Answer) → input ≡ Answered query given → (before_input settings moment input tables).queries ≡ tables.queries
answered_queries settings moment tables input query given l = ap (λ (i : Input). (before_input settings moment i tables).queries) l ∙ same_queries settings moment tables query given

what_entries_compare : (settings : Settings) (g : List Entry) (moment : ℕ) (input : Input) (c : Compared) → entry_compares settings g moment input ≡ Some c → IsCompared settings moment (tables_of settings g) input c
unfolding entry_compares
what_entries_compare settings g moment input c e =
    which (either settings moment (tables_of settings g) input c (own_compares settings (before_input settings moment input (tables_of settings g)) input) (compares_after settings moment (tables_of settings g) (after_input settings moment input (before_input settings moment input (tables_of settings g)))) e)
  where
    which : (own_compares settings (before_input settings moment input (tables_of settings g)) input ≡ Some c) ⊎ (compares_after settings moment (tables_of settings g) (after_input settings moment input (before_input settings moment input (tables_of settings g))) ≡ Some c) → IsCompared settings moment (tables_of settings g) input c
    which (inl x) = from_own settings moment (tables_of settings g) input c (before_input settings moment input (tables_of settings g)) (answered_queries settings moment (tables_of settings g) input) input refl x
    which (inr x) = of_continued (chained (compares_from (database_count settings) settings moment (tables_of settings g)) (option_and_then (nth (after_input settings moment input (before_input settings moment input (tables_of settings g))).tables.requests) (after_input settings moment input (before_input settings moment input (tables_of settings g))).continued) c x)
      where
        of_continued : (r : Request) × (option_and_then (nth (after_input settings moment input (before_input settings moment input (tables_of settings g))).tables.requests) (after_input settings moment input (before_input settings moment input (tables_of settings g))).continued ≡ Some r) × (compares_from (database_count settings) settings moment (tables_of settings g) r ≡ Some c) → IsCompared settings moment (tables_of settings g) input c
        of_continued (r, at, y) = from_chain settings moment (tables_of settings g) input c (database_count settings) r y

pub hints_are_compared : HintsAreCompared
unfolding hint
hints_are_compared settings h m input c e = go (refusal settings h (entry_moment h m) input) refl e
  where
    go : (o : Option Refused) → refusal settings h (entry_moment h m) input ≡ o → cond (is_none o) (entry_compares settings h (entry_moment h m) input) None ≡ Some c →
        (refusal settings h (entry_moment h m) input ≡ None) × IsCompared settings (entry_moment h m) (tables_of settings h) input c
    go None d x = (d, what_entries_compare settings h (entry_moment h m) input c x)
    go (Some refused) d x = absurd (none-some c x)
