-- The hits that the server makes are the hits: each answers one more database, so they come to an end.
use Rattle.std.proofs.Common.{◌≡◌, refl, sym, ◌∙◌, ap, subst, Option, Some, None, List, [], ◌∷◌, ℕ, zero, suc, ◌+◌, ◌≤◌, Bool, true, false, cond, ◌&&◌, length, option_map, option_and_then, true≢false, arith}
use Rattle.std.proofs.lemmas.Option.{none-some, same_Some}
use Rattle.std.proofs.lemmas.List.{length-map}
use Rattle.da_tables.proofs.Cases.{and_second}
use Rattle.da_base.specs.Words.{nth, passes_option, option_or_else}
use Rattle.da_keys.specs.Keys.{has_key}
use Rattle.da_fields.specs.Answers.{Answers}
use Rattle.da_fields.specs.declared.answer.Answer.{Answer}
use Rattle.da_fields.specs.declared.answer.Answer.TheVariants.{Mismatch}
use Rattle.da_tables.specs.Hits.{AreHits, hits_from, hit_for, with_hit, answer_of, is_usable, is_usable_answer, newest}
use Rattle.da_request.specs.Requests.{with_answer}
use Rattle.da_tables.specs.RecordedAnswers.{key_of}
use Rattle.da_request.specs.Requests.{request_stage, question_in}
use Rattle.da_settings.specs.declared.settings.Settings.{Settings}
use Rattle.da_tables.specs.declared.queries.QueryRow.{QueryRow}
use Rattle.da_request.specs.declared.request.Body.{Body}
use Rattle.da_request.specs.declared.request.Body.TheVariants.{Authenticates, LooksUp}
use Rattle.da_request.specs.declared.stages.Question.{Question}
use Rattle.da_request.specs.declared.request.Request.{Request}
use Rattle.da_tables.specs.declared.tables.Tables.{Tables}
use Rattle.da_tables.specs.Hits.{database_count}
use Rattle.da_steps.proofs.UsableLemmas.{hit_is_usable, usable_is_hit}
use Rattle.da_steps.proofs.AskedDatabases.{is_open, with_one, open_count, at_most, fewer, numbers, user_numbers, body_numbers, request_asks}

-- ---- a hit has an answer

usable_answer : (settings : Settings) (moment : ℕ) (tables : Tables) (r : Request) (q : Question) (n : ℕ) → is_usable settings moment tables r q n ≡ true → (a : Answer) × (answer_of tables n ≡ Some a)
unfolding is_usable
usable_answer settings moment tables r q n e = go (nth tables.queries n) e
  where
    inner : (a : QueryRow) (o : Option (Answer × ℕ)) → passes_option (is_usable_answer settings moment r q a) o ≡ true → (x : Answer) × (option_map (λ (p : Answer × ℕ). p.0) o ≡ Some x)
    inner a None e = absurd (true≢false (sym e))
    inner a (Some p) e = (p.0, refl)

    go : (o : Option QueryRow) → passes_option (λ (a : QueryRow). passes_option (is_usable_answer settings moment r q a) a.answer) o ≡ true → (x : Answer) × (option_and_then (λ (a : QueryRow). option_map (λ p. p.0) a.answer) o ≡ Some x)
    go None e = absurd (true≢false (sym e))
    go (Some a) e = inner a a.answer e

hit_usable : (settings : Settings) (moment : ℕ) (tables : Tables) (r : Request) (q : Question) (n : ℕ) → hit_for settings moment tables r q ≡ Some n → is_usable settings moment tables r q n ≡ true
hit_usable settings moment tables r q n e = go (newest tables (key_of q)) e
  where
    chosen : (b : Bool) (x : ℕ) → cond b (Some x) None ≡ Some n → (b ≡ true) × (x ≡ n)
    chosen true x e = (refl, same_Some x n e)
    chosen false x e = absurd (none-some n e)

    go : (o : Option ℕ) → option_and_then (λ number. cond (has_key (key_of q) tables.keys && is_usable settings moment tables r q number) (Some number) None) o ≡ Some n → is_usable settings moment tables r q n ≡ true
    go None e = absurd (none-some n e)
    go (Some x) e =
        let both : ((has_key (key_of q) tables.keys && is_usable settings moment tables r q x) ≡ true) × (x ≡ n) = chosen _ x e in
        subst (λ m. is_usable settings moment tables r q m ≡ true) both.1 (and_second (has_key (key_of q) tables.keys) _ both.0)

-- ---- the hits that are made, by the function that makes them

-- what the request asks now is answered by no hit
abbrev HasNone : Settings → ℕ → Tables → Request → Type 0
HasNone settings moment tables r = (q : Question) → question_in (request_stage settings r) ≡ Some q → hit_for settings moment tables r q ≡ None

abbrev AreMade : Settings → ℕ → Tables → Request → List ℕ → Type 0
AreMade settings moment tables r [] = HasNone settings moment tables r
AreMade settings moment tables r (n ∷ ns) =
    (q : Question) × (question_in (request_stage settings r) ≡ Some q) × (hit_for settings moment tables r q ≡ Some n) × AreMade settings moment tables (with_hit tables q n r) ns

-- ---- the hits come to an end

abbrev pub open_of : Settings → Request → ℕ
open_of settings r = open_count r.answers (body_numbers settings r.body)

pub hit_leaves_fewer : (settings : Settings) (moment : ℕ) (tables : Tables) (r : Request) (q : Question) (n : ℕ) → question_in (request_stage settings r) ≡ Some q → hit_for settings moment tables r q ≡ Some n → open_of settings (with_hit tables q n r) + 1 ≤ open_of settings r
unfolding with_one
hit_leaves_fewer settings moment tables r q n e h =
    let found : (a : Answer) × (answer_of tables n ≡ Some a) = usable_answer settings moment tables r q n (hit_usable settings moment tables r q n h) in
    subst (λ (o : Option Answer). open_of settings (option_or_else o r (λ answer. with_answer q.db answer r)) + 1 ≤ open_of settings r) (sym found.1)
    (fewer r.answers q.db found.0 (body_numbers settings r.body) (request_asks settings r q e))

hits_made : (databases : ℕ) (settings : Settings) (moment : ℕ) (tables : Tables) (r : Request) → open_of settings r ≤ databases → AreMade settings moment tables r (hits_from databases settings moment tables r)
hits_made zero settings moment tables r few = λ q e.
    let some_open : open_count (with_one r.answers q.db Mismatch) (body_numbers settings r.body) + 1 ≤ open_of settings r = fewer r.answers q.db Mismatch (body_numbers settings r.body) (request_asks settings r q e) in
    let bad : ⊥ = omega (arith, few, some_open) in absurd bad
hits_made (suc databases) settings moment tables r few =
    asks (question_in (request_stage settings r)) refl (λ q n e h.
    let less : open_of settings (with_hit tables q n r) + 1 ≤ open_of settings r = hit_leaves_fewer settings moment tables r q n e h in
    hits_made databases settings moment tables (with_hit tables q n r) (omega (arith, less, few)))
  where
    hitting : (q : Question) → question_in (request_stage settings r) ≡ Some q → (o : Option ℕ) → hit_for settings moment tables r q ≡ o → ((n : ℕ) → hit_for settings moment tables r q ≡ Some n → AreMade settings moment tables (with_hit tables q n r) (hits_from databases settings moment tables (with_hit tables q n r))) →
        AreMade settings moment tables r (option_or_else o [] (λ n. n ∷ hits_from databases settings moment tables (with_hit tables q n r)))
    hitting q e None h rest = λ p f. ap (hit_for settings moment tables r) (same_Some p q (sym f ∙ e)) ∙ h
    hitting q e (Some n) h rest = (q, e, h, rest n h)

    asks : (o : Option Question) → question_in (request_stage settings r) ≡ o →
        ((q : Question) (n : ℕ) → question_in (request_stage settings r) ≡ Some q → hit_for settings moment tables r q ≡ Some n → AreMade settings moment tables (with_hit tables q n r) (hits_from databases settings moment tables (with_hit tables q n r))) →
        AreMade settings moment tables r (option_or_else o [] (λ q. option_or_else (hit_for settings moment tables r q) [] (λ n. n ∷ hits_from databases settings moment tables (with_hit tables q n r))))
    asks None e rest = λ q f. absurd (none-some q (sym e ∙ f))
    asks (Some q) e rest = hitting q e (hit_for settings moment tables r q) refl (λ n h. rest q n e h)

within : (answers : Answers) (ns : List ℕ) → open_count answers ns ≤ length ns
within answers [] = omega arith
within answers (n ∷ ns) =
    let first : cond (is_open answers n) 1 0 ≤ 1 = at_most (is_open answers n) true (λ e. absurd (true≢false e)) in
    let rest : open_count answers ns ≤ length ns = within answers ns in
    omega (arith, first, rest)

-- a chain asks each database once at most
pub enough : (settings : Settings) (answers : Answers) (b : Body) → open_count answers (body_numbers settings b) ≤ length settings.passdb + length settings.userdb
enough settings answers (Authenticates mechanism parameters resp texts) =
    let few : open_count answers (numbers settings.passdb) ≤ length (numbers settings.passdb) = within answers (numbers settings.passdb) in
    let same : length (numbers settings.passdb) ≡ length settings.passdb = length-map settings.passdb _ in
    omega (arith, few, same)
enough settings answers (LooksUp grant) =
    let few : open_count answers (user_numbers settings.userdb) ≤ length (user_numbers settings.userdb) = within answers (user_numbers settings.userdb) in
    let same : length (user_numbers settings.userdb) ≡ length settings.userdb = length-map settings.userdb _ in
    omega (arith, few, same)

-- hits that are made are hits
made_are_hits : (settings : Settings) (moment : ℕ) (tables : Tables) (r : Request) (ns : List ℕ) → AreMade settings moment tables r ns → AreHits settings moment tables r ns
made_are_hits settings moment tables r [] m = λ q e n u. none-some n (sym (m q e) ∙ usable_is_hit settings moment tables r q n u)
made_are_hits settings moment tables r (n ∷ ns) m = (m.0, m.1, hit_is_usable settings moment tables r m.0 n m.2, made_are_hits settings moment tables (with_hit tables m.0 n r) ns m.3)

pub hits_are_hits : (settings : Settings) (moment : ℕ) (tables : Tables) (r : Request) → AreHits settings moment tables r (hits_from (database_count settings) settings moment tables r)
hits_are_hits settings moment tables r =
    made_are_hits settings moment tables r (hits_from (database_count settings) settings moment tables r)
    (hits_made (database_count settings) settings moment tables r (enough settings r.answers r.body))
