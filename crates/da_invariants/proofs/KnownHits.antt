-- Hits are answers that were known before their entry.
use Rattle.std.proofs.Common.{◌≡◌, sym, ◌∙◌, ap, subst, Option, Some, None, List, [], ◌∷◌, ◌++◌, ℕ, option_map, option_and_then}
use Rattle.std.proofs.lemmas.Option.{none-some, same_Some}
use Rattle.da_base.specs.Words.{nth, option_or_else}
use Rattle.da_fields.specs.Answers.{Answers}
use Rattle.da_fields.specs.declared.answer.Answer.{Answer}
use Rattle.da_tables.specs.RecordedAnswers.{answer_under}
use Rattle.da_tables.specs.Hits.{AreHits, IsUsable, with_hit, answer_of}
use Rattle.da_play.specs.Legal.{ContinuedHits}
use Rattle.da_steps.specs.Standing.{TablesStand, QueryStands}
use Rattle.da_settings.specs.declared.settings.Settings.{Settings}
use Rattle.da_tables.specs.declared.queries.QueryRow.{QueryRow}
use Rattle.da_request.specs.declared.stages.Question.{Question}
use Rattle.da_request.specs.declared.request.Request.{Request}
use Rattle.da_tables.specs.declared.tables.Tables.{Tables}

-- the query has an answer
pub record IsKnown (tables : Tables) (n : ℕ) : Type 0 where
  pub row : QueryRow
  pub is_there : nth tables.queries n ≡ Some row
  pub pair : Answer × ℕ
  pub is_answered : row.answer ≡ Some pair

abbrev pub AllKnown : Tables → List ℕ → Type 0
AllKnown tables [] = Unit {0}
AllKnown tables (n ∷ ns) = IsKnown tables n × AllKnown tables ns

pub usable_known : (settings : Settings) (moment : ℕ) (tables : Tables) (r : Request) (q : Question) (n : ℕ) → IsUsable settings moment tables r q n → IsKnown tables n
usable_known settings moment tables r q n u = record { row = u.query; is_there = u.is_there; pair = (u.answer, u.recorded); is_answered = u.is_answer_recorded }

hits_known : (settings : Settings) (moment : ℕ) (tables : Tables) (r : Request) (ns : List ℕ) → AreHits settings moment tables r ns → AllKnown tables ns
hits_known settings moment tables r [] h = tt
hits_known settings moment tables r (n ∷ ns) h = (usable_known settings moment tables r h.0 n h.2, hits_known settings moment tables (with_hit tables h.0 n r) ns h.3)

pub continued_known : (settings : Settings) (moment : ℕ) (tables : Tables) (o : Option Request) (ns : List ℕ) → ContinuedHits settings moment tables o ns → AllKnown tables ns
continued_known settings moment tables None ns h = subst (AllKnown tables) (sym h) tt
continued_known settings moment tables (Some r) ns h = hits_known settings moment tables r ns h

pub one_known : (tables : Tables) (done rest : List ℕ) (n : ℕ) → AllKnown tables (done ++ n ∷ rest) → IsKnown tables n
one_known tables [] rest n all = all.0
one_known tables (m ∷ done) rest n all = one_known tables done rest n all.1

abbrev pub told_row : Option QueryRow → Answers
told_row o = option_or_else o [] (λ a. option_or_else a.answer [] (λ p. (a.question.db, p.0) ∷ []))

pub known_under : (qs : List QueryRow) (k : ℕ) (a : QueryRow) (p : Answer × ℕ) → nth qs k ≡ Some a → a.answer ≡ Some p → answer_under qs k ≡ (a.question.db, p.0) ∷ []
known_under qs k a p is e = ap told_row is ∙ ap (λ (o : Option (Answer × ℕ)). option_or_else o [] (λ p. (a.question.db, p.0) ∷ [])) e

-- ---- in later tables

-- a hit's row is the one that was known
pub record IsSameHit (origin : Tables) (number : ℕ) (known : IsKnown origin number) (a : QueryRow) (p : Answer × ℕ) : Type 0 where
  pub question : known.row.question ≡ a.question
  pub pair : known.pair ≡ p

pub same_hit : (origin tables : Tables) (number : ℕ) (a : QueryRow) (p : Answer × ℕ) → nth tables.queries number ≡ Some a → a.answer ≡ Some p → TablesStand origin tables → (k : IsKnown origin number) → IsSameHit origin number k a p
same_hit origin tables number a p is x t k = go (t.queries number k.row k.is_there)
  where
    go : (c : QueryRow) × (nth tables.queries number ≡ Some c) × QueryStands k.row c → IsSameHit origin number k a p
    go (c, at, s) =
        let same : c ≡ a = same_Some c a (sym at ∙ is) in
        record {
          question = sym s.question ∙ ap (λ (y : QueryRow). y.question) same;
          pair = same_Some k.pair p (sym (s.answer k.pair k.is_answered) ∙ ap (λ (y : QueryRow). y.answer) same ∙ x);
        }

-- what was known has an answer still
pub known_stays : (origin tables : Tables) (number : ℕ) → TablesStand origin tables → IsKnown origin number → answer_of tables number ≡ None → ⊥
known_stays origin tables number t k x = go (t.queries number k.row k.is_there)
  where
    go : (c : QueryRow) × (nth tables.queries number ≡ Some c) × QueryStands k.row c → ⊥
    go (c, y, s) = none-some k.pair.0 (sym x ∙ ap (option_and_then (λ (z : QueryRow). option_map (λ (w : Answer × ℕ). w.0) z.answer)) y ∙ ap (option_map (λ (z : Answer × ℕ). z.0)) (s.answer k.pair k.is_answered))
