-- No answer is repeated where no key is in the cache.
use Rattle.std.proofs.Common.{◌≡◌, refl, ap, ℕ, zero, suc, ◌&&◌, List, [], ◌∷◌, Option, Some, None, option_and_then, if◌then◌else◌, length, arith}
use Rattle.da_tables.specs.Hits.{database_count, hit_for, hits_from, is_usable, newest, with_hit}
use Rattle.da_tables.specs.RecordedAnswers.{key_of}
use Rattle.da_base.specs.Words.{nth, option_or_else}
use Rattle.da_keys.specs.Keys.{has_key}
use Rattle.da_keys.specs.declared.key.Key.{Key}
use Rattle.da_play.specs.Play.{hits_for}
use Rattle.da_request.specs.Requests.{question_in, request_stage}
use Rattle.da_request.specs.declared.request.Request.{Request}
use Rattle.da_request.specs.declared.stages.Question.{Question}
use Rattle.da_settings.specs.declared.settings.Settings.{Settings}
use Rattle.da_tables.specs.Tables.{AfterInput}
use Rattle.da_tables.specs.declared.tables.Tables.{Tables}

pub none_of_length : {A : Type 0} (xs : List A) → length xs ≡ 0 → xs ≡ []
none_of_length [] e = refl
none_of_length (x ∷ xs) e = let bad : ⊥ = omega (arith, e) in absurd bad

module _ (settings : Settings) (moment : ℕ) (tables : Tables) (none : tables.keys ≡ []) where
  no_hit : (r : Request) (q : Question) → hit_for settings moment tables r q ≡ None
  no_hit r q = go (newest tables (key_of q))
    where
      go : (o : Option ℕ) → option_and_then (λ number. if has_key (key_of q) tables.keys && is_usable settings moment tables r q number then Some number else None) o ≡ None
      go None = refl
      go (Some number) = ap (λ (ks : List Key). if has_key (key_of q) ks && is_usable settings moment tables r q number then Some number else None) none

  no_hits : (databases : ℕ) (r : Request) → hits_from databases settings moment tables r ≡ []
  no_hits zero r = refl
  no_hits (suc n) r = go (question_in (request_stage settings r)) (λ q number. number ∷ hits_from n settings moment tables (with_hit tables q number r))
    where
      go : (o : Option Question) (more : Question → ℕ → List ℕ) → option_or_else o [] (λ q. option_or_else (hit_for settings moment tables r q) [] (more q)) ≡ []
      go None more = refl
      go (Some q) more = ap (λ (h : Option ℕ). option_or_else h [] (more q)) (no_hit r q)

  pub no_hits_without_keys : (h : AfterInput) → hits_for settings moment tables h ≡ []
  no_hits_without_keys h = go (option_and_then (λ number. nth h.tables.requests number) h.continued)
    where
      go : (o : Option Request) → option_or_else o [] (hits_from (database_count settings) settings moment tables) ≡ []
      go None = refl
      go (Some r) = no_hits (database_count settings) r
