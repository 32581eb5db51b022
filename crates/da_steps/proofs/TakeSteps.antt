-- A Take hands out the first query that waited before it, and it is taken then.
use Rattle.std.proofs.Common.{◌≡◌, refl, sym, ◌∙◌, ap, Some, List, ◌∷◌, ℕ, suc, option_map}
use Rattle.std.proofs.lemmas.Option.{same_Some}
use Rattle.da_tables.proofs.Rows.{nth-changed, number_found}
use Rattle.da_base.specs.Words.{nth, changed_nth}
use Rattle.da_play.specs.Effects.{effects, handed_out_by}
use Rattle.da_play.specs.History.{tables_of, after_input, before_input}
use Rattle.da_tables.specs.Tables.{with_due_replied, with_timed_out}
use Rattle.da_tables.specs.Queries.{as_taken}
use Rattle.da_tables.specs.Queries.{first_waiting, is_waiting}
use Rattle.da_play.specs.declared.input.Entry.{Entry}
use Rattle.da_play.specs.declared.input.Input.{Input}
use Rattle.da_play.specs.declared.input.Input.TheVariants.{Take}
use Rattle.da_settings.specs.declared.settings.Settings.{Settings}
use Rattle.da_tables.specs.declared.queries.QueryRow.{QueryRow}
use Rattle.da_tables.specs.declared.tables.Tables.{Tables}
use Rattle.da_steps.proofs.Standing.{rest_stands}
use Rattle.da_steps.specs.Standing.{QueryStands}

-- ---- what a Take hands out

pub hands_out : (settings : Settings) (e : Entry) (origin : Tables) → e.input ≡ Take → (effects settings origin e).handed_out ≡ Some (first_waiting origin)
unfolding effects
hands_out settings e origin l = ap (λ (i : Input). handed_out_by i origin) l

-- ---- what is handed out is taken then

module _ (settings : Settings) (e : Entry) (g : List Entry) where
  abbrev origin : Tables
  origin = tables_of settings g

  -- a Take changes no query but the one that it hands out
  queries_taken : (after_input settings e.moment Take (before_input settings e.moment Take origin)).tables.queries ≡ changed_nth (as_taken e.moment) origin.queries (first_waiting origin)
  unfolding after_input before_input with_due_replied with_timed_out
  queries_taken = refl

  pub taken_row : (n : ℕ) → e.input ≡ Take → (effects settings (tables_of settings g) e).handed_out ≡ Some (suc n) → (b : QueryRow) × (nth (tables_of settings (e ∷ g)).queries (suc n) ≡ Some b) × (b.taken ≡ Some e.moment)
  taken_row n l h = go (number_found (is_waiting origin) origin.queries n number)
    where
      number : first_waiting origin ≡ suc n
      number = same_Some _ _ (sym (hands_out settings e origin l) ∙ h)

      row : (a : QueryRow) → nth origin.queries (suc n) ≡ Some a → nth (after_input settings e.moment e.input (before_input settings e.moment e.input origin)).tables.queries (suc n) ≡ Some (as_taken e.moment a)
      row a at = ap (λ (i : Input). nth (after_input settings e.moment i (before_input settings e.moment i origin)).tables.queries (suc n)) l
          ∙ ap (λ qs. nth qs (suc n)) queries_taken
          ∙ ap (λ (k : ℕ). nth (changed_nth (as_taken e.moment) origin.queries k) (suc n)) number ∙ nth-changed (as_taken e.moment) origin.queries (suc n) ∙ ap (option_map (as_taken e.moment)) at

      go : (a : QueryRow) × (nth origin.queries (suc n) ≡ Some a) → (b : QueryRow) × (nth (tables_of settings (e ∷ g)).queries (suc n) ≡ Some b) × (b.taken ≡ Some e.moment)
      go (a, at) = later ((rest_stands settings (tables_of settings g) e).queries (suc n) (as_taken e.moment a) (row a at))
        where
          later : (c : QueryRow) × (nth (tables_of settings (e ∷ g)).queries (suc n) ≡ Some c) × QueryStands (as_taken e.moment a) c → (b : QueryRow) × (nth (tables_of settings (e ∷ g)).queries (suc n) ≡ Some b) × (b.taken ≡ Some e.moment)
          later (c, x, s) = (c, x, s.taken e.moment refl)
