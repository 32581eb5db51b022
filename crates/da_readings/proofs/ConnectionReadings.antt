-- A connection is open exactly where it was opened and nothing ended it.
use Rattle.std.proofs.Common.{◌≡◌, ◌⊎◌, inl, inr, refl, sym, ◌∙◌, ap, ap₂, Option, Some, None, List, [], ◌∷◌, ◌++◌, ℕ, zero, suc, Bool, true, false, not, ◌&&◌, ◌||◌, eq-eqb, true≢false}
use Rattle.std.proofs.lemmas.Bool.{eqb-true}
use Rattle.da_tables.proofs.Cases.{and_first, and_second, not_true}
use Rattle.da_play.specs.Effects.{effects}
use Rattle.da_play.specs.History.{tables_of}
use Rattle.da_tables.specs.Tables.{is_open_in}
use Rattle.da_play.specs.declared.input.Entry.{Entry}
use Rattle.da_settings.specs.declared.settings.Settings.{Settings}
use Rattle.da_readings.specs.RowReadings.{WasOpened, NoneEnds, ConnectionsAreRead}
use Rattle.da_steps.proofs.OpenSteps.{open_step}
use Rattle.da_tables.proofs.Cases.{or_true}
use Rattle.da_steps.specs.Connections.{names, ends}

-- ---- a history

module _ (settings : Settings) where
  named : (conn : ℕ) (o : Option ℕ) → names conn o ≡ true → o ≡ Some conn
  named conn None x = absurd (true≢false (sym x))
  named conn (Some n) x = ap (λ (k : ℕ). Some k) (eqb-true n conn x)

  by_entry : (h : List Entry) (conn : ℕ) → is_open_in (tables_of settings h) conn ≡ true → WasOpened settings h conn
  by_entry [] zero o = absurd (true≢false (sym o))
  by_entry [] (suc conn) o = absurd (true≢false (sym o))
  by_entry (e ∷ g) conn o = go (by_entry g conn) (or_true (names conn (effects settings (tables_of settings g) e).opened) _ (sym (open_step settings e g conn) ∙ o))
    where
      go : (is_open_in (tables_of settings g) conn ≡ true → WasOpened settings g conn) →
          (names conn (effects settings (tables_of settings g) e).opened ≡ true) ⊎ ((is_open_in (tables_of settings g) conn && not (ends settings g e conn)) ≡ true) → WasOpened settings (e ∷ g) conn
      go earlier (inl x) = record { newer = []; entry = e; older = g; is_there = refl; opens = named conn _ x; none_ends = tt }
      go earlier (inr x) =
          let old : WasOpened settings g conn = earlier (and_first (is_open_in (tables_of settings g) conn) _ x) in
          record {
            newer = e ∷ old.newer;
            entry = old.entry;
            older = old.older;
            is_there = ap (λ (y : List Entry). e ∷ y) old.is_there;
            opens = old.opens;
            none_ends = (ap (λ (y : List Entry). ends settings y e conn) (sym old.is_there) ∙ not_true (ends settings g e conn) (and_second (is_open_in (tables_of settings g) conn) _ x), old.none_ends);
          }

  still_open : (newer : List Entry) (entry : Entry) (older : List Entry) (conn : ℕ) → (effects settings (tables_of settings older) entry).opened ≡ Some conn → NoneEnds settings newer (entry ∷ older) conn →
      is_open_in (tables_of settings (newer ++ entry ∷ older)) conn ≡ true
  still_open [] entry older conn opens none = open_step settings entry older conn ∙ ap (λ (b : Bool). b || (is_open_in (tables_of settings older) conn && not (ends settings older entry conn))) (ap (names conn) opens ∙ eq-eqb conn conn refl)
  still_open (e ∷ newer) entry older conn opens none =
      open_step settings e (newer ++ entry ∷ older) conn
      ∙ or_last (names conn (effects settings (tables_of settings (newer ++ entry ∷ older)) e).opened)
      (ap₂ (λ (a b : Bool). a && not b) (still_open newer entry older conn opens none.1) none.0)
    where
      or_last : (a : Bool) {b : Bool} → b ≡ true → (a || b) ≡ true
      or_last true x = refl
      or_last false x = x

  of_entry : (h : List Entry) (conn : ℕ) → WasOpened settings h conn → is_open_in (tables_of settings h) conn ≡ true
  of_entry h conn w = ap (λ (x : List Entry). is_open_in (tables_of settings x) conn) w.is_there ∙ still_open w.newer w.entry w.older conn w.opens w.none_ends

pub connections_are_read : ConnectionsAreRead
connections_are_read settings = record { by_entry = by_entry settings; of_entry = of_entry settings }
