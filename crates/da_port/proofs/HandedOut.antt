-- What a Take hands out, and what an Opened opens.
use Rattle.std.proofs.Common.{◌≡◌, refl, sym, ◌∙◌, ap, ℕ, zero, suc, true, nat_lt, List, ◌∷◌, Option, Some, option_and_then, option_map, Ok, true≢false}
use Rattle.da_base.specs.Words.{Bytes, nth}
use Rattle.da_fields.specs.declared.answer.Query.{Query}
use Rattle.da_msgs.specs.declared.kinds.ConnKind.{ConnKind}
use Rattle.da_play.specs.Effects.{effects}
use Rattle.da_play.specs.History.{tables_of}
use Rattle.da_play.specs.Legal.{entry_moment}
use Rattle.da_play.specs.Play.{next_entry, outputs, reply}
use Rattle.da_play.specs.declared.input.Entry.{Entry}
use Rattle.da_play.specs.declared.input.Input.TheVariants.{Opened, Take}
use Rattle.da_play.specs.declared.outputs.Outputs.{Outputs}
use Rattle.da_port.proofs.Causes.{given_replies, something_waits}
use Rattle.da_steps.proofs.TakeSteps.{hands_out, taken_row}
use Rattle.da_settings.specs.declared.settings.Settings.{Settings}
use Rattle.da_tables.specs.Queries.{first_waiting, query_with}
use Rattle.da_tables.specs.declared.queries.QueryRow.{QueryRow}

-- ---- what is handed out

-- a recorded Take hands out the first query that waits
pub record IsHandedOut (settings : Settings) (h : List Entry) (out : Outputs) : Type 0 where
  pub query : Query
  pub is_given : out.query ≡ Some query
  pub is_first : query.number ≡ first_waiting (tables_of settings h)

module _ (settings : Settings) (h : List Entry) (m : ℕ) where
  abbrev taken : Entry
  taken = next_entry settings h m Take

  take_input : taken.input ≡ Take
  unfolding next_entry
  take_input = refl

  -- the query of the outputs is that of the row with the number that is handed out
  query_of : (n : ℕ) → (effects settings (tables_of settings h) taken).handed_out ≡ Some n →
      (outputs settings h taken).query ≡ option_map (query_with n) (nth (tables_of settings (taken ∷ h)).queries n)
  unfolding outputs
  query_of n e = ap (λ (o : Option ℕ). option_and_then (λ k. option_map (query_with k) (nth (tables_of settings (taken ∷ h)).queries k)) o) e

  handed : (effects settings (tables_of settings h) taken).handed_out ≡ Some (first_waiting (tables_of settings h))
  handed = hands_out settings taken (tables_of settings h) take_input

  handed_out : (n : ℕ) → first_waiting (tables_of settings h) ≡ n → nat_lt 0 n ≡ true → (query : Query) × ((outputs settings h taken).query ≡ Some query) × (query.number ≡ n)
  handed_out zero is some = absurd (true≢false (sym some))
  handed_out (suc n) is some = go (taken_row settings taken h n take_input (handed ∙ ap (λ (k : ℕ). Some k) is))
    where
      go : (b : QueryRow) × (nth (tables_of settings (taken ∷ h)).queries (suc n) ≡ Some b) × (b.taken ≡ Some taken.moment) → (query : Query) × ((outputs settings h taken).query ≡ Some query) × (query.number ≡ suc n)
      go (b, at, t) = (query_with (suc n) b, query_of (suc n) (handed ∙ ap (λ (k : ℕ). Some k) is) ∙ ap (option_map (query_with (suc n))) at, refl)

  pub take_hands_out : (out : Outputs) → reply settings h m Take ≡ Ok out → IsHandedOut settings h out
  take_hands_out out e =
      let given = given_replies settings h m Take out e in
      let told = handed_out (first_waiting (tables_of settings h)) refl (something_waits settings h (entry_moment h m) given.allowed) in
      record { query = told.0; is_given = ap (λ (o : Outputs). o.query) given.gives ∙ told.1; is_first = told.2 }

-- a recorded Opened opens a connection
pub opened_connection : (settings : Settings) (h : List Entry) (m : ℕ) (kind : ConnKind) (random : Bytes) (out : Outputs) → reply settings h m (Opened kind random) ≡ Ok out → (conn : ℕ) × (out.conn ≡ Some conn)
unfolding outputs effects next_entry
opened_connection settings h m kind random out e = (_, ap (λ (o : Outputs). o.conn) (given_replies settings h m (Opened kind random) out e).gives)
