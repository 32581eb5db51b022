-- A line leaves its connection open exactly where the server doesn't close it.
use Rattle.std.proofs.Common.{◌≡◌, ◌⊎◌, inl, inr, refl, sym, ◌∙◌, ap, ℕ, Bool, true, not, ◌&&◌, ◌==◌, List, ◌∷◌, Option, Some, None, is_none, Ok, eq-eqb}
use Rattle.da_base.specs.Words.{Bytes, nth, passes_option}
use Rattle.da_lines.specs.Lines.{after_client_message, after_master_message, client_line, is_cancellable, line_by, line_on, master_line}
use Rattle.da_msgs.specs.ClientMessages.{client_message}
use Rattle.da_msgs.specs.MasterMessages.{master_message}
use Rattle.da_msgs.specs.declared.client.ClientMsg.{ClientMsg}
use Rattle.da_msgs.specs.declared.client.ClientMsg.TheVariants.{Auth, Cancel, Cont, Other, Pid, Version}
use Rattle.da_msgs.specs.declared.master.MasterMsg.{MasterMsg}
use Rattle.da_msgs.specs.declared.master.MasterMsg.TheVariants.{Other as MasterOther, Request as LookupRequest, Version as MasterVersion}
use Rattle.da_play.specs.Effects.{effects}
use Rattle.da_play.specs.History.{after_input, before_input, tables_of}
use Rattle.da_play.specs.Legal.{entry_moment}
use Rattle.da_play.specs.Play.{next_entry, outputs, reply}
use Rattle.da_play.specs.declared.input.Entry.{Entry}
use Rattle.da_play.specs.declared.input.Input.TheVariants.{Line}
use Rattle.da_play.specs.declared.outputs.Outputs.{Outputs}
use Rattle.da_port.proofs.Causes.{given_replies, open_for_line}
use Rattle.da_steps.proofs.OpenSteps.{open_step}
use Rattle.da_request.specs.Requests.{cancelled, is_awaiting, with_text}
use Rattle.da_settings.specs.declared.settings.Settings.{Settings}
use Rattle.da_tables.proofs.Cases.{by_test}
use Rattle.da_tables.specs.Connections.{client_may, master_may, request_number}
use Rattle.da_tables.specs.Tables.{AfterInput, closing, continuing, continuing_none, is_client, is_open_in, with_request}
use Rattle.da_tables.specs.declared.connections.Connection.{Connection}
use Rattle.da_tables.specs.declared.tables.Tables.{Tables}

module _ (settings : Settings) (moment conn : ℕ) (random : Bytes) (tables : Tables) where
  -- no connection but the line's own is closed
  ClosesItself : AfterInput → Type 0
  ClosesItself h = (h.closed ≡ None) ⊎ (h.closed ≡ Some conn)

  closes_for_client : (message : ClientMsg) → ClosesItself (after_client_message settings moment conn random message tables)
  unfolding ClosesItself
  closes_for_client (Version major minor) = inl refl
  closes_for_client (Pid pid) = inl refl
  closes_for_client (Auth id mech params resp) = inl refl
  closes_for_client (Cont id text) =
      by_test (λ (h : AfterInput). ClosesItself h) (passes_option (is_awaiting settings) (nth tables.requests (request_number tables conn id)))
      (continuing (request_number tables conn id) (with_request (with_text text) (request_number tables conn id) tables)) (continuing_none tables) (λ e. inl refl) (λ e. inl refl)
  closes_for_client (Cancel id) =
      by_test (λ (h : AfterInput). ClosesItself h) (passes_option (is_cancellable settings tables (request_number tables conn id)) (nth tables.requests (request_number tables conn id)))
      (continuing_none (with_request cancelled (request_number tables conn id) tables)) (continuing_none tables) (λ e. inl refl) (λ e. inl refl)
  closes_for_client Other = inl refl

  closes_for_master : (message : MasterMsg) → ClosesItself (after_master_message settings moment conn random message tables)
  unfolding ClosesItself
  closes_for_master (MasterVersion major minor) = inl refl
  closes_for_master (LookupRequest id pid client cookie) = inl refl
  closes_for_master MasterOther = inl refl

  closes_client : (c : Connection) (o : Option ClientMsg) → ClosesItself (client_line settings moment conn random c o tables)
  unfolding ClosesItself
  closes_client c None = inr refl
  closes_client c (Some message) = by_test (λ (h : AfterInput). ClosesItself h) (client_may tables conn c message) (after_client_message settings moment conn random message tables) (closing conn tables) (λ e. closes_for_client message) (λ e. inr refl)

  closes_master : (c : Connection) (o : Option MasterMsg) → ClosesItself (master_line settings moment conn random c o tables)
  unfolding ClosesItself
  closes_master c None = inr refl
  closes_master c (Some message) = by_test (λ (h : AfterInput). ClosesItself h) (master_may tables conn c message) (after_master_message settings moment conn random message tables) (closing conn tables) (λ e. closes_for_master message) (λ e. inr refl)

  closes_line : (text : Bytes) (o : Option Connection) → ClosesItself (line_on settings moment conn text random o tables)
  unfolding ClosesItself
  closes_line text None = inl refl
  closes_line text (Some c) = by_test (λ (h : AfterInput). ClosesItself h) c.is_open (line_by settings moment conn text random c tables) (continuing_none tables)
      (λ e. by_test (λ (h : AfterInput). ClosesItself h) (is_client c.kind) (client_line settings moment conn random c (client_message text) tables) (master_line settings moment conn random c (master_message text) tables) (λ d. closes_client c (client_message text)) (λ d. closes_master c (master_message text)))
      (λ e. inl refl)

module _ (settings : Settings) (h : List Entry) (m conn : ℕ) (text random : Bytes) where
  abbrev line : Entry
  line = next_entry settings h m (Line conn text random)

  abbrev closed_at : Option ℕ
  closed_at = (effects settings (tables_of settings h) line).closed

  closed_itself : (closed_at ≡ None) ⊎ (closed_at ≡ Some conn)
  unfolding effects next_entry after_input ClosesItself
  closed_itself = closes_line settings line.moment conn random (before_input settings line.moment (Line conn text random) (tables_of settings h)) text (nth (before_input settings line.moment (Line conn text random) (tables_of settings h)).connections conn)

  -- a connection that was open is so after the line, unless it is closed
  open_unless : (o : Option ℕ) → (o ≡ None) ⊎ (o ≡ Some conn) → (true && not (passes_option (λ n. n == conn) o)) ≡ is_none o
  open_unless o (inl e) = ap (λ (p : Option ℕ). true && not (passes_option (λ n. n == conn) p)) e ∙ sym (ap (λ (p : Option ℕ). is_none p) e)
  open_unless o (inr e) = ap (λ (p : Option ℕ). true && not (passes_option (λ n. n == conn) p)) e ∙ ap (λ (b : Bool). true && not b) (eq-eqb conn conn refl) ∙ sym (ap (λ (p : Option ℕ). is_none p) e)

  stays_open : is_open_in (tables_of settings h) conn ≡ true → is_open_in (tables_of settings (line ∷ h)) conn ≡ is_none closed_at
  unfolding effects next_entry
  stays_open is = open_step settings line h conn ∙ ap (λ (b : Bool). b && not (passes_option (λ n. n == conn) closed_at)) is ∙ open_unless closed_at closed_itself

  pub line_leaves_open : (out : Outputs) → reply settings h m (Line conn text random) ≡ Ok out → is_none out.closed ≡ is_open_in (tables_of settings (line ∷ h)) conn
  unfolding outputs
  line_leaves_open out e =
      let given = given_replies settings h m (Line conn text random) out e in
      ap (λ (o : Outputs). is_none o.closed) given.gives ∙ sym (stays_open (open_for_line settings h (entry_moment h m) conn text random given.allowed))
