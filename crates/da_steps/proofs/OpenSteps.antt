-- After an entry a connection is open exactly where the entry opened it, or it was open and the entry doesn't end it.
use Rattle.std.proofs.Common.{◌≡◌, ◌⊎◌, inl, inr, refl, sym, ◌∙◌, ap, Option, Some, None, List, [], ◌∷◌, ◌++◌, ℕ, suc, Bool, true, false, length, not, ◌&&◌, ◌||◌, ◌==◌, option_map, eq-eqb, ne_eqb}
use Rattle.da_tables.proofs.Cases.{and_false, by_test}
use Rattle.da_play.proofs.EntryParts.{ContinuedParts, connections_before, continued_gives, IsSound, sound_input}
use Rattle.da_tables.proofs.Rows.{same_or_not, nth-changed, nth-unchanged, nth-last, nth-other}
use Rattle.da_base.specs.Words.{Bytes, nth, changed_nth, passes_option}
use Rattle.da_fields.specs.declared.answer.Answer.{Answer}
use Rattle.da_fields.specs.declared.answer.Answer.TheVariants.{Internal}
use Rattle.da_fields.specs.declared.answer.Why.TheVariants.{Late as WasLate}
use Rattle.da_msgs.specs.ClientMessages.{client_message}
use Rattle.da_msgs.specs.MasterMessages.{master_message}
use Rattle.da_msgs.specs.declared.client.ClientMsg.{ClientMsg}
use Rattle.da_msgs.specs.declared.client.ClientMsg.TheVariants.{Version, Pid, Auth, Cont, Cancel, Other}
use Rattle.da_msgs.specs.declared.master.MasterMsg.{MasterMsg}
use Rattle.da_msgs.specs.declared.master.MasterMsg.TheVariants.{Version as MasterVersion, Request as LookupRequest, Other as MasterOther}
use Rattle.da_tables.specs.Connections.{client_may, master_may, request_number}
use Rattle.da_play.specs.Effects.{effects, opened_by}
use Rattle.da_play.specs.History.{tables_of, after, after_input, before_input}
use Rattle.da_request.specs.Requests.{with_text, is_awaiting}
use Rattle.da_lines.specs.Lines.{continues, cancels, after_client_message, after_master_message, client_line, master_line, line_on, line_by, is_cancellable}
use Rattle.da_tables.specs.Connections.{with_version, with_pid}
use Rattle.da_tables.specs.RecordedAnswers.{after_answer, after_answer_for, is_lost, recorded_answer}
use Rattle.da_tables.specs.Queries.{is_running}
use Rattle.da_request.specs.Requests.{is_undecided}
use Rattle.da_tables.specs.Tables.{AfterInput, continuing, continuing_none, closing, with_end, with_connection, with_request, closed, is_client, is_open_in}
use Rattle.da_request.specs.Requests.{cancelled}
use Rattle.da_play.specs.declared.input.Entry.{Entry}
use Rattle.da_play.specs.declared.input.Input.{Input}
use Rattle.da_play.specs.declared.input.Input.TheVariants.{Opened, Line, Broken, Gone, Take, Answered, Late, Tick}
use Rattle.da_settings.specs.declared.settings.Settings.{Settings}
use Rattle.da_tables.specs.declared.queries.QueryRow.{QueryRow}
use Rattle.da_tables.specs.declared.connections.Connection.{Connection}
use Rattle.da_tables.specs.declared.tables.Tables.{Tables}
use Rattle.da_steps.proofs.Standing.{input_stands, all_same}
use Rattle.da_steps.specs.Connections.{names, ends, ends_by}
use Rattle.da_steps.specs.Standing.{TablesStand}

abbrev open_at : List Connection → ℕ → Bool
open_at cs conn = passes_option (λ c. c.is_open) (nth cs conn)

and_true : (b : Bool) → (b && true) ≡ b
and_true true = refl
and_true false = refl

-- ---- one connection ended, or told something of itself

closed_open : (cs : List Connection) (c conn : ℕ) → open_at (changed_nth closed cs c) conn ≡ (open_at cs conn && not (c == conn))
closed_open cs c conn = go (same_or_not conn c)
  where
    none : (o : Option Connection) → passes_option (λ x. x.is_open) (option_map closed o) ≡ false
    none None = refl
    none (Some x) = refl

    go : (conn ≡ c) ⊎ (conn ≡ c → ⊥) → open_at (changed_nth closed cs c) conn ≡ (open_at cs conn && not (c == conn))
    go (inl d) = ap (open_at (changed_nth closed cs c)) d ∙ ap (passes_option (λ x. x.is_open)) (nth-changed closed cs c) ∙ none (nth cs c)
        ∙ sym (ap (λ (b : Bool). open_at cs conn && not b) (eq-eqb c conn (sym d)) ∙ and_false (open_at cs conn))
    go (inr d) = ap (passes_option (λ x. x.is_open)) (nth-unchanged closed cs c conn d)
        ∙ sym (ap (λ (b : Bool). open_at cs conn && not b) (ne_eqb c conn (λ x. d (sym x))) ∙ and_true (open_at cs conn))

told_open : (f : Connection → Connection) → ((c : Connection) → (f c).is_open ≡ c.is_open) → (cs : List Connection) (c conn : ℕ) → open_at (changed_nth f cs c) conn ≡ open_at cs conn
told_open f h cs c conn = go (same_or_not conn c)
  where
    same : (o : Option Connection) → passes_option (λ x. x.is_open) (option_map f o) ≡ passes_option (λ x. x.is_open) o
    same None = refl
    same (Some x) = h x

    go : (conn ≡ c) ⊎ (conn ≡ c → ⊥) → open_at (changed_nth f cs c) conn ≡ open_at cs conn
    go (inl d) = ap (open_at (changed_nth f cs c)) d ∙ ap (passes_option (λ x. x.is_open)) (nth-changed f cs c) ∙ same (nth cs c) ∙ ap (open_at cs) (sym d)
    go (inr d) = ap (passes_option (λ x. x.is_open)) (nth-unchanged f cs c conn d)

-- a new connection is open
opened_open : (cs : List Connection) (c : Connection) (conn : ℕ) → c.is_open ≡ true → open_at (cs ++ c ∷ []) conn ≡ ((suc (length cs) == conn) || open_at cs conn)
opened_open cs c conn o = go (same_or_not conn (suc (length cs)))
  where
    go : (conn ≡ suc (length cs)) ⊎ (conn ≡ suc (length cs) → ⊥) → open_at (cs ++ c ∷ []) conn ≡ ((suc (length cs) == conn) || open_at cs conn)
    go (inl d) = ap (open_at (cs ++ c ∷ [])) d ∙ ap (passes_option (λ x. x.is_open)) (nth-last cs c) ∙ o ∙ sym (ap (λ (b : Bool). b || open_at cs conn) (eq-eqb (suc (length cs)) conn (sym d)))
    go (inr d) = ap (passes_option (λ x. x.is_open)) (nth-other cs c conn d) ∙ sym (ap (λ (b : Bool). b || open_at cs conn) (ne_eqb (suc (length cs)) conn (λ x. d (sym x))))

-- ---- what an input does, with the connection that the server closes

module _ (settings : Settings) (moment : ℕ) (before : Tables) where
  -- open is what was open, but for what is closed
  abbrev Leaves : AfterInput → Type 0
  Leaves h = (conn : ℕ) → is_open_in h.tables conn ≡ (is_open_in before conn && not (names conn h.closed))

  leaves : (tables : Tables) (m : Option ℕ) → ((conn : ℕ) → is_open_in tables conn ≡ is_open_in before conn) → Leaves (record { tables = tables; continued = m; closed = None })
  leaves tables m h conn = h conn ∙ sym (and_true (is_open_in before conn))

  leaves_closing : (c : ℕ) → Leaves (closing c before)
  unfolding with_end
  leaves_closing c conn = closed_open before.connections c conn

  leaves_continues : (n : ℕ) (text : Bytes) → Leaves (continues settings n text before)
  leaves_continues n text = by_test Leaves (passes_option (is_awaiting settings) (nth before.requests n)) (continuing n (with_request (with_text text) n before)) (continuing_none before)
      (λ e. leaves (with_request (with_text text) n before) (Some n) (λ conn. refl)) (λ e. leaves before None (λ conn. refl))

  leaves_cancels : (n : ℕ) → Leaves (cancels settings n before)
  leaves_cancels n = by_test Leaves (passes_option (is_cancellable settings before n) (nth before.requests n)) (continuing_none (with_request cancelled n before)) (continuing_none before)
      (λ e. leaves (with_request cancelled n before) None (λ conn. refl)) (λ e. leaves before None (λ conn. refl))

  leaves_client_message : (c : ℕ) (random : Bytes) (message : ClientMsg) → Leaves (after_client_message settings moment c random message before)
  leaves_client_message c random (Version major minor) = leaves (with_connection (with_version minor) c before) None (told_open (with_version minor) (λ x. refl) before.connections c)
  leaves_client_message c random (Pid pid) = leaves (with_connection (with_pid pid) c before) None (told_open (with_pid pid) (λ x. refl) before.connections c)
  leaves_client_message c random (Auth id mech params resp) = λ conn. sym (and_true (is_open_in before conn))
  leaves_client_message c random (Cont id text) = leaves_continues (request_number before c id) text
  leaves_client_message c random (Cancel id) = leaves_cancels (request_number before c id)
  leaves_client_message c random Other = leaves before None (λ conn. refl)

  leaves_master_message : (c : ℕ) (random : Bytes) (message : MasterMsg) → Leaves (after_master_message settings moment c random message before)
  leaves_master_message c random (MasterVersion major minor) = leaves (with_connection (with_version minor) c before) None (told_open (with_version minor) (λ x. refl) before.connections c)
  leaves_master_message c random (LookupRequest id pid client cookie) = λ conn. sym (and_true (is_open_in before conn))
  leaves_master_message c random MasterOther = leaves before None (λ conn. refl)

  leaves_client : (c : ℕ) (random : Bytes) (row : Connection) (o : Option ClientMsg) → Leaves (client_line settings moment c random row o before)
  leaves_client c random row None = leaves_closing c
  leaves_client c random row (Some message) = by_test Leaves (client_may before c row message) (after_client_message settings moment c random message before) (closing c before) (λ e. leaves_client_message c random message) (λ e. leaves_closing c)

  leaves_master : (c : ℕ) (random : Bytes) (row : Connection) (o : Option MasterMsg) → Leaves (master_line settings moment c random row o before)
  leaves_master c random row None = leaves_closing c
  leaves_master c random row (Some message) = by_test Leaves (master_may before c row message) (after_master_message settings moment c random message before) (closing c before) (λ e. leaves_master_message c random message) (λ e. leaves_closing c)

  leaves_line : (c : ℕ) (text random : Bytes) (o : Option Connection) → Leaves (line_on settings moment c text random o before)
  leaves_line c text random None = leaves before None (λ conn. refl)
  leaves_line c text random (Some row) = by_test Leaves row.is_open (line_by settings moment c text random row before) (continuing_none before)
      (λ e. by_test Leaves (is_client row.kind) _ _ (λ d. leaves_client c random row (client_message text)) (λ d. leaves_master c random row (master_message text)))
      (λ e. leaves before None (λ conn. refl))

  leaves_answers : (query : ℕ) (a : QueryRow) (answer : Answer) → Leaves (after_answer_for settings moment query a answer before)
  leaves_answers query a answer = by_test Leaves (is_lost before.queries query a answer) _ _
      (λ lost. by_test Leaves (passes_option is_undecided (nth before.requests a.request)) _ _ (λ e conn. sym (and_true (is_open_in before conn))) (λ e conn. sym (and_true (is_open_in before conn))))
      (λ counts. by_test Leaves (passes_option is_undecided (nth before.requests a.request)) _ _ (λ e conn. sym (and_true (is_open_in before conn))) (λ e conn. sym (and_true (is_open_in before conn))))

  leaves_records : (query : ℕ) (answer : Answer) (o : Option QueryRow) → Leaves (after_answer settings moment query answer o before)
  leaves_records query answer None = leaves before None (λ conn. refl)
  leaves_records query answer (Some a) = by_test Leaves (is_running a) (after_answer_for settings moment query a (recorded_answer a.question.kind answer) before) (continuing_none before)
      (λ e. leaves_answers query a (recorded_answer a.question.kind answer)) (λ e. leaves before None (λ conn. refl))

  -- whether it is open after an input: it was opened, or was open and isn't ended
  abbrev OpenAfter : Input → AfterInput → Type 0
  OpenAfter input h = (conn : ℕ) → is_open_in h.tables conn ≡ (names conn (opened_by input before) || (is_open_in before conn && not (ends_by input h.closed conn)))

  open_input : (input : Input) → OpenAfter input (after_input settings moment input before)
  unfolding after_input
  open_input (Opened kind random) conn = opened_open before.connections _ conn refl ∙ ap (λ (b : Bool). (suc (length before.connections) == conn) || b) (sym (and_true (is_open_in before conn)))
  open_input (Line c text random) conn = leaves_line c text random (nth before.connections c) conn
  open_input (Broken c) conn = leaves_closing c conn
  open_input (Gone c) conn = leaves_closing c conn
  open_input Take conn = leaves before None (λ conn. refl) conn
  open_input (Answered query answer) conn = leaves_records query answer (nth before.queries query) conn
  open_input (Late query) conn = leaves_records query (Internal WasLate) (nth before.queries query) conn
  open_input Tick conn = leaves before None (λ conn. refl) conn

-- ---- one entry

module _ (settings : Settings) (e : Entry) (g : List Entry) where
  abbrev now : Tables
  now = before_input settings e.moment e.input (tables_of settings g)

  abbrev h : AfterInput
  h = after_input settings e.moment e.input now

  same_now : Tables → Option ℕ → List ℕ → Type 0
  same_now tables m done = tables.connections ≡ h.tables.connections

  same_after : Tables → Option ℕ → Type 0
  same_after tables m = tables.connections ≡ h.tables.connections

  continued_same_row : ContinuedParts settings e.moment now e.input e.hits same_now same_after
  unfolding same_now same_after
  continued_same_row = record {
    hit = λ tables continued number done rest a p is x w u q. q;
    misses = λ tables continued number done rest x w q. q;
    rests = λ tables q. q;
    awaits = λ tables n r text is u x q. q;
    asks = λ tables n r question is u x q. q;
    decides = λ tables n r d is u x q. q;
    kept = λ tables m query given a l run is k q. q;
  }

  connections_after : (after settings (tables_of settings g) e).connections ≡ h.tables.connections
  unfolding after same_now same_after
  connections_after =
      let s : IsSound settings e.moment now e.input (λ x m. TablesStand now x) _ h =
      sound_input settings e.moment now e.input (λ x m. TablesStand now x) (input_stands settings e.moment now now e.input e.hits) e.input refl (all_same now) in
      continued_gives settings e.moment now e.input e.hits same_now same_after continued_same_row h refl s.continued

  opened_same : (input : Input) → opened_by input now ≡ opened_by input (tables_of settings g)
  opened_same (Opened kind random) = ap (λ (cs : List Connection). Some (suc (length cs))) (connections_before settings e.moment (tables_of settings g) e.input)
  opened_same (Line conn text random) = refl
  opened_same (Broken conn) = refl
  opened_same (Gone conn) = refl
  opened_same Take = refl
  opened_same (Answered query answer) = refl
  opened_same (Late query) = refl
  opened_same Tick = refl

  pub open_step : (conn : ℕ) → is_open_in (tables_of settings (e ∷ g)) conn ≡ (names conn (effects settings (tables_of settings g) e).opened || (is_open_in (tables_of settings g) conn && not (ends settings g e conn)))
  unfolding effects
  open_step conn = ap (λ cs. open_at cs conn) connections_after ∙ open_input settings e.moment now e.input conn
      ∙ ap (λ (o : Option ℕ). names conn o || (is_open_in now conn && not (ends_by e.input h.closed conn))) (opened_same e.input)
      ∙ ap (λ (cs : List Connection). names conn (opened_by e.input (tables_of settings g)) || (open_at cs conn && not (ends_by e.input h.closed conn))) (connections_before settings e.moment (tables_of settings g) e.input)
