-- What each part of an entry gives, an entry gives: the parts on all tables, in their order, with the request that continues.
use Rattle.std.proofs.Common.{◌≡◌, ◌⊎◌, inl, inr, refl, sym, ◌∙◌, ap, subst, Option, Some, None, List, [], ◌∷◌, ◌++◌, ℕ, suc, true, false, length, append_assoc, append-nil, option_map, option_and_then, true≢false, not, ◌&&◌, is_some, ◌==◌}
use Rattle.std.proofs.lemmas.Option.{same_Some}
use Rattle.da_tables.proofs.Cases.{by_test, and_first, and_second, not_true}
use Rattle.std.specs.List.{list_any}
use Rattle.da_tables.proofs.Rows.{passing, nth-changed, nth-last}
use Rattle.da_base.specs.Words.{Bytes, changed_nth, hex, nth, passes_option, option_or_else}
use Rattle.da_fields.specs.FieldList.{Pairs}
use Rattle.da_fields.specs.declared.answer.Answer.{Answer}
use Rattle.da_fields.specs.declared.answer.Answer.TheVariants.{Internal}
use Rattle.da_fields.specs.declared.answer.Why.TheVariants.{Late as WasLate}
use Rattle.da_msgs.specs.ClientMessages.{client_message}
use Rattle.da_msgs.specs.MasterMessages.{master_message}
use Rattle.da_msgs.specs.declared.kinds.ConnKind.{ConnKind}
use Rattle.da_msgs.specs.declared.client.ClientMsg.{ClientMsg}
use Rattle.da_msgs.specs.declared.client.ClientMsg.TheVariants.{Version, Pid, Auth, Cont, Cancel, Other}
use Rattle.da_msgs.specs.declared.master.MasterMsg.{MasterMsg}
use Rattle.da_msgs.specs.declared.master.MasterMsg.TheVariants.{Version as MasterVersion, Request as LookupRequest, Other as MasterOther}
use Rattle.da_keys.specs.Keys.{with_key}
use Rattle.da_tables.specs.Connections.{client_may, has_pid, master_may, request_number, has_version, may_tell_version}
use Rattle.da_lines.specs.Grants.{granted}
use Rattle.da_play.specs.History.{after, after_input, after_stage, after_continued, before_input, before_replies, keeps, kept_for, follows_for, follows_from, with_handed_out}
use Rattle.da_request.specs.Requests.{with_decision}
use Rattle.da_tables.specs.Tables.{with_due_replied, with_timed_out}
use Rattle.da_tables.specs.Queries.{as_taken}
use Rattle.da_tables.specs.Hits.{after_hits, after_hit, hit_on, hit_with, answer_of}
use Rattle.da_request.specs.Requests.{new_request, is_awaiting, with_text}
use Rattle.da_lines.specs.Lines.{continues, is_cancellable, cancels, after_client_message, after_master_message, client_line, master_line, line_on, line_by}
use Rattle.da_tables.specs.Connections.{with_version, with_pid}
use Rattle.da_tables.specs.RecordedAnswers.{after_answer, after_answer_for, answers_request, asks_again, recorded_answer, is_kept, is_lost, key_of, ttl_of, answered_by}
use Rattle.da_tables.specs.Queries.{is_running, is_running_in, first_waiting, with_new_query}
use Rattle.da_request.specs.Requests.{with_answer, with_late_answer}
use Rattle.da_play.specs.History.{Tells}
use Rattle.da_request.specs.Requests.{request_stage, is_undecided}
use Rattle.da_tables.specs.Tables.{AfterInput, continuing, continuing_none, continuing_new, closing, with_end, with_connection, with_request, with_query, is_client, is_open_in}
use Rattle.da_request.specs.Requests.{cancelled}
use Rattle.da_play.specs.declared.input.Entry.{Entry}
use Rattle.da_play.specs.declared.input.Input.{Input}
use Rattle.da_play.specs.declared.input.Input.TheVariants.{Opened, Line, Broken, Gone, Take, Answered, Late, Tick}
use Rattle.da_settings.specs.declared.settings.Settings.{Settings}
use Rattle.da_tables.specs.declared.queries.QueryRow.{QueryRow}
use Rattle.da_request.specs.declared.request.Body.{Body}
use Rattle.da_request.specs.declared.request.Body.TheVariants.{Authenticates, LooksUp}
use Rattle.da_tables.specs.declared.connections.Connection.{Connection}
use Rattle.da_request.specs.declared.stages.Decision.{Decision}
use Rattle.da_request.specs.declared.stages.Question.{Question}
use Rattle.da_request.specs.declared.request.Request.{Request}
use Rattle.da_request.specs.declared.stages.Stage.{Stage}
use Rattle.da_request.specs.declared.stages.Stage.TheVariants.{Awaits, Asks, Decided}
use Rattle.da_tables.specs.declared.tables.Tables.{Tables}

-- ---- the request that is continued is undecided

abbrev pub IsUndecidedAt : List Request → ℕ → Type 0
IsUndecidedAt rs n = passes_option is_undecided (nth rs n) ≡ true

abbrev pub ContinuedUndecided : List Request → Option ℕ → Type 0
ContinuedUndecided rs None = Unit {0}
ContinuedUndecided rs (Some n) = IsUndecidedAt rs n

still_undecided : (f : Request → Request) → ((r : Request) → is_undecided (f r) ≡ is_undecided r) → (rs : List Request) (n : ℕ) → IsUndecidedAt rs n → IsUndecidedAt (changed_nth f rs n) n
still_undecided f h rs n u = ap (passes_option is_undecided) (nth-changed f rs n) ∙ go (nth rs n) ∙ u
  where
    go : (o : Option Request) → passes_option is_undecided (option_map f o) ≡ passes_option is_undecided o
    go None = refl
    go (Some r) = h r

-- ---- what the input was

-- a line of an open connection of a client, which spells this message and may stand there
pub record ReadsClient (before : Tables) (entered : Input) (conn : ℕ) (random : Bytes) (message : ClientMsg) : Type 0 where
  pub text : Bytes
  pub is_line : entered ≡ Line conn text random
  pub connection : Connection
  pub is_there : nth before.connections conn ≡ Some connection
  pub is_connected : connection.is_open ≡ true
  pub is_client : is_client connection.kind ≡ true
  pub spells : client_message text ≡ Some message
  pub may : client_may before conn connection message ≡ true

-- the same of a master
pub record ReadsMaster (before : Tables) (entered : Input) (conn : ℕ) (random : Bytes) (message : MasterMsg) : Type 0 where
  pub text : Bytes
  pub is_line : entered ≡ Line conn text random
  pub connection : Connection
  pub is_there : nth before.connections conn ≡ Some connection
  pub is_connected : connection.is_open ≡ true
  pub is_master : is_client connection.kind ≡ false
  pub spells : master_message text ≡ Some message
  pub may : master_may before conn connection message ≡ true

-- the end of this connection, told or by a line that may not stand there
abbrev pub Ends : Tables → Input → ℕ → Type 0
Ends before (Line c text random) conn = (c ≡ conn) × (is_open_in before conn ≡ true)
Ends before (Broken c) conn = c ≡ conn
Ends before (Gone c) conn = c ≡ conn
Ends before _ conn = ⊥

-- a new request with this body: a client's login, or a master's lookup
abbrev pub MadeLogin : Tables → Input → ℕ → ℕ → Bytes → Body → Type 0
MadeLogin before entered conn id random body =
    (mech : Bytes) × (params : Pairs) × (resp : Option Bytes) × ReadsClient before entered conn random (Auth id mech params resp)
    × (body ≡ Authenticates mech params resp [])

abbrev pub MadeLookup : Settings → ℕ → Tables → Input → ℕ → ℕ → Bytes → Body → Type 0
MadeLookup settings moment before entered conn id random body =
    (pid : ℕ) × (client : ℕ) × (cookie : Bytes) × ReadsMaster before entered conn random (LookupRequest id pid client cookie)
    × (body ≡ LooksUp (granted settings moment before pid client cookie))

pub record IsMade (settings : Settings) (moment : ℕ) (before : Tables) (entered : Input) (conn id : ℕ) (random : Bytes) (body : Body) : Type 0 where
  pub connection : Connection
  pub is_there : nth before.connections conn ≡ Some connection
  pub is_connected : connection.is_open ≡ true
  pub made : MadeLogin before entered conn id random body ⊎ MadeLookup settings moment before entered conn id random body

-- a connection that told something of itself
pub record IsSameConnection (c d : Connection) : Type 0 where
  pub kind : d.kind ≡ c.kind
  pub cookie : d.cookie ≡ c.cookie
  pub is_open : d.is_open ≡ c.is_open

-- the connection keeps its process number, or tells one that no open client has
abbrev pub TellsPid : Tables → (Connection → Connection) → Type 0
TellsPid before change =
    ((c : Connection) → (change c).pid ≡ c.pid) ⊎ ((pid : ℕ) × ((c : Connection) → (change c).pid ≡ Some pid) × (list_any (has_pid pid) before.connections ≡ false))

-- the connection of this number keeps the version that it sent
abbrev pub KeepsVersion : Tables → ℕ → (Connection → Connection) → Type 0
KeepsVersion before conn change = (c : Connection) → nth before.connections conn ≡ Some c → (m : ℕ) → c.minor ≡ Some m → (change c).minor ≡ Some m

-- what a connection tells of itself: its version, where it sent none before, or its process number
pub record TellsItself (before : Tables) (conn : ℕ) (change : Connection → Connection) : Type 0 where
  pub pid : TellsPid before change
  pub version : KeepsVersion before conn change

-- a connection that may tell its version has sent none
unsent : (before : Tables) (conn major minor : ℕ) (c : Connection) → nth before.connections conn ≡ Some c → may_tell_version major c ≡ true → KeepsVersion before conn (with_version minor)
unsent before conn major minor c there may d at m told =
    absurd (true≢false (sym (ap (λ (x : Connection). has_version x) (same_Some c d (sym there ∙ at)) ∙ ap is_some told) ∙ not_true (has_version c) (and_first (not (has_version c)) (major == 1) may)))

abbrev opened : ConnKind → Bytes → Tables → Tables
opened kind random tables = record tables { connections = tables.connections ++ record { kind = kind; cookie = hex random; minor = None; pid = None; is_open = true } ∷ [] }

abbrev pub recorded : Settings → ℕ → Tables → ℕ → QueryRow → Answer → Tables
recorded settings moment tables query a given = with_query (answered_by settings moment (nth tables.requests a.request) (recorded_answer a.question.kind given)) query tables

-- the answer to this question is kept
abbrev pub with_kept : Settings → ℕ → Question → Answer → Tables → Tables
with_kept settings query q answer tables =
    record tables { cacheable = query ∷ tables.cacheable; keys = with_key settings.cache_size (ttl_of settings answer) (key_of q) tables.keys }

abbrev answer_in : Option QueryRow → Option Answer
answer_in o = option_and_then (λ (a : QueryRow). option_map (λ (p : Answer × ℕ). p.0) a.answer) o

-- ---- the parts

-- what comes before the input's own effect gives U, a fact on the tables: the query of a Take is handed out, requests are
-- timed out, and the replies that are due are given
pub record BeforeParts (settings : Settings) (moment : ℕ) (origin : Tables) (entered : Input) (S T U : Tables → Type 0) : Type 0 where
  pub takes : entered ≡ Take → S (with_query (as_taken moment) (first_waiting origin) origin)
  pub stays : S origin
  pub times_out : (tables : Tables) → S tables → T (with_timed_out settings moment tables)
  pub replies : (tables : Tables) → T tables → U (with_due_replied settings moment tables)

module _ (settings : Settings) (moment : ℕ) (origin : Tables) (entered : Input) (S T U : Tables → Type 0) (k : BeforeParts settings moment origin entered S T U) where
  handed_out : (input : Input) → entered ≡ input → S (with_handed_out moment input origin)
  handed_out (Opened kind random) l = k.stays
  handed_out (Line conn text random) l = k.stays
  handed_out (Broken conn) l = k.stays
  handed_out (Gone conn) l = k.stays
  handed_out Take l = k.takes l
  handed_out (Answered query given) l = k.stays
  handed_out (Late query) l = k.stays
  handed_out Tick l = k.stays

  pub before_replies_gives : T (before_replies settings moment entered origin)
  before_replies_gives = k.times_out (with_handed_out moment entered origin) (handed_out entered refl)

  pub before_gives : U (before_input settings moment entered origin)
  unfolding before_input
  before_gives = k.replies (before_replies settings moment entered origin) before_replies_gives

-- what comes before an input's own effect leaves the connections as they are
pub connections_before : (settings : Settings) (moment : ℕ) (origin : Tables) (entered : Input) → (before_input settings moment entered origin).connections ≡ origin.connections
unfolding with_due_replied with_timed_out
connections_before settings moment origin entered =
    before_gives settings moment origin entered (λ t. t.connections ≡ origin.connections) (λ t. t.connections ≡ origin.connections) (λ t. t.connections ≡ origin.connections)
    (record { takes = λ l. refl; stays = refl; times_out = λ t q. q; replies = λ t q. q })

-- and the queries but for the one that is handed out
pub queries_before : (settings : Settings) (moment : ℕ) (origin : Tables) (entered : Input) → (before_input settings moment entered origin).queries ≡ (with_handed_out moment entered origin).queries
unfolding before_input with_due_replied with_timed_out
queries_before settings moment origin entered = refl

-- so where an answer is told, all queries
pub told_queries : (settings : Settings) (moment : ℕ) (origin : Tables) (entered : Input) (query : ℕ) (given : Answer) → Tells entered query given → (before_input settings moment entered origin).queries ≡ origin.queries
told_queries settings moment origin entered query given t = queries_before settings moment origin entered ∙ go entered t
  where
    go : (i : Input) → Tells i query given → (with_handed_out moment i origin).queries ≡ origin.queries
    go (Opened kind random) x = absurd x
    go (Line conn text random) x = absurd x
    go (Broken conn) x = absurd x
    go (Gone conn) x = absurd x
    go Take x = absurd x
    go (Answered n answer) x = refl
    go (Late n) x = refl
    go Tick x = absurd x

-- the input's own effect gives P, a fact on the tables and the request that continues
pub record InputParts (settings : Settings) (moment : ℕ) (before : Tables) (entered : Input) (P : Tables → Option ℕ → Type 0) : Type 0 where
  pub opens : (kind : ConnKind) (random : Bytes) → entered ≡ Opened kind random → P before None → P (opened kind random before) None
  pub tells : (conn : ℕ) (change : Connection → Connection) → ((c : Connection) → IsSameConnection c (change c)) → TellsItself before conn change → P before None →
      P (with_connection change conn before) None
  pub ends : (conn : ℕ) → Ends before entered conn → P before None → P (with_end conn before) None
  pub cancels : (n : ℕ) → passes_option (is_cancellable settings before n) (nth before.requests n) ≡ true → P before None → P (with_request cancelled n before) None
  pub texts : (conn id : ℕ) (random text : Bytes) → ReadsClient before entered conn random (Cont id text) →
      (r : Request) → nth before.requests (request_number before conn id) ≡ Some r → is_awaiting settings r ≡ true → P before None →
      P (with_request (with_text text) (request_number before conn id) before) (Some (request_number before conn id))
  pub makes : (conn id : ℕ) (random : Bytes) (body : Body) → IsMade settings moment before entered conn id random body → P before None →
      P (record before { requests = before.requests ++ new_request moment conn id random body ∷ [] }) (Some (suc (length before.requests)))
  pub loses : (query : ℕ) (given : Answer) (a : QueryRow) → Tells entered query given → nth before.queries query ≡ Some a → is_running a ≡ true →
      is_lost before.queries query a (recorded_answer a.question.kind given) ≡ true → IsUndecidedAt before.requests a.request → P before None →
      P (recorded settings moment before query a given) (Some a.request)
  pub loses_late : (query : ℕ) (given : Answer) (a : QueryRow) → Tells entered query given → nth before.queries query ≡ Some a → is_running a ≡ true →
      is_lost before.queries query a (recorded_answer a.question.kind given) ≡ true → passes_option is_undecided (nth before.requests a.request) ≡ false → P before None →
      P (recorded settings moment before query a given) None
  pub answers : (query : ℕ) (given : Answer) (a : QueryRow) → Tells entered query given → nth before.queries query ≡ Some a → is_running a ≡ true →
      is_lost before.queries query a (recorded_answer a.question.kind given) ≡ false → IsUndecidedAt before.requests a.request → P before None →
      P (with_request (with_answer a.question.db (recorded_answer a.question.kind given)) a.request (recorded settings moment before query a given)) (Some a.request)
  pub lates : (query : ℕ) (given : Answer) (a : QueryRow) → Tells entered query given → nth before.queries query ≡ Some a → is_running a ≡ true →
      is_lost before.queries query a (recorded_answer a.question.kind given) ≡ false → passes_option is_undecided (nth before.requests a.request) ≡ false → P before None →
      P (with_request (with_late_answer a.question.db (recorded_answer a.question.kind given)) a.request (recorded settings moment before query a given)) None

-- hits give Q, a fact on the tables, the request that continues and the hits that it has had, and what follows for it gives R
pub record ContinuedParts (settings : Settings) (moment : ℕ) (before : Tables) (entered : Input) (hits : List ℕ) (Q : Tables → Option ℕ → List ℕ → Type 0) (R : Tables → Option ℕ → Type 0) : Type 0 where
  pub hit : (tables : Tables) (continued number : ℕ) (done rest : List ℕ) (a : QueryRow) (p : Answer × ℕ) → nth tables.queries number ≡ Some a → a.answer ≡ Some p →
      done ++ number ∷ rest ≡ hits → IsUndecidedAt tables.requests continued → Q tables (Some continued) done → Q (hit_with settings continued number a p.0 tables) (Some continued) (done ++ number ∷ [])
  pub misses : (tables : Tables) (continued number : ℕ) (done rest : List ℕ) → answer_of tables number ≡ None → done ++ number ∷ rest ≡ hits → Q tables (Some continued) done → Q tables (Some continued) (done ++ number ∷ [])
  pub rests : (tables : Tables) → Q tables None [] → R tables None
  pub awaits : (tables : Tables) (n : ℕ) (r : Request) (text : Bytes) → nth tables.requests n ≡ Some r → is_undecided r ≡ true → request_stage settings r ≡ Awaits text →
      Q tables (Some n) hits → R tables (Some n)
  pub asks : (tables : Tables) (n : ℕ) (r : Request) (q : Question) → nth tables.requests n ≡ Some r → is_undecided r ≡ true → request_stage settings r ≡ Asks q →
      Q tables (Some n) hits → R (with_new_query settings n r q tables) (Some n)
  pub decides : (tables : Tables) (n : ℕ) (r : Request) (d : Decision) → nth tables.requests n ≡ Some r → is_undecided r ≡ true → request_stage settings r ≡ Decided d →
      Q tables (Some n) hits → R (with_request (with_decision settings moment) n tables) (Some n)
  pub kept : (tables : Tables) (m : Option ℕ) (query : ℕ) (given : Answer) (a : QueryRow) → entered ≡ Answered query given → is_running_in before query ≡ true →
      nth tables.queries query ≡ Some a → is_kept a.question.kind (recorded_answer a.question.kind given) ≡ true → R tables m →
      R (with_kept settings query a.question (recorded_answer a.question.kind given) tables) m

module _ (settings : Settings) (moment : ℕ) (before : Tables) (entered : Input) (P : Tables → Option ℕ → Type 0) (k : InputParts settings moment before entered P) where
  pub record IsSound (h : AfterInput) : Type 0 where
    pub fact : P h.tables h.continued
    pub continued : ContinuedUndecided h.tables.requests h.continued

  quiet : (tables : Tables) → P tables None → IsSound (continuing_none tables)
  quiet tables p = record { fact = p; continued = tt }

  sound_ends : (conn : ℕ) → Ends before entered conn → P before None → IsSound (closing conn before)
  sound_ends conn e p = record { fact = k.ends conn e p; continued = tt }

  sound_new : (conn id : ℕ) (random : Bytes) (body : Body) → IsMade settings moment before entered conn id random body → P before None →
      IsSound (continuing_new (new_request moment conn id random body) before)
  sound_new conn id random body m p = record {
    fact = k.makes conn id random body m p;
    continued = ap (passes_option is_undecided) (nth-last before.requests (new_request moment conn id random body));
  }

  sound_continues : (conn id : ℕ) (random text : Bytes) → ReadsClient before entered conn random (Cont id text) → P before None →
      IsSound (continues settings (request_number before conn id) text before)
  sound_continues conn id random text m p =
      by_test IsSound (passes_option (is_awaiting settings) (nth before.requests (request_number before conn id)))
      (continuing (request_number before conn id) (with_request (with_text text) (request_number before conn id) before)) (continuing_none before)
      (λ e. go (passing (is_awaiting settings) _ e)) (λ e. quiet before p)
    where
      go : (r : Request) × (nth before.requests (request_number before conn id) ≡ Some r) × (is_awaiting settings r ≡ true) →
          IsSound (continuing (request_number before conn id) (with_request (with_text text) (request_number before conn id) before))
      go (r, is, w) = record {
        fact = k.texts conn id random text m r is w p;
        continued = still_undecided (with_text text) (λ r. refl) before.requests (request_number before conn id)
            (ap (passes_option is_undecided) is ∙ and_first (is_undecided r) _ w);
      }

  sound_cancels : (n : ℕ) → P before None → IsSound (cancels settings n before)
  sound_cancels n p = by_test IsSound (passes_option (is_cancellable settings before n) (nth before.requests n)) (continuing_none (with_request cancelled n before)) (continuing_none before)
      (λ e. quiet (with_request cancelled n before) (k.cancels n e p)) (λ e. quiet before p)

  sound_client_message : (conn : ℕ) (random : Bytes) (message : ClientMsg) → ReadsClient before entered conn random message → P before None →
      IsSound (after_client_message settings moment conn random message before)
  sound_client_message conn random (Version major minor) m p = quiet _ (k.tells conn (with_version minor) (λ c. record { kind = refl; cookie = refl; is_open = refl })
      (record { pid = inl (λ c. refl); version = unsent before conn major minor m.connection m.is_there m.may }) p)
  sound_client_message conn random (Pid pid) m p = quiet _ (k.tells conn (with_pid pid) (λ c. record { kind = refl; cookie = refl; is_open = refl })
      (record {
        pid = inr (
          pid,
          (λ c. refl),
          not_true (list_any (has_pid pid) before.connections)
              (and_second (has_version m.connection && not (is_some m.connection.pid)) (not (list_any (has_pid pid) before.connections)) m.may),
        );
        version = λ c at k told. told;
      }) p)
  sound_client_message conn random (Auth id mech params resp) m p =
      sound_new conn id random (Authenticates mech params resp [])
      (record { connection = m.connection; is_there = m.is_there; is_connected = m.is_connected; made = inl (mech, params, resp, m, refl) }) p
  sound_client_message conn random (Cont id text) m p = sound_continues conn id random text m p
  sound_client_message conn random (Cancel id) m p = sound_cancels (request_number before conn id) p
  sound_client_message conn random Other m p = quiet before p

  sound_master_message : (conn : ℕ) (random : Bytes) (message : MasterMsg) → ReadsMaster before entered conn random message → P before None →
      IsSound (after_master_message settings moment conn random message before)
  sound_master_message conn random (MasterVersion major minor) m p = quiet _ (k.tells conn (with_version minor) (λ c. record { kind = refl; cookie = refl; is_open = refl })
      (record { pid = inl (λ c. refl); version = unsent before conn major minor m.connection m.is_there m.may }) p)
  sound_master_message conn random (LookupRequest id pid client cookie) m p =
      sound_new conn id random (LooksUp (granted settings moment before pid client cookie))
      (record { connection = m.connection; is_there = m.is_there; is_connected = m.is_connected; made = inr (pid, client, cookie, m, refl) }) p
  sound_master_message conn random MasterOther m p = quiet before p

  line_ends : (conn : ℕ) (text random : Bytes) → entered ≡ Line conn text random → is_open_in before conn ≡ true → Ends before entered conn
  line_ends conn text random l o = subst (λ (i : Input). Ends before i conn) (sym l) (refl, o)

  module _ (conn : ℕ) (text random : Bytes) (l : entered ≡ Line conn text random) (c : Connection) (is : nth before.connections conn ≡ Some c) (o : c.is_open ≡ true) (p : P before None) where
    closes : IsSound (closing conn before)
    closes = sound_ends conn (line_ends conn text random l (ap (passes_option (λ c. c.is_open)) is ∙ o)) p

    sound_client_line : is_client c.kind ≡ true → (said : Option ClientMsg) → client_message text ≡ said → IsSound (client_line settings moment conn random c said before)
    sound_client_line d None s = closes
    sound_client_line d (Some message) s = by_test IsSound (client_may before conn c message) (after_client_message settings moment conn random message before) (closing conn before)
        (λ e. sound_client_message conn random message (record { text = text; is_line = l; connection = c; is_there = is; is_connected = o; is_client = d; spells = s; may = e }) p)
        (λ e. closes)

    sound_master_line : is_client c.kind ≡ false → (said : Option MasterMsg) → master_message text ≡ said → IsSound (master_line settings moment conn random c said before)
    sound_master_line d None s = closes
    sound_master_line d (Some message) s = by_test IsSound (master_may before conn c message) (after_master_message settings moment conn random message before) (closing conn before)
        (λ e. sound_master_message conn random message (record { text = text; is_line = l; connection = c; is_there = is; is_connected = o; is_master = d; spells = s; may = e }) p)
        (λ e. closes)

    sound_line_by : IsSound (line_by settings moment conn text random c before)
    sound_line_by = by_test IsSound (is_client c.kind) _ _ (λ d. sound_client_line d (client_message text) refl) (λ d. sound_master_line d (master_message text) refl)

  sound_line : (conn : ℕ) (text random : Bytes) → entered ≡ Line conn text random → (o : Option Connection) → nth before.connections conn ≡ o → P before None →
      IsSound (line_on settings moment conn text random o before)
  sound_line conn text random l None is p = quiet before p
  sound_line conn text random l (Some c) is p = by_test IsSound c.is_open (line_by settings moment conn text random c before) (continuing_none before)
      (λ e. sound_line_by conn text random l c is e p) (λ e. quiet before p)

  sound_answers : (query : ℕ) (given : Answer) (a : QueryRow) → Tells entered query given → nth before.queries query ≡ Some a → is_running a ≡ true → P before None →
      IsSound (after_answer_for settings moment query a (recorded_answer a.question.kind given) before)
  sound_answers query given a g is run p =
      by_test IsSound (is_lost before.queries query a (recorded_answer a.question.kind given))
      (asks_again a.request (recorded settings moment before query a given))
      (answers_request a.request a.question (recorded_answer a.question.kind given) (recorded settings moment before query a given))
      (λ lost. by_test IsSound (passes_option is_undecided (nth before.requests a.request))
      (continuing a.request (recorded settings moment before query a given))
      (continuing_none (recorded settings moment before query a given))
      (λ e. record { fact = k.loses query given a g is run lost e p; continued = e })
      (λ e. quiet _ (k.loses_late query given a g is run lost e p)))
      (λ counts. by_test IsSound (passes_option is_undecided (nth before.requests a.request))
      (continuing a.request (with_request (with_answer a.question.db (recorded_answer a.question.kind given)) a.request (recorded settings moment before query a given)))
      (continuing_none (with_request (with_late_answer a.question.db (recorded_answer a.question.kind given)) a.request (recorded settings moment before query a given)))
      (λ e. record {
        fact = k.answers query given a g is run counts e p;
        continued = still_undecided (with_answer a.question.db (recorded_answer a.question.kind given)) (λ r. refl) before.requests a.request e;
      })
      (λ e. quiet _ (k.lates query given a g is run counts e p)))

  sound_records : (query : ℕ) (given : Answer) → Tells entered query given → (o : Option QueryRow) → nth before.queries query ≡ o → P before None →
      IsSound (after_answer settings moment query given o before)
  sound_records query given g None is p = quiet before p
  sound_records query given g (Some a) is p = by_test IsSound (is_running a) (after_answer_for settings moment query a (recorded_answer a.question.kind given) before) (continuing_none before)
      (λ e. sound_answers query given a g is e p) (λ e. quiet before p)

  pub sound_input : (input : Input) → entered ≡ input → P before None → IsSound (after_input settings moment input before)
  unfolding after_input
  sound_input (Opened kind random) l p = quiet _ (k.opens kind random l p)
  sound_input (Line conn text random) l p = sound_line conn text random l (nth before.connections conn) refl p
  sound_input (Broken conn) l p = sound_ends conn (subst (λ (i : Input). Ends before i conn) (sym l) refl) p
  sound_input (Gone conn) l p = quiet _ (k.ends conn (subst (λ (i : Input). Ends before i conn) (sym l) refl) p)
  sound_input Take l p = quiet before p
  sound_input (Answered query given) l p = sound_records query given (subst (λ (i : Input). Tells i query given) (sym l) (refl, refl)) (nth before.queries query) refl p
  sound_input (Late query) l p = sound_records query (Internal WasLate) (subst (λ (i : Input). Tells i query (Internal WasLate)) (sym l) (refl, refl)) (nth before.queries query) refl p
  sound_input Tick l p = quiet before p

-- ---- hits, and what follows

module _ (settings : Settings) (moment : ℕ) (before : Tables) (entered : Input) (hits : List ℕ) (Q : Tables → Option ℕ → List ℕ → Type 0) (R : Tables → Option ℕ → Type 0)
    (k : ContinuedParts settings moment before entered hits Q R) where
  record IsContinued (continued : ℕ) (done : List ℕ) (tables : Tables) : Type 0 where
    pub fact : Q tables (Some continued) done
    pub undecided : IsUndecidedAt tables.requests continued

  no_answer : (tables : Tables) (number : ℕ) (a : QueryRow) → nth tables.queries number ≡ Some a → a.answer ≡ None → answer_of tables number ≡ None
  no_answer tables number a is e = ap answer_in is ∙ ap (option_map (λ (p : Answer × ℕ). p.0)) e

  sound_hit : (continued number : ℕ) (done rest : List ℕ) (tables : Tables) (o : Option QueryRow) → nth tables.queries number ≡ o → done ++ number ∷ rest ≡ hits → IsContinued continued done tables →
      IsContinued continued (done ++ number ∷ []) (hit_on settings continued number o tables)
  sound_hit continued number done rest tables None is w h = record { fact = k.misses tables continued number done rest (ap answer_in is) w h.fact; undecided = h.undecided }
  sound_hit continued number done rest tables (Some a) is w h = go a.answer refl
    where
      go : (o : Option (Answer × ℕ)) → a.answer ≡ o → IsContinued continued (done ++ number ∷ []) (option_or_else o tables (λ p. hit_with settings continued number a p.0 tables))
      go None e = record { fact = k.misses tables continued number done rest (no_answer tables number a is e) w h.fact; undecided = h.undecided }
      go (Some p) e = record {
        fact = k.hit tables continued number done rest a p is e w h.undecided h.fact;
        undecided = still_undecided (with_answer a.question.db p.0) (λ r. refl) tables.requests continued h.undecided;
      }

  sound_hits : (continued : ℕ) (done ns : List ℕ) (tables : Tables) → done ++ ns ≡ hits → IsContinued continued done tables → IsContinued continued hits (after_hits settings continued tables ns)
  sound_hits continued done [] tables w h = subst (λ (d : List ℕ). IsContinued continued d tables) (sym (append-nil done) ∙ w) h
  sound_hits continued done (n ∷ ns) tables w h =
      sound_hits continued (done ++ n ∷ []) ns (after_hit settings continued tables n) (append_assoc done (n ∷ []) ns ∙ w) (sound_hit continued n done ns tables (nth tables.queries n) refl w h)

  sound_follows : (n : ℕ) (o : Option Request) (tables : Tables) → nth tables.requests n ≡ o → IsContinued n hits tables → R (follows_for settings moment n o tables) (Some n)
  sound_follows n None tables is h = absurd (true≢false (sym h.undecided ∙ ap (passes_option is_undecided) is))
  sound_follows n (Some r) tables is h = go (request_stage settings r) refl
    where
      u : is_undecided r ≡ true
      u = sym (ap (passes_option is_undecided) is) ∙ h.undecided

      go : (s : Stage) → request_stage settings r ≡ s → R (follows_from settings moment n r s tables) (Some n)
      go (Awaits text) e = k.awaits tables n r text is u e h.fact
      go (Asks q) e = k.asks tables n r q is u e h.fact
      go (Decided d) e = k.decides tables n r d is u e h.fact

  sound_continued : (tables : Tables) (o : Option ℕ) → Q tables o [] → ContinuedUndecided tables.requests o → R (after_continued settings moment hits (record { tables = tables; continued = o; closed = None })) o
  unfolding after_stage
  sound_continued tables None p u = k.rests tables p
  sound_continued tables (Some n) p u = sound_follows n _ (after_hits settings n tables hits) refl (sound_hits n [] hits tables refl (record { fact = p; undecided = u }))

  sound_kept : (tables : Tables) (m : Option ℕ) (query : ℕ) (given : Answer) → entered ≡ Answered query given → is_running_in before query ≡ true → (o : Option QueryRow) →
      nth tables.queries query ≡ o → R tables m → R (kept_for settings query given o tables) m
  sound_kept tables m query given l run None is r = r
  sound_kept tables m query given l run (Some a) is r =
      by_test (λ (x : Tables). R x m) (is_kept a.question.kind (recorded_answer a.question.kind given)) (with_kept settings query a.question (recorded_answer a.question.kind given) tables) tables
      (λ e. k.kept tables m query given a l run is e r) (λ e. r)

  sound_keeps : (tables : Tables) (m : Option ℕ) (input : Input) → entered ≡ input → R tables m → R (keeps settings before input tables) m
  sound_keeps tables m (Opened kind random) l r = r
  sound_keeps tables m (Line conn text random) l r = r
  sound_keeps tables m (Broken conn) l r = r
  sound_keeps tables m (Gone conn) l r = r
  sound_keeps tables m Take l r = r
  sound_keeps tables m (Answered query given) l r = by_test (λ (x : Tables). R x m) (is_running_in before query) (kept_for settings query given (nth tables.queries query) tables) tables
      (λ e. sound_kept tables m query given l e (nth tables.queries query) refl r) (λ e. r)
  sound_keeps tables m (Late query) l r = r
  sound_keeps tables m Tick l r = r

  -- hits, what follows and what is kept together
  pub continued_gives : (h : AfterInput) → Q h.tables h.continued [] → ContinuedUndecided h.tables.requests h.continued → R (keeps settings before entered (after_continued settings moment hits h)) h.continued
  continued_gives h q u = sound_keeps (after_continued settings moment hits h) h.continued entered refl (sound_continued h.tables h.continued q u)

-- what its parts give, an entry gives
module _ (settings : Settings) (origin : Tables) (e : Entry) (Q : Tables → Option ℕ → List ℕ → Type 0) (R : Tables → Option ℕ → Type 0) where
  abbrev before : Tables
  before = before_input settings e.moment e.input origin

  pub an_entry_gives : InputParts settings e.moment before e.input (λ tables m. Q tables m []) → ContinuedParts settings e.moment before e.input e.hits Q R → Q before None [] →
      R (after settings origin e) (after_input settings e.moment e.input before).continued
  unfolding after
  an_entry_gives i k q =
      let s : IsSound settings e.moment before e.input (λ tables m. Q tables m []) i (after_input settings e.moment e.input before) = sound_input settings e.moment before e.input (λ tables m. Q tables m []) i e.input refl q in
      continued_gives settings e.moment before e.input e.hits Q R k (after_input settings e.moment e.input before) s.fact s.continued
