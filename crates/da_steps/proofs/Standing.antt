-- An entry lets stand what is done, and so does each part of it.
use Rattle.std.proofs.Common.{◌≡◌, ◌⊎◌, inl, inr, refl, sym, ◌∙◌, ap, subst, Option, Some, None, List, ◌++◌, ℕ, Bool, true, false, map, is_some, not, ◌&&◌, option_map, true≢false}
use Rattle.std.proofs.lemmas.Option.{none-some, same_Some}
use Rattle.da_tables.proofs.Cases.{by_test, and_first, and_second, not_true}
use Rattle.da_play.proofs.EntryParts.{InputParts, ContinuedParts, IsUndecidedAt, IsSameConnection, IsSound, sound_input, before_gives, continued_gives, an_entry_gives, recorded}
use Rattle.da_tables.proofs.Rows.{same_or_not, nth-changed, nth-unchanged, nth-map, nth-before, first_passes}
use Rattle.da_base.specs.Words.{Bytes, nth, changed_nth, passes_option}
use Rattle.da_fields.specs.declared.answer.Answer.{Answer}
use Rattle.da_keys.specs.Keys.{key_first}
use Rattle.da_play.specs.History.{after, after_input, before_input}
use Rattle.da_tables.specs.Tables.{with_due_replied, with_timed_out}
use Rattle.da_request.specs.Requests.{with_decision, replied_if_due}
use Rattle.da_tables.specs.Queries.{as_taken}
use Rattle.da_tables.specs.Queries.{used_again}
use Rattle.da_tables.specs.Hits.{hit_comparison, hit_with}
use Rattle.da_request.specs.Requests.{with_text, body_with_text}
use Rattle.da_request.specs.Requests.{with_answer, with_late_answer}
use Rattle.da_tables.specs.RecordedAnswers.{answered_by, recorded_answer, key_of}
use Rattle.da_tables.specs.Queries.{is_running, is_waiting, first_waiting}
use Rattle.da_request.specs.Requests.{has_limit, is_authentication, is_granted_for, is_over_limit, is_undecided, is_due, is_held, is_pending, timed_out, timed_out_if_over}
use Rattle.da_tables.specs.Tables.{AfterInput, with_end, with_query, closed}
use Rattle.da_request.specs.Requests.{cancelled, as_cancelled_of, is_of}
use Rattle.da_play.specs.declared.input.Entry.{Entry}
use Rattle.da_play.specs.declared.input.Input.{Input}
use Rattle.da_settings.specs.declared.settings.Settings.{Settings}
use Rattle.da_tables.specs.declared.queries.QueryRow.{QueryRow}
use Rattle.da_request.specs.declared.request.Body.{Body}
use Rattle.da_request.specs.declared.request.Body.TheVariants.{Authenticates, LooksUp}
use Rattle.da_tables.specs.declared.connections.Connection.{Connection}
use Rattle.da_request.specs.declared.request.Request.{Request}
use Rattle.da_tables.specs.declared.tables.Tables.{Tables}
use Rattle.da_steps.specs.Standing.{ConnectionStands, RequestStands, QueryStands, TablesStand}

-- ---- rows

-- each row of the earlier table stands in the later one
abbrev pub RowsStand : {A : Type 0} → (A → A → Type 0) → List A → List A → Type 0
RowsStand {A} S xs ys = (n : ℕ) (x : A) → nth xs n ≡ Some x → (y : A) × (nth ys n ≡ Some y) × S x y

module _ {A : Type 0} (S : A → A → Type 0) (same : (x : A) → S x x) (trans : (x y z : A) → S x y → S y z → S x z) where
  pub same_rows : (xs : List A) → RowsStand S xs xs
  same_rows xs n x e = (x, e, same x)

  pub rows_later : (xs ys zs : List A) → RowsStand S xs ys → RowsStand S ys zs → RowsStand S xs zs
  rows_later xs ys zs f g n x e =
      let y : (y : A) × (nth ys n ≡ Some y) × S x y = f n x e in
      let z : (z : A) × (nth zs n ≡ Some z) × S y.0 z = g n y.0 y.1 in
      (z.0, z.1, trans x y.0 z.0 y.2 z.2)

  pub longer_rows : (xs ys : List A) → RowsStand S xs (xs ++ ys)
  longer_rows xs ys n x e = (x, nth-before xs ys x n e, same x)

  pub mapped_rows : (f : A → A) → ((x : A) → S x (f x)) → (xs : List A) → RowsStand S xs (map f xs)
  mapped_rows f h xs n x e = (f x, nth-map f xs n ∙ ap (option_map f) e, h x)

  pub changed_rows : (f : A → A) (xs : List A) (m : ℕ) → ((x : A) → nth xs m ≡ Some x → S x (f x)) → RowsStand S xs (changed_nth f xs m)
  changed_rows f xs m h n x e = go (same_or_not n m)
    where
      go : ((n ≡ m) ⊎ (n ≡ m → ⊥)) → (y : A) × (nth (changed_nth f xs m) n ≡ Some y) × S x y
      go (inl d) = (f x, ap (nth (changed_nth f xs m)) d ∙ nth-changed f xs m ∙ ap (option_map f) (ap (nth xs) (sym d) ∙ e), h x (ap (nth xs) (sym d) ∙ e))
      go (inr d) = (x, nth-unchanged f xs m n d ∙ e, same x)

-- ---- connections

same_connection : (c : Connection) → ConnectionStands c c
same_connection c = record { kind = refl; cookie = refl; minor = λ m e. e; is_ended = λ e. e }

connection_later : (a b c : Connection) → ConnectionStands a b → ConnectionStands b c → ConnectionStands a c
connection_later a b c f g = record { kind = g.kind ∙ f.kind; cookie = g.cookie ∙ f.cookie; minor = λ m e. g.minor m (f.minor m e); is_ended = λ e. f.is_ended (g.is_ended e) }

told_stands : (c d : Connection) → IsSameConnection c d → ((m : ℕ) → c.minor ≡ Some m → d.minor ≡ Some m) → ConnectionStands c d
told_stands c d s v = record { kind = s.kind; cookie = s.cookie; minor = v; is_ended = λ e. sym s.is_open ∙ e }

closed_stands : (c : Connection) → ConnectionStands c (closed c)
closed_stands c = record { kind = refl; cookie = refl; minor = λ m e. e; is_ended = λ e. absurd (true≢false (sym e)) }

-- ---- requests

same_request : (r : Request) → RequestStands r r
same_request r = record { conn = refl; id = refl; random = refl; start = refl; is_client = refl; grant = λ n. refl; cancelled = λ e. e; decided = λ m e. e; replied = λ m e. e; body = λ e. refl; timed_out = λ e. refl; answers = λ e f. refl }

pub is_there : (o : Option ℕ) → is_some o ≡ true → (m : ℕ) × (o ≡ Some m)
is_there None e = absurd (true≢false (sym e))
is_there (Some m) e = (m, refl)

pub request_later : (a b c : Request) → RequestStands a b → RequestStands b c → RequestStands a c
request_later a b c f g = record {
  conn = g.conn ∙ f.conn;
  id = g.id ∙ f.id;
  random = g.random ∙ f.random;
  start = g.start ∙ f.start;
  is_client = g.is_client ∙ f.is_client;
  grant = λ n. g.grant n ∙ f.grant n;
  cancelled = λ e. g.cancelled (f.cancelled e);
  decided = λ m e. g.decided m (f.decided m e);
  replied = λ m e. g.replied m (f.replied m e);
  body = λ e. g.body (still e) ∙ f.body e;
  timed_out = λ e. g.timed_out (still e) ∙ f.timed_out e;
  answers = λ e t. g.answers (still e) (f.timed_out e ∙ t) ∙ f.answers e t;
}
  where
    still : is_some a.decided ≡ true → is_some b.decided ≡ true
    still e = let d : (m : ℕ) × (a.decided ≡ Some m) = is_there a.decided e in ap is_some (f.decided d.0 d.1)

pub cancelled_stands : (r : Request) → RequestStands r (cancelled r)
cancelled_stands r = record { conn = refl; id = refl; random = refl; start = refl; is_client = refl; grant = λ n. refl; cancelled = λ e. refl; decided = λ m e. e; replied = λ m e. e; body = λ e. refl; timed_out = λ e. refl; answers = λ e f. refl }

cancelled_of_stands : (conn : ℕ) (r : Request) → RequestStands r (as_cancelled_of conn r)
cancelled_of_stands conn r = by_test (RequestStands r) (is_of conn r) (cancelled r) r (λ e. cancelled_stands r) (λ e. same_request r)

pub not_there : {A : Type 0} (o : Option A) (m : A) → is_some o ≡ false → o ≡ Some m → ⊥
not_there None m e d = none-some m d
not_there (Some x) m e d = true≢false e

-- what an undecided request hears more
pub undecided_is : (r : Request) → is_undecided r ≡ true → (is_some r.decided ≡ false) × (is_some r.replied ≡ false)
undecided_is r u = (not_true (is_some r.decided) (and_second (is_pending r) _ u), not_true (is_some r.replied) (and_second (not r.is_cancelled) _ (and_first (is_pending r) _ u)))

reads_more : (r s : Request) → is_some r.decided ≡ false → s.conn ≡ r.conn → s.id ≡ r.id → s.random ≡ r.random → s.start ≡ r.start → is_authentication s.body ≡ is_authentication r.body → ((n : ℕ) → is_granted_for n s.body ≡ is_granted_for n r.body) →
    s.is_cancelled ≡ r.is_cancelled → s.replied ≡ r.replied → RequestStands r s
reads_more r s u c i x t b g k p = record {
  conn = c;
  id = i;
  random = x;
  start = t;
  is_client = b;
  grant = g;
  cancelled = λ e. k ∙ e;
  decided = λ m e. absurd (not_there r.decided m u e);
  replied = λ m e. p ∙ e;
  body = λ e. absurd (true≢false (sym e ∙ u));
  timed_out = λ e. absurd (true≢false (sym e ∙ u));
  answers = λ e t. absurd (true≢false (sym e ∙ u));
}

text_stands : (text : Bytes) (r : Request) → is_undecided r ≡ true → RequestStands r (with_text text r)
text_stands text r u = reads_more r (with_text text r) (undecided_is r u).0 refl refl refl refl (same_kind r.body) (λ n. same_grant n r.body) refl refl
  where
    same_grant : (n : ℕ) (b : Body) → is_granted_for n (body_with_text text b) ≡ is_granted_for n b
    same_grant n (Authenticates mech params resp texts) = refl
    same_grant n (LooksUp grant) = refl

    same_kind : (b : Body) → is_authentication (body_with_text text b) ≡ is_authentication b
    same_kind (Authenticates mech params resp texts) = refl
    same_kind (LooksUp grant) = refl

answer_stands : (db : ℕ) (answer : Answer) (r : Request) → is_some r.decided ≡ false → RequestStands r (with_answer db answer r)
answer_stands db answer r u = reads_more r (with_answer db answer r) u refl refl refl refl refl (λ n. refl) refl refl

-- a late answer is one more to a request that isn't decided, or was timed out
pub late_stands : (db : ℕ) (answer : Answer) (r : Request) → RequestStands r (with_late_answer db answer r)
late_stands db answer r = by_test (RequestStands r) (is_some r.decided && not r.is_timed_out) r (with_answer db answer r) (λ e. same_request r)
    (λ e. record {
      conn = refl;
      id = refl;
      random = refl;
      start = refl;
      is_client = refl;
      grant = λ n. refl;
      cancelled = λ c. c;
      decided = λ m d. d;
      replied = λ m d. d;
      body = λ d. refl;
      timed_out = λ d. refl;
      answers = λ d t. absurd (true≢false (sym (ap (λ (x : Bool). x && not r.is_timed_out) d ∙ ap not t) ∙ e));
    })

pub reply_stands : (settings : Settings) (moment : ℕ) (r : Request) → RequestStands r (replied_if_due settings moment r)
unfolding is_due
reply_stands settings moment r = by_test (RequestStands r) (is_due settings moment r) (record r { replied = Some moment }) r
    (λ e. record {
      conn = refl;
      id = refl;
      random = refl;
      start = refl;
      is_client = refl;
      grant = λ n. refl;
      cancelled = λ c. c;
      decided = λ m d. d;
      replied = λ m d. absurd (not_there r.replied m (not_true (is_some r.replied) (and_second _ _ (and_first (is_held r) _ e))) d);
      body = λ d. refl;
      timed_out = λ d. refl;
      answers = λ d t. refl;
    })
    (λ e. same_request r)

-- a request that is timed out was undecided
time_out_stands : (settings : Settings) (moment : ℕ) (r : Request) → RequestStands r (timed_out_if_over settings moment r)
unfolding is_over_limit
time_out_stands settings moment r = by_test (RequestStands r) (is_over_limit settings moment r) (timed_out moment r) r
    (λ e. reads_more r (timed_out moment r) (undecided_is r (and_second (is_authentication r.body) (is_undecided r) (and_first (has_limit r) _ e))).0 refl refl refl refl refl (λ n. refl) refl refl)
    (λ e. same_request r)

decision_stands : (settings : Settings) (moment : ℕ) (r : Request) → is_undecided r ≡ true → RequestStands r (with_decision settings moment r)
decision_stands settings moment r u =
    request_later r (record r { decided = Some moment }) (with_decision settings moment r)
    (reads_more r (record r { decided = Some moment }) (undecided_is r u).0 refl refl refl refl refl (λ n. refl) refl refl)
    (reply_stands settings moment (record r { decided = Some moment }))

-- ---- queries

same_query : (a : QueryRow) → QueryStands a a
same_query a = record { request = refl; question = refl; password = refl; taken = λ m e. e; answer = λ p e. e }

query_later : (a b c : QueryRow) → QueryStands a b → QueryStands b c → QueryStands a c
query_later a b c f g = record { request = g.request ∙ f.request; question = g.question ∙ f.question; password = g.password ∙ f.password; taken = λ m e. g.taken m (f.taken m e); answer = λ p e. g.answer p (f.answer p e) }

-- ---- the parts of an entry

abbrev requests_stand : List Request → List Request → Type 0
requests_stand = RowsStand RequestStands

of_undecided : (rs : List Request) (n : ℕ) (r : Request) → IsUndecidedAt rs n → nth rs n ≡ Some r → is_undecided r ≡ true
of_undecided rs n r u e = sym (ap (passes_option is_undecided) e) ∙ u

pub all_same : (tables : Tables) → TablesStand tables tables
all_same tables = record { connections = same_rows ConnectionStands same_connection connection_later tables.connections; requests = same_rows RequestStands same_request request_later tables.requests; queries = same_rows QueryStands same_query query_later tables.queries }

pub tables_later : (a b c : Tables) → TablesStand a b → TablesStand b c → TablesStand a c
tables_later a b c f g = record {
  connections = rows_later ConnectionStands same_connection connection_later a.connections b.connections c.connections f.connections g.connections;
  requests = rows_later RequestStands same_request request_later a.requests b.requests c.requests f.requests g.requests;
  queries = rows_later QueryStands same_query query_later a.queries b.queries c.queries f.queries g.queries;
}

module _ (origin tables : Tables) (p : TablesStand origin tables) where
  with_connections : (cs : List Connection) → RowsStand ConnectionStands tables.connections cs → TablesStand origin (record tables { connections = cs })
  with_connections cs h = record { connections = rows_later ConnectionStands same_connection connection_later origin.connections tables.connections cs p.connections h; requests = p.requests; queries = p.queries }

  with_requests : (rs : List Request) → RowsStand RequestStands tables.requests rs → TablesStand origin (record tables { requests = rs })
  with_requests rs h = record { connections = p.connections; requests = rows_later RequestStands same_request request_later origin.requests tables.requests rs p.requests h; queries = p.queries }

  with_queries : (qs : List QueryRow) → RowsStand QueryStands tables.queries qs → TablesStand origin (record tables { queries = qs })
  with_queries qs h = record { connections = p.connections; requests = p.requests; queries = rows_later QueryStands same_query query_later origin.queries tables.queries qs p.queries h }

changed_connections : (f : Connection → Connection) → ((c : Connection) → ConnectionStands c (f c)) → (cs : List Connection) (n : ℕ) → RowsStand ConnectionStands cs (changed_nth f cs n)
changed_connections f h cs n = changed_rows ConnectionStands same_connection connection_later f cs n (λ c e. h c)

changed_requests : (f : Request → Request) (rs : List Request) (n : ℕ) → ((r : Request) → nth rs n ≡ Some r → RequestStands r (f r)) → RowsStand RequestStands rs (changed_nth f rs n)
changed_requests f rs n h = changed_rows RequestStands same_request request_later f rs n h

changed_queries : (f : QueryRow → QueryRow) (qs : List QueryRow) (n : ℕ) → ((a : QueryRow) → nth qs n ≡ Some a → QueryStands a (f a)) → RowsStand QueryStands qs (changed_nth f qs n)
changed_queries f qs n h = changed_rows QueryStands same_query query_later f qs n h

taken_stands : (moment : ℕ) (a : QueryRow) → is_some a.taken ≡ false → QueryStands a (as_taken moment a)
taken_stands moment a u = record { request = refl; question = refl; password = refl; taken = λ m e. absurd (not_there a.taken m u e); answer = λ p e. e }

answered_stands : (settings : Settings) (moment : ℕ) (r : Option Request) (answer : Answer) (a : QueryRow) → is_running a ≡ true → QueryStands a (answered_by settings moment r answer a)
answered_stands settings moment r answer a run = record {
  request = refl;
  question = refl;
  password = refl;
  taken = λ m e. e;
  answer = λ p e. absurd (not_there a.answer p (not_true (is_some a.answer) (and_second (is_some a.taken) _ run)) e);
}

used_stands : (comparison : Option Bool) (a : QueryRow) → QueryStands a (used_again comparison a)
used_stands comparison a = record { request = refl; question = refl; password = refl; taken = λ m e. e; answer = λ p e. e }

module _ (settings : Settings) (moment : ℕ) (origin before : Tables) (entered : Input) (hits : List ℕ) where
  abbrev P : Tables → Option ℕ → Type 0
  P tables m = TablesStand origin tables

  abbrev Q : Tables → Option ℕ → List ℕ → Type 0
  Q tables m done = TablesStand origin tables

  answered : (query : ℕ) (given : Answer) (a : QueryRow) → nth before.queries query ≡ Some a → is_running a ≡ true → TablesStand origin before → TablesStand origin (recorded settings moment before query a given)
  answered query given a is run p =
      with_queries origin before p _
      (changed_queries (answered_by settings moment (nth before.requests a.request) (recorded_answer a.question.kind given)) before.queries query
      (λ b e. answered_stands settings moment _ _ b (subst (λ (x : QueryRow). is_running x ≡ true) (same_Some a b (sym is ∙ e)) run)))

  end_stands : (conn : ℕ) → TablesStand origin before → TablesStand origin (with_end conn before)
  unfolding with_end
  end_stands conn p =
      with_requests origin (record before { connections = changed_nth closed before.connections conn })
      (with_connections origin before p (changed_nth closed before.connections conn) (changed_connections closed closed_stands before.connections conn))
      (map (as_cancelled_of conn) before.requests) (mapped_rows RequestStands same_request request_later (as_cancelled_of conn) (cancelled_of_stands conn) before.requests)

  pub input_stands : InputParts settings moment before entered P
  input_stands = record {
    opens = λ kind random l p. with_connections origin before p _ (longer_rows ConnectionStands same_connection connection_later before.connections _);
    tells = λ conn change h told p. with_connections origin before p _ (changed_rows ConnectionStands same_connection connection_later change before.connections conn (λ c at. told_stands c (change c) (h c) (told.version c at)));
    ends = λ conn e p. end_stands conn p;
    cancels = λ n e p. with_requests origin before p _ (changed_requests cancelled before.requests n (λ r is. cancelled_stands r));
    texts = λ conn id random text m r is w p. with_requests origin before p _ (changed_requests (with_text text) before.requests _
        (λ s e. text_stands text s (subst (λ (x : Request). is_undecided x ≡ true) (same_Some r s (sym is ∙ e)) (and_first (is_undecided r) _ w))));
    makes = λ conn id random body m p. with_requests origin before p _ (longer_rows RequestStands same_request request_later before.requests _);
    loses = λ query given a g is run lost u p. answered query given a is run p;
    loses_late = λ query given a g is run lost u p. answered query given a is run p;
    answers = λ query given a g is run counts u p. with_requests origin (recorded settings moment before query a given) (answered query given a is run p) _
        (changed_requests (with_answer a.question.db (recorded_answer a.question.kind given)) before.requests a.request
        (λ r e. answer_stands a.question.db (recorded_answer a.question.kind given) r (undecided_is r (of_undecided before.requests a.request r u e)).0));
    lates = λ query given a g is run counts u p. with_requests origin (recorded settings moment before query a given) (answered query given a is run p) _
        (changed_requests (with_late_answer a.question.db (recorded_answer a.question.kind given)) before.requests a.request
        (λ r e. late_stands a.question.db (recorded_answer a.question.kind given) r));
  }

  hit_stands : (tables : Tables) (continued number : ℕ) (a : QueryRow) (answer : Answer) → IsUndecidedAt tables.requests continued → TablesStand origin tables → TablesStand origin (hit_with settings continued number a answer tables)
  hit_stands tables continued number a answer u p =
      let rows : RowsStand QueryStands tables.queries _ = changed_queries (used_again (hit_comparison settings answer (nth tables.requests continued))) tables.queries number (λ b e. used_stands _ b) in
      let queries : TablesStand origin (with_query (used_again (hit_comparison settings answer (nth tables.requests continued))) number (record tables { keys = key_first (key_of a.question) tables.keys })) =
      record { connections = p.connections; requests = p.requests; queries = rows_later QueryStands same_query query_later origin.queries tables.queries _ p.queries rows } in
      with_requests origin _ queries _
      (changed_requests (with_answer a.question.db answer) tables.requests continued (λ r e. answer_stands a.question.db answer r (undecided_is r (of_undecided tables.requests continued r u e)).0))

  pub continued_stands : ContinuedParts settings moment before entered hits Q P
  continued_stands = record {
    hit = λ tables continued number done rest a p is e w u q. hit_stands tables continued number a p.0 u q;
    misses = λ tables continued number done rest e w q. q;
    rests = λ tables q. q;
    awaits = λ tables n r text is u e q. q;
    asks = λ tables n r question is u e q. with_queries origin tables q _ (longer_rows QueryStands same_query query_later tables.queries _);
    decides = λ tables n r d is u e q. with_requests origin tables q _ (changed_requests (with_decision settings moment) tables.requests n
        (λ s x. decision_stands settings moment s (subst (λ (y : Request). is_undecided y ≡ true) (same_Some r s (sym is ∙ x)) u)));
    kept = λ tables m query given a l run is k q. record { connections = q.connections; requests = q.requests; queries = q.queries };
  }

pub due_stand : (settings : Settings) (moment : ℕ) (tables : Tables) → TablesStand tables (with_due_replied settings moment tables)
unfolding with_due_replied
due_stand settings moment tables = with_requests tables tables (all_same tables) (map (replied_if_due settings moment) tables.requests)
    (mapped_rows RequestStands same_request request_later (replied_if_due settings moment) (reply_stands settings moment) tables.requests)

timed_stand : (settings : Settings) (moment : ℕ) (origin tables : Tables) → TablesStand origin tables → TablesStand origin (with_timed_out settings moment tables)
unfolding with_timed_out
timed_stand settings moment origin tables p = with_requests origin tables p (map (timed_out_if_over settings moment) tables.requests)
    (mapped_rows RequestStands same_request request_later (timed_out_if_over settings moment) (time_out_stands settings moment) tables.requests)

-- the first query that waits is handed out
taking_stands : (moment : ℕ) (tables : Tables) → TablesStand tables (with_query (as_taken moment) (first_waiting tables) tables)
taking_stands moment tables = with_queries tables tables (all_same tables) _
    (changed_queries (as_taken moment) tables.queries (first_waiting tables)
    (λ a e. taken_stands moment a (not_true (is_some a.taken) (and_first (not (is_some a.taken)) _ (and_first (not (is_some a.taken) && not (is_some a.answer)) _ (first_passes (is_waiting tables) tables.queries a e))))))

-- what comes before an input's own effect lets stand what is done
pub before_stands : (settings : Settings) (moment : ℕ) (input : Input) (tables : Tables) → TablesStand tables (before_input settings moment input tables)
before_stands settings moment input tables =
    before_gives settings moment tables input (TablesStand tables) (TablesStand tables) (TablesStand tables) (record {
      takes = λ is. taking_stands moment tables;
      stays = all_same tables;
      times_out = timed_stand settings moment tables;
      replies = λ now p. tables_later tables now (with_due_replied settings moment now) p (due_stand settings moment now);
    })

-- an entry lets stand what is done
pub entry_stands : (settings : Settings) (tables : Tables) (e : Entry) → TablesStand tables (after settings tables e)
entry_stands settings tables e =
    let before : Tables = before_input settings e.moment e.input tables in
    an_entry_gives settings tables e (Q settings e.moment tables before e.input e.hits) (P settings e.moment tables before e.input e.hits)
    (input_stands settings e.moment tables before e.input e.hits) (continued_stands settings e.moment tables before e.input e.hits) (before_stands settings e.moment e.input tables)

-- what follows an input's own effect lets stand what that left
pub rest_stands : (settings : Settings) (tables : Tables) (e : Entry) → TablesStand (after_input settings e.moment e.input (before_input settings e.moment e.input tables)).tables (after settings tables e)
unfolding after
rest_stands settings tables e =
    let before : Tables = before_input settings e.moment e.input tables in
    let h : AfterInput = after_input settings e.moment e.input before in
    let s : IsSound settings e.moment before e.input (λ x m. TablesStand before x) _ h =
    sound_input settings e.moment before e.input (λ x m. TablesStand before x) (input_stands settings e.moment before before e.input e.hits) e.input refl (all_same before) in
    continued_gives settings e.moment before e.input e.hits (λ x m done. TablesStand h.tables x) (λ x m. TablesStand h.tables x) (continued_stands settings e.moment h.tables before e.input e.hits) h (all_same h.tables) s.continued
