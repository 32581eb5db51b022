-- No two open clients have one process number, and no two requests of a connection one id.
use Rattle.std.proofs.Common.{◌≡◌, ◌≢◌, map, ◌⊎◌, inl, inr, refl, sym, ◌∙◌, ap, subst, Option, Some, None, List, [], ◌∷◌, ◌++◌, ℕ, zero, suc, Bool, true, false, cond, not, length, is_some, true≢false, ◌==◌, ◌&&◌, ◌||◌, eq-eqb}
use Rattle.std.specs.List.{list_any}
use Rattle.std.proofs.lemmas.Bool.{eqb-true}
use Rattle.std.proofs.lemmas.Option.{none-some, same_Some}
use Rattle.da_base.specs.Words.{Bytes, hex, nth, changed_nth, number_where, one_further, passes_option}
use Rattle.da_tables.proofs.Cases.{and_first, and_second, by_test}
use Rattle.da_tables.proofs.Rows.{of_appended, of_changed, of_mapped}
use Rattle.da_play.proofs.EntryParts.{ContinuedParts, InputParts, IsMade, IsSameConnection, MadeLogin, MadeLookup, TellsPid, an_entry_gives, before_gives}
use Rattle.da_play.specs.History.{before_input, tables_of}
use Rattle.da_play.specs.declared.input.Entry.{Entry}
use Rattle.da_play.specs.declared.input.Input.{Input}
use Rattle.da_invariants.specs.NameLaws.{IdsAreDistinct, ProcessNumbersAreDistinct}
use Rattle.da_invariants.proofs.OpenQueries.{nowhere}
use Rattle.da_request.specs.Requests.{as_cancelled_of, cancelled, is_due, is_of, is_over_limit, new_request, replied_if_due, timed_out, timed_out_if_over, with_answer, with_decision, with_late_answer, with_text}
use Rattle.da_request.specs.declared.request.Body.{Body}
use Rattle.da_request.specs.declared.request.Request.{Request}
use Rattle.da_settings.specs.declared.settings.Settings.{Settings}
use Rattle.std.specs.Prelude.{nat_lt}
use Rattle.da_tables.specs.Connections.{has_pid, pending_count, request_number, has_version}
use Rattle.da_tables.specs.Tables.{closed, is_client, with_due_replied, with_end, with_timed_out}
use Rattle.da_tables.specs.declared.connections.Connection.{Connection}
use Rattle.da_tables.specs.declared.tables.Tables.{Tables}

-- ---- rows that pass a test

-- where some row passes, not none does
any_at : {A : Type 0} (holds : A → Bool) (xs : List A) (n : ℕ) (x : A) → nth xs n ≡ Some x → holds x ≡ true → list_any holds xs ≡ true
any_at holds [] n x is e = absurd (nowhere n x is)
any_at holds (y ∷ xs) zero x is e = absurd (none-some x is)
any_at holds (y ∷ xs) (suc zero) x is e = ap (λ (b : Bool). b || list_any holds xs) (ap holds (same_Some y x is) ∙ e)
any_at holds (y ∷ xs) (suc (suc n)) x is e = go (holds y) (any_at holds xs (suc n) x is e)
  where
    go : (b : Bool) → list_any holds xs ≡ true → (b || list_any holds xs) ≡ true
    go true d = refl
    go false d = d

-- where the number of the first row that passes is 0, none does
pub none_passes : {A : Type 0} (holds : A → Bool) (xs : List A) (n : ℕ) (x : A) → number_where holds xs ≡ 0 → nth xs n ≡ Some x → holds x ≡ false
none_passes holds [] n x e is = absurd (nowhere n x is)
none_passes holds (y ∷ xs) zero x e is = absurd (none-some x is)
none_passes {A} holds (y ∷ xs) (suc n) x e is = go (λ k d w. none_passes holds xs (suc k) x d w) (holds y) refl n is
  where
    is_zero : ℕ → Bool
    is_zero zero = true
    is_zero (suc k) = false

    before_it : (k : ℕ) → one_further k ≡ 0 → k ≡ 0
    before_it zero d = refl
    before_it (suc k) d = absurd (true≢false (sym (ap is_zero d)))

    go : ((k : ℕ) → number_where holds xs ≡ 0 → nth xs (suc k) ≡ Some x → holds x ≡ false) → (b : Bool) → holds y ≡ b → (k : ℕ) → nth (y ∷ xs) (suc k) ≡ Some x → holds x ≡ false
    go further true d k w = absurd (true≢false (sym (ap is_zero (sym (ap (λ (b : Bool). cond b 1 (one_further (number_where holds xs))) d) ∙ e))))
    go further false d zero w = ap holds (sym (same_Some y x w)) ∙ d
    go further false d (suc k) w = further k (before_it (number_where holds xs) (sym (ap (λ (b : Bool). cond b 1 (one_further (number_where holds xs))) d) ∙ e)) w

-- ---- process numbers

abbrev PidsAreApart : List Connection → Type 0
PidsAreApart cs = (pid n m : ℕ) (c d : Connection) → nth cs n ≡ Some c → nth cs m ≡ Some d → has_pid pid c ≡ true → has_pid pid d ≡ true → n ≡ m

-- an open client whose number is told as this one
record IsCalled (pid : ℕ) (c : Connection) : Type 0 where
  pub is_client : is_client c.kind ≡ true
  pub is_open : c.is_open ≡ true
  pub is_told : passes_option (λ p. p == pid) c.pid ≡ true

is_called : (pid : ℕ) (c : Connection) → has_pid pid c ≡ true → IsCalled pid c
is_called pid c e =
    let both : (is_client c.kind && c.is_open) ≡ true = and_first (is_client c.kind && c.is_open) (passes_option (λ p. p == pid) c.pid) e in
    record {
      is_client = and_first (is_client c.kind) c.is_open both;
      is_open = and_second (is_client c.kind) c.is_open both;
      is_told = and_second (is_client c.kind && c.is_open) (passes_option (λ p. p == pid) c.pid) e;
    }

called_is : (pid : ℕ) (c : Connection) → IsCalled pid c → has_pid pid c ≡ true
called_is pid c h = ap (λ (b : Bool). b && c.is_open && passes_option (λ p. p == pid) c.pid) h.is_client
    ∙ ap (λ (b : Bool). b && passes_option (λ p. p == pid) c.pid) h.is_open ∙ h.is_told

untold : (pid : ℕ) (c : Connection) → c.pid ≡ None → has_pid pid c ≡ true → ⊥
untold pid c none e = true≢false (sym ((is_called pid c e).is_told) ∙ ap (passes_option (λ p. p == pid)) none)

-- the row with what it told, and the one that had this number before
module _ (before : Tables) (change : Connection → Connection) (same : (c : Connection) → IsSameConnection c (change c)) (told : TellsPid before change) (apart : PidsAreApart before.connections) where
  one_told : (pid n m : ℕ) (x d : Connection) → nth before.connections n ≡ Some x → nth before.connections m ≡ Some d → has_pid pid (change x) ≡ true → has_pid pid d ≡ true → n ≡ m
  one_told pid n m x d is at e f = go told
    where
      now : IsCalled pid (change x)
      now = is_called pid (change x) e

      go : TellsPid before change → n ≡ m
      go (inl keeps) = apart pid n m x d is at (called_is pid x (record {
        is_client = ap is_client (sym (same x).kind) ∙ now.is_client;
        is_open = sym (same x).is_open ∙ now.is_open;
        is_told = ap (passes_option (λ p. p == pid)) (sym (keeps x)) ∙ now.is_told;
      })) f
      go (inr (new, sets, free)) =
          let is_new : new ≡ pid = eqb-true new pid (sym (ap (passes_option (λ p. p == pid)) (sets x)) ∙ now.is_told) in
          absurd (true≢false (sym (any_at (has_pid new) before.connections m d at (subst (λ (k : ℕ). has_pid k d ≡ true) (sym is_new) f)) ∙ free))

  tells_apart : (conn : ℕ) → PidsAreApart (changed_nth change before.connections conn)
  tells_apart conn pid n m c d is at e f = go (of_changed change before.connections conn n c is) (of_changed change before.connections conn m d at)
    where
      go : ((n ≡ conn) × (x : Connection) × (nth before.connections conn ≡ Some x) × (c ≡ change x)) ⊎ ((n ≢ conn) × (nth before.connections n ≡ Some c)) →
          ((m ≡ conn) × (x : Connection) × (nth before.connections conn ≡ Some x) × (d ≡ change x)) ⊎ ((m ≢ conn) × (nth before.connections m ≡ Some d)) → n ≡ m
      go (inl (a, x, there, w)) (inl (b, y, here, v)) = a ∙ sym b
      go (inl (a, x, there, w)) (inr (b, other)) = a ∙ one_told pid conn m x d there other (subst (λ (y : Connection). has_pid pid y ≡ true) w e) f
      go (inr (a, other)) (inl (b, y, there, w)) = sym (b ∙ one_told pid conn n y c there other (subst (λ (x : Connection). has_pid pid x ≡ true) w f) e)
      go (inr (a, one)) (inr (b, other)) = apart pid n m c d one other e f

opened_apart : (cs : List Connection) (new : Connection) → new.pid ≡ None → PidsAreApart cs → PidsAreApart (cs ++ new ∷ [])
opened_apart cs new none apart pid n m c d is at e f = go (of_appended cs new c n is) (of_appended cs new d m at)
  where
    go : ((n ≡ suc (length cs)) × (c ≡ new)) ⊎ (nth cs n ≡ Some c) → ((m ≡ suc (length cs)) × (d ≡ new)) ⊎ (nth cs m ≡ Some d) → n ≡ m
    go (inl (a, w)) other = absurd (untold pid c (ap (λ (x : Connection). x.pid) w ∙ none) e)
    go (inr one) (inl (b, w)) = absurd (untold pid d (ap (λ (x : Connection). x.pid) w ∙ none) f)
    go (inr one) (inr other) = apart pid n m c d one other e f

closed_apart : (cs : List Connection) (conn : ℕ) → PidsAreApart cs → PidsAreApart (changed_nth closed cs conn)
closed_apart cs conn apart pid n m c d is at e f = go (of_changed closed cs conn n c is) (of_changed closed cs conn m d at)
  where
    ended : (x y : Connection) → x ≡ closed y → has_pid pid x ≡ true → ⊥
    ended x y w h = true≢false (sym ((is_called pid x h).is_open) ∙ ap (λ (z : Connection). z.is_open) w)

    go : ((n ≡ conn) × (x : Connection) × (nth cs conn ≡ Some x) × (c ≡ closed x)) ⊎ ((n ≢ conn) × (nth cs n ≡ Some c)) →
        ((m ≡ conn) × (x : Connection) × (nth cs conn ≡ Some x) × (d ≡ closed x)) ⊎ ((m ≢ conn) × (nth cs m ≡ Some d)) → n ≡ m
    go (inl (a, x, there, w)) other = absurd (ended c x w e)
    go (inr one) (inl (b, y, there, w)) = absurd (ended d y w f)
    go (inr one) (inr other) = apart pid n m c d one.1 other.1 e f

module _ (settings : Settings) (moment : ℕ) (before : Tables) (entered : Input) (hits : List ℕ) where
  abbrev apart_now : Tables → Option ℕ → List ℕ → Type 0
  apart_now tables m done = PidsAreApart tables.connections

  abbrev apart_after : Tables → Option ℕ → Type 0
  apart_after tables m = PidsAreApart tables.connections

  end_apart : (conn : ℕ) → PidsAreApart before.connections → PidsAreApart (with_end conn before).connections
  unfolding with_end
  end_apart conn p = closed_apart before.connections conn p

  input_apart : InputParts settings moment before entered (λ tables m. PidsAreApart tables.connections)
  input_apart = record {
    opens = λ kind random l p. opened_apart before.connections (record { kind = kind; cookie = hex random; minor = None; pid = None; is_open = true }) refl p;
    tells = λ conn change h told p. tells_apart before change h told.pid p conn;
    ends = λ conn e p. end_apart conn p;
    cancels = λ n e p. p;
    texts = λ conn id random text m r is w p. p;
    makes = λ conn id random body m p. p;
    loses = λ query given a g is run lost u p. p;
    loses_late = λ query given a g is run lost u p. p;
    answers = λ query given a g is run counts u p. p;
    lates = λ query given a g is run counts u p. p;
  }

  continued_apart : ContinuedParts settings moment before entered hits apart_now apart_after
  continued_apart = record {
    hit = λ tables continued number done rest a p is e w u q. q;
    misses = λ tables continued number done rest e w q. q;
    rests = λ tables q. q;
    awaits = λ tables n r text is u e q. q;
    asks = λ tables n r question is u e q. q;
    decides = λ tables n r d is u e q. q;
    kept = λ tables m query given a l run is k q. q;
  }

before_apart : (settings : Settings) (moment : ℕ) (input : Input) (tables : Tables) → PidsAreApart tables.connections → PidsAreApart (before_input settings moment input tables).connections
unfolding with_due_replied with_timed_out
before_apart settings moment input tables p =
    before_gives settings moment tables input (λ t. PidsAreApart t.connections) (λ t. PidsAreApart t.connections) (λ t. PidsAreApart t.connections)
    (record { takes = λ is. p; stays = p; times_out = λ t q. q; replies = λ t q. q })

start_apart : PidsAreApart []
start_apart pid n m c d is at e f = absurd (nowhere n c is)

all_apart : (settings : Settings) (h : List Entry) → PidsAreApart (tables_of settings h).connections
all_apart settings [] = start_apart
all_apart settings (e ∷ g) =
    let before : Tables = before_input settings e.moment e.input (tables_of settings g) in
    an_entry_gives settings (tables_of settings g) e (apart_now settings e.moment before e.input e.hits) (apart_after settings e.moment before e.input e.hits)
    (input_apart settings e.moment before e.input e.hits) (continued_apart settings e.moment before e.input e.hits) (before_apart settings e.moment e.input (tables_of settings g) (all_apart settings g))

pub process_numbers_are_distinct : ProcessNumbersAreDistinct
process_numbers_are_distinct settings h = all_apart settings h

-- ---- ids

abbrev IdsAreApart : List Request → Type 0
IdsAreApart rs = (n m : ℕ) (r s : Request) → nth rs n ≡ Some r → nth rs m ≡ Some s → r.conn ≡ s.conn → r.id ≡ s.id → n ≡ m

-- a change that keeps what a request is called by
record KeepsName (f : Request → Request) : Type 0 where
  pub conn : (r : Request) → (f r).conn ≡ r.conn
  pub id : (r : Request) → (f r).id ≡ r.id

-- of two such changes
either_keeps : (b : Request → Bool) (f g : Request → Request) → KeepsName f → KeepsName g → KeepsName (λ r. cond (b r) (f r) (g r))
either_keeps b f g h k = record {
  conn = λ r. by_test (λ (x : Request). x.conn ≡ r.conn) (b r) (f r) (g r) (λ e. h.conn r) (λ e. k.conn r);
  id = λ r. by_test (λ (x : Request). x.id ≡ r.id) (b r) (f r) (g r) (λ e. h.id r) (λ e. k.id r);
}

kept_as_it_is : KeepsName (λ r. r)
kept_as_it_is = record { conn = λ r. refl; id = λ r. refl }

due_keeps : (settings : Settings) (moment : ℕ) → KeepsName (replied_if_due settings moment)
due_keeps settings moment = either_keeps (is_due settings moment) (λ r. record r { replied = Some moment }) (λ r. r) (record { conn = λ r. refl; id = λ r. refl }) kept_as_it_is

decision_keeps : (settings : Settings) (moment : ℕ) → KeepsName (with_decision settings moment)
decision_keeps settings moment = record {
  conn = λ r. (due_keeps settings moment).conn (record r { decided = Some moment });
  id = λ r. (due_keeps settings moment).id (record r { decided = Some moment });
}

-- the row that a row was
record Was (rs : List Request) (n : ℕ) (r : Request) : Type 0 where
  pub row : Request
  pub is_there : nth rs n ≡ Some row
  pub conn : r.conn ≡ row.conn
  pub id : r.id ≡ row.id

rows_apart : (rs later : List Request) → ((n : ℕ) (r : Request) → nth later n ≡ Some r → Was rs n r) → IdsAreApart rs → IdsAreApart later
rows_apart rs later was p n m r s is at same_conn same_id =
    let one : Was rs n r = was n r is in
    let other : Was rs m s = was m s at in
    p n m one.row other.row one.is_there other.is_there (sym one.conn ∙ same_conn ∙ other.conn) (sym one.id ∙ same_id ∙ other.id)

changed_ids : (f : Request → Request) → KeepsName f → (rs : List Request) (k : ℕ) → IdsAreApart rs → IdsAreApart (changed_nth f rs k)
changed_ids f h rs k = rows_apart rs (changed_nth f rs k) (λ n r is. go n r (of_changed f rs k n r is))
  where
    go : (n : ℕ) (r : Request) → ((n ≡ k) × (x : Request) × (nth rs k ≡ Some x) × (r ≡ f x)) ⊎ ((n ≢ k) × (nth rs n ≡ Some r)) → Was rs n r
    go n r (inl (d, x, there, w)) = record {
      row = x;
      is_there = ap (nth rs) d ∙ there;
      conn = ap (λ (y : Request). y.conn) w ∙ h.conn x;
      id = ap (λ (y : Request). y.id) w ∙ h.id x;
    }
    go n r (inr (d, there)) = record { row = r; is_there = there; conn = refl; id = refl }

mapped_ids : (f : Request → Request) → KeepsName f → (rs : List Request) → IdsAreApart rs → IdsAreApart (map f rs)
mapped_ids f h rs = rows_apart rs (map f rs) (λ n r is. go n r (of_mapped f rs n r is))
  where
    go : (n : ℕ) (r : Request) → (x : Request) × (nth rs n ≡ Some x) × (r ≡ f x) → Was rs n r
    go n r (x, there, w) = record { row = x; is_there = there; conn = ap (λ (y : Request). y.conn) w ∙ h.conn x; id = ap (λ (y : Request). y.id) w ∙ h.id x }

module _ (settings : Settings) (moment : ℕ) (before : Tables) (entered : Input) (hits : List ℕ) where
  abbrev ids_now : Tables → Option ℕ → List ℕ → Type 0
  ids_now tables m done = IdsAreApart tables.requests

  abbrev ids_after : Tables → Option ℕ → Type 0
  ids_after tables m = IdsAreApart tables.requests

  end_ids : (conn : ℕ) → IdsAreApart before.requests → IdsAreApart (with_end conn before).requests
  unfolding with_end
  end_ids conn p = mapped_ids (as_cancelled_of conn) (either_keeps (is_of conn) cancelled (λ r. r) (record { conn = λ r. refl; id = λ r. refl }) kept_as_it_is) before.requests p

  -- whoever may ask by this id finds that no request has it
  is_free : (conn id : ℕ) (random : Bytes) (body : Body) → IsMade settings moment before entered conn id random body → request_number before conn id ≡ 0
  is_free conn id random body made = go made.made
    where
      go : MadeLogin before entered conn id random body ⊎ MadeLookup settings moment before entered conn id random body → request_number before conn id ≡ 0
      go (inl (mech, params, resp, reads, same)) =
          eqb-true (request_number before conn id) 0 (and_second (has_version reads.connection && is_some reads.connection.pid) (request_number before conn id == 0)
          (and_first (has_version reads.connection && is_some reads.connection.pid && (request_number before conn id == 0)) (nat_lt (pending_count before conn) 1000) reads.may))
      go (inr (pid, client, cookie, reads, same)) =
          eqb-true (request_number before conn id) 0 (and_second (has_version reads.connection) (request_number before conn id == 0) reads.may)

  made_ids : (conn id : ℕ) (random : Bytes) (body : Body) → IsMade settings moment before entered conn id random body → IdsAreApart before.requests →
      IdsAreApart (before.requests ++ new_request moment conn id random body ∷ [])
  made_ids conn id random body made p n m r s is at same_conn same_id =
      go (of_appended before.requests (new_request moment conn id random body) r n is) (of_appended before.requests (new_request moment conn id random body) s m at)
    where
      called : (x : Request) → x.conn ≡ conn → x.id ≡ id → (is_of conn x && (x.id == id)) ≡ true
      called x c i = ap (λ (b : Bool). b && (x.id == id)) (eq-eqb x.conn conn c) ∙ eq-eqb x.id id i

      taken : (k : ℕ) (x : Request) → nth before.requests k ≡ Some x → x.conn ≡ conn → x.id ≡ id → ⊥
      taken k x there c i =
          true≢false (sym (called x c i) ∙ none_passes (λ y. is_of conn y && (y.id == id)) before.requests k x (is_free conn id random body made) there)

      go : ((n ≡ suc (length before.requests)) × (r ≡ new_request moment conn id random body)) ⊎ (nth before.requests n ≡ Some r) →
          ((m ≡ suc (length before.requests)) × (s ≡ new_request moment conn id random body)) ⊎ (nth before.requests m ≡ Some s) → n ≡ m
      go (inl (a, w)) (inl (b, x)) = a ∙ sym b
      go (inl (a, w)) (inr other) = absurd (taken m s other (sym same_conn ∙ ap (λ (y : Request). y.conn) w) (sym same_id ∙ ap (λ (y : Request). y.id) w))
      go (inr one) (inl (b, x)) = absurd (taken n r one (same_conn ∙ ap (λ (y : Request). y.conn) x) (same_id ∙ ap (λ (y : Request). y.id) x))
      go (inr one) (inr other) = p n m r s one other same_conn same_id

  input_ids : InputParts settings moment before entered (λ tables m. IdsAreApart tables.requests)
  input_ids = record {
    opens = λ kind random l p. p;
    tells = λ conn change h told p. p;
    ends = λ conn e p. end_ids conn p;
    cancels = λ n e p. changed_ids cancelled (record { conn = λ r. refl; id = λ r. refl }) before.requests n p;
    texts = λ conn id random text m r is w p. changed_ids (with_text text) (record { conn = λ r. refl; id = λ r. refl }) before.requests _ p;
    makes = λ conn id random body m p. made_ids conn id random body m p;
    loses = λ query given a g is run lost u p. p;
    loses_late = λ query given a g is run lost u p. p;
    answers = λ query given a g is run counts u p. changed_ids (with_answer a.question.db _) (record { conn = λ r. refl; id = λ r. refl }) before.requests a.request p;
    lates = λ query given a g is run counts u p. changed_ids (with_late_answer a.question.db _) (either_keeps (λ r. is_some r.decided && not r.is_timed_out) (λ r. r) (with_answer a.question.db _) kept_as_it_is (record { conn = λ r. refl; id = λ r. refl })) before.requests a.request p;
  }

  continued_ids : ContinuedParts settings moment before entered hits ids_now ids_after
  continued_ids = record {
    hit = λ tables continued number done rest a p is e w u q. changed_ids (with_answer a.question.db p.0) (record { conn = λ r. refl; id = λ r. refl }) tables.requests continued q;
    misses = λ tables continued number done rest e w q. q;
    rests = λ tables q. q;
    awaits = λ tables n r text is u e q. q;
    asks = λ tables n r question is u e q. q;
    decides = λ tables n r d is u e q. changed_ids (with_decision settings moment) (decision_keeps settings moment) tables.requests n q;
    kept = λ tables m query given a l run is k q. q;
  }

due_ids : (settings : Settings) (moment : ℕ) (tables : Tables) → IdsAreApart tables.requests → IdsAreApart (with_due_replied settings moment tables).requests
unfolding with_due_replied
due_ids settings moment tables p = mapped_ids (replied_if_due settings moment) (due_keeps settings moment) tables.requests p

timed_ids : (settings : Settings) (moment : ℕ) (tables : Tables) → IdsAreApart tables.requests → IdsAreApart (with_timed_out settings moment tables).requests
unfolding with_timed_out
timed_ids settings moment tables p =
    mapped_ids (timed_out_if_over settings moment) (either_keeps (is_over_limit settings moment) (timed_out moment) (λ r. r) (record { conn = λ r. refl; id = λ r. refl }) kept_as_it_is) tables.requests p

before_ids : (settings : Settings) (moment : ℕ) (input : Input) (tables : Tables) → IdsAreApart tables.requests → IdsAreApart (before_input settings moment input tables).requests
before_ids settings moment input tables p =
    before_gives settings moment tables input (λ t. IdsAreApart t.requests) (λ t. IdsAreApart t.requests) (λ t. IdsAreApart t.requests)
    (record { takes = λ is. p; stays = p; times_out = timed_ids settings moment; replies = due_ids settings moment })

start_ids : IdsAreApart []
start_ids n m r s is at c i = absurd (nowhere n r is)

all_ids : (settings : Settings) (h : List Entry) → IdsAreApart (tables_of settings h).requests
all_ids settings [] = start_ids
all_ids settings (e ∷ g) =
    let before : Tables = before_input settings e.moment e.input (tables_of settings g) in
    an_entry_gives settings (tables_of settings g) e (ids_now settings e.moment before e.input e.hits) (ids_after settings e.moment before e.input e.hits)
    (input_ids settings e.moment before e.input e.hits) (continued_ids settings e.moment before e.input e.hits) (before_ids settings e.moment e.input (tables_of settings g) (all_ids settings g))

pub ids_are_distinct : IdsAreDistinct
ids_are_distinct settings h = all_ids settings h
