-- A connection that has ended gets no line.
use Rattle.std.proofs.Common.{◌≡◌, ◌≢◌, ◌⊎◌, inl, inr, refl, sym, ◌∙◌, ap, ap₂, subst, Option, Some, None, List, [], ◌∷◌, ◌++◌, ℕ, zero, suc, ◌+◌, Bool, true, false, map, length, flat_map, option_to_list, is_some, not, ◌&&◌, ◌||◌, ◌==◌, cond, option_map, ne_eqb, eq-eqb, arith, true≢false}
use Rattle.std.specs.List.{list_any}
use Rattle.std.proofs.lemmas.List.Folds.{list_any-append}
use Rattle.std.proofs.lemmas.Option.{none-some, same_Some}
use Rattle.da_tables.proofs.Cases.{by_test, and_first, and_second, not_true}
use Rattle.da_play.proofs.EntryParts.{InputParts, ContinuedParts, IsMade, IsSameConnection, an_entry_gives, before_gives, before_replies_gives}
use Rattle.da_invariants.proofs.OpenQueries.{nowhere}
use Rattle.da_laws.proofs.RepliedOnce.{times, times-due}
use Rattle.da_tables.proofs.Rows.{of_changed, of_appended, of_mapped, nth-changed, nth-unchanged, nth-before, nth-past, same_or_not, mapped_value}
use Rattle.da_steps.proofs.Standing.{entry_stands}
use Rattle.da_base.specs.Words.{Bytes, nth, changed_nth, passes_option, option_or_else}
use Rattle.da_fields.specs.declared.answer.Answer.{Answer}
use Rattle.da_msgs.specs.Replies.{greeting}
use Rattle.da_play.specs.Effects.{effects, entry_lines, due_lines, own_lines, reply_to, reply_lines, challenge_lines, greeting_lines, opened_by, continued_if, due_requests}
use Rattle.da_play.specs.History.{after, after_input, before_input, before_replies, tables_of}
use Rattle.da_tables.specs.Tables.{with_due_replied, with_timed_out}
use Rattle.da_request.specs.Requests.{is_over_limit, timed_out, timed_out_if_over, with_decision, replied_if_due}
use Rattle.da_request.specs.Requests.{new_request, with_text}
use Rattle.da_request.specs.Requests.{with_answer, with_late_answer}
use Rattle.da_laws.specs.ReplyLaws.{EndedIsSilent}
use Rattle.da_request.specs.Requests.{is_undecided, is_pending, is_due, is_held, request_stage, challenge_in, challenge_line}
use Rattle.da_steps.specs.Standing.{RequestStands, ConnectionStands}
use Rattle.da_tables.specs.Tables.{with_end, closed}
use Rattle.da_request.specs.Requests.{cancelled, as_cancelled_of, is_of}
use Rattle.da_play.specs.declared.input.Entry.{Entry}
use Rattle.da_play.specs.declared.input.Input.{Input}
use Rattle.da_play.specs.declared.input.Input.TheVariants.{Opened, Line, Broken, Gone, Take, Answered, Late, Tick}
use Rattle.da_settings.specs.declared.settings.Settings.{Settings}
use Rattle.da_request.specs.declared.request.Body.{Body}
use Rattle.da_tables.specs.declared.connections.Connection.{Connection}
use Rattle.da_request.specs.declared.request.Request.{Request}
use Rattle.da_tables.specs.declared.tables.Tables.{Tables}

-- ---- a request is cancelled or its connection is open

abbrev pub IsOpenAt : List Connection → ℕ → Type 0
IsOpenAt cs conn = passes_option (λ c. c.is_open) (nth cs conn) ≡ true

-- each request is cancelled, or its connection is open
abbrev pub AllOpen : Tables → Type 0
AllOpen tables = (n : ℕ) (r : Request) → nth tables.requests n ≡ Some r → r.is_cancelled ≡ false → IsOpenAt tables.connections r.conn

undecided_uncancelled : (r : Request) → is_undecided r ≡ true → r.is_cancelled ≡ false
undecided_uncancelled r u = not_true r.is_cancelled (and_first (not r.is_cancelled) _ (and_first (is_pending r) _ u))

-- a change that keeps the connection of a request, and cancels it or not
record KeepsConn (f : Request → Request) : Type 0 where
  pub conn : (r : Request) → (f r).conn ≡ r.conn
  pub cancelled : (r : Request) → (f r).is_cancelled ≡ false → r.is_cancelled ≡ false

changed_open : (cs : List Connection) (f : Request → Request) → KeepsConn f → (rs : List Request) (m : ℕ) →
    ((n : ℕ) (r : Request) → nth rs n ≡ Some r → r.is_cancelled ≡ false → IsOpenAt cs r.conn) →
    (n : ℕ) (r : Request) → nth (changed_nth f rs m) n ≡ Some r → r.is_cancelled ≡ false → IsOpenAt cs r.conn
changed_open cs f k rs m p n r e c = go (of_changed f rs m n r e)
  where
    go : ((n ≡ m) × (s : Request) × (nth rs m ≡ Some s) × (r ≡ f s)) ⊎ ((n ≡ m → ⊥) × (nth rs n ≡ Some r)) → IsOpenAt cs r.conn
    go (inl (d, s, is, w)) = subst (λ (x : ℕ). IsOpenAt cs x) (sym (ap (λ (x : Request). x.conn) w ∙ k.conn s)) (p m s is (k.cancelled s (sym (ap (λ (x : Request). x.is_cancelled) w) ∙ c)))
    go (inr (d, is)) = p n r is c

text_keeps : (text : Bytes) → KeepsConn (with_text text)
text_keeps text = record { conn = λ r. refl; cancelled = λ r e. e }

answer_keeps : (db : ℕ) (answer : Answer) → KeepsConn (with_answer db answer)
answer_keeps db answer = record { conn = λ r. refl; cancelled = λ r e. e }

cancelled_keeps : KeepsConn cancelled
cancelled_keeps = record { conn = λ r. refl; cancelled = λ r e. absurd (true≢false e) }

-- two ways, each of which keeps it
record KeepsAt (r s : Request) : Type 0 where
  pub conn : s.conn ≡ r.conn
  pub cancelled : s.is_cancelled ≡ false → r.is_cancelled ≡ false

keeps_same : (r : Request) → KeepsAt r r
keeps_same r = record { conn = refl; cancelled = λ e. e }

keeps_by : (f : Request → Request) → ((r : Request) → KeepsAt r (f r)) → KeepsConn f
keeps_by f h = record { conn = λ r. (h r).conn; cancelled = λ r. (h r).cancelled }

late_keeps : (db : ℕ) (answer : Answer) → KeepsConn (with_late_answer db answer)
late_keeps db answer = keeps_by (with_late_answer db answer) (λ r. by_test (KeepsAt r) (is_some r.decided && not r.is_timed_out) r (with_answer db answer r) (λ e. keeps_same r) (λ e. record { conn = refl; cancelled = λ c. c }))

due_keeps : (settings : Settings) (moment : ℕ) (r : Request) → KeepsAt r (replied_if_due settings moment r)
due_keeps settings moment r = by_test (KeepsAt r) (is_due settings moment r) (record r { replied = Some moment }) r (λ e. record { conn = refl; cancelled = λ c. c }) (λ e. keeps_same r)

decision_keeps : (settings : Settings) (moment : ℕ) → KeepsConn (with_decision settings moment)
decision_keeps settings moment = keeps_by (with_decision settings moment)
    (λ r. record { conn = (due_keeps settings moment (record r { decided = Some moment })).conn; cancelled = (due_keeps settings moment (record r { decided = Some moment })).cancelled })

-- connections that are still open
still_open : (cs ds : List Connection) (conn : ℕ) → ((c : Connection) → nth cs conn ≡ Some c → (d : Connection) × (nth ds conn ≡ Some d) × (c.is_open ≡ true → d.is_open ≡ true)) →
    IsOpenAt cs conn → IsOpenAt ds conn
still_open cs ds conn h o = go (nth cs conn) refl o
  where
    go : (x : Option Connection) → nth cs conn ≡ x → passes_option (λ c. c.is_open) x ≡ true → IsOpenAt ds conn
    go None e w = absurd (true≢false (sym w))
    go (Some c) e w = let d : (d : Connection) × (nth ds conn ≡ Some d) × (c.is_open ≡ true → d.is_open ≡ true) = h c e in ap (passes_option (λ c. c.is_open)) d.1 ∙ d.2 w

module _ (settings : Settings) (moment : ℕ) (before : Tables) (entered : Input) (hits : List ℕ) where
  abbrev pub open_now : Tables → Option ℕ → List ℕ → Type 0
  open_now tables m done = AllOpen tables

  abbrev pub open_after : Tables → Option ℕ → Type 0
  open_after tables m = AllOpen tables

  end_open : (conn : ℕ) → AllOpen before → AllOpen (with_end conn before)
  unfolding with_end
  end_open conn p n r e c = go (of_mapped (as_cancelled_of conn) before.requests n r e)
    where
      other : (s : Request) → nth before.requests n ≡ Some s → (b : Bool) → is_of conn s ≡ b → r ≡ cond b (cancelled s) s → IsOpenAt (changed_nth closed before.connections conn) r.conn
      other s is true d w = absurd (true≢false (sym (ap (λ (x : Request). x.is_cancelled) w) ∙ c))
      other s is false d w = subst (λ (x : Request). IsOpenAt (changed_nth closed before.connections conn) x.conn) (sym w)
          (ap (passes_option (λ c. c.is_open)) (nth-unchanged closed before.connections conn s.conn (λ x. true≢false (sym (eq-eqb s.conn conn x) ∙ d)))
          ∙ p n s is (sym (ap (λ (x : Request). x.is_cancelled) w) ∙ c))

      go : (s : Request) × (nth before.requests n ≡ Some s) × (r ≡ as_cancelled_of conn s) → IsOpenAt (changed_nth closed before.connections conn) r.conn
      go (s, is, w) = other s is (is_of conn s) refl w

  open_elsewhere : (cs : List Connection) → ((conn : ℕ) → IsOpenAt before.connections conn → IsOpenAt cs conn) → AllOpen before → AllOpen (record before { connections = cs })
  open_elsewhere cs h p n r e c = h r.conn (p n r e c)

  made_open : (conn id : ℕ) (random : Bytes) (body : Body) → IsMade settings moment before entered conn id random body → AllOpen before → AllOpen (record before { requests = before.requests ++ new_request moment conn id random body ∷ [] })
  made_open conn id random body m p n r e c = go (of_appended before.requests (new_request moment conn id random body) r n e)
    where
      go : ((n ≡ suc (length before.requests)) × (r ≡ new_request moment conn id random body)) ⊎ (nth before.requests n ≡ Some r) → IsOpenAt before.connections r.conn
      go (inl (at, same)) = subst (λ (x : Request). IsOpenAt before.connections x.conn) (sym same) (ap (passes_option (λ c. c.is_open)) m.is_there ∙ m.is_connected)
      go (inr is) = p n r is c

  pub input_open : InputParts settings moment before entered (λ tables m. AllOpen tables)
  input_open = record {
    opens = λ kind random l p. open_elsewhere _ (λ conn o. still_open before.connections _ conn (λ c e. (c, nth-before before.connections _ c conn e, λ x. x)) o) p;
    tells = λ conn change h told p. open_elsewhere _ (λ other o. still_open before.connections _ other (λ c e. reported conn other change h c e) o) p;
    ends = λ conn e p. end_open conn p;
    cancels = λ n e p. changed_open before.connections cancelled cancelled_keeps before.requests n p;
    texts = λ conn id random text m r is w p. changed_open before.connections (with_text text) (text_keeps text) before.requests _ p;
    makes = λ conn id random body m p. made_open conn id random body m p;
    loses = λ query given a g is run lost u p. p;
    loses_late = λ query given a g is run lost u p. p;
    answers = λ query given a g is run counts u p. changed_open before.connections (with_answer a.question.db _) (answer_keeps a.question.db _) before.requests a.request p;
    lates = λ query given a g is run counts u p. changed_open before.connections (with_late_answer a.question.db _) (late_keeps a.question.db _) before.requests a.request p;
  }
    where
      reported : (conn other : ℕ) (change : Connection → Connection) → ((c : Connection) → IsSameConnection c (change c)) → (c : Connection) → nth before.connections other ≡ Some c →
          (d : Connection) × (nth (changed_nth change before.connections conn) other ≡ Some d) × (c.is_open ≡ true → d.is_open ≡ true)
      reported conn other change h c e = go (same_or_not other conn)
        where
          go : (other ≡ conn) ⊎ (other ≡ conn → ⊥) → (d : Connection) × (nth (changed_nth change before.connections conn) other ≡ Some d) × (c.is_open ≡ true → d.is_open ≡ true)
          go (inl d) = (change c, ap (nth (changed_nth change before.connections conn)) d ∙ nth-changed change before.connections conn ∙ ap (option_map change) (ap (nth before.connections) (sym d) ∙ e), λ o. (h c).is_open ∙ o)
          go (inr d) = (c, nth-unchanged change before.connections conn other d ∙ e, λ o. o)

  pub continued_open : ContinuedParts settings moment before entered hits open_now open_after
  continued_open = record {
    hit = λ tables continued number done rest a p is e w u q. changed_open tables.connections (with_answer a.question.db p.0) (answer_keeps a.question.db p.0) tables.requests continued q;
    misses = λ tables continued number done rest e w q. q;
    rests = λ tables q. q;
    awaits = λ tables n r text is u e q. q;
    asks = λ tables n r question is u e q. q;
    decides = λ tables n r d is u e q. changed_open tables.connections (with_decision settings moment) (decision_keeps settings moment) tables.requests n q;
    kept = λ tables m query given a l run is k q. q;
  }

-- a request that is timed out is on the same connection, and cancelled or not as before
over_keeps : (settings : Settings) (moment : ℕ) (r : Request) → ((timed_out_if_over settings moment r).conn ≡ r.conn) × ((timed_out_if_over settings moment r).is_cancelled ≡ r.is_cancelled)
over_keeps settings moment r = by_test (λ (s : Request). (s.conn ≡ r.conn) × (s.is_cancelled ≡ r.is_cancelled)) (is_over_limit settings moment r) (timed_out moment r) r (λ e. (refl, refl)) (λ e. (refl, refl))

due_open : (settings : Settings) (moment : ℕ) (tables : Tables) → AllOpen tables → AllOpen (with_due_replied settings moment tables)
unfolding with_due_replied
due_open settings moment tables p n r e c =
    let was : (s : Request) × (nth tables.requests n ≡ Some s) × (r ≡ replied_if_due settings moment s) = of_mapped (replied_if_due settings moment) tables.requests n r e in
    subst (λ (x : ℕ). IsOpenAt tables.connections x) (sym (ap (λ (x : Request). x.conn) was.2 ∙ (due_keeps settings moment was.0).conn))
    (p n was.0 was.1 ((due_keeps settings moment was.0).cancelled (sym (ap (λ (x : Request). x.is_cancelled) was.2) ∙ c)))

timed_open : (settings : Settings) (moment : ℕ) (tables : Tables) → AllOpen tables → AllOpen (with_timed_out settings moment tables)
unfolding with_timed_out
timed_open settings moment tables p n r e c =
    let was : (s : Request) × (nth tables.requests n ≡ Some s) × (r ≡ timed_out_if_over settings moment s) = of_mapped (timed_out_if_over settings moment) tables.requests n r e in
    subst (λ (x : ℕ). IsOpenAt tables.connections x) (sym (ap (λ (x : Request). x.conn) was.2 ∙ (over_keeps settings moment was.0).0))
    (p n was.0 was.1 (sym (over_keeps settings moment was.0).1 ∙ sym (ap (λ (x : Request). x.is_cancelled) was.2) ∙ c))

before_open : (settings : Settings) (moment : ℕ) (input : Input) (tables : Tables) → AllOpen tables → AllOpen (before_input settings moment input tables)
before_open settings moment input tables p =
    before_gives settings moment tables input AllOpen AllOpen AllOpen (record { takes = λ is. p; stays = p; times_out = timed_open settings moment; replies = due_open settings moment })

-- each request before the replies that are due was there before the entry, on the same connection
abbrev WasOn : Tables → Tables → Type 0
WasOn tables t = (n : ℕ) (r : Request) → nth t.requests n ≡ Some r → (s : Request) × (nth tables.requests n ≡ Some s) × (r.conn ≡ s.conn) × (r.is_cancelled ≡ s.is_cancelled)

timed_was : (settings : Settings) (moment : ℕ) (tables t : Tables) → WasOn tables t → WasOn tables (with_timed_out settings moment t)
unfolding with_timed_out
timed_was settings moment tables t p n r e =
    let was : (s : Request) × (nth t.requests n ≡ Some s) × (r ≡ timed_out_if_over settings moment s) = of_mapped (timed_out_if_over settings moment) t.requests n r e in
    let first : (s : Request) × (nth tables.requests n ≡ Some s) × (was.0.conn ≡ s.conn) × (was.0.is_cancelled ≡ s.is_cancelled) = p n was.0 was.1 in
    (first.0, first.1, ap (λ (x : Request). x.conn) was.2 ∙ (over_keeps settings moment was.0).0 ∙ first.2, ap (λ (x : Request). x.is_cancelled) was.2 ∙ (over_keeps settings moment was.0).1 ∙ first.3)

replies_was : (settings : Settings) (moment : ℕ) (input : Input) (tables : Tables) → WasOn tables (before_replies settings moment input tables)
replies_was settings moment input tables =
    before_replies_gives settings moment tables input (WasOn tables) (WasOn tables) (λ t. Unit {0})
    (record { takes = λ is n r e. (r, e, refl, refl); stays = λ n r e. (r, e, refl, refl); times_out = timed_was settings moment tables; replies = λ t q. tt })

start_open : (n : ℕ) (r : Request) → nth [] n ≡ Some r → r.is_cancelled ≡ false → IsOpenAt [] r.conn
start_open n r e c = absurd (nowhere n r e)

pub all_open : (settings : Settings) (h : List Entry) → AllOpen (tables_of settings h)
all_open settings [] = start_open
all_open settings (e ∷ g) =
    let before : Tables = before_input settings e.moment e.input (tables_of settings g) in
    an_entry_gives settings (tables_of settings g) e (open_now settings e.moment before e.input e.hits) (open_after settings e.moment before e.input e.hits)
    (input_open settings e.moment before e.input e.hits) (continued_open settings e.moment before e.input e.hits) (before_open settings e.moment e.input (tables_of settings g) (all_open settings g))

-- ---- the request that continues is on an open connection

module _ (settings : Settings) (origin : Tables) (e : Entry) where
  -- it wasn't cancelled
  abbrev ContinuedOpen : Tables → Option ℕ → Type 0
  ContinuedOpen tables m = (n : ℕ) → m ≡ Some n → (r : Request) → nth tables.requests n ≡ Some r → r.is_cancelled ≡ false

  abbrev unit_now : Tables → Option ℕ → List ℕ → Type 0
  unit_now tables m done = Unit {0}

  abbrev before : Tables
  before = before_input settings e.moment e.input origin

  of_continued : (tables : Tables) (n : ℕ) (r : Request) → nth tables.requests n ≡ Some r → is_undecided r ≡ true → ContinuedOpen tables (Some n)
  of_continued tables n r is u k d s x = undecided_uncancelled s (subst (λ (y : Request). is_undecided y ≡ true) (same_Some r s (sym is ∙ ap (nth tables.requests) (same_Some n k d) ∙ x)) u)

  of_decided : (tables : Tables) (n : ℕ) (r : Request) → nth tables.requests n ≡ Some r → is_undecided r ≡ true → (k : ℕ) → Some n ≡ Some k → (s : Request) →
      nth (changed_nth (with_decision settings e.moment) tables.requests n) k ≡ Some s → s.is_cancelled ≡ false
  of_decided tables n r is u k d s x = go (mapped_value (with_decision settings e.moment) (nth tables.requests n) s
      (sym (nth-changed (with_decision settings e.moment) tables.requests n) ∙ ap (nth (changed_nth (with_decision settings e.moment) tables.requests n)) (same_Some n k d) ∙ x))
    where
      same : (b : Bool) (a c : Request) → a.is_cancelled ≡ r.is_cancelled → c.is_cancelled ≡ r.is_cancelled → (cond b a c).is_cancelled ≡ r.is_cancelled
      same true a c p q = p
      same false a c p q = q

      go : (q : Request) × (nth tables.requests n ≡ Some q) × (s ≡ with_decision settings e.moment q) → s.is_cancelled ≡ false
      go (q, at, w) = ap (λ (y : Request). y.is_cancelled) (w ∙ ap (with_decision settings e.moment) (sym (same_Some r q (sym is ∙ at))))
          ∙ same (is_due settings e.moment (record r { decided = Some e.moment })) _ _ refl refl ∙ undecided_uncancelled r u

  input_unit : InputParts settings e.moment before e.input (λ tables m. Unit {0})
  input_unit = record {
    opens = λ kind random l p. tt;
    tells = λ conn change h told p. tt;
    ends = λ conn x p. tt;
    cancels = λ n x p. tt;
    texts = λ conn id random text m r is w p. tt;
    makes = λ conn id random body m p. tt;
    loses = λ query given a g is run lost u p. tt;
    loses_late = λ query given a g is run lost u p. tt;
    answers = λ query given a g is run counts u p. tt;
    lates = λ query given a g is run counts u p. tt;
  }

  continued_it : ContinuedParts settings e.moment before e.input e.hits unit_now ContinuedOpen
  continued_it = record {
    hit = λ tables continued number done rest a p is x w u q. tt;
    misses = λ tables continued number done rest x w q. tt;
    rests = λ tables q n d. absurd (none-some n d);
    awaits = λ tables n r text is u x q. of_continued tables n r is u;
    asks = λ tables n r question is u x q. of_continued tables n r is u;
    decides = λ tables n r d is u x q. of_decided tables n r is u;
    kept = λ tables m query given a l run is k q. q;
  }

  pub continued_open_again : ContinuedOpen (after settings origin e) (after_input settings e.moment e.input before).continued
  continued_open_again = an_entry_gives settings origin e unit_now ContinuedOpen input_unit continued_it tt

-- ---- the lines of an entry

abbrev one_if : Bool → ℕ
one_if b = cond b 1 0

module _ (settings : Settings) (e : Entry) (g : List Entry) (conn : ℕ) (c : Connection) (is : nth (tables_of settings g).connections conn ≡ Some c) (ended : c.is_open ≡ false) where
  abbrev tables : Tables
  tables = tables_of settings g

  abbrev final : Tables
  final = after settings tables e

  abbrev reported : ℕ × Bytes → Bool
  reported l = l.0 == conn

  abbrev IsSilent : List (ℕ × Bytes) → Type 0
  IsSilent xs = list_any reported xs ≡ false

  no_more : (a b : Bool) → a ≡ false → b ≡ false → (a || b) ≡ false
  no_more a b x y = ap₂ (λ p q. p || q) x y

  both_silent : (xs ys : List (ℕ × Bytes)) → IsSilent xs → IsSilent ys → IsSilent (xs ++ ys)
  both_silent xs ys p q = list_any-append reported xs ys ∙ no_more _ _ p q

  line_silent : (other : ℕ) (text : Bytes) → other ≢ conn → IsSilent ((other, text) ∷ [])
  line_silent other text h = no_more (other == conn) false (ne_eqb other conn h) refl

  -- it isn't open at the start, nor at the end
  not_open : IsOpenAt tables.connections conn → ⊥
  not_open o = true≢false (sym o ∙ ap (passes_option (λ c. c.is_open)) is ∙ ended)

  not_open_after : IsOpenAt final.connections conn → ⊥
  not_open_after o = go ((entry_stands settings tables e).connections conn c is)
    where
      go : (d : Connection) × (nth final.connections conn ≡ Some d) × ConnectionStands c d → ⊥
      go (d, at, k) = true≢false (sym (k.is_ended (sym (ap (passes_option (λ c. c.is_open)) at) ∙ o)) ∙ ended)

  -- the tables before the replies that are due
  abbrev timed : Tables
  timed = before_replies settings e.moment e.input tables

  -- the requests whose replies are due are on open connections
  due_on_other : (n : ℕ) (r : Request) → nth final.requests n ≡ Some r → passes_option (is_due settings e.moment) (nth timed.requests n) ≡ true → r.conn ≢ conn
  unfolding is_due
  due_on_other n r at d = go (nth timed.requests n) refl d
    where
      go : (o : Option Request) → nth timed.requests n ≡ o → passes_option (is_due settings e.moment) o ≡ true → r.conn ≢ conn
      go None x w = absurd (true≢false (sym w))
      go (Some q) x w = from (replies_was settings e.moment e.input tables n q x)
        where
          uncancelled : q.is_cancelled ≡ false
          uncancelled = not_true q.is_cancelled (and_second (is_some q.decided) _ (and_first (is_some q.decided && not q.is_cancelled) _ (and_first (is_held q) _ w)))

          from : (s : Request) × (nth tables.requests n ≡ Some s) × (q.conn ≡ s.conn) × (q.is_cancelled ≡ s.is_cancelled) → r.conn ≢ conn
          from (s, first, same, kept) = later ((entry_stands settings tables e).requests n s first)
            where
              later : (t : Request) × (nth final.requests n ≡ Some t) × RequestStands s t → r.conn ≢ conn
              later (t, there, k) y = not_open (subst (λ (z : ℕ). IsOpenAt tables.connections z) (sym (ap (λ (z : Request). z.conn) (same_Some r t (sym at ∙ there)) ∙ k.conn) ∙ y) (all_open settings g n s first (sym kept ∙ uncancelled)))

  replies_silent : (n : ℕ) → ((r : Request) → nth final.requests n ≡ Some r → r.conn ≢ conn) → IsSilent (reply_lines settings final n)
  replies_silent n h = go (nth final.requests n) refl
    where
      go : (o : Option Request) → nth final.requests n ≡ o → IsSilent (option_or_else o [] (λ r. reply_to settings final r ∷ []))
      go None x = refl
      go (Some r) x = line_silent r.conn (reply_to settings final r).1 (h r x)

  challenges_silent : (n : ℕ) → ((r : Request) → nth final.requests n ≡ Some r → r.conn ≢ conn) → IsSilent (challenge_lines settings final n)
  challenges_silent n h = go (nth final.requests n) refl
    where
      by_text : (r : Request) → r.conn ≢ conn → (o : Option Bytes) → IsSilent (option_or_else o [] (λ text. (r.conn, challenge_line r.id text) ∷ []))
      by_text r k None = refl
      by_text r k (Some text) = line_silent r.conn (challenge_line r.id text) k

      go : (o : Option Request) → nth final.requests n ≡ o → IsSilent (option_or_else o [] (λ r. option_or_else (challenge_in (request_stage settings r)) [] (λ text. (r.conn, challenge_line r.id text) ∷ [])))
      go None x = refl
      go (Some r) x = by_text r (h r x) (challenge_in (request_stage settings r))

  greetings_silent : (n : ℕ) → n ≢ conn → IsSilent (greeting_lines settings final n)
  greetings_silent n h = go (nth final.connections n)
    where
      all : (xs : List Bytes) → IsSilent (map (λ l. (n, l)) xs)
      all [] = refl
      all (x ∷ xs) = no_more (n == conn) _ (ne_eqb n conn h) (all xs)

      go : (o : Option Connection) → IsSilent (option_or_else o [] (λ c. map (λ l. (n, l)) (greeting c.kind settings.mechanisms settings.server_pid n c.cookie)))
      go None = refl
      go (Some c) = all _

  -- ---- one kind of lines after another

  each_silent : (f : ℕ → List (ℕ × Bytes)) (ns : List ℕ) → ((n : ℕ) → times n ns ≢ 0 → IsSilent (f n)) → IsSilent (flat_map f ns)
  each_silent f [] h = refl
  each_silent f (n ∷ ns) h = both_silent (f n) (flat_map f ns) (h n first) (each_silent f ns (λ m k. h m (further m k)))
    where
      more : (b : Bool) (k : ℕ) → b ≡ true → cond b 1 0 + k ≢ 0
      more true k d x = (let bad : ⊥ = omega (arith, x) in bad)
      more false k d x = true≢false (sym d)

      first : times n (n ∷ ns) ≢ 0
      first = more (n == n) (times n ns) (eq-eqb n n refl)

      further : (m : ℕ) → times m ns ≢ 0 → times m (n ∷ ns) ≢ 0
      further m k x = k (let y : times m ns ≡ 0 = omega (arith, x) in y)

  due_silent : IsSilent (due_lines settings final (effects settings tables e))
  unfolding effects
  due_silent = each_silent (reply_lines settings final) (due_requests settings timed e.moment) (λ n k. replies_silent n (λ r at. due_on_other n r at (is_among n (nth timed.requests n) (λ z. k (times-due settings timed e.moment n ∙ z)))))
    where
      is_among : (n : ℕ) (o : Option Request) → (option_or_else o zero (λ r. one_if (is_due settings e.moment r)) ≡ zero → ⊥) → passes_option (is_due settings e.moment) o ≡ true
      is_among n None h = absurd (h refl)
      is_among n (Some r) h = go (is_due settings e.moment r) h
        where
          go : (b : Bool) → (one_if b ≡ zero → ⊥) → b ≡ true
          go true h = refl
          go false h = absurd (h refl)

  opened_silent : (input : Input) → IsSilent (flat_map (greeting_lines settings final) (option_to_list (opened_by input tables)))
  opened_silent (Opened kind random) = both_silent _ [] (greetings_silent (suc (length tables.connections)) (λ d. nth-past tables.connections c (ap (nth tables.connections) d ∙ is))) refl
  opened_silent (Line conn text random) = refl
  opened_silent (Broken conn) = refl
  opened_silent (Gone conn) = refl
  opened_silent Take = refl
  opened_silent (Answered query answer) = refl
  opened_silent (Late query) = refl
  opened_silent Tick = refl

  abbrev continued : Option ℕ
  continued = (after_input settings e.moment e.input (before_input settings e.moment e.input tables)).continued

  continued_silent : (f : ℕ → List (ℕ × Bytes)) → ((n : ℕ) → ((r : Request) → nth final.requests n ≡ Some r → r.conn ≢ conn) → IsSilent (f n)) → (comparison : Request → Bool) →
      IsSilent (flat_map f (option_to_list (continued_if comparison final.requests continued)))
  continued_silent f h comparison = go continued (λ n d r at. continued_open_again settings tables e n d r at)
    where
      once : (n : ℕ) → ((r : Request) → nth final.requests n ≡ Some r → r.is_cancelled ≡ false) → (b : Bool) → IsSilent (flat_map f (option_to_list (cond b (Some n) None)))
      once n k true = both_silent (f n) [] (h n (λ r at y. not_open_after (subst (λ (z : ℕ). IsOpenAt final.connections z) y (all_open settings (e ∷ g) n r at (k r at))))) refl
      once n k false = refl

      go : (o : Option ℕ) → ((n : ℕ) → o ≡ Some n → (r : Request) → nth final.requests n ≡ Some r → r.is_cancelled ≡ false) → IsSilent (flat_map f (option_to_list (continued_if comparison final.requests o)))
      go None k = refl
      go (Some n) k = once n (k n refl) (passes_option comparison (nth final.requests n))

  own_silent : IsSilent (own_lines settings final (effects settings tables e))
  unfolding effects
  own_silent = both_silent _ _
      (both_silent _ _ (opened_silent e.input) (continued_silent (challenge_lines settings final) challenges_silent (λ r. is_some (challenge_in (request_stage settings r)))))
      (continued_silent (reply_lines settings final) replies_silent (λ r. is_some r.replied))

  pub lines_silent : IsSilent (entry_lines settings e g)
  lines_silent = both_silent (due_lines settings final (effects settings tables e)) (own_lines settings final (effects settings tables e)) due_silent own_silent

pub ended_is_silent : EndedIsSilent
ended_is_silent settings e g conn c is ended = lines_silent settings e g conn c is ended
