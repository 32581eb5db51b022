-- The texts of a request are those of the CONT lines that continued it.
use Rattle.std.proofs.Common.{◌≡◌, ◌⊎◌, inl, inr, refl, sym, ◌∙◌, ap, ap₂, Option, Some, None, List, [], ◌∷◌, ◌++◌, ℕ, zero, suc, Bool, true, false, cond, map, option_map, option_and_then, append-nil, is_some, not, ◌&&◌, ◌==◌, eq-eqb, ne_eqb, true≢false}
use Rattle.da_tables.proofs.Cases.{by_test, and_second}
use Rattle.da_play.proofs.EntryParts.{BeforeParts, InputParts, ContinuedParts, ReadsClient, IsMade, MadeLogin, MadeLookup, an_entry_gives, before_gives, connections_before}
use Rattle.da_tables.proofs.Rows.{same_or_not, nth-changed, nth-unchanged, listed, listed_at, changed_listed, map_listed, new_listed}
use Rattle.da_base.specs.Words.{Bytes, nth, changed_nth}
use Rattle.da_fields.specs.declared.answer.Answer.{Answer}
use Rattle.da_msgs.specs.ClientMessages.{client_message}
use Rattle.da_msgs.specs.declared.client.ClientMsg.{ClientMsg}
use Rattle.da_msgs.specs.declared.client.ClientMsg.TheVariants.{Cont}
use Rattle.da_readings.specs.ListReadings.{if_continued, message_in, continued_text, texts_read, texts_in, TextsAreRead}
use Rattle.da_play.specs.History.{tables_of, after, after_input, before_input}
use Rattle.da_tables.specs.Tables.{with_due_replied, with_timed_out}
use Rattle.da_request.specs.Requests.{with_decision, replied_if_due, is_over_limit, timed_out, timed_out_if_over}
use Rattle.da_request.specs.Requests.{new_request, with_text, body_with_text, is_awaiting}
use Rattle.da_request.specs.Requests.{with_answer, with_late_answer}
use Rattle.da_play.specs.History.{Tells}
use Rattle.da_request.specs.Requests.{is_due, is_authentication, is_undecided, request_stage, body_stage, challenge_in, lookup_stage}
use Rattle.da_tables.specs.Tables.{with_end, is_client}
use Rattle.da_request.specs.Requests.{cancelled, as_cancelled_of, is_of}
use Rattle.da_play.specs.declared.input.Entry.{Entry}
use Rattle.da_play.specs.declared.input.Input.{Input}
use Rattle.da_play.specs.declared.input.Input.TheVariants.{Opened, Line, Broken, Gone, Take, Answered, Late, Tick}
use Rattle.da_settings.specs.declared.settings.Settings.{Settings}
use Rattle.da_request.specs.declared.request.Body.{Body}
use Rattle.da_request.specs.declared.request.Body.TheVariants.{Authenticates, LooksUp}
use Rattle.da_tables.specs.declared.connections.Connection.{Connection}
use Rattle.da_request.specs.declared.request.Request.{Request}
use Rattle.da_tables.specs.declared.tables.Tables.{Tables}
use Rattle.da_userdb.specs.UserChain.{user_chain}
use Rattle.da_userdb.specs.declared.database.Lookup.{Lookup}
use Rattle.da_userdb.specs.declared.database.UserChain.{UserChain}
use Rattle.da_userdb.specs.declared.database.UserChain.TheVariants.{Ask as AskUser, Found as UserFound, NotFound as UserNotFound, Temp as UserFailed}

-- ---- the texts of a row

abbrev texts_of : Request → List Bytes
texts_of r = texts_in r.body

abbrev texts_at : List Request → ℕ → List Bytes
texts_at rs n = listed_at texts_of rs n

abbrev no_texts : Bool → List Bytes
no_texts b = cond b [] []

-- ---- one entry

module _ (settings : Settings) (e : Entry) (origin : Tables) where
  abbrev before : Tables
  before = before_input settings e.moment e.input origin

  -- what the input says, if it moves request n
  abbrev said : Option ℕ → ℕ → List Bytes
  said m n = if_continued m n (continued_text (message_in before.connections e.input))

  abbrev texts_now : Tables → Option ℕ → List ℕ → Type 0
  texts_now tables m done = (n : ℕ) → texts_at tables.requests n ≡ texts_at before.requests n ++ said m n

  abbrev texts_after : Tables → Option ℕ → Type 0
  texts_after tables m = (n : ℕ) → texts_at tables.requests n ≡ texts_at before.requests n ++ said m n

  still : (rs : List Request) → ((n : ℕ) → texts_at rs n ≡ texts_at before.requests n) → (n : ℕ) → texts_at rs n ≡ texts_at before.requests n ++ said None n
  still rs h n = h n ∙ sym (append-nil (texts_at before.requests n))

  -- an input that continues nothing
  silent : (rs : List Request) (m : ℕ) → continued_text (message_in before.connections e.input) ≡ [] → ((n : ℕ) → texts_at rs n ≡ texts_at before.requests n) → (n : ℕ) → texts_at rs n ≡ texts_at before.requests n ++ said (Some m) n
  silent rs m none h n = h n ∙ sym (ap (λ xs. texts_at before.requests n ++ xs) (ap (if_continued (Some m) n) none ∙ nothing (m == n)) ∙ append-nil (texts_at before.requests n))
    where
      nothing : (b : Bool) → no_texts b ≡ []
      nothing true = refl
      nothing false = refl

  of_client : (conn : ℕ) (random : Bytes) (message : ClientMsg) → ReadsClient before e.input conn random message → message_in before.connections e.input ≡ Some message
  of_client conn random message m = ap (message_in before.connections) m.is_line
      ∙ ap (option_and_then (λ (c : Connection). cond (is_client c.kind) (client_message m.text) None)) m.is_there
      ∙ ap (λ (b : Bool). cond b (client_message m.text) None) m.is_client ∙ m.spells

  of_made : (conn id : ℕ) (random : Bytes) (body : Body) → IsMade settings e.moment before e.input conn id random body → (continued_text (message_in before.connections e.input) ≡ []) × (texts_in body ≡ [])
  of_made conn id random body m = go m.made
    where
      go : MadeLogin before e.input conn id random body ⊎ MadeLookup settings e.moment before e.input conn id random body → (continued_text (message_in before.connections e.input) ≡ []) × (texts_in body ≡ [])
      go (inl (mech, params, resp, h, d)) = (ap continued_text (of_client conn random _ h), ap texts_in d)
      go (inr (pid, client, cookie, h, d)) = (
        ap continued_text (ap (message_in before.connections) h.is_line
            ∙ ap (option_and_then (λ (c : Connection). cond (is_client c.kind) (client_message h.text) None)) h.is_there
            ∙ ap (λ (b : Bool). cond b (client_message h.text) None) h.is_master),
        ap texts_in d,
      )

  of_told : (query : ℕ) (given : Answer) → Tells e.input query given → continued_text (message_in before.connections e.input) ≡ []
  of_told query given t = go e.input t
    where
      go : (i : Input) → Tells i query given → continued_text (message_in before.connections i) ≡ []
      go (Opened kind random) x = refl
      go (Line conn text random) x = absurd x
      go (Broken conn) x = refl
      go (Gone conn) x = refl
      go Take x = refl
      go (Answered n answer) x = refl
      go (Late n) x = refl
      go Tick x = refl

  added : (k : ℕ) (text : Bytes) (r : Request) → nth before.requests k ≡ Some r → is_authentication r.body ≡ true → continued_text (message_in before.connections e.input) ≡ text ∷ [] →
      (n : ℕ) → texts_at (changed_nth (with_text text) before.requests k) n ≡ texts_at before.requests n ++ said (Some k) n
  added k text r is a c n = go (same_or_not n k)
    where
      body_added : (b : Body) → is_authentication b ≡ true → texts_in (body_with_text text b) ≡ texts_in b ++ text ∷ []
      body_added (Authenticates mech params resp texts) x = refl
      body_added (LooksUp grant) x = absurd (true≢false (sym x))

      go : (n ≡ k) ⊎ (n ≡ k → ⊥) → texts_at (changed_nth (with_text text) before.requests k) n ≡ texts_at before.requests n ++ said (Some k) n
      go (inl d) = ap (texts_at (changed_nth (with_text text) before.requests k)) d ∙ ap (listed texts_of) (nth-changed (with_text text) before.requests k ∙ ap (option_map (with_text text)) is) ∙ body_added r.body a
          ∙ sym (ap₂ (λ (xs ys : List Bytes). xs ++ ys) (ap (texts_at before.requests) d ∙ ap (listed texts_of) is) (ap (λ (b : Bool). cond b (continued_text (message_in before.connections e.input)) []) (eq-eqb k n (sym d)) ∙ c))
      go (inr d) = ap (listed texts_of) (nth-unchanged (with_text text) before.requests k n d)
          ∙ sym (ap (λ (b : Bool). texts_at before.requests n ++ cond b (continued_text (message_in before.connections e.input)) []) (ne_eqb k n (λ x. d (sym x))) ∙ append-nil (texts_at before.requests n))

  -- only a client's login awaits messages
  awaiting_login : (r : Request) → is_awaiting settings r ≡ true → is_authentication r.body ≡ true
  unfolding request_stage
  awaiting_login r w = go r.body (and_second (is_undecided r) _ w)
    where
      lookup : (c : UserChain) (l : Lookup) → is_some (challenge_in (lookup_stage l c)) ≡ true → ⊥
      lookup (AskUser db) l x = true≢false (sym x)
      lookup (UserFound fields) l x = true≢false (sym x)
      lookup UserNotFound l x = true≢false (sym x)
      lookup UserFailed l x = true≢false (sym x)

      go : (b : Body) → is_some (challenge_in (body_stage settings r b)) ≡ true → is_authentication b ≡ true
      go (Authenticates mech params resp texts) x = refl
      go (LooksUp None) x = absurd (true≢false (sym x))
      go (LooksUp (Some grant)) x = absurd (lookup (user_chain settings.userdb grant.lookup r.answers) grant.lookup x)

  late_body : (db : ℕ) (answer : Answer) (r : Request) → (with_late_answer db answer r).body ≡ r.body
  late_body db answer r = by_test (λ (x : Request). x.body ≡ r.body) (is_some r.decided && not r.is_timed_out) r (with_answer db answer r) (λ x. refl) (λ x. refl)

  cancelled_body : (conn : ℕ) (r : Request) → (as_cancelled_of conn r).body ≡ r.body
  cancelled_body conn r = by_test (λ (x : Request). x.body ≡ r.body) (is_of conn r) (cancelled r) r (λ x. refl) (λ x. refl)

  due_body : (moment : ℕ) (r : Request) → (replied_if_due settings moment r).body ≡ r.body
  due_body moment r = by_test (λ (x : Request). x.body ≡ r.body) (is_due settings moment r) (record r { replied = Some moment }) r (λ x. refl) (λ x. refl)

  timed_out_body : (moment : ℕ) (r : Request) → (timed_out_if_over settings moment r).body ≡ r.body
  timed_out_body moment r = by_test (λ (x : Request). x.body ≡ r.body) (is_over_limit settings moment r) (timed_out moment r) r (λ x. refl) (λ x. refl)

  end_texts : (conn n : ℕ) → texts_at (with_end conn before).requests n ≡ texts_at before.requests n ++ said None n
  unfolding with_end
  end_texts conn n = still (map (as_cancelled_of conn) before.requests) (map_listed texts_of (as_cancelled_of conn) (λ r. ap texts_in (cancelled_body conn r)) before.requests) n

  input_texts : InputParts settings e.moment before e.input (λ tables m. texts_now tables m [])
  input_texts = record {
    opens = λ kind random l p. p;
    tells = λ conn change h told p. p;
    ends = λ conn x p. end_texts conn;
    cancels = λ n x p. still (changed_nth cancelled before.requests n) (changed_listed texts_of cancelled (λ r. refl) before.requests n);
    texts = λ conn id random text m r is w p. added _ text r is (awaiting_login r w) (ap continued_text (of_client conn random (Cont id text) m));
    makes = λ conn id random body m p. silent _ _ (of_made conn id random body m).0 (λ n. new_listed texts_of before.requests (new_request e.moment conn id random body) n (of_made conn id random body m).1);
    loses = λ query given a g is run lost u p. silent _ _ (of_told query given g) (λ n. refl);
    loses_late = λ query given a g is run lost u p. p;
    answers = λ query given a g is run counts u p. silent _ _ (of_told query given g) (changed_listed texts_of (with_answer a.question.db _) (λ r. refl) before.requests a.request);
    lates = λ query given a g is run counts u p. still _ (changed_listed texts_of (with_late_answer a.question.db _) (λ r. ap texts_in (late_body a.question.db _ r)) before.requests a.request);
  }

  continued_texts : ContinuedParts settings e.moment before e.input e.hits texts_now texts_after
  continued_texts = record {
    hit = λ tables continued number done rest a p is x w u q n. changed_listed texts_of (with_answer a.question.db p.0) (λ r. refl) tables.requests continued n ∙ q n;
    misses = λ tables continued number done rest x w q. q;
    rests = λ tables q. q;
    awaits = λ tables n r text is u x q. q;
    asks = λ tables n r question is u x q. q;
    decides = λ tables k r d is u x q n. changed_listed texts_of (with_decision settings e.moment) (λ s. ap texts_in (due_body e.moment (record s { decided = Some e.moment }))) tables.requests k n ∙ q n;
    kept = λ tables m query given a l run is k q. q;
  }

  abbrev SameTexts : Tables → Type 0
  SameTexts tables = (n : ℕ) → texts_at tables.requests n ≡ texts_at origin.requests n

  before_texts : BeforeParts settings e.moment origin e.input SameTexts SameTexts SameTexts
  unfolding with_due_replied with_timed_out
  before_texts = record {
    takes = λ l n. refl;
    stays = λ n. refl;
    times_out = λ tables q n. map_listed texts_of (timed_out_if_over settings e.moment) (λ r. ap texts_in (timed_out_body e.moment r)) tables.requests n ∙ q n;
    replies = λ tables q n. map_listed texts_of (replied_if_due settings e.moment) (λ r. ap texts_in (due_body e.moment r)) tables.requests n ∙ q n;
  }

  -- what the input says is what it says on the connections before the entry
  same_said : (m : Option ℕ) (n : ℕ) → said m n ≡ if_continued m n (continued_text (message_in origin.connections e.input))
  same_said m n = ap (λ (cs : List Connection). if_continued m n (continued_text (message_in cs e.input))) (connections_before settings e.moment origin e.input)

  entry_texts : (n : ℕ) → texts_at (after settings origin e).requests n
      ≡ texts_at origin.requests n ++ if_continued (after_input settings e.moment e.input before).continued n (continued_text (message_in origin.connections e.input))
  entry_texts n =
      an_entry_gives settings origin e texts_now texts_after input_texts continued_texts (still before.requests (λ m. refl)) n
      ∙ ap₂ (λ (xs ys : List Bytes). xs ++ ys) (before_gives settings e.moment origin e.input SameTexts SameTexts SameTexts before_texts n) (same_said (after_input settings e.moment e.input before).continued n)

-- ---- a history

all_texts : (settings : Settings) (h : List Entry) (n : ℕ) → texts_at (tables_of settings h).requests n ≡ texts_read settings h n
all_texts settings [] zero = refl
all_texts settings [] (suc n) = refl
all_texts settings (e ∷ g) n = entry_texts settings e (tables_of settings g) n ∙ ap (λ (xs : List Bytes). xs ++ if_continued (after_input settings e.moment e.input (before_input settings e.moment e.input (tables_of settings g))).continued n (continued_text (message_in (tables_of settings g).connections e.input))) (all_texts settings g n)

pub texts_are_read : TextsAreRead
texts_are_read settings h n r is = sym (ap (listed texts_of) is) ∙ all_texts settings h n
