-- A request is timed out exactly where an entry found it a client's, undecided, and its limit reached.
use Rattle.std.proofs.Common.{◌≡◌, ◌⊎◌, inl, inr, refl, sym, ◌∙◌, ap, subst, Some, List, [], ◌∷◌, ℕ, true, is_some, not, ◌&&◌, true≢false}
use Rattle.std.proofs.lemmas.Option.{same_Some}
use Rattle.da_base.specs.Words.{nth}
use Rattle.da_invariants.proofs.OpenQueries.{nowhere}
use Rattle.da_invariants.proofs.Standing.{what_is_done_stands}
use Rattle.da_laws.proofs.LimitLaw.{limits_time_out}
use Rattle.da_laws.specs.LimitLaws.{IsTimedOut}
use Rattle.da_play.proofs.RequestParts.{BeforeEach, EachKeeps, EachRow, each_before, each_later}
use Rattle.da_play.specs.History.{after, before_input, tables_of}
use Rattle.da_play.specs.declared.input.Entry.{Entry}
use Rattle.da_readings.proofs.QueryReadings.{later_among}
use Rattle.da_readings.specs.RowReadings.{TimedOutIsRead, WasTimedOut}
use Rattle.da_request.specs.Requests.{is_due, is_over_limit, replied, replied_if_due, timed_out, timed_out_if_over, with_answer}
use Rattle.da_request.specs.declared.request.Request.{Request}
use Rattle.da_settings.specs.declared.settings.Settings.{Settings}
use Rattle.da_steps.proofs.Standing.{entry_stands}
use Rattle.da_steps.specs.Standing.{RequestStands, TablesStand}
use Rattle.da_tables.proofs.Cases.{by_test}
use Rattle.da_tables.specs.declared.tables.Tables.{Tables}

-- ---- one entry

module _ (settings : Settings) (e : Entry) (origin : Tables) where
  abbrev before : Tables
  before = before_input settings e.moment e.input origin

  -- request n was timed out before this entry, or the entry found its limit reached
  abbrev WasOver : ℕ → Type 0
  WasOver n = (s : Request) × (nth origin.requests n ≡ Some s) × ((s.is_timed_out ≡ true) ⊎ (is_over_limit settings e.moment s ≡ true))

  -- so it is of each request that is timed out
  abbrev Were : ℕ → Request → Type 0
  Were n r = r.is_timed_out ≡ true → WasOver n

  over_were : (n : ℕ) (r : Request) → nth origin.requests n ≡ Some r → Were n (timed_out_if_over settings e.moment r)
  over_were n r at = by_test (Were n) (is_over_limit settings e.moment r) (timed_out e.moment r) r (λ over t. (r, at, inr over)) (λ x t. (r, at, inl t))

  replies_were : (n : ℕ) (r : Request) → Were n r → Were n (replied_if_due settings e.moment r)
  replies_were n r p = by_test (Were n) (is_due settings e.moment r) (replied e.moment r) r (λ x. p) (λ x. p)

  before_were : BeforeEach settings e.moment (λ n r. nth origin.requests n ≡ Some r) Were Were
  before_were = record { times_out = over_were; replies = replies_were }

  keeps_were : EachKeeps settings e.moment before e.input Were
  keeps_were = record {
    text = λ n text r u p. p;
    answer = λ n db answer r u p. p;
    late = λ n db answer r u p. by_test (Were n) (is_some r.decided && not r.is_timed_out) r (with_answer db answer r) (λ x. p) (λ x. p);
    cancel = λ n r p. p;
    make = λ conn id random body m t. absurd (true≢false (sym t));
    decide = λ n r d u x p. replies_were n (record r { decided = Some e.moment }) p;
  }

  entry_were : EachRow Were (after settings origin e).requests
  entry_were = each_later settings origin e Were keeps_were (each_before settings e.moment (λ n r. nth origin.requests n ≡ Some r) Were Were before_were e.input origin (λ n r is. is))

-- ---- a history

module _ (settings : Settings) where
  by_entry : (h : List Entry) (n : ℕ) (r : Request) → nth (tables_of settings h).requests n ≡ Some r → r.is_timed_out ≡ true → WasTimedOut settings h n r
  by_entry [] n r is t = absurd (nowhere n r is)
  by_entry (e ∷ g) n r is t = go (by_entry g n) (entry_were settings e (tables_of settings g) n r is t)
    where
      -- this entry timed it out
      now : (s : Request) → nth (tables_of settings g).requests n ≡ Some s → is_over_limit settings e.moment s ≡ true → IsTimedOut settings e g n → WasTimedOut settings (e ∷ g) n r
      now s at over i =
          let same : r ≡ i.request = same_Some r i.request (sym is ∙ i.is_there) in
          record {
            entry = e;
            older = g;
            among = record { newer = []; is_there = refl };
            before = s;
            is_there = at;
            was_over = over;
            is_decided = ap (λ (x : Request). x.decided) same ∙ i.is_decided;
            is_replied = ap (λ (x : Request). x.replied) same ∙ i.is_replied;
          }

      -- one before it did
      stood : (s : Request) → WasTimedOut settings g n s → (q : Request) × (nth (tables_of settings (e ∷ g)).requests n ≡ Some q) × RequestStands s q → WasTimedOut settings (e ∷ g) n r
      stood s old (q, there, k) =
          let same : r ≡ q = same_Some r q (sym is ∙ there) in
          record {
            entry = old.entry;
            older = old.older;
            among = later_among e g old.entry old.older old.among;
            before = old.before;
            is_there = old.is_there;
            was_over = old.was_over;
            is_decided = ap (λ (x : Request). x.decided) same ∙ k.decided old.entry.moment old.is_decided;
            is_replied = ap (λ (x : Request). x.replied) same ∙ k.replied old.entry.moment old.is_replied;
          }

      go : ((s : Request) → nth (tables_of settings g).requests n ≡ Some s → s.is_timed_out ≡ true → WasTimedOut settings g n s) → WasOver settings e (tables_of settings g) n → WasTimedOut settings (e ∷ g) n r
      go earlier (s, at, inl marked) = stood s (earlier s at marked) ((entry_stands settings (tables_of settings g) e).requests n s at)
      go earlier (s, at, inr over) = now s at over (limits_time_out settings e g n s at over)

  of_entry : (h : List Entry) (n : ℕ) (r : Request) → nth (tables_of settings h).requests n ≡ Some r → WasTimedOut settings h n r → r.is_timed_out ≡ true
  of_entry h n r is w = go (limits_time_out settings w.entry w.older n w.before w.is_there w.was_over)
    where
      stands : TablesStand (tables_of settings (w.entry ∷ w.older)) (tables_of settings h)
      stands = subst (λ (x : List Entry). TablesStand (tables_of settings (w.entry ∷ w.older)) (tables_of settings x)) (sym w.among.is_there) (what_is_done_stands settings w.among.newer (w.entry ∷ w.older))

      go : IsTimedOut settings w.entry w.older n → r.is_timed_out ≡ true
      go i = later (stands.requests n i.request i.is_there)
        where
          later : (q : Request) × (nth (tables_of settings h).requests n ≡ Some q) × RequestStands i.request q → r.is_timed_out ≡ true
          later (q, at, k) = ap (λ (x : Request). x.is_timed_out) (same_Some r q (sym is ∙ at)) ∙ k.timed_out (ap is_some i.is_decided) ∙ i.is_timed_out

pub timed_out_is_read : TimedOutIsRead
timed_out_is_read settings = record { by_entry = by_entry settings; of_entry = of_entry settings }
