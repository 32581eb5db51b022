-- A request has at most one final reply.
use Rattle.std.proofs.Common.{◌≡◌, ◌≢◌, ◌⊎◌, inl, inr, refl, sym, ◌∙◌, ap, ap₂, subst, Option, Some, None, List, [], ◌∷◌, ◌++◌, ℕ, zero, suc, ◌+◌, ◌≤◌, ◌<◌, Bool, true, false, cond, not, ◌&&◌, ◌||◌, map, length, slice_get, is_some, arith, ◌==◌, option_map, option_to_list, true≢false, eq-eqb, ne_eqb, add-zero, zero-add}
use Rattle.std.specs.List.{list_any}
use Rattle.da_tables.proofs.Cases.{by_test, and_first, and_second, not_true}
use Rattle.da_tables.proofs.Rows.{nth-changed, nth-last, nth-map, nth-other, nth-past, nth-unchanged, same_or_not}
use Rattle.da_base.specs.Words.{nth, changed_nth, passes_option, option_or_else, numbers_where, count_where}
use Rattle.da_fields.specs.declared.answer.Answer.{Answer}
use Rattle.da_laws.specs.ReplyLaws.{RepliesAtMostOnce}
use Rattle.da_play.proofs.EntryParts.{ContinuedParts, InputParts, an_entry_gives, before_replies_gives}
use Rattle.da_play.specs.Effects.{effects, final_replies, all_final_replies, due_requests, by_due, with_placed, continued_if}
use Rattle.da_play.specs.History.{tables_of, after, after_input, before_input, before_replies}
use Rattle.da_play.specs.declared.input.Entry.{Entry}
use Rattle.da_play.specs.declared.input.Input.{Input}
use Rattle.da_request.specs.Requests.{as_cancelled_of, cancelled, is_due, is_held, is_of, is_over_limit, is_undecided, new_request, timed_out, timed_out_if_over, with_answer, with_decision, with_late_answer, with_text}
use Rattle.da_request.specs.declared.request.Request.{Request}
use Rattle.da_settings.specs.declared.settings.Settings.{Settings}
use Rattle.da_steps.proofs.Standing.{undecided_is}
use Rattle.da_tables.specs.Tables.{with_due_replied, with_end, with_request, with_timed_out}
use Rattle.da_tables.specs.declared.tables.Tables.{Tables}

-- whether request n was replied, as a number
abbrev pub replies_of : Request → ℕ
replies_of r = cond (is_some r.replied) 1 0

abbrev pub replies_at : List Request → ℕ → ℕ
replies_at rs n = option_or_else (nth rs n) 0 replies_of

-- how often n stands in a list
abbrev pub times : ℕ → List ℕ → ℕ
times n = count_where (λ m. m == n)

pub times-append : (n : ℕ) (xs ys : List ℕ) → times n (xs ++ ys) ≡ times n xs + times n ys
times-append n [] ys = sym (zero-add (times n ys))
times-append n (x ∷ xs) ys = let rest : times n (xs ++ ys) ≡ times n xs + times n ys = times-append n xs ys in omega (arith, rest)

pub none_any : (p : ℕ → Bool) (xs : List ℕ) → count_where p xs ≡ 0 → list_any p xs ≡ false
none_any p [] e = refl
none_any p (x ∷ xs) e = go (p x) refl e (none_any p xs)
  where
    go : (b : Bool) → p x ≡ b → cond b 1 0 + count_where p xs ≡ 0 → (count_where p xs ≡ 0 → list_any p xs ≡ false) → (p x || list_any p xs) ≡ false
    go true d e rest = (let bad : ⊥ = omega (arith, e) in absurd bad)
    go false d e rest = ap (λ (b : Bool). b || list_any p xs) d ∙ rest (omega (arith, e))

no_one : (p : ℕ → Bool) (xs : List ℕ) → list_any p xs ≡ false → count_where p xs ≡ 0
no_one p [] e = refl
no_one p (x ∷ xs) e = go (p x) e (no_one p xs)
  where
    go : (b : Bool) → (b || list_any p xs) ≡ false → (list_any p xs ≡ false → count_where p xs ≡ 0) → cond b 1 0 + count_where p xs ≡ 0
    go true e rest = absurd (true≢false e)
    go false e rest = zero-add _ ∙ rest e

pub some_any : (p : ℕ → Bool) (xs : List ℕ) → count_where p xs ≡ 1 → list_any p xs ≡ true
some_any p xs e = go (list_any p xs) refl
  where
    go : (b : Bool) → list_any p xs ≡ b → list_any p xs ≡ true
    go true d = d
    go false d = (let none : count_where p xs ≡ 0 = no_one p xs d in let bad : ⊥ = omega (arith, none, e) in absurd bad)

-- ---- the requests that are due, in order, are those that are due

times-with_placed : (settings : Settings) (tables : Tables) (n m : ℕ) (ms : List ℕ) → times n (with_placed settings tables m ms) ≡ times n (m ∷ ms)
times-with_placed settings tables n m [] = refl
times-with_placed settings tables n m (k ∷ ms) = by_test (λ xs. times n xs ≡ times n (m ∷ k ∷ ms)) _ (m ∷ k ∷ ms) (k ∷ with_placed settings tables m ms)
    (λ e. refl)
    (λ e. let there : times n (with_placed settings tables m ms) ≡ times n (m ∷ ms) = times-with_placed settings tables n m ms in ap (λ x. cond (k == n) 1 0 + x) there ∙ swapped (cond (k == n) 1 0) (cond (m == n) 1 0) (times n ms))
  where
    swapped : (a b c : ℕ) → a + (b + c) ≡ b + (a + c)
    swapped a b c = omega arith

times-by_due : (settings : Settings) (tables : Tables) (n : ℕ) (ms : List ℕ) → times n (by_due settings tables ms) ≡ times n ms
times-by_due settings tables n [] = refl
times-by_due settings tables n (m ∷ ms) = times-with_placed settings tables n m (by_due settings tables ms) ∙ ap (λ x. cond (m == n) 1 0 + x) (times-by_due settings tables n ms)

abbrev test_of : (Request → Bool) → Request → ℕ
test_of holds r = cond (holds r) 1 0

none_below : (holds : Request → Bool) (n k : ℕ) (rs : List Request) → n < k → times n (numbers_where holds k rs) ≡ 0
none_below holds n k [] h = refl
none_below holds n k (r ∷ rs) h = by_test (λ xs. times n xs ≡ 0) (holds r) (k ∷ numbers_where holds (suc k) rs) (numbers_where holds (suc k) rs)
    (λ e. ap₂ (λ (b : Bool) (x : ℕ). cond b 1 0 + x) (ne_eqb k n (λ d. let bad : ⊥ = omega (arith, d, h) in bad)) (none_below holds n (suc k) rs (omega (arith, h))))
    (λ e. none_below holds n (suc k) rs (omega (arith, h)))

times-numbers : (holds : Request → Bool) (n k : ℕ) (rs : List Request) → times (n + k) (numbers_where holds k rs) ≡ option_or_else (slice_get rs n) 0 (test_of holds)
times-numbers holds n k [] = refl
times-numbers holds zero k (r ∷ rs) = by_test (λ xs. times (0 + k) xs ≡ test_of holds r) (holds r) (k ∷ numbers_where holds (suc k) rs) (numbers_where holds (suc k) rs)
    (λ e. ap₂ (λ (b : Bool) (x : ℕ). cond b 1 0 + x) (eq-eqb k (0 + k) (omega arith)) (none_below holds (0 + k) (suc k) rs (omega arith)) ∙ sym (ap (λ b. let n : ℕ = cond b 1 0 in n) e))
    (λ e. none_below holds (0 + k) (suc k) rs (omega arith) ∙ sym (ap (λ b. let n : ℕ = cond b 1 0 in n) e))
times-numbers holds (suc n) k (r ∷ rs) = by_test (λ xs. times (suc n + k) xs ≡ option_or_else (slice_get rs n) 0 (test_of holds)) (holds r) (k ∷ numbers_where holds (suc k) rs) (numbers_where holds (suc k) rs)
    (λ e. ap₂ (λ (b : Bool) (x : ℕ). cond b 1 0 + x) (ne_eqb k (suc n + k) (λ d. let bad : ⊥ = omega (arith, d) in bad)) (rest (times-numbers holds n (suc k) rs)) ∙ zero-add _)
    (λ e. rest (times-numbers holds n (suc k) rs))
  where
    shift : suc n + k ≡ n + suc k
    shift = omega arith

    rest : times (n + suc k) (numbers_where holds (suc k) rs) ≡ option_or_else (slice_get rs n) 0 (test_of holds) → times (suc n + k) (numbers_where holds (suc k) rs) ≡ option_or_else (slice_get rs n) 0 (test_of holds)
    rest h = ap (λ m. times m (numbers_where holds (suc k) rs)) shift ∙ h

-- of the requests that pass a test the numbers are listed once
times-numbers_where : (holds : Request → Bool) (n : ℕ) (rs : List Request) → times n (numbers_where holds 1 rs) ≡ option_or_else (nth rs n) 0 (test_of holds)
times-numbers_where holds zero rs = none_below holds 0 1 rs (omega arith)
times-numbers_where holds (suc n) rs = ap (λ m. times m (numbers_where holds 1 rs)) one_more ∙ times-numbers holds n 1 rs
  where
    one_more : suc n ≡ n + 1
    one_more = omega arith

pub times-due : (settings : Settings) (tables : Tables) (moment n : ℕ) → times n (due_requests settings tables moment) ≡ option_or_else (nth tables.requests n) 0 (test_of (is_due settings moment))
unfolding due_requests
times-due settings tables moment n = times-by_due settings tables n (numbers_where (is_due settings moment) 1 tables.requests) ∙ times-numbers_where (is_due settings moment) n tables.requests

-- ---- the replies of part one

due_unreplied : (settings : Settings) (moment : ℕ) (r : Request) → is_due settings moment r ≡ true → is_some r.replied ≡ false
unfolding is_due
due_unreplied settings moment r e = not_true _ (and_second _ _ (and_first (is_held r) _ e))

with_reply : Settings → ℕ → Request → Request
with_reply settings moment r = cond (is_due settings moment r) (record r { replied = Some moment }) r

replies_of-with_reply : (settings : Settings) (moment : ℕ) (r : Request) → replies_of (with_reply settings moment r) ≡ replies_of r + test_of (is_due settings moment) r
unfolding with_reply
replies_of-with_reply settings moment r = go (is_due settings moment r) (due_unreplied settings moment r)
  where
    go : (b : Bool) → (b ≡ true → is_some r.replied ≡ false) → replies_of (cond b (record r { replied = Some moment }) r) ≡ replies_of r + cond b 1 0
    go true h = sym (ap (λ x. let n : ℕ = cond x 1 0 in n + 1) (h refl))
    go false h = sym (add-zero (replies_of r))

slice-with_reply : (settings : Settings) (moment : ℕ) (rs : List Request) (n : ℕ) → option_or_else (slice_get (map (with_reply settings moment) rs) n) 0 replies_of ≡ option_or_else (slice_get rs n) 0 replies_of + option_or_else (slice_get rs n) 0 (test_of (is_due settings moment))
slice-with_reply settings moment [] n = refl
slice-with_reply settings moment (r ∷ rs) zero = replies_of-with_reply settings moment r
slice-with_reply settings moment (r ∷ rs) (suc n) = slice-with_reply settings moment rs n

-- part one of an entry replies to the requests that are due
part_one : (settings : Settings) (moment : ℕ) (tables : Tables) (n : ℕ) → replies_at (with_due_replied settings moment tables).requests n ≡ replies_at tables.requests n + times n (due_requests settings tables moment)
unfolding with_due_replied with_reply
part_one settings moment tables zero = sym (times-due settings tables moment 0) ∙ sym (zero-add _)
part_one settings moment tables (suc n) = slice-with_reply settings moment tables.requests n ∙ ap (λ x. option_or_else (slice_get tables.requests n) 0 replies_of + x) (sym (times-due settings tables moment (suc n)))

-- ---- what an input and hits leave

-- a change that keeps whether a request is replied
abbrev KeepsReplied : (Request → Request) → Type 0
KeepsReplied f = (r : Request) → is_some (f r).replied ≡ is_some r.replied

mapped_replies : (f : Request → Request) → KeepsReplied f → (o : Option Request) → option_or_else (option_map f o) 0 replies_of ≡ option_or_else o 0 replies_of
mapped_replies f h None = refl
mapped_replies f h (Some r) = ap (λ (b : Bool). cond b 1 0) (h r)

map_replies : (f : Request → Request) → KeepsReplied f → (rs : List Request) (n : ℕ) → replies_at (map f rs) n ≡ replies_at rs n
map_replies f h rs n = ap (λ (o : Option Request). option_or_else o 0 replies_of) (nth-map f rs n) ∙ mapped_replies f h (nth rs n)

changed_replies : (f : Request → Request) → KeepsReplied f → (rs : List Request) (m n : ℕ) → replies_at (changed_nth f rs m) n ≡ replies_at rs n
changed_replies f h rs m n = go (same_or_not n m)
  where
    go : (n ≡ m) ⊎ (n ≢ m) → replies_at (changed_nth f rs m) n ≡ replies_at rs n
    go (inl d) = ap (replies_at (changed_nth f rs m)) d ∙ ap (λ (o : Option Request). option_or_else o 0 replies_of) (nth-changed f rs m) ∙ mapped_replies f h (nth rs m) ∙ ap (replies_at rs) (sym d)
    go (inr d) = ap (λ (o : Option Request). option_or_else o 0 replies_of) (nth-unchanged f rs m n d)

new_replies : (rs : List Request) (r : Request) (n : ℕ) → r.replied ≡ None → replies_at (rs ++ r ∷ []) n ≡ replies_at rs n
new_replies rs r n none = go (same_or_not n (suc (length rs)))
  where
    nothing : (o : Option Request) → ((s : Request) → o ≡ Some s → ⊥) → 0 ≡ option_or_else o 0 replies_of
    nothing None h = refl
    nothing (Some s) h = absurd (h s refl)

    go : (n ≡ suc (length rs)) ⊎ (n ≢ suc (length rs)) → replies_at (rs ++ r ∷ []) n ≡ replies_at rs n
    go (inl d) = ap (replies_at (rs ++ r ∷ [])) d ∙ ap (λ (o : Option Request). option_or_else o 0 replies_of) (nth-last rs r) ∙ ap (λ (x : Option ℕ). cond (is_some x) 1 0) none
        ∙ nothing (nth rs n) (λ s e. nth-past rs s (ap (nth rs) (sym d) ∙ e))
    go (inr d) = ap (λ (o : Option Request). option_or_else o 0 replies_of) (nth-other rs r n d)

late_replies : (db : ℕ) (answer : Answer) → KeepsReplied (with_late_answer db answer)
late_replies db answer r = by_test (λ (s : Request). is_some s.replied ≡ is_some r.replied) (is_some r.decided && not r.is_timed_out) r (with_answer db answer r) (λ e. refl) (λ e. refl)

-- ---- the reply to the request that is continued

-- the entry tells the reply of the request that it continues
told_once : (o : Option Request) (n : ℕ) → option_or_else o 0 replies_of ≡ times n (option_to_list (cond (passes_option (λ r. is_some r.replied) o) (Some n) None))
told_once None n = refl
told_once (Some r) n = go (is_some r.replied)
  where
    go : (b : Bool) → cond b 1 0 ≡ times n (option_to_list (cond b (Some n) None))
    go true = sym (ap (λ b. let k : ℕ = cond b 1 0 in k + 0) (eq-eqb n n refl))
    go false = refl

not_told : (b : Bool) (n m : ℕ) → n ≢ m → times n (option_to_list (cond b (Some m) None)) ≡ 0
not_told true n m h = ap (λ b. let k : ℕ = cond b 1 0 in k + 0) (ne_eqb m n (λ e. h (sym e)))
not_told false n m h = refl

module _ (settings : Settings) (moment : ℕ) (before : Tables) (entered : Input) (hits : List ℕ) (n : ℕ) where
  -- request n as it was, until the entry tells the reply of the request that it continues
  abbrev replies_now : Tables → Option ℕ → List ℕ → Type 0
  replies_now tables m done = replies_at tables.requests n ≡ replies_at before.requests n

  abbrev replies_after : Tables → Option ℕ → Type 0
  replies_after tables m = replies_at tables.requests n ≡ replies_at before.requests n + times n (option_to_list (continued_if (λ r. is_some r.replied) tables.requests m))

  ended_replies : (conn : ℕ) → replies_at (with_end conn before).requests n ≡ replies_at before.requests n
  unfolding with_end
  ended_replies conn = map_replies (as_cancelled_of conn) (λ r. by_test (λ (s : Request). is_some s.replied ≡ is_some r.replied) (is_of conn r) (cancelled r) r (λ e. refl) (λ e. refl)) before.requests n

  input_replies : InputParts settings moment before entered (λ tables m. replies_at tables.requests n ≡ replies_at before.requests n)
  input_replies = record {
    opens = λ kind random l p. p;
    tells = λ conn change h told p. p;
    ends = λ conn e p. ended_replies conn;
    cancels = λ m e p. changed_replies cancelled (λ r. refl) before.requests m n;
    texts = λ conn id random text m r is w p. changed_replies (with_text text) (λ r. refl) before.requests _ n;
    makes = λ conn id random body m p. new_replies before.requests (new_request moment conn id random body) n refl;
    loses = λ query given a g is run lost u p. p;
    loses_late = λ query given a g is run lost u p. p;
    answers = λ query given a g is run counts u p. changed_replies (with_answer a.question.db _) (λ r. refl) before.requests a.request n;
    lates = λ query given a g is run counts u p. changed_replies (with_late_answer a.question.db _) (late_replies a.question.db _) before.requests a.request n;
  }

  -- the entry tells no reply of a request that stays undecided
  undecided_replies : (tables : Tables) (m : ℕ) (r : Request) → nth tables.requests m ≡ Some r → is_undecided r ≡ true → replies_at tables.requests n ≡ replies_at before.requests n → replies_after tables (Some m)
  undecided_replies tables m r is u q =
      q ∙ sym (ap (λ (b : Bool). replies_at before.requests n + times n (option_to_list (cond b (Some m) None))) (ap (passes_option (λ r. is_some r.replied)) is ∙ (undecided_is r u).1) ∙ add-zero _)

  decided_replies : (tables : Tables) (m : ℕ) (r : Request) → nth tables.requests m ≡ Some r → is_undecided r ≡ true → replies_at tables.requests n ≡ replies_at before.requests n →
      replies_after (with_request (with_decision settings moment) m tables) (Some m)
  decided_replies tables m r is u q = go (same_or_not n m)
    where
      rs : List Request
      rs = changed_nth (with_decision settings moment) tables.requests m

      go : (n ≡ m) ⊎ (n ≢ m) → replies_at rs n ≡ replies_at before.requests n + times n (option_to_list (continued_if (λ r. is_some r.replied) rs (Some m)))
      go (inl d) = subst (λ (k : ℕ). replies_at rs n ≡ replies_at before.requests n + times n (option_to_list (cond (passes_option (λ r. is_some r.replied) (nth rs k)) (Some k) None))) d
          (told_once (nth rs n) n
          ∙ sym (ap (λ x. x + times n (option_to_list (cond (passes_option (λ r. is_some r.replied) (nth rs n)) (Some n) None)))
          (sym q ∙ ap (replies_at tables.requests) d ∙ ap (λ (o : Option Request). option_or_else o 0 replies_of) is ∙ ap (λ (b : Bool). cond b 1 0) (undecided_is r u).1) ∙ zero-add _))
      go (inr d) = ap (λ (o : Option Request). option_or_else o 0 replies_of) (nth-unchanged (with_decision settings moment) tables.requests m n d) ∙ q
          ∙ sym (ap (λ x. replies_at before.requests n + x) (not_told _ n m d) ∙ add-zero _)

  continued_replies : ContinuedParts settings moment before entered hits replies_now replies_after
  continued_replies = record {
    hit = λ tables continued number done rest a p is e w u q. changed_replies (with_answer a.question.db p.0) (λ r. refl) tables.requests continued n ∙ q;
    misses = λ tables continued number done rest e w q. q;
    rests = λ tables q. q ∙ sym (add-zero _);
    awaits = λ tables m r text is u e q. undecided_replies tables m r is u q;
    asks = λ tables m r question is u e q. undecided_replies tables m r is u q;
    decides = λ tables m r d is u e q. decided_replies tables m r is u q;
    kept = λ tables m query given a l run is k q. q;
  }

-- ---- one entry, and a history

-- nothing is replied before the replies that are due
timed_replies : (settings : Settings) (moment : ℕ) (tables : Tables) (n : ℕ) → replies_at (with_timed_out settings moment tables).requests n ≡ replies_at tables.requests n
unfolding with_timed_out
timed_replies settings moment tables n =
    map_replies (timed_out_if_over settings moment) (λ r. by_test (λ (s : Request). is_some s.replied ≡ is_some r.replied) (is_over_limit settings moment r) (timed_out moment r) r (λ e. refl) (λ e. refl)) tables.requests n

replies_before : (settings : Settings) (moment : ℕ) (input : Input) (tables : Tables) (n : ℕ) → replies_at (before_replies settings moment input tables).requests n ≡ replies_at tables.requests n
replies_before settings moment input tables n =
    before_replies_gives settings moment tables input (λ t. replies_at t.requests n ≡ replies_at tables.requests n) (λ t. replies_at t.requests n ≡ replies_at tables.requests n) (λ t. Unit {0})
    (record { takes = λ is. refl; stays = refl; times_out = λ t q. timed_replies settings moment t n ∙ q; replies = λ t q. tt })

first_replies : (settings : Settings) (moment : ℕ) (input : Input) (tables : Tables) (n : ℕ) →
    replies_at (before_input settings moment input tables).requests n ≡ replies_at tables.requests n + times n (due_requests settings (before_replies settings moment input tables) moment)
unfolding before_input
first_replies settings moment input tables n =
    let timed : Tables = before_replies settings moment input tables in
    part_one settings moment timed n ∙ ap (λ x. x + times n (due_requests settings timed moment)) (replies_before settings moment input tables n)

pub entry_replies : (settings : Settings) (tables : Tables) (e : Entry) (n : ℕ) → replies_at (after settings tables e).requests n ≡ replies_at tables.requests n + times n (final_replies (effects settings tables e))
unfolding effects
entry_replies settings tables e n =
    let before : Tables = before_input settings e.moment e.input tables in
    let due : List ℕ = due_requests settings (before_replies settings e.moment e.input tables) e.moment in
    let own : List ℕ = option_to_list (continued_if (λ r. is_some r.replied) (after settings tables e).requests (after_input settings e.moment e.input before).continued) in
    let part_two : replies_at (after settings tables e).requests n ≡ replies_at before.requests n + times n own =
    an_entry_gives settings tables e (replies_now settings e.moment before e.input e.hits n) (replies_after settings e.moment before e.input e.hits n)
    (input_replies settings e.moment before e.input e.hits n) (continued_replies settings e.moment before e.input e.hits n) refl in
    let part_one : replies_at before.requests n ≡ replies_at tables.requests n + times n due = first_replies settings e.moment e.input tables n in
    let both : times n (due ++ own) ≡ times n due + times n own = times-append n due own in
    omega (arith, part_one, part_two, both)

replied_times : (settings : Settings) (h : List Entry) (n : ℕ) → times n (all_final_replies settings h) ≡ replies_at (tables_of settings h).requests n
replied_times settings [] zero = refl
replied_times settings [] (suc n) = refl
replied_times settings (e ∷ g) n =
    times-append n (final_replies (effects settings (tables_of settings g) e)) (all_final_replies settings g)
    ∙ ap (λ x. times n (final_replies (effects settings (tables_of settings g) e)) + x) (replied_times settings g n)
    ∙ swapped (times n (final_replies (effects settings (tables_of settings g) e))) (replies_at (tables_of settings g).requests n)
    ∙ sym (entry_replies settings (tables_of settings g) e n)
  where
    swapped : (a b : ℕ) → a + b ≡ b + a
    swapped a b = omega arith

pub at_most_one : (o : Option Request) → option_or_else o 0 replies_of ≤ 1
at_most_one None = omega arith
at_most_one (Some r) = go (is_some r.replied)
  where
    go : (b : Bool) → cond b 1 0 ≤ 1
    go true = omega arith
    go false = omega arith

pub replies_at_most_once : RepliesAtMostOnce
replies_at_most_once settings h n = subst (λ x. x ≤ 1) (sym (replied_times settings h n)) (at_most_one (nth (tables_of settings h).requests n))
