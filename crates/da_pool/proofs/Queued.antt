-- The queue of those that run and those that wait.
use Rattle.std.proofs.Common.{◌≡◌, refl, sym, ◌∙◌, ap, subst, List, [], ◌∷◌, ◌++◌, ℕ, Bool, true, false, not, cond, ◌||◌, map, is_some, Option, Some, None, nat_eq}
use Rattle.std.specs.Cmp.{nat_eq_equiv}
use Rattle.std.specs.List.{AllByRecursion, IsDistinct}
use Rattle.std.specs.Map.{keys_of, lookup, set_value, remove_entry}
use Rattle.std.proofs.lemmas.List.{append_assoc, map-append}
use Rattle.da_pool.proofs.Entries.{set_between, remove_between}
use Rattle.da_pool.specs.Pools.{is_waiting, is_running, first_running, without_number}
use Rattle.da_pool.specs.Queues.{queue_of, running_of, is_taken, was_taken, first_taking}

abbrev ran : ℕ × ℕ → ℕ × Option ℕ
ran q = (q.1, Some q.0)

abbrev waits : ℕ × ℕ → ℕ × Option ℕ
waits q = (q.0, None)

none_runs : (waiting : List (ℕ × ℕ)) → running_of (map waits waiting) ≡ []
none_runs [] = refl
none_runs (w ∷ ws) = none_runs ws

pub running_queued : (running waiting : List (ℕ × ℕ)) → running_of (queue_of running waiting) ≡ running
running_queued [] waiting = none_runs waiting
running_queued (r ∷ rs) waiting = ap (λ rs. r ∷ rs) (running_queued rs waiting)

-- a queue of those that run has the form that a pool keeps
pub kept : (queue : List (ℕ × Option ℕ)) (running waiting : List (ℕ × ℕ)) → queue ≡ queue_of running waiting → queue ≡ queue_of (running_of queue) waiting
kept queue running waiting e = e ∙ ap (λ rs. queue_of rs waiting) (sym (ap running_of e ∙ running_queued running waiting))

pub runs : (queue : List (ℕ × Option ℕ)) (running waiting : List (ℕ × ℕ)) → queue ≡ queue_of running waiting → running_of queue ≡ running
runs queue running waiting e = ap running_of e ∙ running_queued running waiting

-- ---- what is found

none_taken : (number : ℕ) (waiting : List (ℕ × ℕ)) → was_taken (lookup (nat_eq number) (map waits waiting)) ≡ false
none_taken number [] = refl
none_taken number (w ∷ ws) = go (nat_eq number w.0) (none_taken number ws)
  where
    go : (b : Bool) → was_taken (lookup (nat_eq number) (map waits ws)) ≡ false → was_taken (cond b (Some None) (lookup (nat_eq number) (map waits ws))) ≡ false
    go true rest = refl
    go false rest = rest

pub taken_runs : (number : ℕ) (running waiting : List (ℕ × ℕ)) → is_taken number (queue_of running waiting) ≡ is_running number running
taken_runs number [] waiting = none_taken number waiting
taken_runs number (r ∷ rs) waiting = go (nat_eq number r.1) (taken_runs number rs waiting)
  where
    go : (b : Bool) → is_taken number (queue_of rs waiting) ≡ is_running number rs → was_taken (cond b (Some (Some r.0)) (lookup (nat_eq number) (queue_of rs waiting))) ≡ (b || is_running number rs)
    go true rest = refl
    go false rest = rest

pub first_queued : (running waiting : List (ℕ × ℕ)) → first_taking (queue_of running waiting) ≡ first_running running
first_queued [] [] = refl
first_queued [] (w ∷ ws) = refl
first_queued (r ∷ rs) waiting = refl

has_waiting : (number : ℕ) (waiting : List (ℕ × ℕ)) → is_some (lookup (nat_eq number) (map waits waiting)) ≡ is_waiting number waiting
has_waiting number [] = refl
has_waiting number (w ∷ ws) = go (nat_eq number w.0) (has_waiting number ws)
  where
    go : (b : Bool) → is_some (lookup (nat_eq number) (map waits ws)) ≡ is_waiting number ws → is_some (cond b (Some None) (lookup (nat_eq number) (map waits ws))) ≡ (b || is_waiting number ws)
    go true rest = refl
    go false rest = rest

pub has_queued : (number : ℕ) (running waiting : List (ℕ × ℕ)) → is_some (lookup (nat_eq number) (queue_of running waiting)) ≡ (is_running number running || is_waiting number waiting)
has_queued number [] waiting = has_waiting number waiting
has_queued number (r ∷ rs) waiting = go (nat_eq number r.1) (has_queued number rs waiting)
  where
    go : (b : Bool) → is_some (lookup (nat_eq number) (queue_of rs waiting)) ≡ (is_running number rs || is_waiting number waiting)
        → is_some (cond b (Some (Some r.0)) (lookup (nat_eq number) (queue_of rs waiting))) ≡ ((b || is_running number rs) || is_waiting number waiting)
    go true rest = refl
    go false rest = rest

-- ---- one more, one taken, one ended

pub one_more : (running waiting : List (ℕ × ℕ)) (number request : ℕ) → queue_of running waiting ++ (number, None) ∷ [] ≡ queue_of running (waiting ++ (number, request) ∷ [])
one_more running waiting number request =
    append_assoc (map ran running) (map waits waiting) ((number, None) ∷ []) ∙ ap (λ es. map ran running ++ es) (sym (map-append waits waiting ((number, request) ∷ [])))

pub one_taken : (moment : ℕ) (running waiting : List (ℕ × ℕ)) (number request : ℕ) → IsDistinct nat_eq (keys_of (queue_of running ((number, request) ∷ waiting)))
    → set_value (nat_eq number) (queue_of running ((number, request) ∷ waiting)) (Some moment) ≡ queue_of (running ++ (moment, number) ∷ []) waiting
one_taken moment running waiting number request apart =
    set_between (map ran running) (map waits waiting) number None (Some moment) apart
    ∙ sym (append_assoc (map ran running) ((number, Some moment) ∷ []) (map waits waiting))
    ∙ ap (λ es. es ++ map waits waiting) (sym (map-append ran running ((moment, number) ∷ [])))

-- no other has the number of the first
others_stay : (number : ℕ) (running waiting : List (ℕ × ℕ)) → AllByRecursion (λ k. nat_eq number k ≡ false) (keys_of (queue_of running waiting)) → without_number number running ≡ running
others_stay number [] waiting h = refl
others_stay number (r ∷ rs) waiting h =
    ap (λ b. cond (not b) (r ∷ without_number number rs) (without_number number rs)) h.0 ∙ ap (λ rs. r ∷ rs) (others_stay number rs waiting h.1)

all_same : (number k : ℕ) (ks : List ℕ) → nat_eq number k ≡ true → AllByRecursion (λ j. nat_eq k j ≡ false) ks → AllByRecursion (λ j. nat_eq number j ≡ false) ks
all_same number k [] e h = tt
all_same number k (j ∷ ks) e h = (nat_eq_equiv.congr number k j e ∙ h.0, all_same number k ks e h.1)

pub one_ended : (number : ℕ) (running waiting : List (ℕ × ℕ)) → IsDistinct nat_eq (keys_of (queue_of running waiting)) → is_running number running ≡ true
    → remove_entry (nat_eq number) (queue_of running waiting) ≡ queue_of (without_number number running) waiting
unfolding IsDistinct
one_ended number [] waiting apart h = cc
one_ended number (r ∷ rs) waiting apart h = go (nat_eq number r.1) refl h (one_ended number rs waiting apart.1)
  where
    go : (b : Bool) → nat_eq number r.1 ≡ b → (b || is_running number rs) ≡ true → (is_running number rs ≡ true → remove_entry (nat_eq number) (queue_of rs waiting) ≡ queue_of (without_number number rs) waiting)
        → cond b (queue_of rs waiting) ((r.1, Some r.0) ∷ remove_entry (nat_eq number) (queue_of rs waiting)) ≡ queue_of (cond (not b) (r ∷ without_number number rs) (without_number number rs)) waiting
    go true e h rest = ap (λ rs. queue_of rs waiting) (sym (others_stay number rs waiting (all_same number r.1 (keys_of (queue_of rs waiting)) e apart.0)))
    go false e h rest = ap (λ es. (r.1, Some r.0) ∷ es) (rest h)

pub none_ended : (number : ℕ) (running : List (ℕ × ℕ)) → is_running number running ≡ false → without_number number running ≡ running
none_ended number [] h = refl
none_ended number (r ∷ rs) h = go (nat_eq number r.1) h (none_ended number rs)
  where
    go : (b : Bool) → (b || is_running number rs) ≡ false → (is_running number rs ≡ false → without_number number rs ≡ rs) → cond (not b) (r ∷ without_number number rs) (without_number number rs) ≡ r ∷ rs
    go true h rest = cc
    go false h rest = ap (λ rs. r ∷ rs) (rest h)

-- ---- one of those that wait is taken out

pub one_dropped : (running front waiting : List (ℕ × ℕ)) (q : ℕ × ℕ) → IsDistinct nat_eq (keys_of (queue_of running (front ++ q ∷ waiting)))
    → remove_entry (nat_eq q.0) (queue_of running (front ++ q ∷ waiting)) ≡ queue_of running (front ++ waiting)
one_dropped running front waiting q apart =
    ap (remove_entry (nat_eq q.0)) (parted (q ∷ waiting))
    ∙ remove_between (map ran running ++ map waits front) (map waits waiting) q.0 None (subst (λ es. IsDistinct nat_eq (keys_of es)) (parted (q ∷ waiting)) apart)
    ∙ sym (parted waiting)
  where
    parted : (rest : List (ℕ × ℕ)) → queue_of running (front ++ rest) ≡ (map ran running ++ map waits front) ++ map waits rest
    parted rest = ap (λ es. map ran running ++ es) (map-append waits front rest) ∙ sym (append_assoc (map ran running) (map waits front) (map waits rest))
