-- What each call of a pool makes of its queue.
use Rattle.std.proofs.Common.{◌≡◌, refl, sym, ◌∙◌, ap, subst, List, [], ◌∷◌, ◌++◌, ℕ, suc, ◌+◌, ◌<◌, true, false, not, cond, length, drop, is_some, Option, Some, None, nat_eq, ◌==◌, get_or, arith}
use Rattle.std.specs.List.{IsDistinct}
use Rattle.std.specs.Map.{keys_of, lookup, set_value, remove_entry}
use Rattle.std.proofs.lemmas.List.{append_assoc}
use Rattle.std.proofs.Math.Seq.{drop-cons}
use Rattle.da_pool.proofs.Queued.{taken_runs, has_queued, one_more, one_taken, one_ended, none_ended, one_dropped}
use Rattle.da_pool.specs.Pools.{has_query, is_running, without_number, without_request}
use Rattle.da_pool.specs.Queues.{queue_of, running_of, is_taken, IsQueueOf}

module _ (queue now : List (ℕ × Option ℕ)) where
  pub has_it : (waiting : List (ℕ × ℕ)) (number : ℕ) → IsQueueOf queue waiting → is_some (lookup (nat_eq number) queue) ≡ has_query number (record { waiting = waiting; running = running_of queue })
  has_it waiting number form = ap (λ es. is_some (lookup (nat_eq number) es)) form ∙ has_queued number (running_of queue) waiting

  none_there : (o : Option (Option ℕ)) → is_some o ≡ false → o ≡ None
  none_there None e = refl
  none_there (Some x) e = cc

  pub is_absent : (waiting : List (ℕ × ℕ)) (number : ℕ) → IsQueueOf queue waiting → has_query number (record { waiting = waiting; running = running_of queue }) ≡ false → lookup (nat_eq number) queue ≡ None
  is_absent waiting number form absent = none_there (lookup (nat_eq number) queue) (has_it waiting number form ∙ absent)

  pub added : (waiting more : List (ℕ × ℕ)) (number request : ℕ) → IsQueueOf queue waiting → more ≡ waiting ++ (number, request) ∷ [] → now ≡ queue ++ (number, None) ∷ [] → now ≡ queue_of (running_of queue) more
  added waiting more number request form next e =
      e ∙ ap (λ es. es ++ (number, None) ∷ []) form ∙ one_more (running_of queue) waiting number request ∙ ap (queue_of (running_of queue)) (sym next)

  pub took : (waiting rest : List (ℕ × ℕ)) (number request moment : ℕ) → IsQueueOf queue waiting → waiting ≡ (number, request) ∷ rest → IsDistinct nat_eq (keys_of queue)
      → now ≡ set_value (nat_eq number) queue (Some moment) → now ≡ queue_of (running_of queue ++ (moment, number) ∷ []) rest
  took waiting rest number request moment form first apart e =
      e ∙ ap (λ es. set_value (nat_eq number) es (Some moment)) whole ∙ one_taken moment (running_of queue) rest number request (subst (λ es. IsDistinct nat_eq (keys_of es)) whole apart)
    where
      whole : queue ≡ queue_of (running_of queue) ((number, request) ∷ rest)
      whole = form ∙ ap (queue_of (running_of queue)) first

  pub tells : (waiting : List (ℕ × ℕ)) (number : ℕ) → IsQueueOf queue waiting → is_taken number queue ≡ is_running number (running_of queue)
  tells waiting number form = ap (is_taken number) form ∙ taken_runs number (running_of queue) waiting

  pub ended : (waiting : List (ℕ × ℕ)) (number : ℕ) → IsQueueOf queue waiting → IsDistinct nat_eq (keys_of queue) → is_taken number queue ≡ true
      → now ≡ remove_entry (nat_eq number) queue → now ≡ queue_of (without_number number (running_of queue)) waiting
  ended waiting number form apart ran e =
      e ∙ ap (remove_entry (nat_eq number)) form
      ∙ one_ended number (running_of queue) waiting (subst (λ es. IsDistinct nat_eq (keys_of es)) form apart) (sym (tells waiting number form) ∙ ran)

  pub stays : (waiting : List (ℕ × ℕ)) (number : ℕ) → IsQueueOf queue waiting → is_taken number queue ≡ false → without_number number (running_of queue) ≡ running_of queue
  stays waiting number form ran = none_ended number (running_of queue) (sym (tells waiting number form) ∙ ran)

-- the queue, when those of a request are taken out of the first that wait
pub record Dropped (running waiting : List (ℕ × ℕ)) (request place : ℕ) (queue : List (ℕ × Option ℕ)) : Type 0 where
  pub front : List (ℕ × ℕ)
  pub left : queue ≡ queue_of running (front ++ drop place waiting)
  pub rest : front ++ without_request request (drop place waiting) ≡ without_request request waiting

module _ (running waiting : List (ℕ × ℕ)) (request : ℕ) where
  pub none_dropped : (queue : List (ℕ × Option ℕ)) → queue ≡ queue_of running waiting → Dropped running waiting request 0 queue
  none_dropped queue form = record { front = []; left = form; rest = refl }

  pub all_dropped : (queue : List (ℕ × Option ℕ)) (place : ℕ) → Dropped running waiting request place queue → drop place waiting ≡ [] → queue ≡ queue_of running (without_request request waiting)
  all_dropped queue place so_far none =
      so_far.left ∙ ap (queue_of running) (ap (λ ws. so_far.front ++ ws) (none ∙ sym (ap (without_request request) none)) ∙ so_far.rest)

  module _ (queue : List (ℕ × Option ℕ)) (place : ℕ) (q : ℕ × ℕ) (within : place < length waiting) (at : q ≡ get_or waiting place q) where
    next : drop place waiting ≡ q ∷ drop (place + 1) waiting
    next =
        let after : suc place ≡ place + 1 = omega arith in
        drop-cons waiting place q within ∙ ap (λ n. get_or waiting place q ∷ drop n waiting) after ∙ ap (λ x. x ∷ drop (place + 1) waiting) (sym at)

    pub one_kept : Dropped running waiting request place queue → (request == q.1) ≡ false → Dropped running waiting request (place + 1) queue
    one_kept so_far other = record {
      front = so_far.front ++ q ∷ [];
      left = so_far.left ∙ ap (queue_of running) (ap (λ ws. so_far.front ++ ws) next ∙ sym (append_assoc so_far.front (q ∷ []) (drop (place + 1) waiting)));
      rest = append_assoc so_far.front (q ∷ []) (without_request request (drop (place + 1) waiting))
          ∙ ap (λ ws. so_far.front ++ ws) (sym (ap (without_request request) next ∙ ap (λ b. cond (not b) (q ∷ without_request request (drop (place + 1) waiting)) (without_request request (drop (place + 1) waiting))) other))
          ∙ so_far.rest;
    }

    pub one_removed : (now : List (ℕ × Option ℕ)) → Dropped running waiting request place queue → (request == q.1) ≡ true → IsDistinct nat_eq (keys_of queue)
        → now ≡ remove_entry (nat_eq q.0) queue → Dropped running waiting request (place + 1) now
    one_removed now so_far same apart e = record {
      front = so_far.front;
      left = e ∙ ap (remove_entry (nat_eq q.0)) whole ∙ one_dropped running so_far.front (drop (place + 1) waiting) q (subst (λ es. IsDistinct nat_eq (keys_of es)) whole apart);
      rest = ap (λ ws. so_far.front ++ ws) (sym (ap (without_request request) next ∙ ap (λ b. cond (not b) (q ∷ without_request request (drop (place + 1) waiting)) (without_request request (drop (place + 1) waiting))) same))
          ∙ so_far.rest;
    }
      where
        whole : queue ≡ queue_of running (so_far.front ++ q ∷ drop (place + 1) waiting)
        whole = so_far.left ∙ ap (λ ws. queue_of running (so_far.front ++ ws)) next
