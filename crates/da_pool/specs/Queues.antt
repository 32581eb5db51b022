-- All queries of a pool in the order in which they were added, each with the moment of its taking, where it was taken.
use Rattle.std.specs.Prelude.{◌≡◌, ℕ, Bool, true, false, List, [], ◌∷◌, ◌++◌, ◌^◌, ◌-◌, Option, Some, None, map, nat_eq}
use Rattle.std.specs.Map.{lookup}
use Rattle.lru.specs.LruCache.{LruCache}

abbrev pub entries_of : Option (LruCache ℕ (Option ℕ)) → List (ℕ × Option ℕ)
entries_of None = []
entries_of (Some cache) = cache.entries

-- nothing ever falls off
abbrev pub HasNoBound : Option (LruCache ℕ (Option ℕ)) → Type 0
HasNoBound None = Unit {0}
HasNoBound (Some cache) = cache.cap ≡ 2 ^ 64 - 1

-- whether what is found was taken
abbrev pub was_taken : Option (Option ℕ) → Bool
was_taken None = false
was_taken (Some None) = false
was_taken (Some (Some moment)) = true

abbrev pub is_taken : ℕ → List (ℕ × Option ℕ) → Bool
is_taken number queue = was_taken (lookup (nat_eq number) queue)

-- the moment and the number of a query that was taken
abbrev pub taking : ℕ × Option ℕ → Option (ℕ × ℕ)
taking (number, None) = None
taking (number, Some moment) = Some (moment, number)

abbrev pub first_taking : List (ℕ × Option ℕ) → Option (ℕ × ℕ)
first_taking [] = None
first_taking (q ∷ qs) = taking q

-- those that were taken
abbrev pub running_of : List (ℕ × Option ℕ) → List (ℕ × ℕ)
running_of [] = []
running_of ((number, None) ∷ qs) = running_of qs
running_of ((number, Some moment) ∷ qs) = (moment, number) ∷ running_of qs

-- first those that run, and then those that wait
abbrev pub queue_of : List (ℕ × ℕ) → List (ℕ × ℕ) → List (ℕ × Option ℕ)
queue_of running waiting = map (λ q. (q.1, Some q.0)) running ++ map (λ q. (q.0, None)) waiting

-- the queue has those that run and these that wait
abbrev pub IsQueueOf : List (ℕ × Option ℕ) → List (ℕ × ℕ) → Type 0
IsQueueOf queue waiting = queue ≡ queue_of (running_of queue) waiting
