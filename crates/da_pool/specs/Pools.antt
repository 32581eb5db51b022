-- The queries that wait and those that run.
use Rattle.std.specs.Prelude.{ℕ, Bool, ◌||◌, not, List, [], ◌∷◌, ◌++◌, Option, Some, None, filter, ◌==◌}
use Rattle.std.specs.List.{list_any}

-- of each query that waits its number and its request, of each that runs the moment of its taking and its number
pub record Queries : Type 0 where
  pub waiting : List (ℕ × ℕ)
  pub running : List (ℕ × ℕ)

abbrev pub is_waiting : ℕ → List (ℕ × ℕ) → Bool
is_waiting number waiting = list_any (λ q. number == q.0) waiting

abbrev pub is_running : ℕ → List (ℕ × ℕ) → Bool
is_running number running = list_any (λ q. number == q.1) running

-- whether a query of this number waits or runs
abbrev pub has_query : ℕ → Queries → Bool
has_query number queries = is_running number queries.running || is_waiting number queries.waiting

-- the number of the first that waits
abbrev pub first_waiting : List (ℕ × ℕ) → Option ℕ
first_waiting [] = None
first_waiting (q ∷ qs) = Some q.0

abbrev pub first_running : List (ℕ × ℕ) → Option (ℕ × ℕ)
first_running [] = None
first_running (q ∷ qs) = Some q

-- the first that waits runs from this moment, behind the others
abbrev pub taken : ℕ → List (ℕ × ℕ) → List (ℕ × ℕ) → Queries
taken moment [] running = record { waiting = []; running = running }
taken moment (q ∷ qs) running = record { waiting = qs; running = running ++ (moment, q.0) ∷ [] }

abbrev pub without_number : ℕ → List (ℕ × ℕ) → List (ℕ × ℕ)
without_number number running = filter (λ q. not (number == q.1)) running

abbrev pub without_request : ℕ → List (ℕ × ℕ) → List (ℕ × ℕ)
without_request request waiting = filter (λ q. not (request == q.1)) waiting
