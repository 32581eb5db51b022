-- The words of `serve`.
use Rattle.std.specs.Prelude.{ℕ, ◌&&◌, ◌==◌, List, [], ◌∷◌, Option, Some, None, option_and_then, option_map, if◌then◌else◌, codes}
use Rattle.da_base.specs.Words.{Bytes, number_of}
use Rattle.da_command.specs.Words.{path_of}
use Rattle.da_settings.specs.declared.settings.Goal.{Goal}

-- how many connections of a kind the word asks for: at most 100,000, in decimal without leading zeros
abbrev pub goal_number : Bytes → Option ℕ
goal_number word = number_of 100000 word

-- there is no goal of no connection
abbrev pub goal_of : ℕ → ℕ → Option Goal
goal_of clients masters = if (clients == 0) && (masters == 0) then None else Some (record { clients = clients; masters = masters })

abbrev pub goal_words : Bytes → Bytes → Option Goal
goal_words clients masters = option_and_then (λ n. option_and_then (goal_of n) (goal_number masters)) (goal_number clients)

-- PATH, and the goal where there is one: the words are `serve PATH`, or `serve PATH N M`
abbrev pub serve_task : List Bytes → Option (Bytes × Option Goal)
serve_task (command ∷ path ∷ []) = option_map (λ p. (p, None)) (path_of (codes "serve") command path)
serve_task (command ∷ path ∷ clients ∷ masters ∷ []) =
    option_and_then (λ p. option_map (λ goal. (p, Some goal)) (goal_words clients masters)) (path_of (codes "serve") command path)
serve_task _ = None
