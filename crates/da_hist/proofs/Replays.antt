-- A history that is gone through entry by entry, from the oldest on.
use Rattle.std.proofs.Common.{◌≡◌, ◌∙◌, ap, List, [], ◌∷◌, ℕ, ◌+◌, ◌<◌, length, reverse, take, get_or}
use Rattle.std.proofs.lemmas.List.{take_more, reverse-append}
use Rattle.da_play.specs.declared.input.Entry.{Entry}

-- one entry further, the newest first
pub one_further : (entries : List Entry) (i : ℕ) (d e : Entry) → i < length entries → get_or entries i d ≡ e → reverse (take (i + 1) entries) ≡ e ∷ reverse (take i entries)
one_further entries i d e l is =
    ap reverse (take_more entries i d l) ∙ reverse-append (take i entries) (get_or entries i d ∷ []) ∙ ap (λ x. x ∷ reverse (take i entries)) is
