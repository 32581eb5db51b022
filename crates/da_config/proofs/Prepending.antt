-- A list that grows at its end, and what is still to come.
use Rattle.std.proofs.Common.{◌≡◌, List, [], ◌∷◌, ◌++◌, Option, Some, None, option_map, ap, sym, refl, append_assoc}

-- the list before what comes, where something comes
abbrev pub prepended : {A : Type 0} → List A → Option (List A) → Option (List A)
prepended front more = option_map (λ rest. front ++ rest) more

-- one item taken from what comes
pub prepended-cons : {A : Type 0} (front : List A) (x : A) (more : Option (List A)) → prepended front (option_map (λ rest. x ∷ rest) more) ≡ prepended (front ++ x ∷ []) more
prepended-cons front x None = refl
prepended-cons front x (Some rest) = ap Some (sym (append_assoc front (x ∷ []) rest))

pub prepended-nil : {A : Type 0} (more : Option (List A)) → prepended [] more ≡ more
prepended-nil None = refl
prepended-nil (Some rest) = refl
