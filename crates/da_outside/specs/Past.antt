-- What an object tells of the calls that were made on it, the oldest first, and how a call adds to that.
use Rattle.std.specs.Prelude.{◌≡◌, ⊤, List, [], ◌∷◌, ◌++◌, Option, None, Some}

-- what is told stays as it was
abbrev pub Stays : {A : Type 0} → Option (List A) → Option (List A) → Type 0
Stays None now = ⊤
Stays (Some before) None = ⊥
Stays (Some before) (Some now) = now ≡ before

-- what is told grows by these items, in order
abbrev pub Gains : {A : Type 0} → Option (List A) → Option (List A) → List A → Type 0
Gains None now items = ⊤
Gains (Some before) None items = ⊥
Gains (Some before) (Some now) items = now ≡ before ++ items

-- a call adds its item, and nothing where it wanted memory
abbrev pub Recalls : {A : Type 0} → Option (List A) → Option (List A) → Option A → Type 0
Recalls before now None = Stays before now
Recalls before now (Some item) = Gains before now (item ∷ [])

-- the first of the items to come is taken
abbrev pub TakesFirst : {A : Type 0} → Option (List A) → Option (List A) → A → Type 0
TakesFirst None now item = ⊤
TakesFirst (Some before) None item = ⊥
TakesFirst (Some before) (Some now) item = before ≡ item ∷ now

-- a call takes the first of the items to come, or none
abbrev pub Takes : {A : Type 0} → Option (List A) → Option (List A) → Option A → Type 0
Takes before now None = Stays before now
Takes before now (Some item) = TakesFirst before now item
