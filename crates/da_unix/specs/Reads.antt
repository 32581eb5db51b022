-- What reads took, and what writes gave.
use Rattle.std.specs.Prelude.{◌≡◌, ℕ, ◌<◌, ◌≤◌, ◌+◌, List, ◌++◌, length, take, Option}
use Rattle.std.specs.Io.KnownBytes.{Appends, Consumes}
use Rattle.da_outside.specs.Rest.{LacksEnd}

-- more than max bytes were taken, and at most a chunk of 4096 beyond them
pub record HasMore (max : ℕ) (before now : Option (List ℕ)) : Type 0 where
  pub front : List ℕ
  pub taken : Consumes before now front
  pub longer : max < length front
  pub within : length front ≤ max + 4096

-- all was taken until the end, and these are the first 8194 bytes of it
pub record IsFrontOfAll (before now : Option (List ℕ)) (reply : List ℕ) : Type 0 where
  pub all : List ℕ
  pub taken : Consumes before now all
  pub front : reply ≡ take 8194 all

-- a front of the text was written
pub record WritesFront (before now : Option (List ℕ)) (text : List ℕ) : Type 0 where
  pub front : List ℕ
  pub rest : List ℕ
  pub parts : text ≡ front ++ rest
  pub written : Appends before now front

-- an LF stands there, or more bytes than a line may have
abbrev pub ShowsLine : List ℕ → Type 0
ShowsLine bytes = LacksEnd bytes → 8192 < length bytes
