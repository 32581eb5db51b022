-- Where the first line of some bytes ends.
use Rattle.std.specs.Prelude.{ℕ, ◌+◌, ◌≤◌, ◌≡◌, ◌≢◌, ⊤, List, [], ◌∷◌, ◌++◌, length, take, drop, All}
use Rattle.da_outside.specs.declared.faults.Got.{Got}
use Rattle.da_outside.specs.declared.faults.Got.TheVariants.{Given, TooLong, Fault}
use Rattle.da_outside.specs.declared.rest.Ahead.{Ahead}
use Rattle.da_outside.specs.declared.rest.Ahead.TheVariants.{Line, Long, End}

-- no byte is LF
abbrev pub LacksEnd : List ℕ → Type 0
LacksEnd bytes = All (λ byte. byte ≢ 10) bytes

-- the bytes begin with a line of n bytes and its LF
pub record BeginsWithLine (bytes : List ℕ) (n : ℕ) : Type 0 where
  pub fits : n + 1 ≤ length bytes
  pub short : n ≤ 8192
  pub no_end : LacksEnd (take n bytes)
  pub cut : bytes ≡ (take n bytes ++ 10 ∷ []) ++ drop (n + 1) bytes

-- A line of at most 8192 bytes stands there, or at least 8193 bytes without LF.
abbrev pub Shows : List ℕ → Ahead → Type 0
Shows bytes (Line n) = BeginsWithLine bytes n
Shows bytes Long = (8193 ≤ length bytes) × LacksEnd (take 8193 bytes)
Shows bytes End = ⊤

-- less than a line, and no LF
pub record IsCutLine (bytes : List ℕ) : Type 0 where
  pub short : length bytes ≤ 8192
  pub no_end : LacksEnd bytes

-- what a receive gives of these bytes
abbrev pub got_ahead : List ℕ → Ahead → Got
got_ahead bytes (Line n) = Given (take n bytes)
got_ahead bytes Long = TooLong
got_ahead bytes End = Fault

-- how many bytes it takes
abbrev pub taken_ahead : Ahead → ℕ
taken_ahead (Line n) = n + 1
taken_ahead Long = 8193
taken_ahead End = 0
