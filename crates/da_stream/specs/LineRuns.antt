-- A run over an input, whose lines a handler takes one after another.
use Rattle.std.specs.Prelude.{◌≡◌, ◌<◌, ◌≤◌, ℕ, suc, ◌+◌, ◌^◌, true, false, List, [], ◌∷◌, ◌++◌, length, take, Result, Ok, Err}
use Rattle.std.specs.Io.KnownBytes.{Consumes, IsAtEnd}
use Rattle.da_base.specs.Words.{Bytes}
use Rattle.da_tabline.specs.Lines.{line_cut}
use Rattle.da_outside.specs.Causes.{Rose}
use Rattle.da_outside.specs.Source.{SourceState}
use Rattle.da_stream.specs.declared.lines.LinesEnd.{LinesEnd}
use Rattle.da_stream.specs.declared.lines.LinesEnd.TheVariants.{Done, Cut, TooLong, LongInput, ReadFault, NoMemory, Stopped}

-- ---- a line, and several

-- by what the handler answers to a line: it took it, or it ends the run
abbrev pub TakesOrStops : {H E : Type 0} → (ℕ → Bytes → H → H → Type 0) → (ℕ → Bytes → H → H → E → Type 0) → ℕ → Bytes → H → H → Result (Unit {0}) E → Type 0
TakesOrStops takes stops n line old new (Ok done) = takes n line old new
TakesOrStops takes stops n line old new (Err stop) = stops n line old new stop

-- the handler took these lines, one after another, and the first of them has the number n
abbrev pub TakesLines : {H : Type 0} → (ℕ → Bytes → H → H → Type 0) → ℕ → List Bytes → H → H → Type 0
TakesLines takes n [] old new = new ≡ old
TakesLines {H} takes n (line ∷ lines) old new = (mid : H) × takes n line old mid × TakesLines takes (suc n) lines mid new

-- ---- what was taken of the bytes read

-- The handler took the whole lines of these bytes, up to the first that is too long.
abbrev pub TakesAll : {H : Type 0} → (ℕ → Bytes → H → H → Type 0) → ℕ → Bytes → H → H → Type 0
TakesAll takes max read old new = TakesLines takes 1 (line_cut max read).lines old new

-- the number of the line after the whole lines of these bytes
abbrev pub next_line : ℕ → Bytes → ℕ
next_line max read = length (line_cut max read).lines + 1

-- The handler took the first of the whole lines of these bytes.
pub record TakesFirst {H : Type 0} (takes : ℕ → Bytes → H → H → Type 0) (max : ℕ) (read : Bytes) (old new : H) : Type 0 where
  pub taken : List Bytes
  pub others : List Bytes
  pub are_lines : (line_cut max read).lines ≡ taken ++ others
  pub took : TakesLines takes 1 taken old new

-- The handler took the lines of these bytes before this one, and ended the run at it.
pub record StopsAt {H E : Type 0} (takes : ℕ → Bytes → H → H → Type 0) (stops : ℕ → Bytes → H → H → E → Type 0) (max : ℕ) (read : Bytes) (old new : H) (number : ℕ) (stop : E) : Type 0 where
  pub taken : List Bytes
  pub line : Bytes
  pub others : List Bytes
  pub are_lines : (line_cut max read).lines ≡ taken ++ line ∷ others
  pub mid : H
  pub took : TakesLines takes 1 taken old mid
  pub is_number : number ≡ length taken + 1
  pub stopped : stops number line mid new stop

-- ---- the ends

-- The whole input was read, and the handler took its whole lines.
pub record ReadsToEnd {H : Type 0} (takes : ℕ → Bytes → H → H → Type 0) (max : ℕ) (after : SourceState) (old new : H) (read : Bytes) : Type 0 where
  pub ended : IsAtEnd after.left
  pub fits : (line_cut max read).is_long ≡ false
  pub took : TakesAll takes max read old new

-- By the end: what was taken of what was read, and what caused the end.
--   Done: the whole input was read, and it ends after a whole line.
--   Cut: the whole input was read, and it ends within the line of this number.
--   TooLong: the line of this number is too long, whatever follows.
--   LongInput: one byte more was read than an input may have, and the lines of those before it were taken.
--   ReadFault: the source failed.
--   NoMemory: some of the lines read were taken.
--   Stopped: the handler ended the run at the line of this number.
-- In the first five all lines read were taken, but for a line that is too long.
abbrev pub Ends : {H E : Type 0} → (ℕ → Bytes → H → H → Type 0) → (ℕ → Bytes → H → H → E → Type 0) → ℕ → SourceState → SourceState → H → H → Bytes → LinesEnd E → Type 0
Ends takes stops max before after old new read Done =
    ReadsToEnd takes max after old new read × ((line_cut max read).rest ≡ [])
Ends takes stops max before after old new read (Cut line) =
    ReadsToEnd takes max after old new read × (0 < length (line_cut max read).rest) × (line ≡ next_line max read)
Ends takes stops max before after old new read (TooLong line) =
    TakesAll takes max read old new × ((line_cut max read).is_long ≡ true) × (line ≡ next_line max read)
Ends takes stops max before after old new read LongInput =
    TakesAll takes max (take (2 ^ 30) read) old new × ((line_cut max (take (2 ^ 30) read)).is_long ≡ false)
Ends takes stops max before after old new read ReadFault =
    TakesAll takes max read old new × ((line_cut max read).is_long ≡ false) × Rose before.faults after.faults
Ends takes stops max before after old new read NoMemory = TakesFirst takes max read old new
Ends takes stops max before after old new read (Stopped line stop) = StopsAt takes stops max read old new line stop

-- how many bytes were read: one more than an input may have, or at most so many
abbrev pub IsLength : {E : Type 0} → ℕ → LinesEnd E → Type 0
IsLength n Done = n ≤ 2 ^ 30
IsLength n (Cut line) = n ≤ 2 ^ 30
IsLength n (TooLong line) = n ≤ 2 ^ 30
IsLength n LongInput = n ≡ 2 ^ 30 + 1
IsLength n ReadFault = n ≤ 2 ^ 30
IsLength n NoMemory = n ≤ 2 ^ 30
IsLength n (Stopped line stop) = n ≤ 2 ^ 30

-- a run over an input whose lines have at most max bytes: what was read, and how the run ended
pub record RunsOver {H E : Type 0} (takes : ℕ → Bytes → H → H → Type 0) (stops : ℕ → Bytes → H → H → E → Type 0) (max : ℕ) (before after : SourceState) (old new : H) (end : LinesEnd E) : Type 0 where
  pub read : Bytes
  pub reads : Consumes before.left after.left read
  pub few : IsLength (length read) end
  pub ends : Ends takes stops max before after old new read end
