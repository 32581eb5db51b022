-- Lines of a stream: what a text is cut into, and what a cutter of lines holds.
use Rattle.std.specs.Prelude.{◌≡◌, ℕ, ◌<◌, ◌≤◌, Bool, true, false, List, [], ◌∷◌, ◌++◌, length, take, drop, if◌then◌else◌, nat_le}
use Rattle.std.specs.Bool.{MatchBool}
use Rattle.std.specs.List.{flat_map, AllByRecursion}
use Rattle.da_base.specs.Words.{Bytes, pieces}
use Rattle.da_tabline.specs.Parts.{Lacks}

-- the lines, each with the LF that ends it
abbrev pub with_ends : List Bytes → Bytes
with_ends lines = flat_map (λ line. line ++ 10 ∷ []) lines

-- the bytes are these lines, each ended by LF, and the rest, and no LF stands in a line or in the rest
pub record AreLines (bytes : Bytes) (lines : List Bytes) (rest : Bytes) : Type 0 where
  pub whole : bytes ≡ with_ends lines ++ rest
  pub each : AllByRecursion (Lacks 10) lines
  pub last : Lacks 10 rest

-- the bytes are these lines, each ended by LF, and then begins something without LF that is longer than max
pub record AreLinesBeforeLong (max : ℕ) (bytes : Bytes) (lines : List Bytes) : Type 0 where
  pub begun : Bytes
  pub more : Bytes
  pub whole : bytes ≡ with_ends lines ++ (begun ++ more)
  pub each : AllByRecursion (Lacks 10) lines
  pub last : Lacks 10 begun
  pub longer : max < length begun

-- what bytes are cut into: the whole lines up to the first line of more than max bytes, the open line after them, and
-- whether a longer line, whole or open, comes there; then nothing is kept of it
pub record LineCut : Type 0 where
  pub lines : List Bytes
  pub rest : Bytes
  pub is_long : Bool

abbrev pub before_long : LineCut
before_long = record { lines = []; rest = []; is_long = true }

abbrev pub open_line : Bytes → LineCut
open_line rest = record { lines = []; rest = rest; is_long = false }

abbrev pub with_lines : List Bytes → LineCut → LineCut
with_lines lines cut = record cut { lines = lines ++ cut.lines }

-- of the pieces between the LFs, the last is the open line
abbrev pub cut_of : ℕ → List Bytes → LineCut
cut_of max [] = open_line []
cut_of max (piece ∷ []) = if nat_le (length piece) max then open_line piece else before_long
cut_of max (piece ∷ next ∷ pieces) =
    if nat_le (length piece) max then with_lines (piece ∷ []) (cut_of max (next ∷ pieces)) else before_long

-- what the bytes are cut into
abbrev pub line_cut : ℕ → Bytes → LineCut
line_cut max bytes = cut_of max (pieces 10 bytes)

-- no line is longer than max, and either they and the rest are all bytes, or something longer begins after them
pub record IsLineCut (max : ℕ) (bytes : Bytes) (cut : LineCut) : Type 0 where
  pub short : AllByRecursion (λ line. length line ≤ max) cut.lines
  pub whole :
      MatchBool cut.is_long (AreLinesBeforeLong max bytes cut.lines × (cut.rest ≡ [])) (AreLines bytes cut.lines cut.rest × (length cut.rest ≤ max))

-- ---- a cutter of lines

-- the length of the longest line that is right, the whole lines that were not taken yet, the open line after them, and
-- whether a longer line came, after which nothing is taken in
pub record Cutter : Type 0 where
  pub max : ℕ
  pub ready : List Bytes
  pub rest : Bytes
  pub is_long : Bool

abbrev pub new_cutter : ℕ → Cutter
new_cutter max = record { max = max; ready = []; rest = []; is_long = false }

-- the cutter after these bytes
abbrev pub after_feed : Cutter → Bytes → Cutter
after_feed cutter bytes =
    let cut = line_cut cutter.max (cutter.rest ++ bytes) in
    if cutter.is_long then cutter else record { max = cutter.max; ready = cutter.ready ++ cut.lines; rest = cut.rest; is_long = cut.is_long }

-- the cutter after these bytes from the first on, when the first n lines have been taken
abbrev pub cutter_after : ℕ → Bytes → ℕ → Cutter
cutter_after max bytes n =
    let cut = line_cut max bytes in
    record { max = max; ready = drop n cut.lines; rest = cut.rest; is_long = cut.is_long }

-- ---- any feeds, and any lines taken between them

-- a use of a cutter: bytes come, or the first line is asked for
pub data Use : Type 0 where
  Feed : (bytes : Bytes) → Use
  Take : Use

-- the cutter after its first line was asked for, and the line, if there is one
abbrev pub after_take : Cutter → Cutter
after_take cutter = record cutter { ready = drop 1 cutter.ready }

abbrev pub first_line : Cutter → List Bytes
first_line cutter = take 1 cutter.ready

abbrev pub after_uses : Cutter → List Use → Cutter
after_uses cutter [] = cutter
after_uses cutter (Feed bytes ∷ uses) = after_uses (after_feed cutter bytes) uses
after_uses cutter (Take ∷ uses) = after_uses (after_take cutter) uses

-- all lines taken
abbrev pub lines_taken : Cutter → List Use → List Bytes
lines_taken cutter [] = []
lines_taken cutter (Feed bytes ∷ uses) = lines_taken (after_feed cutter bytes) uses
lines_taken cutter (Take ∷ uses) = first_line cutter ++ lines_taken (after_take cutter) uses

-- all bytes fed
abbrev pub bytes_fed : List Use → Bytes
bytes_fed [] = []
bytes_fed (Feed bytes ∷ uses) = bytes ++ bytes_fed uses
bytes_fed (Take ∷ uses) = bytes_fed uses
