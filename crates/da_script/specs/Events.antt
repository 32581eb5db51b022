-- The events of a script: the line of an event is its moment, one space, and what happens.
use Rattle.std.specs.Prelude.{◌≡◌, ◌≤◌, ◌<◌, ℕ, ◌-◌, ◌^◌, Bool, ◌&&◌, not, ◌++◌, length, Option, Some, None, option_map, option_and_then, if◌then◌else◌, nat_le, ◌==◌, bytes_eq, codes, decimal}
use Rattle.std.specs.List.{list_any}
use Rattle.da_base.specs.Words.{Bytes, before_byte, after_byte, number, number_of}
use Rattle.da_tabline.specs.Parts.{Lacks}
use Rattle.da_msgs.specs.declared.kinds.ConnKind.{ConnKind}
use Rattle.da_msgs.specs.declared.kinds.ConnKind.TheVariants.{Client, Master}
use Rattle.da_query.specs.AnswerLines.{answer_line, script_answer}
use Rattle.da_query.specs.AnswerSpelling.{IsHeld}
use Rattle.da_play.specs.declared.input.Input.{Input}
use Rattle.da_play.specs.declared.input.Input.TheVariants.{Opened, Line, Broken, Gone, Take, Answered, Late, Tick}
use Rattle.da_play.specs.Play.{Event}
use Rattle.da_script.specs.Random.{AreRandom, random_of, random_text}

-- ---- what happens

abbrev pub kind_of : Bytes → Option ConnKind
kind_of word =
    if bytes_eq word (codes "client") then Some Client
    else if bytes_eq word (codes "master") then Some Master
    else None

abbrev pub opened_with : Option ConnKind → Option Bytes → Option Input
opened_with (Some kind) (Some random) = Some (Opened kind random)
opened_with _ _ = None

-- a kind and the random bytes
abbrev pub opened : Bytes → Option Input
opened rest = opened_with (kind_of (before_byte 32 rest)) (option_and_then random_of (after_byte 32 rest))

abbrev pub line_with : Option ℕ → Option Bytes → Bytes → Option Input
line_with (Some conn) (Some random) text = if nat_le (length text) 8192 then Some (Line conn text random) else None
line_with _ _ text = None

abbrev pub line_after : Option ℕ → Option Bytes → Option Input
line_after conn None = None
line_after conn (Some rest) = option_and_then (line_with conn (random_of (before_byte 32 rest))) (after_byte 32 rest)

-- a connection, the random bytes, and the rest as the text
abbrev pub line_of : Bytes → Option Input
line_of rest = line_after (number (before_byte 32 rest)) (after_byte 32 rest)

abbrev pub answered : Bytes → Option Input
answered rest = option_map (λ p. Answered p.0 p.1) (script_answer rest)

-- a word alone
abbrev pub input_alone : Bytes → Option Input
input_alone word =
    if bytes_eq word (codes "take") then Some Take
    else if bytes_eq word (codes "tick") then Some Tick
    else None

-- a word, a space and the rest
abbrev pub input_with : Bytes → Bytes → Option Input
input_with word rest =
    if bytes_eq word (codes "open") then opened rest
    else if bytes_eq word (codes "line") then line_of rest
    else if bytes_eq word (codes "broken") then option_map (λ conn. Broken conn) (number rest)
    else if bytes_eq word (codes "gone") then option_map (λ conn. Gone conn) (number rest)
    else if bytes_eq word (codes "answer") then answered rest
    else if bytes_eq word (codes "late") then option_map (λ query. Late query) (number rest)
    else None

abbrev pub input_by : Bytes → Option Bytes → Option Input
input_by word None = input_alone word
input_by word (Some rest) = input_with word rest

-- the input that the words behind the moment spell
abbrev pub input_of : Bytes → Option Input
input_of words = input_by (before_byte 32 words) (after_byte 32 words)

-- ---- a line

-- at most 16,384 bytes, and no LF
abbrev pub fits_a_script : Bytes → Bool
fits_a_script text = nat_le (length text) 16384 && not (list_any (λ c. c == 10) text)

abbrev pub event_with : Option ℕ → Option Input → Option Event
event_with (Some moment) (Some input) = Some (moment, input)
event_with _ _ = None

abbrev pub event_after : Bytes → Option Bytes → Option Event
event_after moment None = None
event_after moment (Some words) = event_with (number_of (2 ^ 64 - 1) moment) (input_of words)

-- the event that a line of a script spells
unfoldable pub event_of : Bytes → Option Event
event_of text = if fits_a_script text then event_after (before_byte 32 text) (after_byte 32 text) else None

-- ---- printing

abbrev pub kind_word : ConnKind → Bytes
kind_word Client = codes "client"
kind_word Master = codes "master"

abbrev pub input_words : Input → Bytes
input_words (Opened kind random) = codes "open " ++ kind_word kind ++ codes " " ++ random_text random
input_words (Line conn text random) = codes "line " ++ decimal conn ++ codes " " ++ random_text random ++ codes " " ++ text
input_words (Broken conn) = codes "broken " ++ decimal conn
input_words (Gone conn) = codes "gone " ++ decimal conn
input_words Take = codes "take"
input_words (Answered query answer) = codes "answer " ++ answer_line query answer
input_words (Late query) = codes "late " ++ decimal query
input_words Tick = codes "tick"

-- the line of an event
unfoldable pub event_line : ℕ → Input → Bytes
event_line moment input = decimal moment ++ codes " " ++ input_words input

-- ---- inputs

-- an input that a line of a script can spell: the text of a Line has no LF and at most 8,192 bytes, and the answer of an
-- Answered is one that an answer line of a script spells
abbrev pub IsPlain : Input → Type 0
IsPlain (Line conn text random) = Lacks 10 text × (length text ≤ 8192)
IsPlain (Answered query answer) = (text : Bytes) × (n : ℕ) × (script_answer text ≡ Some (n, answer))
IsPlain _ = Unit {0}

-- what every input is that the program holds: its numbers have 32 bits, and its random bytes are sixteen
abbrev pub InputIsHeld : Input → Type 0
InputIsHeld (Opened kind random) = AreRandom random
InputIsHeld (Line conn text random) = (conn < 2 ^ 32) × AreRandom random
InputIsHeld (Broken conn) = conn < 2 ^ 32
InputIsHeld (Gone conn) = conn < 2 ^ 32
InputIsHeld Take = Unit {0}
InputIsHeld (Answered query answer) = (query < 2 ^ 32) × IsHeld answer
InputIsHeld (Late query) = query < 2 ^ 32
InputIsHeld Tick = Unit {0}
