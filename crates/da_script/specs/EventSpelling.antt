-- The lines that spell an event: those that are printed for it, but that an answer may be spelled with other escapes.
use Rattle.std.specs.Prelude.{◌≡◌, ◌≤◌, ◌<◌, ℕ, ◌^◌, false, ◌∷◌, ◌++◌, length, codes, decimal, ◌==◌}
use Rattle.std.specs.List.{list_any}
use Rattle.da_base.specs.Words.{Bytes}
use Rattle.da_query.specs.AnswerSpelling.{SpellsScriptAnswer}
use Rattle.da_play.specs.declared.input.Input.{Input}
use Rattle.da_play.specs.declared.input.Input.TheVariants.{Opened, Line, Broken, Gone, Take, Answered, Late, Tick}
use Rattle.da_script.specs.Events.{InputIsHeld, input_words}

-- the words spell the input
abbrev pub SpellsInput : Bytes → Input → Type 0
SpellsInput words (Opened kind random) = (words ≡ input_words (Opened kind random)) × InputIsHeld (Opened kind random)
SpellsInput words (Line conn text random) =
    (words ≡ input_words (Line conn text random)) × InputIsHeld (Line conn text random) × (length text ≤ 8192)
SpellsInput words (Broken conn) = (words ≡ input_words (Broken conn)) × (conn < 2 ^ 32)
SpellsInput words (Gone conn) = (words ≡ input_words (Gone conn)) × (conn < 2 ^ 32)
SpellsInput words Take = words ≡ input_words Take
SpellsInput words (Answered query answer) = (text : Bytes) × (words ≡ codes "answer " ++ text) × SpellsScriptAnswer text query answer
SpellsInput words (Late query) = (words ≡ input_words (Late query)) × (query < 2 ^ 32)
SpellsInput words Tick = words ≡ input_words Tick

-- the line spells the event: it has at most 16,384 bytes and no LF, and is the moment, one space, and words that spell
-- the input
pub record SpellsEvent (line : Bytes) (moment : ℕ) (input : Input) : Type 0 where
  pub short : length line ≤ 16384
  pub no_end : list_any (λ c. c == 10) line ≡ false
  pub small : moment < 2 ^ 64
  pub words : Bytes
  pub whole : line ≡ decimal moment ++ 32 ∷ words
  pub spelled : SpellsInput words input
