-- The lines that spell an answer, case by case.
use Rattle.std.specs.Prelude.{◌≡◌, ℕ, ◌≤◌, ◌<◌, ◌^◌, Bool, true, false, List, [], ◌∷◌, length, map, Some, codes}
use Rattle.std.specs.List.{AllByRecursion}
use Rattle.da_base.specs.Words.{Bytes, is_empty, number}
use Rattle.da_tabline.specs.Escapes.{line_fields}
use Rattle.da_tabline.specs.Parts.{Lacks}
use Rattle.da_fields.specs.FieldList.{Pairs, text_key, text_value, AreDistinct}
use Rattle.da_fields.specs.Answers.{fits, answer_fields}
use Rattle.da_fields.specs.declared.answer.Answer.{Answer}
use Rattle.da_fields.specs.declared.answer.Answer.TheVariants.{Found, Passed, Mismatch, Unknown, Internal}
use Rattle.da_fields.specs.declared.answer.Why.{Why}
use Rattle.da_fields.specs.declared.answer.Why.TheVariants.{Died, Malformed, Said, Late, Exit}
use Rattle.da_fields.specs.declared.answer.Query.{Query}
use Rattle.da_query.specs.declared.speaker.Speaker.{Speaker}
use Rattle.da_query.specs.declared.speaker.Speaker.TheVariants.{Worker, Script}

-- the texts are these fields, each `key` or `key=value`, their keys not empty and distinct
pub record AreFields (texts : List Bytes) (fields : Pairs) : Type 0 where
  pub pairs : map (λ text. (text_key text, text_value text)) texts ≡ fields
  pub keyed : AllByRecursion (λ p. is_empty p.0 ≡ false) fields
  pub distinct : AreDistinct fields

-- a worker says that it failed, and possibly the reason; a script says why there was no answer
abbrev pub SpellsWhy : Speaker → List Bytes → ℕ → Why → Type 0
SpellsWhy Worker fields n Said = (a : Bytes) × (reason : List Bytes) × (fields ≡ codes "FAIL" ∷ a ∷ reason) × (number a ≡ Some n) × (length reason ≤ 1)
SpellsWhy Worker fields n _ = ⊥
SpellsWhy Script fields n Died = (a : Bytes) × (fields ≡ codes "INTERNAL" ∷ a ∷ codes "died" ∷ []) × (number a ≡ Some n)
SpellsWhy Script fields n Malformed = (a : Bytes) × (fields ≡ codes "INTERNAL" ∷ a ∷ codes "malformed" ∷ []) × (number a ≡ Some n)
SpellsWhy Script fields n Said = (a : Bytes) × (fields ≡ codes "INTERNAL" ∷ a ∷ codes "said" ∷ []) × (number a ≡ Some n)
SpellsWhy Script fields n Late = ⊥
SpellsWhy Script fields n (Exit status) =
    (a b : Bytes) × (fields ≡ codes "INTERNAL" ∷ a ∷ codes "exit" ∷ b ∷ []) × (number a ≡ Some n) × (number b ≡ Some status)

-- the fields that spell an answer to the query of this number
abbrev pub FieldsSpell : Speaker → List Bytes → ℕ → Answer → Type 0
FieldsSpell speaker fields n (Found stored found) =
    (a : Bytes) × (texts : List Bytes) × (fields ≡ codes "FOUND" ∷ a ∷ stored ∷ texts) × (number a ≡ Some n) × AreFields texts found
FieldsSpell speaker fields n (Passed found) =
    (a : Bytes) × (texts : List Bytes) × (fields ≡ codes "PASSED" ∷ a ∷ texts) × (number a ≡ Some n) × AreFields texts found
FieldsSpell speaker fields n Mismatch = (a : Bytes) × (fields ≡ codes "MISMATCH" ∷ a ∷ []) × (number a ≡ Some n)
FieldsSpell speaker fields n Unknown = (a : Bytes) × (fields ≡ codes "UNKNOWN" ∷ a ∷ []) × (number a ≡ Some n)
FieldsSpell speaker fields n (Internal why) = SpellsWhy speaker fields n why

-- a worker's line spells the answer to the query of this number
abbrev pub SpellsAnswer : Bytes → ℕ → Answer → Type 0
SpellsAnswer line n answer = FieldsSpell Worker (line_fields line) n answer

-- a script's line spells it
abbrev pub SpellsScriptAnswer : Bytes → ℕ → Answer → Type 0
SpellsScriptAnswer line n answer = FieldsSpell Script (line_fields line) n answer

-- a worker's line is an answer to the query: it has its number and is of a kind that answers it
abbrev pub IsAnswerTo : Query → Bytes → Answer → Type 0
IsAnswerTo query line answer = SpellsAnswer line query.number answer × (fits query.kind answer ≡ true)

-- ---- what is printed and read again

-- no key is empty or has an equals sign
abbrev pub ArePlain : Pairs → Type 0
ArePlain fields = AllByRecursion (λ p. (is_empty p.0 ≡ false) × Lacks 61 p.0) fields

abbrev pub HasPlainKeys : Answer → Type 0
HasPlainKeys answer = ArePlain (answer_fields answer)

-- its number is one of 32 bits
abbrev pub HasSmallStatus : Answer → Type 0
HasSmallStatus (Internal (Exit status)) = status < 2 ^ 32
HasSmallStatus _ = Unit {0}

-- what every answer is that the program holds
abbrev pub IsHeld : Answer → Type 0
IsHeld answer = AreDistinct (answer_fields answer) × HasSmallStatus answer

abbrev pub is_internal : Answer → Bool
is_internal (Internal why) = true
is_internal _ = false

-- Internal(Late), which no line spells
abbrev pub is_late : Answer → Bool
is_late (Internal Late) = true
is_late _ = false
