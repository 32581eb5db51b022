-- Answer lines: what a worker, or a script of events, says to a query.
use Rattle.std.specs.Prelude.{ℕ, Bool, ◌&&◌, List, [], ◌∷◌, map, Option, Some, None, option_map, option_and_then, if◌then◌else◌, ◌==◌, bytes_eq, codes, decimal, is_some}
use Rattle.da_base.specs.Words.{Bytes, is_empty, number}
use Rattle.da_tabline.specs.Escapes.{line_fields, spelled}
use Rattle.da_fields.specs.FieldList.{Pairs, field, field_text, text_key, text_value}
use Rattle.da_fields.specs.Answers.{fits}
use Rattle.da_fields.specs.declared.answer.Answer.{Answer}
use Rattle.da_fields.specs.declared.answer.Answer.TheVariants.{Found, Passed, Mismatch, Unknown, Internal}
use Rattle.da_fields.specs.declared.answer.Why.{Why}
use Rattle.da_fields.specs.declared.answer.Why.TheVariants.{Died, Malformed, Said, Late, Exit}
use Rattle.da_fields.specs.declared.answer.Query.{Query}
use Rattle.da_query.specs.declared.speaker.Speaker.{Speaker}
use Rattle.da_query.specs.declared.speaker.Speaker.TheVariants.{Worker, Script}

-- ---- fields

-- the key and the value of a text, if the key isn't empty and isn't there yet
abbrev pub new_field : Pairs → Bytes → Option (Bytes × Bytes)
new_field fields text =
    if is_empty (text_key text) then None
    else if is_some (field (text_key text) fields) then None
    else Some (text_key text, text_value text)

abbrev pub with_new_field : Bytes → Pairs → Option Pairs
with_new_field text fields = option_map (λ p. p ∷ fields) (new_field fields text)

-- the fields that these texts are, their keys distinct and not empty
abbrev pub fields_of : List Bytes → Option Pairs
fields_of [] = Some []
fields_of (text ∷ texts) = option_and_then (with_new_field text) (fields_of texts)

-- the fields of a text that is a line of nothing else; an empty one has none
abbrev pub fields_in : Bytes → Option Pairs
fields_in [] = Some []
fields_in (c ∷ text) = fields_of (line_fields (c ∷ text))

-- ---- reading

-- an answer, and the number of the query that it is an answer to
abbrev pub Numbered : Type 0
Numbered = ℕ × Answer

abbrev pub numbered : Option ℕ → Option Answer → Option Numbered
numbered (Some n) (Some answer) = Some (n, answer)
numbered _ _ = None

abbrev pub found_of : List Bytes → Option Answer
found_of (stored ∷ texts) = option_map (λ fields. Found stored fields) (fields_of texts)
found_of [] = None

abbrev pub passed_of : List Bytes → Option Answer
passed_of texts = option_map (λ fields. Passed fields) (fields_of texts)

-- an answer without further fields
abbrev pub alone : Answer → List Bytes → Option Answer
alone answer [] = Some answer
alone answer _ = None

-- a failure, possibly with its reason
abbrev pub said_of : List Bytes → Option Answer
said_of [] = Some (Internal Said)
said_of (reason ∷ []) = Some (Internal Said)
said_of _ = None

abbrev pub exit_of : List Bytes → Option Answer
exit_of (status ∷ []) = option_map (λ n. Internal (Exit n)) (number status)
exit_of _ = None

abbrev pub internal_of : List Bytes → Option Answer
internal_of [] = None
internal_of (why ∷ rest) =
    if bytes_eq why (codes "died") then alone (Internal Died) rest
    else if bytes_eq why (codes "malformed") then alone (Internal Malformed) rest
    else if bytes_eq why (codes "said") then alone (Internal Said) rest
    else if bytes_eq why (codes "exit") then exit_of rest
    else None

-- the answers that workers and scripts both give
abbrev pub plain_answer : Bytes → List Bytes → Option Answer
plain_answer word rest =
    if bytes_eq word (codes "FOUND") then found_of rest
    else if bytes_eq word (codes "PASSED") then passed_of rest
    else if bytes_eq word (codes "MISMATCH") then alone Mismatch rest
    else if bytes_eq word (codes "UNKNOWN") then alone Unknown rest
    else None

-- what the word and the fields after it say; a worker may say that it failed, a script why there was no answer
abbrev pub answer_said : Speaker → Bytes → List Bytes → Option Answer
answer_said Worker word rest = if bytes_eq word (codes "FAIL") then said_of rest else plain_answer word rest
answer_said Script word rest = if bytes_eq word (codes "INTERNAL") then internal_of rest else plain_answer word rest

abbrev pub answer_by : Speaker → List Bytes → Option Numbered
answer_by speaker (word ∷ n ∷ rest) = numbered (number n) (answer_said speaker word rest)
answer_by speaker _ = None

abbrev pub numbered_answer : Speaker → Bytes → Option Numbered
numbered_answer speaker line = answer_by speaker (line_fields line)

-- the answer that a worker's line spells
abbrev pub worker_answer : Bytes → Option Numbered
worker_answer line = numbered_answer Worker line

-- the answer that a script's line spells
unfoldable pub script_answer : Bytes → Option Numbered
script_answer line = numbered_answer Script line

-- an answer to this query: of its number, and of a kind that answers it
abbrev pub answers_query : Query → Numbered → Bool
answers_query query p = (p.0 == query.number) && fits query.kind p.1

abbrev pub answer_or_malformed : Query → Option Numbered → Answer
answer_or_malformed query None = Internal Malformed
answer_or_malformed query (Some p) = if answers_query query p then p.1 else Internal Malformed

-- what a worker's line is to this query
unfoldable pub answer_to : Query → Bytes → Answer
answer_to query line = answer_or_malformed query (worker_answer line)

-- ---- printing

abbrev pub why_words : Why → List Bytes
why_words Died = codes "died" ∷ []
why_words Malformed = codes "malformed" ∷ []
why_words Said = codes "said" ∷ []
why_words Late = codes "late" ∷ []
why_words (Exit status) = codes "exit" ∷ decimal status ∷ []

-- the fields of the line of an answer; one that is Internal stands in scripts alone
abbrev pub answer_words : ℕ → Answer → List Bytes
answer_words n (Found stored fields) = codes "FOUND" ∷ decimal n ∷ stored ∷ map field_text fields
answer_words n (Passed fields) = codes "PASSED" ∷ decimal n ∷ map field_text fields
answer_words n Mismatch = codes "MISMATCH" ∷ decimal n ∷ []
answer_words n Unknown = codes "UNKNOWN" ∷ decimal n ∷ []
answer_words n (Internal why) = codes "INTERNAL" ∷ decimal n ∷ why_words why

-- the line of an answer
unfoldable pub answer_line : ℕ → Answer → Bytes
answer_line n answer = spelled (answer_words n answer)
