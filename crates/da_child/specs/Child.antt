-- What a checkpassword program is told, and what its end means.
use Rattle.std.specs.Prelude.{◌≡◌, ◌≢◌, ◌≤◌, ℕ, Bool, true, false, ◌&&◌, not, [], ◌∷◌, ◌++◌, ◌+◌, length, Option, Some, None, nat_le, ◌==◌}
use Rattle.std.specs.List.{list_all}
use Rattle.da_base.specs.Words.{Bytes}
use Rattle.da_fields.specs.FieldList.{Pairs}
use Rattle.da_fields.specs.declared.answer.Answer.{Answer}
use Rattle.da_fields.specs.declared.answer.Answer.TheVariants.{Passed, Mismatch, Unknown, Internal}
use Rattle.da_fields.specs.declared.answer.Why.TheVariants.{Died, Malformed, Exit as ExitedWith}
use Rattle.da_outside.specs.Causes.{Rose}
use Rattle.da_outside.specs.Past.{Gains, Stays, Takes}
use Rattle.da_outside.specs.Runner.{RunnerState}
use Rattle.da_outside.specs.declared.runner.Exit.{Exit}
use Rattle.da_query.specs.AnswerLines.{fields_in}

-- ---- what the program is told

-- the user name, the password and an empty timestamp, each with a NUL after it
abbrev pub child_input : Bytes → Bytes → Bytes
child_input user password = user ++ 0 ∷ [] ++ password ++ 0 ∷ [] ++ 0 ∷ []

-- the byte isn't in the text
abbrev pub lacks : ℕ → Bytes → Bool
lacks byte text = list_all (λ c. not (c == byte)) text

-- a name or a password with a NUL can't be told, and at most 512 bytes are
abbrev pub can_be_told : Bytes → Bytes → Bool
can_be_told user password = lacks 0 user && lacks 0 password && nat_le (length user + length password + 3) 512

-- ---- what its end means

-- the reply is this line and its LF
pub record IsLine (reply line : Bytes) : Type 0 where
  pub spelled : reply ≡ line ++ 10 ∷ []
  pub is_one : lacks 10 line ≡ true
  pub short : length line ≤ 8192

-- the reply is one line of fields
pub record IsReply (reply : Bytes) (fields : Pairs) : Type 0 where
  pub line : Bytes
  pub is_line : IsLine reply line
  pub are_fields : fields_in line ≡ Some fields

abbrev pub ReplyMeans : Bytes → Answer → Type 0
ReplyMeans reply (Passed fields) = IsReply reply fields
ReplyMeans reply (Internal Malformed) = (fields : Pairs) → IsReply reply fields → ⊥
ReplyMeans reply _ = ⊥

-- by the status: 0 where the password is right, 1 where it isn't, 3 where the user isn't known
pub record ExitMeans (exit : Exit) (answer : Answer) : Type 0 where
  pub right : exit.status ≡ 0 → ReplyMeans exit.reply answer
  pub wrong : exit.status ≡ 1 → answer ≡ Mismatch
  pub unknown : exit.status ≡ 3 → answer ≡ Unknown
  pub other : exit.status ≢ 0 → exit.status ≢ 1 → exit.status ≢ 3 → answer ≡ Internal (ExitedWith exit.status)

-- without an exit the run failed
abbrev pub EndMeans : Option Exit → Answer → Type 0
EndMeans None answer = answer ≡ Internal Died
EndMeans (Some exit) answer = ExitMeans exit answer

-- ---- a check

-- nothing was run
pub record IsIdle (before now : RunnerState) : Type 0 where
  pub left : Stays before.left now.left
  pub past : Stays before.past now.past
  pub faults : now.faults ≡ before.faults

-- the program ran once, and this is what its end means; it has no end only where the runner's faults rose
pub record RanOnce (program input : Bytes) (before now : RunnerState) (answer : Answer) : Type 0 where
  pub end : Option Exit
  pub left : Takes before.left now.left end
  pub past : Gains before.past now.past (record { program = program; input = input; exit = end } ∷ [])
  pub failed : end ≡ None → Rose before.faults now.faults
  pub means : EndMeans end answer

-- what can't be told is a mismatch, and nothing is run for it
abbrev pub Checks : Bytes → Bytes → Bytes → RunnerState → RunnerState → Answer → Type 0
Checks program user password before now answer =
    (can_be_told user password ≡ false → (answer ≡ Mismatch) × IsIdle before now)
    × (can_be_told user password ≡ true → RanOnce program (child_input user password) before now answer)
