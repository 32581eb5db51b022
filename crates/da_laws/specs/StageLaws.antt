-- Laws on the stage of an attempt to log in.
use Rattle.std.specs.Prelude.{◌≡◌, ℕ, List, Some}
use Rattle.da_base.specs.Words.{nth}
use Rattle.da_fields.specs.Answers.{Answers, answer_from}
use Rattle.da_play.specs.History.{tables_of}
use Rattle.da_play.specs.declared.input.Entry.{Entry}
use Rattle.da_request.specs.Attempts.{Attempt}
use Rattle.da_request.specs.Requests.{attempt_of, request_stage}
use Rattle.da_request.specs.declared.request.Request.{Request}
use Rattle.da_settings.specs.declared.settings.Settings.{Settings}

-- request n of the history is this attempt to log in
pub record IsAttempt (settings : Settings) (h : List Entry) (n : ℕ) (r : Request) (a : Attempt) : Type 0 where
  pub is_there : nth (tables_of settings h).requests n ≡ Some r
  pub attempts : attempt_of settings r ≡ Some a

-- the same answers under each database
abbrev pub SameAnswers : Answers → Answers → Type 0
SameAnswers xs ys = (db : ℕ) → answer_from db xs ≡ answer_from db ys

-- two attempts with the same mechanism, parameters, messages, random bytes, start and answers
pub record AreAlike (a b : Attempt) : Type 0 where
  pub mech : a.mech ≡ b.mech
  pub params : a.params ≡ b.params
  pub messages : a.messages ≡ b.messages
  pub random : a.random ≡ b.random
  pub start : a.start ≡ b.start
  pub answers : SameAnswers a.answers b.answers

-- two histories in which attempts are alike give them the same stage, whatever else they hold
abbrev pub StageIsOwn : Type 0
StageIsOwn =
    (settings : Settings) (h k : List Entry) (m n : ℕ) (r q : Request) (a b : Attempt) →
    IsAttempt settings h m r a → IsAttempt settings k n q b → AreAlike a b → request_stage settings r ≡ request_stage settings q
