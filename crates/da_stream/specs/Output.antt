-- What is written of a text.
use Rattle.std.specs.Prelude.{◌≡◌, ◌≤◌, List, ◌++◌, Result, Ok, Err}
use Rattle.std.specs.Io.KnownBytes.{Appends}
use Rattle.da_base.specs.Words.{Bytes}
use Rattle.da_outside.specs.declared.faults.Failed.{Failed}
use Rattle.da_outside.specs.Causes.{Rose}
use Rattle.da_outside.specs.Sink.{SinkState}

-- a list that begins with this front
pub record Begins {A : Type 0} (front whole : List A) : Type 0 where
  pub rest : List A
  pub is_whole : whole ≡ front ++ rest

-- the whole text was written
pub record WrittenWhole (text : Bytes) (before after : SinkState) : Type 0 where
  pub writes : Appends before.contents after.contents text
  pub later : before.faults ≤ after.faults

-- a front of the text was written, and then the sink failed
pub record WrittenFront (text : Bytes) (before after : SinkState) : Type 0 where
  pub front : Bytes
  pub begins : Begins front text
  pub writes : Appends before.contents after.contents front
  pub rose : Rose before.faults after.faults

-- the whole text was written, or a front of it before a fault
abbrev pub Writes : Bytes → SinkState → SinkState → Result (Unit {0}) Failed → Type 0
Writes text before after (Ok done) = WrittenWhole text before after
Writes text before after (Err failed) = WrittenFront text before after
