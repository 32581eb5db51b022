-- The outside of a command.
use Rattle.std.specs.Prelude.{◌≡◌}
use Rattle.da_outside.specs.Files.{FilesState}
use Rattle.da_outside.specs.Sink.{SinkState}
use Rattle.da_outside.specs.Source.{SourceState}

-- at one moment: the files that it may read, its input, and its output
pub record Outside : Type 0 where
  pub files : FilesState
  pub input : SourceState
  pub output : SinkState

-- nothing was read of the input, and nothing was written
pub record IsUntouched (before now : Outside) : Type 0 where
  pub input : now.input ≡ before.input
  pub output : now.output ≡ before.output
