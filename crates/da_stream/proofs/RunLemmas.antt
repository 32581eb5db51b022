-- What a run over lines says of what its handler stands for.
use Rattle.std.proofs.Common.{ℕ, suc, List, [], ◌∷◌, ap}
use Rattle.std.specs.List.{AllByRecursion}
use Rattle.da_base.specs.Words.{Bytes}
use Rattle.da_outside.specs.Source.{SourceState}
use Rattle.da_stream.specs.declared.lines.LinesEnd.{LinesEnd}
use Rattle.da_stream.specs.declared.lines.LinesEnd.TheVariants.{Done, Cut, TooLong, LongInput, ReadFault, NoMemory, Stopped}
use Rattle.da_stream.specs.LineRuns.{TakesLines, Ends, RunsOver}

-- what holds of each line that is taken holds of all
pub TakesLines-each : {H : Type 0} (takes : ℕ → Bytes → H → H → Type 0) (P : Bytes → Type 0)
    → ((n : ℕ) (line : Bytes) (old new : H) → takes n line old new → P line)
    → (n : ℕ) (lines : List Bytes) (old new : H) → TakesLines takes n lines old new → AllByRecursion P lines
TakesLines-each takes P each n [] old new all = tt
TakesLines-each takes P each n (line ∷ lines) old new all =
    (each n line old all.0 all.1, TakesLines-each takes P each (suc n) lines all.0 new all.2)

-- The relations of a handler often speak of a value that it stands for. So then does the run.
module _ {H V E : Type 0} (new : H) (value : H → V) (takes : ℕ → Bytes → V → V → Type 0) (stops : ℕ → Bytes → V → V → E → Type 0) where
  abbrev takes_at : ℕ → Bytes → H → H → Type 0
  takes_at n line before after = takes n line (value before) (value after)

  abbrev stops_at : ℕ → Bytes → H → H → E → Type 0
  stops_at n line before after stop = stops n line (value before) (value after) stop

  lines_value : (n : ℕ) (lines : List Bytes) (before after : H) → TakesLines takes_at n lines before after → TakesLines takes n lines (value before) (value after)
  lines_value n [] before after all = ap value all
  lines_value n (line ∷ lines) before after all = (value all.0, all.1, lines_value (suc n) lines all.0 after all.2)

  module _ (max : ℕ) (input input_after : SourceState) (old : H) where
    ends_value : (read : Bytes) (end : LinesEnd E) → Ends takes_at stops_at max input input_after old new read end
        → Ends takes stops max input input_after (value old) (value new) read end
    ends_value read Done how = (record { ended = how.0.ended; fits = how.0.fits; took = lines_value 1 _ old new how.0.took }, how.1)
    ends_value read (Cut line) how = (record { ended = how.0.ended; fits = how.0.fits; took = lines_value 1 _ old new how.0.took }, how.1, how.2)
    ends_value read (TooLong line) how = (lines_value 1 _ old new how.0, how.1, how.2)
    ends_value read LongInput how = (lines_value 1 _ old new how.0, how.1)
    ends_value read ReadFault how = (lines_value 1 _ old new how.0, how.1, how.2)
    ends_value read NoMemory how =
        record { taken = how.taken; others = how.others; are_lines = how.are_lines; took = lines_value 1 how.taken old new how.took }
    ends_value read (Stopped line stop) how =
        record {
          taken = how.taken;
          line = how.line;
          others = how.others;
          are_lines = how.are_lines;
          mid = value how.mid;
          took = lines_value 1 how.taken old how.mid how.took;
          is_number = how.is_number;
          stopped = how.stopped;
        }

    pub runs_value : (end : LinesEnd E) → RunsOver takes_at stops_at max input input_after old new end → RunsOver takes stops max input input_after (value old) (value new) end
    runs_value end run = record { read = run.read; reads = run.reads; few = run.few; ends = ends_value run.read end run.ends }
