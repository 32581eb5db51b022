-- How a worker's run ended, by the end of the run over its lines.
use Rattle.std.specs.Prelude.{ℕ}
use Rattle.da_stream.specs.declared.lines.LinesEnd.{LinesEnd}
use Rattle.da_stream.specs.declared.lines.LinesEnd.TheVariants.{Done as LinesDone, Cut, TooLong, LongInput as LongLines, ReadFault as LinesReadFault, NoMemory as LinesNoMemory, Stopped}
use Rattle.da_worker.specs.declared.answering.LineStop.{LineStop}
use Rattle.da_worker.specs.declared.answering.LineStop.TheVariants.{NotQuery, WriteFault as LineWriteFault, NoMemory as LineNoMemory}
use Rattle.da_worker.specs.declared.worker.WorkerStatus.{WorkerStatus}
use Rattle.da_worker.specs.declared.worker.WorkerStatus.TheVariants.{Done, BadInput, LongInput, ReadFault, WriteFault, NoMemory}

abbrev pub status_of_stop : ℕ → LineStop → WorkerStatus
status_of_stop line NotQuery = BadInput line
status_of_stop line LineWriteFault = WriteFault
status_of_stop line LineNoMemory = NoMemory

abbrev pub status_of_end : LinesEnd LineStop → WorkerStatus
status_of_end LinesDone = Done
status_of_end (Cut line) = BadInput line
status_of_end (TooLong line) = BadInput line
status_of_end LongLines = LongInput
status_of_end LinesReadFault = ReadFault
status_of_end LinesNoMemory = NoMemory
status_of_end (Stopped line stop) = status_of_stop line stop
