-- A run over a good input without a fault answers all of it, or wants memory.
use Rattle.std.proofs.Common.{◌^◌, Option, subst, arith, List}
use Rattle.std.specs.Io.KnownBytes.{Consumes}
use Rattle.da_base.specs.Words.{Bytes}
use Rattle.da_outside.specs.Outside.{Outside}
use Rattle.da_stream.proofs.BadLineLemmas.{no_bad_line, not_longer}
use Rattle.da_worker.specs.declared.worker.WorkerStatus.{WorkerStatus}
use Rattle.da_worker.specs.declared.worker.WorkerStatus.TheVariants.{Done, BadInput, LongInput, ReadFault, WriteFault, NoMemory}
use Rattle.da_worker.specs.Run.{is_query, Ran, IsGood, IsAnswered}

pub completes : (pass users : List Bytes) (before after : Outside) (status : WorkerStatus) → Ran pass users before after status → IsGood before after → IsAnswered status
completes pass users before after Done ran good = tt
completes pass users before after (BadInput line) ran good =
    no_bad_line is_query 8192 good.input ran.read after.input line
    (subst (λ (l : Option Bytes). Consumes l after.input.left ran.read) good.left ran.reads) good.are_queries ran.ends.0
completes pass users before after LongInput ran good =
    not_longer good.input ran.read after.input.left (2 ^ 30)
    (subst (λ (l : Option Bytes). Consumes l after.input.left ran.read) good.left ran.reads) good.short (let few = ran.few in omega arith)
completes pass users before after ReadFault ran good = good.input_sound ran.ends.0
completes pass users before after WriteFault ran good = good.output_sound ran.ends.0
completes pass users before after NoMemory ran good = tt
