-- The answer to a query, by what was read for it.
use Rattle.std.proofs.Common.{◌≡◌, ◌∷◌, [], ◌++◌, Option, Some, None, Ok, refl, sym, ◌∙◌, subst, inr}
use Rattle.std.specs.Prelude.{option_to_list}
use Rattle.da_base.specs.Words.{Bytes}
use Rattle.da_outside.specs.FileReads.{ReadsFiles}
use Rattle.da_outside.specs.Files.{FilesState}
use Rattle.da_outside.specs.Sink.{SinkState}
use Rattle.da_outside.specs.declared.faults.Got.{Got}
use Rattle.da_outside.specs.declared.faults.Got.TheVariants.{Given as GotGiven, TooLong, Fault}
use Rattle.da_outside.specs.declared.files.FileRead.{FileRead}
use Rattle.da_fields.specs.declared.answer.Query.{Query}
use Rattle.da_stream.specs.Output.{WrittenFront, WrittenWhole}
use Rattle.da_worker.specs.declared.answering.Reading.{Reading}
use Rattle.da_worker.specs.declared.answering.Reading.TheVariants.{NoFile, Given, Long, Failed}
use Rattle.da_worker.specs.AnsweredQueries.{IsReadOf, answered_text}
use Rattle.da_worker.specs.Answering.{ReadsAt, ReadsFor, ReadsIts, AnswersWhole, AnswersFront, AnswersNot, reading_line, text_of}

module _ (path : Option Bytes) (query : Query) (files files_after : FilesState) where
  abbrev reads_with : (read : Option FileRead) → IsReadOf files.held path read → ReadsFiles files files_after (option_to_list read) → ReadsIts path query files files_after
  reads_with read is_its made = record { read = read; is_its = is_its; files = made }

  -- the file was read, and gave this
  abbrev reads_of_got : (got : Got) → ReadsAt path files files_after got → ReadsIts path query files files_after
  reads_of_got got reads =
      let read : FileRead = record { path = reads.its_path; got = got } in
      reads_with (Some read) (subst (λ path. IsReadOf files.held path (Some read)) (sym reads.is) (refl, reads.gives)) reads.made

  -- what was read, by the reading
  abbrev reads_by : (reading : Reading) → ReadsFor path files files_after (Ok reading) → ReadsIts path query files files_after
  reads_by NoFile reads = reads_with None (subst (λ path. IsReadOf files.held path None) (sym reads.0) tt) reads.1
  reads_by (Given bytes) reads = reads_of_got (GotGiven bytes.items) reads
  reads_by Long reads = reads_of_got TooLong reads
  reads_by Failed reads = reads_of_got Fault reads

  -- and the line
  text_by : (reading : Reading) (reads : ReadsFor path files files_after (Ok reading)) → reading_line query reading ++ 10 ∷ [] ≡ text_of (reads_by reading reads)
  unfolding answered_text
  text_by NoFile reads = refl
  text_by (Given bytes) reads = refl
  text_by Long reads = refl
  text_by Failed reads = refl

  module _ (reading : Reading) (reads : ReadsFor path files files_after (Ok reading)) (output output_after : SinkState) where
    pub wants : output_after ≡ output → AnswersNot path query files files_after output output_after
    wants unwritten = record { reads = inr (reads_by reading reads); unwritten = unwritten }

    module _ (text made : Bytes) (shown : text ≡ made) (is : made ≡ reading_line query reading ++ 10 ∷ []) where
      pub whole : WrittenWhole text output output_after → AnswersWhole path query files files_after output output_after
      whole writes =
          record { reads = reads_by reading reads; writes = subst (λ t. WrittenWhole t output output_after) (shown ∙ is ∙ text_by reading reads) writes }

      pub front : WrittenFront text output output_after → AnswersFront path query files files_after output output_after
      front writes =
          record { reads = reads_by reading reads; writes = subst (λ t. WrittenFront t output output_after) (shown ∙ is ∙ text_by reading reads) writes }
