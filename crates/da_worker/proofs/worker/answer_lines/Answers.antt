use Rattle.da_stream.proofs.RunLemmas.{runs_value}
use Rattle.da_worker.proofs.AnsweredLines.{ran, stops, takes}
use Rattle.da_worker.proofs.worker.answer_lines.Goals as goal

pub returns-clause-ran : goal.returns-clause-ran
returns-clause-ran g c =
    let run =
    runs_value c.run_lines.new.handler
    (λ h. record { pass = h.pass.now; users = h.users.now; files = g.F.Files.state h.files.now; output = g.K.Sink.state h.output.now })
    takes stops 8192 _ _ _ c.run_lines.result c.run_lines.ensures.runs in
    rw c.status_of_end.ensures (ran _ _ _ _ c.run_lines.result run)
