use Rattle.std.proofs.Common.{refl}
use Rattle.da_stream.proofs.RunLemmas.{runs_value}
use Rattle.da_app.proofs.PlayedLines.{ran, stops, takes}
use Rattle.da_app.proofs.play.play_lines.Goals as goal

pub returns-clause-ran : goal.returns-clause-ran
returns-clause-ran g c =
    let run =
    runs_value c.run_lines.new.handler (λ h. record { server = h.server.now; output = g.K.Sink.state h.output.now })
    takes stops 16384 _ _ _ c.run_lines.result c.run_lines.ensures.runs in
    rw c.status_of_end.ensures (ran _ _ _ _ _ refl c.requires c.run_lines.result run)
