use Rattle.std.proofs.Common.{[], ap, ◌∙◌}
use Rattle.da_play.specs.Play.{played}
use Rattle.da_script.proofs.ScriptReading.{events-script}
use Rattle.da_laws.proofs.laws.a_printed_history_is_played_again.Goals as goal

pub returns : goal.returns
returns c = λ settings h legal are. ap (played settings []) (events-script h are) ∙ c.legal_is_played.ensures settings h legal
