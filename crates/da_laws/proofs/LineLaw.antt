-- A final reply is one line.
use Rattle.std.proofs.Common.{◌∙◌, ap, Option, [], ◌∷◌}
use Rattle.da_tables.specs.Connections.{knows_codes_in}
use Rattle.da_base.specs.Words.{option_or_else}
use Rattle.da_play.specs.Effects.{reply_to}
use Rattle.da_laws.specs.ReplyLaws.{RepliesAreLines}
use Rattle.da_request.specs.Requests.{final_line}
use Rattle.da_request.specs.declared.stages.Decision.{Decision}
use Rattle.da_request.specs.declared.request.Request.{Request}

pub replies_are_lines : RepliesAreLines
replies_are_lines settings tables n r d here e =
    ap (λ (o : Option Request). option_or_else o [] (λ q. reply_to settings tables q ∷ [])) here ∙ ap (λ (o : Option Decision). (r.conn, option_or_else o [] (final_line (knows_codes_in tables r.conn) r.id)) ∷ []) e
