use Rattle.std.proofs.Common.{refl}
use Rattle.std.specs.Fmt.{digits}
use Rattle.da_msgs.specs.Replies.{greeting}
use Rattle.da_settings.specs.DefaultSettings.{default_settings}
use Rattle.da_tables.specs.Tables.{with_due_replied, with_timed_out}
use Rattle.da_play.specs.History.{before_input, after_input, after_stage, after}
use Rattle.da_play.specs.Effects.{due_requests, effects}
use Rattle.da_play.specs.Play.{refusal, hits, next_entry, outputs}
use Rattle.da_runs.proofs.worked_runs.limits_are_kept.Goals as goal

pub returns-clause-history : goal.returns-clause-history
unfolding digits greeting default_settings with_timed_out with_due_replied before_input after_input after_stage after due_requests effects refusal hits next_entry outputs
returns-clause-history c = refl

pub returns-clause-connections : goal.returns-clause-connections
unfolding digits greeting default_settings with_timed_out with_due_replied before_input after_input after_stage after due_requests effects refusal hits next_entry outputs
returns-clause-connections c = refl

pub returns-clause-queries : goal.returns-clause-queries
unfolding digits greeting default_settings with_timed_out with_due_replied before_input after_input after_stage after due_requests effects refusal hits next_entry outputs
returns-clause-queries c = refl
