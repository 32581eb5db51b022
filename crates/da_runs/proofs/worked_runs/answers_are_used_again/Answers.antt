use Rattle.std.proofs.Common.{refl}
use Rattle.std.specs.Fmt.{digits}
use Rattle.base64.specs.Decode.{groups_error, groups_bytes, scan_steps}
use Rattle.da_msgs.specs.ClientMessages.{client_message}
use Rattle.da_msgs.specs.Replies.{greeting, reply_line}
use Rattle.da_names.specs.Filters.{filter_matches}
use Rattle.da_schemes.specs.Stored.{stored_password, matches}
use Rattle.da_plain.specs.Plain.{plain_says}
use Rattle.da_passdb.specs.Outcomes.{outcome, password_comparison}
use Rattle.da_passdb.specs.LoginChain.{move, login_chain}
use Rattle.da_settings.specs.DefaultSettings.{default_settings}
use Rattle.da_request.specs.Attempts.{said, names, opening, attempt_stage}
use Rattle.da_request.specs.Requests.{request_stage, login_of, decision, reply_delay, is_due, is_over_limit}
use Rattle.da_tables.specs.Hits.{is_usable}
use Rattle.da_tables.specs.Tables.{with_due_replied, with_timed_out}
use Rattle.da_play.specs.History.{before_input, after_input, after_stage, after}
use Rattle.da_play.specs.Effects.{due_requests, effects}
use Rattle.da_play.specs.Play.{refusal, hits, next_entry, outputs}
use Rattle.da_runs.proofs.worked_runs.answers_are_used_again.Goals as goal

pub returns : goal.returns
unfolding digits groups_error groups_bytes scan_steps client_message greeting reply_line filter_matches stored_password matches plain_says outcome password_comparison move login_chain default_settings said names opening attempt_stage request_stage login_of decision reply_delay is_due is_over_limit is_usable with_timed_out with_due_replied before_input after_input after_stage after due_requests effects refusal hits next_entry outputs
returns c = refl
