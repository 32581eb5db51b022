use Rattle.std.proofs.Common.{refl}
use Rattle.std.specs.Fmt.{digits}
use Rattle.base64.specs.Decode.{groups_error, groups_bytes, scan_steps}
use Rattle.da_msgs.specs.ClientMessages.{client_message}
use Rattle.da_msgs.specs.Replies.{greeting, reply_line}
use Rattle.da_names.specs.Filters.{filter_matches}
use Rattle.da_schemes.specs.Stored.{stored_password, matches}
use Rattle.da_plain.specs.Plain.{plain_says}
use Rattle.da_passdb.specs.Outcomes.{outcome, password_comparison, password_compared}
use Rattle.da_passdb.specs.LoginChain.{move, login_chain}
use Rattle.da_settings.specs.DefaultSettings.{default_settings}
use Rattle.da_request.specs.Attempts.{said, names, opening, attempt_stage}
use Rattle.da_request.specs.Requests.{request_stage, login_of, decision, reply_delay, is_due, is_over_limit}
use Rattle.da_tables.specs.Hits.{is_usable}
use Rattle.da_tables.specs.Tables.{with_due_replied, with_timed_out}
use Rattle.da_play.specs.History.{before_input, after_input, after_stage, after}
use Rattle.da_play.specs.Effects.{due_requests, effects}
use Rattle.da_play.specs.Play.{refusal, hits, next_entry, outputs}
use Rattle.da_play.specs.Comparing.{entry_compares, hint}
use Rattle.da_runs.proofs.worked_runs.known_answers_are_compared.Goals as goal

pub returns-clause-recorded : goal.returns-clause-recorded
unfolding digits groups_error groups_bytes scan_steps client_message greeting reply_line filter_matches stored_password matches plain_says outcome password_comparison password_compared move login_chain default_settings said names opening attempt_stage request_stage login_of decision reply_delay is_due is_over_limit is_usable with_timed_out with_due_replied before_input after_input after_stage after due_requests effects refusal hits next_entry outputs entry_compares hint
returns-clause-recorded c = refl

pub returns-clause-used_again : goal.returns-clause-used_again
unfolding digits groups_error groups_bytes scan_steps client_message greeting reply_line filter_matches stored_password matches plain_says outcome password_comparison password_compared move login_chain default_settings said names opening attempt_stage request_stage login_of decision reply_delay is_due is_over_limit is_usable with_timed_out with_due_replied before_input after_input after_stage after due_requests effects refusal hits next_entry outputs entry_compares hint
returns-clause-used_again c = refl

pub returns-clause-past_its_ttl : goal.returns-clause-past_its_ttl
unfolding digits groups_error groups_bytes scan_steps client_message greeting reply_line filter_matches stored_password matches plain_says outcome password_comparison password_compared move login_chain default_settings said names opening attempt_stage request_stage login_of decision reply_delay is_due is_over_limit is_usable with_timed_out with_due_replied before_input after_input after_stage after due_requests effects refusal hits next_entry outputs entry_compares hint
returns-clause-past_its_ttl c = refl

pub returns-clause-asked_anew : goal.returns-clause-asked_anew
unfolding digits groups_error groups_bytes scan_steps client_message greeting reply_line filter_matches stored_password matches plain_says outcome password_comparison password_compared move login_chain default_settings said names opening attempt_stage request_stage login_of decision reply_delay is_due is_over_limit is_usable with_timed_out with_due_replied before_input after_input after_stage after due_requests effects refusal hits next_entry outputs entry_compares hint
returns-clause-asked_anew c = refl

pub returns-clause-of_the_first : goal.returns-clause-of_the_first
unfolding digits groups_error groups_bytes scan_steps client_message greeting reply_line filter_matches stored_password matches plain_says outcome password_comparison password_compared move login_chain default_settings said names opening attempt_stage request_stage login_of decision reply_delay is_due is_over_limit is_usable with_timed_out with_due_replied before_input after_input after_stage after due_requests effects refusal hits next_entry outputs entry_compares hint
returns-clause-of_the_first c = refl

pub returns-clause-of_the_second : goal.returns-clause-of_the_second
unfolding digits groups_error groups_bytes scan_steps client_message greeting reply_line filter_matches stored_password matches plain_says outcome password_comparison password_compared move login_chain default_settings said names opening attempt_stage request_stage login_of decision reply_delay is_due is_over_limit is_usable with_timed_out with_due_replied before_input after_input after_stage after due_requests effects refusal hits next_entry outputs entry_compares hint
returns-clause-of_the_second c = refl
