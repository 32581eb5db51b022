use Rattle.da_play.proofs.FewRows.{still_few_connections, still_few_requests, still_few_queries}
use Rattle.da_entry.proofs.replayed.hits_ahead.Goals as goal

pub apply_input-requires-clause-requests : goal.apply_input-requires-clause-requests
apply_input-requires-clause-requests c =
    still_few_requests c.args.settings.now c.args.moment _ c.args.input.now c.args.ahead.now c.before_input.new.tables c.in_ok-before_input.ensures c.requires.requests

pub apply_input-requires-clause-connections : goal.apply_input-requires-clause-connections
apply_input-requires-clause-connections c =
    still_few_connections c.args.settings.now c.args.moment _ c.args.input.now c.args.ahead.now c.before_input.new.tables c.in_ok-before_input.ensures c.requires.connections

pub apply_input-requires-clause-queries : goal.apply_input-requires-clause-queries
apply_input-requires-clause-queries c =
    still_few_queries c.args.settings.now c.args.moment _ c.args.input.now c.args.ahead.now c.before_input.new.tables c.in_ok-before_input.ensures c.requires.queries
