use Rattle.std.proofs.Common.{◌∙◌, ap, ℕ, rules}
use Rattle.da_tables.specs.Connections.{may_authenticate, request_number}
use Rattle.da_tables.proofs.tables.Tables.client_may.Goals as goal

pub returns-in-Auth : goal.returns-in-Auth
returns-in-Auth c =
    c.may_authenticate.ensures
    ∙ ap (λ (called : ℕ). may_authenticate called c.pending_count-pending.result c.args.connection.now) c.request_number.ensures
    ∙ ap (λ (pending : ℕ). may_authenticate (request_number c.args.self.now c.args.conn c.in-Auth.id) pending c.args.connection.now) c.pending_count-pending.ensures
    ∙ search rules
