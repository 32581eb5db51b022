use Rattle.std.proofs.Common.{◌≡◌, ◌&&◌, ◌==◌, drop}
use Rattle.da_base.specs.Words.{number_where}
use Rattle.da_request.specs.Requests.{is_of}
use Rattle.da_tables.proofs.Rows.{further_by}
use Rattle.da_tables.proofs.requests.number_called.Given as goal

abbrev pub invariant-loop-request : goal.invariant-loop-request
invariant-loop-request l = record {
  number : number_where (λ r. is_of l.conn r && (r.id == l.id)) l.requests ≡ further_by l.request-index (number_where (λ r. is_of l.conn r && (r.id == l.id)) (drop l.request-index l.requests));
  counted : l.before ≡ l.request-index;
}
