use Rattle.std.proofs.Common.{◌≡◌, map, take, drop, ◌++◌}
use Rattle.da_request.specs.Requests.{as_cancelled_of}
use Rattle.da_tables.proofs.requests.cancel_all_of.Given as goal

-- the requests so far are cancelled, and the others are as they were
abbrev pub invariant-loop-request : goal.invariant-loop-request
invariant-loop-request l = l.requests ≡ map (as_cancelled_of l.conn) (take l.request-index l.fn.requests) ++ drop l.request-index l.fn.requests
