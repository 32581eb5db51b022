use Rattle.std.proofs.Common.{◌≡◌, map, take, drop, ◌++◌}
use Rattle.da_request.specs.Requests.{timed_out_if_over}
use Rattle.da_tables.proofs.requests.time_all_out.Given as goal

-- the requests so far are timed out where their limit is reached, and the others are as they were
abbrev pub invariant-loop-request : goal.invariant-loop-request
invariant-loop-request l = l.requests ≡ map (timed_out_if_over l.settings l.moment) (take l.request-index l.fn.requests) ++ drop l.request-index l.fn.requests
