use Rattle.std.proofs.Common.{◌≡◌, drop}
use Rattle.std.specs.List.{list_all}
use Rattle.da_pop3.specs.ServiceLines.{is_cookie_digit}
use Rattle.da_pop3.proofs.service.has_only_cookie_digits.Given as goal

abbrev pub invariant-loop-byte : goal.invariant-loop-byte
invariant-loop-byte l = list_all is_cookie_digit (drop l.byte-index l.digits) ≡ list_all is_cookie_digit l.digits
