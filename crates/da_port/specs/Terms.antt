-- The terms of a port, and what it stands for with a history.
use Rattle.std.specs.Prelude.{List}
use Rattle.da_play.specs.Served.{Served}
use Rattle.da_play.specs.declared.input.Entry.{Entry}
use Rattle.da_port.specs.declared.terms.Terms.{Terms}

abbrev pub terms_of : Served → Terms
terms_of served = record { settings = served.settings; goal = served.goal }

-- a server on these terms, with this history
abbrev pub served_on : Terms → List Entry → Served
served_on terms h = record { settings = terms.settings; goal = terms.goal; history = h }
