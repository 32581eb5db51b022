use Rattle.std.proofs.Common.{◌≡◌, drop}
use Rattle.da_names.specs.Templates.{is_template, template_ok}
use Rattle.da_names.proofs.templates.template_ok.Given as goal

abbrev pub invariant-loop-byte : goal.invariant-loop-byte
invariant-loop-byte l = is_template l.percent (drop l.byte-index l.template) ≡ template_ok l.template
