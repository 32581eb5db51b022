use Rattle.std.proofs.Common.{◌≡◌, drop}
use Rattle.std.specs.List.{list_all}
use Rattle.da_names.specs.Templates.{is_template_field}
use Rattle.da_chain.proofs.templates.are_templates.Given as goal

abbrev pub invariant-loop-key : goal.invariant-loop-key
invariant-loop-key l = list_all is_template_field (drop l.key-index l.key-items) ≡ list_all is_template_field l.key-items
