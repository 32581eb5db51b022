use Rattle.std.proofs.Common.{◌≡◌, true, [], drop}
use Rattle.std.specs.List.{list_all}
use Rattle.da_names.specs.Templates.{is_template_field}
use Rattle.da_config.specs.Databases.{fields_after}
use Rattle.da_config.proofs.fields.fields_in.Given as goal

abbrev pub invariant-loop-text : goal.invariant-loop-text
invariant-loop-text l = record {
  read : fields_after l.fields (drop l.text-index l.texts) ≡ fields_after [] l.texts;
  fit : list_all is_template_field l.fields ≡ true;
}
