use Rattle.std.proofs.Common.{◌≡◌, ◌+◌, true, length, drop}
use Rattle.toml.specs.View.{items_view}
use Rattle.da_config.specs.Parts.{are_tables, tables_in}
use Rattle.da_config.specs.Databases.{Fit, databases_from}
use Rattle.da_config.proofs.Numbering.{after}
use Rattle.da_config.proofs.databases.read_databases.Given as goal

abbrev pub invariant-loop-value : goal.invariant-loop-value
invariant-loop-value g l = record {
  count : length l.dbs.items ≡ l.value-index;
  tables : are_tables (items_view (drop l.value-index l.array)) ≡ true;
  read : after l.dbs.items (databases_from g.D.Database.found (length l.dbs.items + 1) (tables_in (items_view (drop l.value-index l.array)))) ≡ databases_from g.D.Database.found 1 (tables_in (items_view l.array));
  fit : Fit g.D.Database.fits 1 l.dbs.items;
}
