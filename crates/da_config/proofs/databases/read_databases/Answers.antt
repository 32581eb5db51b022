use Rattle.std.proofs.Common.{◌≡◌, ℕ, ◌+◌, length, drop, Some, Ok, sym, subst, ap, ◌∙◌, arith}
use Rattle.std.proofs.lemmas.List.{length_push}
use Rattle.toml.specs.Data.{as_table}
use Rattle.toml.specs.View.{view, items_view, table_view}
use Rattle.da_config.specs.Parts.{are_tables, tables_in}
use Rattle.da_config.specs.Databases.{databases_from}
use Rattle.da_config.proofs.Numbering.{after, databases_from-next, tables_in-next, are_tables-rest, read-at, Fit-push}
use Rattle.da_config.proofs.Steps.{view-item}
use Rattle.da_config.proofs.databases.read_databases.Goals as goal

pub loop-value-preserved : goal.loop-value-preserved
loop-value-preserved g c =
    let one = g.D.Database.found in
    let values = c.args.array.now in
    let i = c.loop-value.value-index in
    let value = c.value-item.result in
    let dbs = c.loop-value.dbs.items in
    let db = c.in_ok-db.db in
    let table = table_view c.in-Some.table.now in
    let rest = items_view (drop (i + 1) values) in
    let here = view-item values i value (omega arith) c.value-item.is in
    let is : as_table (view value) ≡ Some table = sym c.in-Some.ensures in
    let number : c.len.result + 1 ≡ length dbs + 1 = omega (arith, c.len.ensures, c.loop-value.dbs.ok.0) in
    let place : c.len.result + 1 ≡ 1 + length dbs = omega (arith, number) in
    let read : one (length dbs + 1) table ≡ Ok db = read-at one _ _ table db number c.in_ok-db.ensures.read in
    let next = ap (λ items. after dbs (databases_from one (length dbs + 1) (tables_in items))) here
    ∙ ap (λ tables. after dbs (databases_from one (length dbs + 1) tables)) (tables_in-next (view value) rest table is)
    ∙ databases_from-next one dbs db table (tables_in rest) read in
    record {
      count = ap length c.in_ok-push.ensures ∙ length_push dbs db ∙ ap (λ n. n + 1) c.loop-value.invariant.count;
      tables = are_tables-rest (view value) rest (ap are_tables (sym here) ∙ c.loop-value.invariant.tables);
      read = ap (λ all. after all (databases_from one (length all + 1) (tables_in rest))) c.in_ok-push.ensures ∙ sym next ∙ c.loop-value.invariant.read;
      fit = rw c.in_ok-push.ensures (Fit-push g.D.Database.fits 1 dbs db c.loop-value.invariant.fit (subst (λ (n : ℕ). g.D.Database.fits n db) place c.in_ok-db.ensures.fit));
    }
