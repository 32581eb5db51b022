use Rattle.std.proofs.Common.{◌≡◌, ◌∙◌, [], sym, length, rules}
use Rattle.da_entry.proofs.NoHits.{no_hits_without_keys, none_of_length}
use Rattle.da_play.specs.History.{after_input, before_input}
use Rattle.da_entry.proofs.replayed.hits_of.Goals as goal

pub returns-then-is_empty : goal.returns-then-is_empty
returns-then-is_empty c =
    let none : length c.all.result.now ≡ 0 = search rules in
    let fresh : c.new.result.items ≡ [] = search rules in
    fresh ∙ sym (no_hits_without_keys c.args.settings.now c.args.moment c.args.tables.now (sym c.all.ensures ∙ none_of_length c.all.result.now none)
    (after_input c.args.settings.now c.args.moment c.args.input.now (before_input c.args.settings.now c.args.moment c.args.input.now c.args.tables.now)))
