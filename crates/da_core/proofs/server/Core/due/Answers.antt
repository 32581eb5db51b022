use Rattle.std.proofs.Common.{◌∙◌, ◌<◌, ap, sym, subst, length, reverse, List}
use Rattle.std.specs.List.{list_any}
use Rattle.da_core.proofs.Further.{rows_of}
use Rattle.da_core.proofs.Told.{due_is}
use Rattle.da_core.specs.Bridges.{is_reached}
use Rattle.da_core.specs.Clock.{first_late}
use Rattle.da_play.specs.Legal.{entry_moment}
use Rattle.da_play.specs.declared.input.Entry.{Entry}
use Rattle.da_tables.specs.declared.queries.QueryRow.{QueryRow}
use Rattle.da_core.proofs.server.Core.due.Goals as goal

pub first_late-requires : goal.first_late-requires
first_late-requires c =
    subst (λ (queries : List QueryRow). length queries < 4294967295) (sym c.all-queries.ensures)
    (rows_of c.self.inside.settings (reverse c.self.inside.entries.items) c.self.inside.replayed 4294967295 c.self.invariant.replayed c.self.invariant.few).queries

pub returns : goal.returns
returns c =
    due_is c.self.inside.settings c.self.inside.goal c.self.inside.entries.items c.args.self.now c.self.inside.replayed c.self.inside.dues.items c.self.inside.outboxes c.self.view_is c.self.invariant
    c.args.moment c.entry_moment-moment.result c.some_is_reached.result c.first_late.result
    (c.entry_moment-moment.ensures ∙ ap (λ (es : List Entry). entry_moment (reverse es) c.args.moment) c.deref.ensures.value)
    (c.some_is_reached.ensures ∙ ap (list_any (is_reached c.entry_moment-moment.result)) c.deref-2.ensures.value) (c.first_late.ensures ∙ ap (first_late c.self.inside.settings c.entry_moment-moment.result) c.all-queries.ensures)
