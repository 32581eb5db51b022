use Rattle.std.proofs.Common.{◌∙◌, ◌++◌, ◌∷◌, [], List, ap}
use Rattle.da_core.proofs.Further.{kept_more}
use Rattle.da_play.specs.declared.input.Entry.{Entry}
use Rattle.da_core.proofs.server.Core.keep.Goals as goal

pub invariant_of-self-2 : goal.invariant_of-self-2
invariant_of-self-2 c =
    kept_more c.self.inside.settings c.self.inside.goal c.self.inside.entries.items c.put_last.new.entries.items c.args.self.now c.args.planned.entered c.args.planned.dues.items c.self.inside.outboxes c.push_both.new.self
    c.all-due.result.now c.all-own.result.now c.self.view_is c.requires c.self.invariant.sent c.in-Ok.ensures.ok c.all-due.ensures c.all-own.ensures
    (c.put_last.ensures ∙ ap (λ (es : List Entry). es ++ c.args.planned.entered.entry ∷ []) c.reserve.ensures.items)
