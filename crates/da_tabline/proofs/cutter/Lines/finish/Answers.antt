use Rattle.std.proofs.Common.{◌≡◌, arith, length, ◌∙◌, sym, ap, subst}
use Rattle.da_tabline.specs.Lines.{line_cut}
use Rattle.da_tabline.specs.Parts.{Lacks}
use Rattle.da_tabline.proofs.LineLemmas.{after_feed_end, after_feed_end_long, line_cut-fits, keep_feeds}
use Rattle.da_tabline.proofs.cutter.Lines.finish.Goals as goal

pub returns-then-end-self : goal.returns-then-end-self
returns-then-end-self c =
    let rest : c.self.inside.open_line.items ≡ c.args.self.now.rest = ap (λ s. s.rest) c.self.view_is in
    let most : c.self.inside.max ≡ c.args.self.now.max = ap (λ s. s.max) c.self.view_is in
    let long =
    after_feed_end_long c.args.self.now c.args.end.now c.args.more.now c.requires.going (subst (Lacks 10) rest c.self.invariant.2) c.requires.no_end
    (omega (arith, c.self.inside.open_line.ok, ap length rest)) in
    (c.give_up.ensures ∙ sym long, ap (λ s. s.is_long) c.give_up.ensures)

pub keep-requires-clause-open_fits : goal.keep-requires-clause-open_fits
keep-requires-clause-open_fits c =
    let rest : c.in-Ok.cut.rest.items ≡ (line_cut c.self.inside.max c.args.more.now).rest = ap (λ s. s.rest) c.in-Ok.ensures.cut in
    let most : c.self.inside.max ≡ c.args.self.now.max = ap (λ s. s.max) c.self.view_is in
    let fit = line_cut-fits c.self.inside.max c.args.more.now in
    omega (arith, ap length rest, fit.short)

pub keep-requires-clause-open_line : goal.keep-requires-clause-open_line
keep-requires-clause-open_line c =
    let rest : c.in-Ok.cut.rest.items ≡ (line_cut c.self.inside.max c.args.more.now).rest = ap (λ s. s.rest) c.in-Ok.ensures.cut in
    subst (Lacks 10) (sym rest) (line_cut-fits c.self.inside.max c.args.more.now).open_yet

pub returns : goal.returns
returns c =
    let rest : c.self.inside.open_line.items ≡ c.args.self.now.rest = ap (λ s. s.rest) c.self.view_is in
    let most : c.self.inside.max ≡ c.args.self.now.max = ap (λ s. s.max) c.self.view_is in
    keep_feeds c.args.self.now _ _ _ _ _ c.keep.new.self c.keep.result
    (after_feed_end c.args.self.now c.args.end.now c.args.more.now c.requires.going (subst (Lacks 10) rest c.self.invariant.2) c.requires.no_end
    (omega (arith, c.self.inside.open_line.ok, ap length rest)) _ _ _ (c.in-Ok.ensures.cut ∙ ap (λ max. line_cut max c.args.more.now) most))
    c.keep.ensures
