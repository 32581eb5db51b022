use Rattle.std.proofs.Common.{◌≡◌, arith, length, ◌∙◌, sym, ap, subst}
use Rattle.da_tabline.specs.Parts.{Lacks}
use Rattle.da_tabline.proofs.LineLemmas.{after_feed_none, after_feed_none_long, lengthened}
use Rattle.da_tabline.proofs.cutter.Lines.lengthen.Goals as goal
use Rattle.da_tabline.proofs.cutter.Lines.lengthen.Goals.{in-Ok, in-Err}

pub returns-then-bytes-self : goal.returns-then-bytes-self
returns-then-bytes-self c =
    let rest : c.self.inside.open_line.items ≡ c.args.self.now.rest = ap (λ s. s.rest) c.self.view_is in
    let most : c.self.inside.max ≡ c.args.self.now.max = ap (λ s. s.max) c.self.view_is in
    let long =
    after_feed_none_long c.args.self.now c.args.bytes.now c.requires.going (subst (Lacks 10) rest c.self.invariant.2) c.requires.no_end
    (omega (arith, c.self.inside.open_line.ok, ap length rest)) in
    (c.give_up.ensures ∙ sym long, ap (λ s. s.is_long) c.give_up.ensures)

pub returns : goal.returns
returns c =
    let rest : c.self.inside.open_line.items ≡ c.args.self.now.rest = ap (λ s. s.rest) c.self.view_is in
    let most : c.self.inside.max ≡ c.args.self.now.max = ap (λ s. s.max) c.self.view_is in
    elim c.match-extend_from_slice.branch [
      | in-Ok w ↦
          rw w.result-is (
            rw w.in-Ok.ensures.items (lengthened _ c.args.self.now c.args.bytes.now c.self.view_is)
                ∙ sym (after_feed_none c.args.self.now c.args.bytes.now c.requires.going (subst (Lacks 10) rest c.self.invariant.2) c.requires.no_end
                (omega (arith, c.self.inside.open_line.ok, ap length rest))),
            ap (λ s. s.is_long) c.self.view_is ∙ c.requires.going,
          )
      | in-Err w ↦ rw w.result-is (rw w.in-Err.ensures.items c.self.view_is)
    ]
