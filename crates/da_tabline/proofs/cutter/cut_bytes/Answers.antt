use Rattle.std.proofs.Common.{sym, map, ap, arith, ◌∙◌, length, ◌∷◌, [], ◌++◌}
use Rattle.std.proofs.lemmas.List.{map_push, length_push}
use Rattle.da_tabline.specs.Lines.{with_lines, line_cut}
use Rattle.da_tabline.proofs.LineLemmas.{cut_step, cut_long, cut_end, cut_end_long, length_after_split}
use Rattle.da_tabline.proofs.cutter.cut_bytes.Goals as goal

pub returns-then-line-max-clause-cut : goal.returns-then-line-max-clause-cut
returns-then-line-max-clause-cut c =
    rw c.new.ensures.items (sym (cut_long c.args.max c.args.bytes.now c.loop-line.left.now c.in-Some.line.now c.in-Some.more.now _ c.loop-line.invariant.cut c.in-Some.ensures.split c.if-line-max.true))

pub loop-line-preserved : goal.loop-line-preserved
loop-line-preserved c =
    let e = c.in_ok-push_back.ensures.items in
    record {
      cut =
          cut_step c.args.max c.args.bytes.now c.loop-line.left.now c.in-Some.line.now c.in-Some.more.now _ c.loop-line.invariant.cut c.in-Some.ensures.split (omega arith)
          ∙ ap (λ lines. with_lines lines (line_cut c.args.max c.in-Some.more.now))
          (ap (λ line. map (λ l. l.items) c.loop-line.lines.items ++ line ∷ []) (sym c.in_ok-from_slice.ensures.items)
          ∙ sym (ap (map (λ l. l.items)) e ∙ map_push (λ l. l.items) c.loop-line.lines.items c.in_ok-from_slice.field-0));
      few = omega (arith, ap length e, length_push c.loop-line.lines.items c.in_ok-from_slice.field-0, length_after_split 10 c.loop-line.left.now c.in-Some.line.now c.in-Some.more.now c.in-Some.ensures.split, c.loop-line.invariant.few);
    }

pub returns-then-left-max-clause-cut : goal.returns-then-left-max-clause-cut
returns-then-left-max-clause-cut c =
    rw c.new-then-left-max.ensures.items (sym (cut_end_long c.args.max c.args.bytes.now c.loop-line.left.now _ c.loop-line.invariant.cut c.in_default.ensures.split c.if-left-max.true))

pub returns-clause-cut : goal.returns-clause-cut
returns-clause-cut c =
    rw c.in_ok-from_slice-2.ensures.items (sym (cut_end c.args.max c.args.bytes.now c.loop-line.left.now _ c.loop-line.invariant.cut c.in_default.ensures.split (omega arith)))
