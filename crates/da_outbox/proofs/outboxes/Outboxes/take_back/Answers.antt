use Rattle.std.proofs.Common.{◌≡◌, ◌∙◌, ◌++◌, ◌+◌, ◌-◌, ◌==◌, ap, sym, cond, arith, length, take, get_or}
use Rattle.da_outbox.specs.Outboxes.{outbox, bytes_to}
use Rattle.std.proofs.lemmas.List.{append-nil}
use Rattle.da_outbox.proofs.Lines.{bytes_to-more, taken_back, line_to}
use Rattle.da_outbox.proofs.outboxes.Outboxes.take_back.Goals as goal

pub loop-left-preserved : goal.loop-left-preserved
loop-left-preserved c =
    let one : c.loop-left.left - 1 + 1 ≡ c.loop-left.left = omega (arith, c.loop-left-test.true) in
    let here : get_or c.args.lines.now (c.loop-left.left - 1) c.index-lines-left.result ≡ c.index-lines-left.result = cc in
    record {
      within = omega (arith, c.loop-left.invariant.within);
      so_far = λ front before k.
          taken_back (c.index-lines-left.result.0 == k) (front k) (bytes_to k (take (c.loop-left.left - 1) c.args.lines.now)) c.index-lines-left.result.1 _ _
          (c.loop-left.invariant.so_far front before k
          ∙ ap (λ n. front k ++ bytes_to k (take n c.args.lines.now)) (sym one)
          ∙ ap (λ x. front k ++ x) (bytes_to-more k c.args.lines.now (c.loop-left.left - 1) c.index-lines-left.result (omega (arith, c.loop-left.invariant.within, c.loop-left-test.true)))
          ∙ ap (λ x. front k ++ (bytes_to k (take (c.loop-left.left - 1) c.args.lines.now) ++ line_to k x)) here)
          (c.take_line_back.ensures k
          ∙ ap (λ t. cond (c.index-lines-left.result.0 == k) (take (length (outbox c.loop-left.self k) - (length t + 1)) (outbox c.loop-left.self k)) (outbox c.loop-left.self k)) c.bytes.ensures);
    }

pub returns : goal.returns
returns c =
    let none : c.loop-left.left ≡ 0 = omega (arith, c.loop-left-test.false) in
    λ front before k. c.loop-left.invariant.so_far front before k ∙ ap (λ n. front k ++ bytes_to k (take n c.args.lines.now)) none ∙ append-nil (front k)
