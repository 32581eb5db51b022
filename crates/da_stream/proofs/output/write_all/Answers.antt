use Rattle.std.proofs.Common.{◌≡◌, ℕ, ◌-◌, List, ◌++◌, length, take, drop, sym, ap, ◌∙◌, append_assoc, arith}
use Rattle.std.proofs.lemmas.List.{take-append-drop, take_rest}
use Rattle.std.proofs.KnownBytes.{Appends-trans}
use Rattle.da_stream.proofs.output.write_all.Goals as goal

-- n bytes more of the rest
split_more : (text front rest : List ℕ) (n : ℕ) → text ≡ front ++ rest → text ≡ (front ++ take n rest) ++ take (length rest - n) (drop n rest)
split_more text front rest n e =
    e ∙ ap (λ r. front ++ r) (sym (take-append-drop n rest)) ∙ sym (append_assoc front (take n rest) (drop n rest))
    ∙ ap (λ r. (front ++ take n rest) ++ r) (sym (take_rest rest n))

pub loop-rest-preserved : goal.loop-rest-preserved
loop-rest-preserved g c =
    let so_far = c.loop-rest.invariant.written in
    let rest = c.loop-rest.rest.now in
    let count = c.in_ok-count.count in
    record {
      written = (so_far.0 ++ take count rest, split_more c.args.text.now so_far.0 rest count so_far.1, Appends-trans _ _ _ so_far.0 (take count rest) so_far.2 c.in_ok-count.ensures.bytes);
      later = omega (arith, c.loop-rest.invariant.later, c.write.ensures.cause.later);
    }
