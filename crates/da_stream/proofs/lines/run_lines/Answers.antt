use Rattle.std.proofs.Common.{◌∷◌, sym, ap, ◌∙◌, arith}
use Rattle.da_base.specs.Words.{Bytes}
use Rattle.da_tabline.specs.Lines.{Cutter}
use Rattle.da_stream.proofs.Running.{running_fed, running_taken, idle, few, ends_much, ends_unfed}
use Rattle.da_stream.proofs.lines.run_lines.Goals as goal

pub overflow_add-number : goal.overflow_add-number
overflow_add-number g c = omega (arith, few c.lines.invariant.run)

pub lines-preserved : goal.lines-preserved
lines-preserved g c =
    record {
      run =
          running_taken c.lines.invariant.run c.take.new.self c.next.new.self c.deref.result.now
          (c.in-Some.ensures.line ∙ ap (λ (line : Bytes). line ∷ c.next.new.self.ready) (sym c.deref.ensures.value))
          c.in-Some.ensures.after c.in_default-take.ensures.does;
      long = c.lines.invariant.long ∙ sym (ap (λ (l : Cutter). l.is_long) c.in-Some.ensures.after);
      same = g.met.H.LineHandler.same_further _ _ _ c.lines.invariant.same c.take.ensures.same;
    }

pub read-preserved : goal.read-preserved
read-preserved g c =
    let at = idle c.lines.invariant.run c.next.new.self c.in_default.ensures.line c.in_default.ensures.after in
    record {
      run = running_fed at.0 _ _ _ _ c.in-Fed.ensures;
      long = c.in-Fed.ensures.long;
      same = c.lines.invariant.same;
    }

pub returns-in-Much-clause-runs : goal.returns-in-Much-clause-runs
returns-in-Much-clause-runs g c =
    let at = idle c.lines.invariant.run c.next.new.self c.in_default.ensures.line c.in_default.ensures.after in
    ends_much at.0 _ _ at.1 (at.2 ∙ sym c.lines.invariant.long ∙ c.if-is_long.false) c.in-Much.ensures.0 c.in-Much.ensures.1

pub returns-in-NoMemory-clause-runs : goal.returns-in-NoMemory-clause-runs
returns-in-NoMemory-clause-runs g c =
    let at = idle c.lines.invariant.run c.next.new.self c.in_default.ensures.line c.in_default.ensures.after in
    ends_unfed at.0 _ _ c.in-NoMemory.ensures
