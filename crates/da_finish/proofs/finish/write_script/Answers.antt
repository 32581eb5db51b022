use Rattle.std.proofs.Common.{◌+◌, List, arith, reverse, subst, sym, take}
use Rattle.std.proofs.lemmas.List.{take_all}
use Rattle.da_base.specs.Words.{Bytes}
use Rattle.da_play.specs.declared.input.Entry.{Entry}
use Rattle.da_script.specs.Scripts.{script}
use Rattle.da_finish.specs.Bridges.{WritesScript}
use Rattle.da_stream.specs.Output.{Begins}
use Rattle.da_finish.proofs.PrintLemmas.{Printing, front_further, printing_ends, printing_fault, printing_more, printing_part, script_of_front}
use Rattle.da_finish.proofs.finish.write_script.Goals as goal

pub returns-in_default : goal.returns-in_default
returns-in_default g c =
    printing_part (g.K.Sink.state c.args.output.now) (reverse (take c.loop-entry.entry-index c.args.entries.now)) c.loop-entry.text.items
    (g.K.Sink.state c.loop-entry.output) c.loop-entry.invariant (script (reverse c.args.entries.now)) (script_of_front c.args.entries.now c.loop-entry.entry-index)

pub returns-in_default-write_ahead : goal.returns-in_default-write_ahead
returns-in_default-write_ahead g c =
    let further = front_further c.args.entries.now c.loop-entry.entry-index c.entry-item.result (omega (arith, c.loop-entry-test.true, c.loop-entry.auto.entry-index-end)) (cc) in
    printing_fault (g.K.Sink.state c.args.output.now) (reverse (take c.loop-entry.entry-index c.args.entries.now)) c.loop-entry.text.items
    (g.K.Sink.state c.loop-entry.output) c.loop-entry.invariant c.entry-item.result c.push_entry.new.text.items (script (reverse c.args.entries.now))
    (g.K.Sink.state c.write_ahead.new.output) c.in-Ok.ensures
    (subst (λ h. Begins (script h) (script (reverse c.args.entries.now))) further (script_of_front c.args.entries.now (c.loop-entry.entry-index + 1)))
    c.in_default-write_ahead.ensures

pub loop-entry-preserved : goal.loop-entry-preserved
loop-entry-preserved g c =
    let further = front_further c.args.entries.now c.loop-entry.entry-index c.entry-item.result (omega (arith, c.loop-entry-test.true, c.loop-entry.auto.entry-index-end)) (cc) in
    subst (λ h. Printing h c.write_ahead.new.text.items (g.K.Sink.state c.args.output.now) (g.K.Sink.state c.write_ahead.new.output)) (sym further)
    (printing_more (g.K.Sink.state c.args.output.now) (reverse (take c.loop-entry.entry-index c.args.entries.now)) c.loop-entry.text.items
    (g.K.Sink.state c.loop-entry.output) c.loop-entry.invariant c.entry-item.result c.push_entry.new.text.items c.write_ahead.new.text.items
    c.in-Ok-write_ahead.ensures.0 (g.K.Sink.state c.write_ahead.new.output) c.in-Ok.ensures c.in-Ok-write_ahead.ensures.1 c.in-Ok-write_ahead.ensures.2)

pub returns : goal.returns
returns g c =
    subst (λ (es : List Entry). WritesScript (script (reverse es)) (g.K.Sink.state c.args.output.now) (g.K.Sink.state c.write_rest.new.output) c.write_rest.result)
    (take_all c.loop-entry.entry-index c.args.entries.now (omega (arith, c.loop-entry-test.false, c.loop-entry.auto.entry-index-end)))
    (printing_ends (g.K.Sink.state c.args.output.now) (reverse (take c.loop-entry.entry-index c.args.entries.now)) c.loop-entry.text.items
    (g.K.Sink.state c.loop-entry.output) c.loop-entry.invariant (g.K.Sink.state c.write_rest.new.output) c.write_rest.result
    (subst (λ (t : Bytes). WritesScript t (g.K.Sink.state c.loop-entry.output) (g.K.Sink.state c.write_rest.new.output) c.write_rest.result) c.deref.ensures.value c.write_rest.ensures))
