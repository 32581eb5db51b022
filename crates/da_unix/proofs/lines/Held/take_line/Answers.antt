use Rattle.std.proofs.Common.{ap, arith}
use Rattle.da_unix.proofs.HeldLemmas.{line_given, cut_before_end, cut_without_end}
use Rattle.da_unix.specs.declared.lines.Held.{Held}
use Rattle.da_unix.proofs.lines.Held.take_line.Goals.{in_default-via-in-Some+else-line-le-LONGEST_LINE, in_default-via-in_default}
use Rattle.da_unix.proofs.lines.Held.take_line.Goals as goal

pub returns-in_ok-line-in-Some : goal.returns-in_ok-line-in-Some
returns-in_ok-line-in-Some c =
    line_given c.args.self.now.bytes.items c.deref.result.now c.in-Some.line.now c.in-Some.field-0-1.now c.in_ok-line-in-Some.line.items c.let_go.new.bytes.items c.len.result
    c.deref.ensures.value c.in-Some.ensures.split c.if-line-le-LONGEST_LINE.true c.in_ok-line-in-Some.ensures.items (omega (arith, c.len.ensures, c.in_ok-line-in-Some.line.ok.0)) c.let_go.ensures

pub returns-in_default : goal.returns-in_default
returns-in_default c = elim c.in_default.branch [
  | in_default-via-in-Some+else-line-le-LONGEST_LINE w ↦
      cut_before_end c.args.self.now.bytes.items c.deref.result.now w.in-Some.line.now w.in-Some.field-0-1.now c.in_default.self.bytes.items c.let_go-in_default.new.bytes.items
      c.deref.ensures.value (ap (λ (h : Held). h.bytes.items) w.self-is) w.in-Some.ensures.split w.if-line-le-LONGEST_LINE.false c.let_go-in_default.ensures
  | in_default-via-in_default w ↦
      cut_without_end c.args.self.now.bytes.items c.deref.result.now c.in_default.self.bytes.items c.let_go-in_default.new.bytes.items
      c.deref.ensures.value (ap (λ (h : Held). h.bytes.items) w.self-is) w.in_default.ensures.split c.requires c.let_go-in_default.ensures
]
