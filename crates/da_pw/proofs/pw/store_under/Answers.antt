use Rattle.std.proofs.Common.{◌≤◌, length, refl, subst, ◌∙◌, inl, inr, arith}
use Rattle.da_base.specs.Words.{Bytes}
use Rattle.da_schemes.proofs.MadeTexts.{IsMade-made}
use Rattle.da_stream.specs.Output.{WrittenFront, WrittenWhole}
use Rattle.da_pw.specs.Pw.{IsNoPasswordLine}
use Rattle.da_pw.proofs.PwLemmas.{unwritten, was_given}
use Rattle.da_pw.proofs.pw.store_under.Goals as goal

pub returns-in-Long : goal.returns-in-Long
returns-in-Long g c = (inl c.in-Long.ensures, unwritten _ _ refl refl)

pub returns-in-ReadFault : goal.returns-in-ReadFault
returns-in-ReadFault g c = (c.in-ReadFault.ensures, unwritten _ _ refl refl)

pub returns-in-NoMemory : goal.returns-in-NoMemory
returns-in-NoMemory g c = (c.in-NoMemory.ensures, refl)

pub returns-in_default : goal.returns-in_default
returns-in_default g c = (
  inr (c.in-Whole.bytes.items, c.in-Whole.ensures, subst (λ (b : Bytes). IsNoPasswordLine b) c.deref.ensures.value c.in_default.ensures),
  unwritten _ _ refl refl,
)

pub returns-in_default-line_of : goal.returns-in_default-line_of
returns-in_default-line_of g c = (
  record {
    bytes = c.in-Whole.bytes.items;
    reads = c.in-Whole.ensures.reads;
    few = let short : length c.in-Whole.bytes.items ≤ 513 = c.in-Whole.ensures.short in omega arith;
  },
  refl,
)

pub returns-in-Ok-write_all : goal.returns-in-Ok-write_all
returns-in-Ok-write_all g c =
    record {
      given =
          was_given _ _ c.in-Whole.bytes.items c.deref.result.now c.in-Some.plain.now c.bytes-salt.result c.deref.ensures.value c.in-Some.ensures
          c.in-Whole.ensures c.bytes-salt.ensures c.line_of.ensures.salt.0 c.line_of.ensures.salt.1;
      writes =
          subst (λ (t : Bytes). WrittenWhole t (g.K.Sink.state c.args.output.now) (g.K.Sink.state c.write_all.new.sink)) (c.deref-2.ensures.value ∙ c.in-Ok.ensures.line)
          c.in-Ok-write_all.ensures;
      right = λ default. IsMade-made default c.args.scheme c.in-Some.plain.now c.bytes-salt.result c.line_of.ensures.salt.0 c.line_of.ensures.salt.1;
    }

pub returns : goal.returns
returns g c =
    record {
      given =
          was_given _ _ c.in-Whole.bytes.items c.deref.result.now c.in-Some.plain.now c.bytes-salt.result c.deref.ensures.value c.in-Some.ensures
          c.in-Whole.ensures c.bytes-salt.ensures c.line_of.ensures.salt.0 c.line_of.ensures.salt.1;
      front =
          subst (λ (t : Bytes). WrittenFront t (g.K.Sink.state c.args.output.now) (g.K.Sink.state c.write_all.new.sink)) (c.deref-2.ensures.value ∙ c.in-Ok.ensures.line)
          c.in-Err.ensures;
    }
