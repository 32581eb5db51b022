use Rattle.std.proofs.Common.{refl}
use Rattle.da_worker.proofs.AnsweredLemmas.{wants, whole, front}
use Rattle.da_worker.proofs.answering.answer.Goals as goal

pub returns-in_default-reading_text : goal.returns-in_default-reading_text
returns-in_default-reading_text g c = wants _ _ _ _ c.in-Ok.reading c.in-Ok.ensures _ _ refl

pub returns-in-Ok-write_all : goal.returns-in-Ok-write_all
returns-in-Ok-write_all g c =
    whole _ _ _ _ c.in-Ok.reading c.in-Ok.ensures _ _ c.deref.result.now c.in-Ok-reading_text.text.items c.deref.ensures.value
    c.in-Ok-reading_text.ensures c.in-Ok-write_all.ensures

pub returns : goal.returns
returns g c =
    front _ _ _ _ c.in-Ok.reading c.in-Ok.ensures _ _ c.deref.result.now c.in-Ok-reading_text.text.items c.deref.ensures.value
    c.in-Ok-reading_text.ensures c.in-Err.ensures
