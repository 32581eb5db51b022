-- Reads of files, one after another.
use Rattle.std.proofs.Common.{◌≡◌, ℕ, ◌+◌, List, [], ◌++◌, length, Option, Some, None, refl, sym, ap, ◌∙◌, subst, arith, append-nil, append_assoc}
use Rattle.std.proofs.lemmas.List.{length-append}
use Rattle.std.proofs.lemmas.List.Elements.{filter-append}
use Rattle.da_outside.specs.declared.files.FileRead.{FileRead}
use Rattle.da_outside.specs.FileReads.{RoseBy, ReadsFiles, failed_reads}
use Rattle.da_outside.specs.Files.{FilesState}
use Rattle.da_outside.specs.Got.{is_fault}
use Rattle.da_outside.specs.Past.{Gains}

pub Gains-nil : {A : Type 0} (past : Option (List A)) → Gains past past []
Gains-nil None = tt
Gains-nil (Some past) = sym (append-nil past)

pub Gains-trans : {A : Type 0} (a b c : Option (List A)) (xs ys : List A) → Gains a b xs → Gains b c ys → Gains a c (xs ++ ys)
Gains-trans None b c xs ys one two = tt
Gains-trans (Some a) None c xs ys one two = absurd one
Gains-trans (Some a) (Some b) None xs ys one two = absurd two
Gains-trans (Some a) (Some b) (Some c) xs ys one two = two ∙ ap (λ l. l ++ ys) one ∙ append_assoc a xs ys

failed_reads-append : (xs ys : List FileRead) → length (failed_reads (xs ++ ys)) ≡ length (failed_reads xs) + length (failed_reads ys)
failed_reads-append xs ys =
    ap (λ (reads : List FileRead). length reads) (filter-append (λ (read : FileRead). is_fault read.got) xs ys)
    ∙ length-append (failed_reads xs) (failed_reads ys)

RoseBy-trans : (a b c m n : ℕ) → RoseBy a b m → RoseBy b c n → RoseBy a c (m + n)
RoseBy-trans a b c m n one two = omega arith

pub ReadsFiles-nil : (state : FilesState) → ReadsFiles state state []
ReadsFiles-nil state = record { held = refl; past = Gains-nil state.past; faults = omega arith }

pub ReadsFiles-trans : (a b c : FilesState) (xs ys : List FileRead) → ReadsFiles a b xs → ReadsFiles b c ys → ReadsFiles a c (xs ++ ys)
ReadsFiles-trans a b c xs ys one two =
    record {
      held = two.held ∙ one.held;
      past = Gains-trans a.past b.past c.past xs ys one.past two.past;
      faults =
          subst (RoseBy a.faults c.faults) (sym (failed_reads-append xs ys))
          (RoseBy-trans a.faults b.faults c.faults (length (failed_reads xs)) (length (failed_reads ys)) one.faults two.faults);
    }

-- no further read
pub ReadsFiles-kept : (a b c : FilesState) (xs : List FileRead) → ReadsFiles a b xs → ReadsFiles b c [] → ReadsFiles a c xs
ReadsFiles-kept a b c xs one none = subst (ReadsFiles a c) (append-nil xs) (ReadsFiles-trans a b c xs [] one none)
