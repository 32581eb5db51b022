use Rattle.std.proofs.Common.{string_bytes, Global, arith}
use Rattle.std.proofs.lemmas.Bool.Decides.{nat_tests}
use Rattle.da_command.proofs.ServeWordLemmas.{off_forms}
use Rattle.da_command.proofs.serve_words.task_of_serve.Goals.{in_default-via-then-words-lt2, in_default-via-else-words-lt2+else-words-lt3+then-words-lt4, in_default-via-else-words-lt2+else-words-lt3+else-words-lt4+else-words-lt5}
use Rattle.da_command.proofs.serve_words.task_of_serve.Goals as goal

pub returns-in_default : goal.returns-in_default
returns-in_default c =
    elim c.in_default.branch [
      | in_default-via-then-words-lt2 w ↦ off_forms (string_bytes {Z = Global}) c.args.words.now (λ two. grind (arith, nat_tests)) (λ four. grind (arith, nat_tests))
      | in_default-via-else-words-lt2+else-words-lt3+then-words-lt4 w ↦ off_forms (string_bytes {Z = Global}) c.args.words.now (λ two. grind (arith, nat_tests)) (λ four. grind (arith, nat_tests))
      | in_default-via-else-words-lt2+else-words-lt3+else-words-lt4+else-words-lt5 w ↦ off_forms (string_bytes {Z = Global}) c.args.words.now (λ two. grind (arith, nat_tests)) (λ four. grind (arith, nat_tests))
    ]
