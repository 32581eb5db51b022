use Rattle.std.proofs.Common.{◌≡◌, Some, Result, Ok, Err, refl, ap}
use Rattle.std.specs.Result.{result_ok}
use Rattle.std.proofs.lemmas.Option.{same_Some, none-some}
use Rattle.base64.specs.Engines.{url_safe_no_pad}
use Rattle.base64.specs.GeneralPurpose.{decode_of}
use Rattle.base64.proofs.EngineFacts.{decode_of_strict}
use Rattle.da_token.proofs.laws.a_part_has_one_spelling.Goals as goal

ok_from : {A E : Type 0} (r : Result A E) (x : A) → result_ok r ≡ Some x → r ≡ Ok x
ok_from (Ok y) x h = ap Ok (same_Some y x h)
ok_from (Err e) x h = absurd (none-some x h)

pub returns : goal.returns
returns c = λ text bytes are read. decode_of_strict url_safe_no_pad text bytes (refl, refl) are (ok_from (decode_of url_safe_no_pad text) bytes read)
