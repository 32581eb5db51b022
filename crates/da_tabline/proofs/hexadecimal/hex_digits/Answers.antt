use Rattle.std.proofs.Common.{ap, ◌∙◌, arith}
use Rattle.da_tabline.proofs.HexDigits.{encode_lower-hex}
use Rattle.da_tabline.proofs.hexadecimal.hex_digits.Goals as goal

pub returns : goal.returns
returns c = ap (λ v. v.items) c.into_bytes.ensures.value ∙ c.in_ok-encode.ensures {u = tt} ∙ encode_lower-hex c.args.bytes.now (λ i. let fits = c.type_inv.bytes i in omega arith)
