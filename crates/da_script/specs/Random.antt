-- Sixteen random bytes as they stand in a script.
use Rattle.std.specs.Prelude.{◌≡◌, length, replicate, Option, Some, None, if◌then◌else◌, option_and_then, bytes_eq, codes}
use Rattle.std.specs.Char.{is_ascii_uppercase}
use Rattle.std.specs.List.{list_any}
use Rattle.std.specs.Result.{result_ok}
use Rattle.da_base.specs.Words.{Bytes}
use Rattle.hex.specs.Hex.{decode_sized, encode_lower, IsBytes}

-- sixteen bytes
abbrev pub AreRandom : Bytes → Type 0
AreRandom random = (length random ≡ 16) × IsBytes random

abbrev pub no_random : Bytes
no_random = replicate 16 0

abbrev pub unless_zero : Bytes → Option Bytes
unless_zero random = if bytes_eq random no_random then None else Some random

-- sixteen bytes in lower-case hexadecimal digits, that aren't all 0
abbrev pub digits_of : Bytes → Option Bytes
digits_of text = if list_any is_ascii_uppercase text then None else option_and_then unless_zero (result_ok (decode_sized text 16))

-- `-` stands for sixteen zero bytes, and other bytes stand in digits
abbrev pub random_of : Bytes → Option Bytes
random_of text = if bytes_eq text (codes "-") then Some no_random else digits_of text

abbrev pub random_text : Bytes → Bytes
random_text random = if bytes_eq random no_random then codes "-" else encode_lower random
