-- The JSON values in a token (RFC 8259; RFC 7515, section 2), over what `serde_json` reads: of a member that occurs twice
-- the last one stands.
use Rattle.std.specs.Prelude.{◌≡◌, ℕ, ◌≤◌, Option, Some, None, option_and_then, if◌then◌else◌, nat_le}
use Rattle.std.specs.Str.{is_utf8}
use Rattle.std.specs.Result.{result_ok}
use Rattle.base64.specs.Engines.{url_safe_no_pad}
use Rattle.base64.specs.GeneralPurpose.{decode_of}
use Rattle.serde_json.specs.Data.{Data, number, unsigned, string}
use Rattle.serde_json.specs.Read.{read}
use Rattle.serde_json.specs.Find.{as_number, as_str, as_u64}
use Rattle.da_base.specs.Words.{Bytes}

-- the bytes that a strict encoding in base64url without padding stands for (RFC 4648, section 5; RFC 7515, section 2)
abbrev pub from_base64url : Bytes → Option Bytes
from_base64url text = result_ok (decode_of url_safe_no_pad text)

-- the value that a JSON text in UTF-8 has
abbrev pub json_of : Bytes → Option Data
json_of text = if is_utf8 text then read text else None

-- the value that a part of a token has
abbrev pub json_in : Bytes → Option Data
json_in part = option_and_then json_of (from_base64url part)

-- ---- members

-- the latest second after 1970-01-01 whose milliseconds fit 64 bits
abbrev pub last_second : ℕ
last_second = 18446744073709551

-- a member is this text, or it isn't there and the text is this default
abbrev pub IsTextOr : Bytes → Option Data → Bytes → Type 0
IsTextOr default None text = text ≡ default
IsTextOr default (Some value) text = value ≡ string text

-- a value is this whole number of seconds (RFC 7519, section 2: NumericDate), without fraction and exponent
abbrev pub IsSeconds : Data → ℕ → Type 0
IsSeconds value seconds = (value ≡ number (unsigned seconds)) × (seconds ≤ last_second)

-- a member is this number of seconds, or it isn't there and the number is this default
abbrev pub IsSecondsOr : ℕ → Option Data → ℕ → Type 0
IsSecondsOr default None seconds = seconds ≡ default
IsSecondsOr default (Some value) seconds = IsSeconds value seconds

-- ---- the same, computed

abbrev pub text_or : Bytes → Option Data → Option Bytes
text_or default None = Some default
text_or default (Some value) = as_str value

abbrev pub second_within : ℕ → Option ℕ
second_within seconds = if nat_le seconds last_second then Some seconds else None

abbrev pub seconds_of : Data → Option ℕ
seconds_of value = option_and_then second_within (option_and_then as_u64 (as_number value))

abbrev pub seconds_or : ℕ → Option Data → Option ℕ
seconds_or default None = Some default
seconds_or default (Some value) = seconds_of value
