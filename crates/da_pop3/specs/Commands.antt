-- The texts of a client's lines (RFC 1939, sections 4 and 7; RFC 5034, section 4).
use Rattle.std.specs.Prelude.{ℕ, Bool, ◌&&◌, ◌||◌, not, [], map, if◌then◌else◌, ◌==◌, bytes_eq, codes}
use Rattle.std.specs.Char.{is_ascii_alphanumeric}
use Rattle.std.specs.List.{list_all, list_any}
use Rattle.da_base.specs.Words.{Bytes, is_empty, upper}

-- the text is this word, without regard to case
abbrev pub is_word : Bytes → Bytes → Bool
is_word text word = bytes_eq (map upper text) word

-- what may follow a command's space: some bytes, and no NUL
abbrev pub is_argument : Bytes → Bool
is_argument text = not (is_empty text) && not (list_any (λ c. c == 0) text)

-- a letter, a digit, `-` or `_`
abbrev pub is_mechanism_byte : ℕ → Bool
is_mechanism_byte c = is_ascii_alphanumeric c || (c == 45) || (c == 95)

-- the name of a mechanism
abbrev pub is_mechanism : Bytes → Bool
is_mechanism name = not (is_empty name) && list_all is_mechanism_byte name

-- a letter of base64 (RFC 4648, section 4), or `=`
abbrev pub is_base64_byte : ℕ → Bool
is_base64_byte c = is_ascii_alphanumeric c || (c == 43) || (c == 47) || (c == 61)

abbrev pub is_base64 : Bytes → Bool
is_base64 text = list_all is_base64_byte text

-- a first message, which isn't left empty
abbrev pub is_first_message : Bytes → Bool
is_first_message text = not (is_empty text) && is_base64 text

-- `=` stands for the empty message (RFC 5034, section 4)
abbrev pub first_message : Bytes → Bytes
first_message text = if bytes_eq text (codes "=") then [] else text
