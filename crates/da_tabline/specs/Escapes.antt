-- Escapes: how the bytes 0x00, 0x01, TAB, CR and LF stand in a field, and lines of fields.
use Rattle.std.specs.Prelude.{ℕ, Bool, true, false, List, map, [], ◌∷◌, ◌++◌, if◌then◌else◌, ◌==◌}
use Rattle.da_base.specs.Words.{Bytes, pieces}

abbrev pub letter : ℕ → ℕ
letter c = if c == 48 then 0 else if c == 49 then 1 else if c == 116 then 9 else if c == 114 then 13 else if c == 110 then 10 else c

abbrev pub kept : Bool → ℕ → Bytes → Bytes
kept true c rest = rest
kept false c rest = c ∷ rest

-- what stands for the bytes; after a 0x01 a letter stands for its byte
abbrev pub unescaped : Bool → Bytes → Bytes
unescaped escaped [] = []
unescaped true (c ∷ cs) = letter c ∷ unescaped false cs
unescaped false (c ∷ cs) = kept (c == 1) c (unescaped (c == 1) cs)

abbrev pub unescape : Bytes → Bytes
unescape field = unescaped false field

abbrev pub escaped_byte : ℕ → Bytes
escaped_byte c =
    if c == 0 then 1 ∷ 48 ∷ [] else if c == 1 then 1 ∷ 49 ∷ [] else if c == 9 then 1 ∷ 116 ∷ []
    else if c == 13 then 1 ∷ 114 ∷ [] else if c == 10 then 1 ∷ 110 ∷ [] else c ∷ []

abbrev pub escape : Bytes → Bytes
escape [] = []
escape (c ∷ cs) = escaped_byte c ++ escape cs

-- ---- lines of fields

-- the fields of a line: it is cut at TAB, and then each piece is read
abbrev pub line_fields : Bytes → List Bytes
line_fields line = map unescape (pieces 9 line)

-- the line of these fields, with TABs between them
abbrev pub spelled : List Bytes → Bytes
spelled [] = []
spelled (f ∷ []) = escape f
spelled (f ∷ g ∷ fs) = escape f ++ (9 ∷ spelled (g ∷ fs))
