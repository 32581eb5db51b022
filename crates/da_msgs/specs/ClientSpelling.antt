-- The lines that spell each message of a client, case by case.
use Rattle.std.specs.Prelude.{◌≡◌, ◌≤◌, true, false, List, [], ◌∷◌, ◌++◌, length, map, Option, Some, None, bytes_eq, codes, is_some, ◌==◌}
use Rattle.std.specs.List.{AllByRecursion, list_any}
use Rattle.da_base.specs.Words.{Bytes, after_front, is_empty, number}
use Rattle.da_tabline.specs.Escapes.{line_fields}
use Rattle.da_fields.specs.FieldList.{Pairs, field, with_fields, text_key, text_value}
use Rattle.da_msgs.specs.declared.client.ClientMsg.{ClientMsg}
use Rattle.da_msgs.specs.declared.client.ClientMsg.TheVariants.{Version, Pid, Auth, Cont, Cancel, Other}

-- it has a name, and doesn't begin with resp=
abbrev pub IsParameter : Bytes → Type 0
IsParameter p = (after_front (codes "resp=") p ≡ None) × (is_empty (text_key p) ≡ false)

-- the name and the value of each, of equal names the last
abbrev pub parameter_pairs : Pairs → List Bytes → Pairs
parameter_pairs found ps = with_fields found (map (λ p. (text_key p, text_value p)) ps)

-- the fields are parameters; or parameters, resp= with this text, and anything
abbrev pub AreParameters : Pairs → List Bytes → Pairs → Option Bytes → Type 0
AreParameters found fields params None = AllByRecursion IsParameter fields × (parameter_pairs found fields ≡ params)
AreParameters found fields params (Some text) =
    (before after : List Bytes) × (fields ≡ before ++ (codes "resp=" ++ text) ∷ after) × AllByRecursion IsParameter before × (parameter_pairs found before ≡ params)

-- the word is no command of a client
abbrev pub IsOther : Bytes → Type 0
IsOther word =
    (bytes_eq word (codes "VERSION") ≡ false) × (bytes_eq word (codes "CPID") ≡ false) × (bytes_eq word (codes "AUTH") ≡ false)
    × (bytes_eq word (codes "CONT") ≡ false) × (bytes_eq word (codes "CANCEL") ≡ false)

-- the fields that spell a message
abbrev pub FieldsSpell : List Bytes → ClientMsg → Type 0
FieldsSpell fields (Version major minor) =
    (a b : Bytes) × (rest : List Bytes) × (fields ≡ codes "VERSION" ∷ a ∷ b ∷ rest) × (number a ≡ Some major) × (number b ≡ Some minor)
FieldsSpell fields (Pid pid) = (a : Bytes) × (fields ≡ codes "CPID" ∷ a ∷ []) × (number a ≡ Some pid)
FieldsSpell fields (Auth id mech params resp) =
    (a : Bytes) × (rest : List Bytes) × (fields ≡ codes "AUTH" ∷ a ∷ mech ∷ rest) × (number a ≡ Some id) × AreParameters [] rest params resp
    × (is_some (field (codes "service") params) ≡ true) × (is_empty mech ≡ false)
FieldsSpell fields (Cont id text) = (a : Bytes) × (fields ≡ codes "CONT" ∷ a ∷ text ∷ []) × (number a ≡ Some id)
FieldsSpell fields (Cancel id) = (a : Bytes) × (fields ≡ codes "CANCEL" ∷ a ∷ []) × (number a ≡ Some id)
FieldsSpell fields Other = (word : Bytes) × (rest : List Bytes) × (fields ≡ word ∷ rest) × IsOther word

-- the line spells the message: it has at most 8,192 bytes and no LF, and its fields do
pub record SpellsClient (line : Bytes) (message : ClientMsg) : Type 0 where
  pub short : length line ≤ 8192
  pub no_end : list_any (λ c. c == 10) line ≡ false
  pub fields : FieldsSpell (line_fields line) message
