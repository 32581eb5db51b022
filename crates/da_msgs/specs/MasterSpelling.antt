-- The lines that spell each message of a master, case by case.
use Rattle.std.specs.Prelude.{◌≡◌, ◌≤◌, false, List, ◌∷◌, length, Some, bytes_eq, codes, ◌==◌}
use Rattle.std.specs.List.{list_any}
use Rattle.da_base.specs.Words.{Bytes, number}
use Rattle.da_tabline.specs.Escapes.{line_fields}
use Rattle.da_msgs.specs.declared.master.MasterMsg.{MasterMsg}
use Rattle.da_msgs.specs.declared.master.MasterMsg.TheVariants.{Version, Request, Other}

-- the fields that spell a message
abbrev pub MasterFieldsSpell : List Bytes → MasterMsg → Type 0
MasterFieldsSpell fields (Version major minor) =
    (a b : Bytes) × (rest : List Bytes) × (fields ≡ codes "VERSION" ∷ a ∷ b ∷ rest) × (number a ≡ Some major) × (number b ≡ Some minor)
MasterFieldsSpell fields (Request id pid client cookie) =
    (a b c : Bytes) × (rest : List Bytes) × (fields ≡ codes "REQUEST" ∷ a ∷ b ∷ c ∷ cookie ∷ rest) × (number a ≡ Some id) × (number b ≡ Some pid)
    × (number c ≡ Some client)
MasterFieldsSpell fields Other =
    (word : Bytes) × (rest : List Bytes) × (fields ≡ word ∷ rest) × (bytes_eq word (codes "VERSION") ≡ false) × (bytes_eq word (codes "REQUEST") ≡ false)

-- the line spells the message: it has at most 8,192 bytes and no LF, and its fields do
pub record SpellsMaster (line : Bytes) (message : MasterMsg) : Type 0 where
  pub short : length line ≤ 8192
  pub no_end : list_any (λ c. c == 10) line ≡ false
  pub fields : MasterFieldsSpell (line_fields line) message
