-- A table of the document, and the values in it by their kinds.
use Rattle.std.specs.Prelude.{◌≡◌, ℕ, suc, ◌≤◌, length, ℤ, pos, negsuc, Bool, true, ◌&&◌, List, [], ◌∷◌, ◌++◌, Option, Some, None, option_map, option_and_then, is_some, Result, Ok, Err, if◌then◌else◌, nat_le, bytes_eq}
use Rattle.std.specs.List.{list_any}
use Rattle.toml.specs.Data.{Data, Items, no_items, item, Members, no_members, member, get_member, as_str, as_integer, as_bool, as_array, as_table}
use Rattle.toml.specs.View.{table_view, items_view}
use Rattle.toml.specs.declared.value.Value.{Value}
use Rattle.std.specs.Borrow.{Bor}
use Rattle.da_base.specs.Words.{Bytes, option_or_else}
use Rattle.da_config.specs.declared.fault.Fault.{Fault}
use Rattle.da_config.specs.declared.fault.FaultKind.TheVariants.{Unknown, Kind}
use Rattle.da_config.specs.declared.part.TomlTable as code
use Rattle.da_config.specs.Reading.{◌>>=◌, fault_at, in_range, passing}

-- a table, and how the places in it begin
pub record TomlTable : Type 0 where
  pub front : Bytes
  pub members : Members

-- the part that a value of the code stands for
abbrev pub part_of : code.TomlTable → TomlTable
part_of p = record { front = p.front.now; members = table_view p.table.now }

abbrev pub place : TomlTable → Bytes → Bytes
place part key = part.front ++ key

abbrev pub value_at : TomlTable → Bytes → Option Data
value_at part key = get_member key part.members

-- ---- unknown keys

-- the first key that isn't known; the keys of a table stand in the order of their bytes
abbrev pub unknown_key : List Bytes → Members → Option Bytes
unknown_key known no_members = None
unknown_key known (member key d members) =
    if list_any (bytes_eq key) known then unknown_key known members else Some key

abbrev pub known_at : TomlTable → Option Bytes → Result Members Fault
known_at part None = Ok part.members
known_at part (Some key) = Err (fault_at (place part key) Unknown)

-- the table, where all its keys are known
abbrev pub known_of : TomlTable → List Bytes → Result Members Fault
known_of part known = known_at part (unknown_key known part.members)

-- ---- integers, from low to high

abbrev pub natural_in : ℕ → ℕ → ℤ → Option ℕ
natural_in low high (pos n) = if nat_le low n && nat_le n high then Some n else None
natural_in low high (negsuc n) = None

abbrev pub number_in : Bytes → ℕ → ℕ → Option ℤ → Result ℕ Fault
number_in place low high None = Err (fault_at place Kind)
number_in place low high (Some z) = in_range place (natural_in low high z)

abbrev pub number_at : Bytes → ℕ → ℕ → ℕ → Option Data → Result ℕ Fault
number_at place low high default None = Ok default
number_at place low high default (Some d) = number_in place low high (as_integer d)

abbrev pub number_of : TomlTable → Bytes → ℕ → ℕ → ℕ → Result ℕ Fault
number_of part key low high default = number_at (place part key) low high default (value_at part key)

-- ---- values of one other kind

-- the value, or a kind fault where there is none
abbrev pub of_kind : {A : Type 0} → Bytes → Option A → Result A Fault
of_kind place (Some x) = Ok x
of_kind place None = Err (fault_at place Kind)

abbrev pub flag_at : Bytes → Bool → Option Data → Result Bool Fault
flag_at place default None = Ok default
flag_at place default (Some d) = of_kind place (as_bool d)

abbrev pub flag_of : TomlTable → Bytes → Bool → Result Bool Fault
flag_of part key default = flag_at (place part key) default (value_at part key)

abbrev pub text_at : Bytes → Bytes → Option Data → Result Bytes Fault
text_at place default None = Ok default
text_at place default (Some d) = of_kind place (as_str d)

abbrev pub text_of : TomlTable → Bytes → Bytes → Result Bytes Fault
text_of part key default = text_at (place part key) default (value_at part key)

-- a text that must be there
abbrev pub needed_at : Bytes → Option Data → Result Bytes Fault
needed_at place None = Err (fault_at place Kind)
needed_at place (Some d) = of_kind place (as_str d)

abbrev pub needed_of : TomlTable → Bytes → Result Bytes Fault
needed_of part key = needed_at (place part key) (value_at part key)

-- ---- arrays of texts

abbrev pub texts_with : Option Bytes → Option (List Bytes) → Option (List Bytes)
texts_with None texts = None
texts_with (Some text) texts = option_map (λ more. text ∷ more) texts

-- the texts of an array, where each item is one
abbrev pub texts_in : Items → Option (List Bytes)
texts_in no_items = Some []
texts_in (item d items) = texts_with (as_str d) (texts_in items)

abbrev pub texts_in_data : Bytes → Data → Result (List Bytes) Fault
texts_in_data place d = of_kind place (option_and_then texts_in (as_array d))

abbrev pub texts_at : Bytes → List Bytes → Option Data → Result (List Bytes) Fault
texts_at place default None = Ok default
texts_at place default (Some d) = texts_in_data place d

abbrev pub texts_of : TomlTable → Bytes → List Bytes → Result (List Bytes) Fault
texts_of part key default = texts_at (place part key) default (value_at part key)

-- ---- arrays of tables

abbrev pub are_tables : Items → Bool
are_tables no_items = true
are_tables (item d items) = is_some (as_table d) && are_tables items

abbrev pub count : Items → ℕ
count no_items = 0
count (item d items) = suc (count items)

-- the items, where each is a table
abbrev pub only_tables : Items → Option Items
only_tables items = if are_tables items then Some items else None

-- low to 16 items
abbrev pub are_few : ℕ → Items → Bool
are_few low items = nat_le low (count items) && nat_le (count items) 16

abbrev pub few_tables : Bytes → ℕ → Items → Result (Option Items) Fault
few_tables place low items = passing place (are_few low items) (Some items)

abbrev pub tables_in_data : Bytes → ℕ → Data → Result (Option Items) Fault
tables_in_data place low d = of_kind place (option_and_then only_tables (as_array d)) >>= few_tables place low

abbrev pub tables_at : Bytes → ℕ → Option Data → Result (Option Items) Fault
tables_at place low None = Ok None
tables_at place low (Some d) = tables_in_data place low d

abbrev pub tables_of : TomlTable → Bytes → ℕ → Result (Option Items) Fault
tables_of part key low = tables_at (place part key) low (value_at part key)

-- the tables among the items
abbrev pub tables_in : Items → List Members
tables_in no_items = []
tables_in (item d items) = option_or_else (as_table d) (tables_in items) (λ members. members ∷ tables_in items)

-- the values are that many tables, from low to 16
pub record AreTables (low : ℕ) (values : Bor (List Value)) : Type 0 where
  pub enough : low ≤ length values.now
  pub few : length values.now ≤ 16
  pub tables : are_tables (items_view values.now) ≡ true
