-- One step of a loop over a list.
use Rattle.std.proofs.Common.{◌≡◌, ℕ, ◌+◌, ◌<◌, false, List, [], ◌∷◌, ◌++◌, drop, get_or, length, Some, sym, ap, ◌∙◌}
use Rattle.std.specs.Prelude.{is_some}
use Rattle.std.proofs.lemmas.List.{drop_more}
use Rattle.toml.specs.Data.{Data, Items, item, as_str}
use Rattle.toml.specs.View.{view, items_view}
use Rattle.toml.specs.declared.value.Value.{Value}
use Rattle.da_base.specs.Words.{Bytes}
use Rattle.da_fields.specs.FieldList.{Pairs, field, with_field}
use Rattle.da_msgs.specs.declared.kinds.Mech.{Mech}
use Rattle.da_config.specs.Parts.{texts_in}
use Rattle.da_config.specs.Choices.{mechanism_called}
use Rattle.da_config.specs.Mechanisms.{mechanisms_called}
use Rattle.da_config.specs.Databases.{IsFieldOf, fields_after}
use Rattle.da_config.proofs.Prepending.{prepended, prepended-cons}

-- the item at i, and those after it
pub drop-item : {X : Type 0} (xs : List X) (i : ℕ) (x : X) → i < length xs → x ≡ get_or xs i x → drop i xs ≡ x ∷ drop (i + 1) xs
drop-item xs i x within is = drop_more xs i x within ∙ ap (λ y. y ∷ drop (i + 1) xs) (sym is)

pub view-item : (values : List Value) (i : ℕ) (value : Value) → i < length values → value ≡ get_or values i value
    → items_view (drop i values) ≡ item (view value) (items_view (drop (i + 1) values))
view-item values i value within is = ap (λ vs. items_view vs) (drop-item values i value within is)

-- a text that writes a field under a new key
pub fields_after-next : (fields : Pairs) (text key value : Bytes) (texts : List Bytes) → IsFieldOf text key value → is_some (field key fields) ≡ false
    → fields_after fields (text ∷ texts) ≡ fields_after (with_field key value fields) texts
fields_after-next fields text key value texts spelled lacks = rw (spelled.is_text, spelled.key_is, spelled.value_is, lacks)

-- a value that is a text
pub texts_in-next : (front : List Bytes) (d : Data) (text : Bytes) (items : Items) → as_str d ≡ Some text
    → prepended front (texts_in (item d items)) ≡ prepended (front ++ text ∷ []) (texts_in items)
texts_in-next front d text items is = rw is (prepended-cons front text (texts_in items))

-- a name of a mechanism
pub mechanisms_called-next : (front : List Mech) (name : Bytes) (mech : Mech) (names : List Bytes) → mechanism_called name ≡ Some mech
    → prepended front (mechanisms_called (name ∷ names)) ≡ prepended (front ++ mech ∷ []) (mechanisms_called names)
mechanisms_called-next front name mech names is = rw is (prepended-cons front mech (mechanisms_called names))
