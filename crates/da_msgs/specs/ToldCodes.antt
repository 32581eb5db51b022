-- Which codes the line of a failure tells.
use Rattle.std.specs.Prelude.{◌≡◌, ℕ, Bool, List, ◌++◌, drop, filter, Option, option_map, option_to_list, codes}
use Rattle.da_base.specs.Words.{Bytes, begins_with}
use Rattle.da_tabline.specs.Escapes.{line_fields}
use Rattle.da_msgs.specs.Replies.{code_word, reply_line}
use Rattle.da_msgs.specs.declared.client.Reply.TheVariants.{Fail as Failed}
use Rattle.da_msgs.specs.declared.code.Code.{Code}

abbrev pub tells_code : Bytes → Bool
tells_code field = begins_with (codes "code=") field

-- the fields that tell a code, after the word and the id
abbrev pub told_codes : Bytes → List Bytes
told_codes line = filter tells_code (drop 2 (line_fields line))

abbrev pub code_field : Code → Bytes
code_field code = codes "code=" ++ code_word code

-- a failure with a code tells that one and no other, whatever its user and its reason are, and one without a code none
abbrev pub TellsItsCode : Type 0
TellsItsCode =
    (id : ℕ) (user : Option Bytes) (authz temp disabled : Bool) (code : Option Code) (reason : Option Bytes) →
    told_codes (reply_line (Failed id user authz temp disabled code reason)) ≡ option_to_list (option_map code_field code)
