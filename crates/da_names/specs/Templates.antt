-- Templates: texts in which a percent sign begins a variable.
use Rattle.std.specs.Prelude.{ℕ, Bool, true, false, ◌&&◌, ◌||◌, not, List, [], ◌∷◌, ◌++◌, map, if◌then◌else◌, ◌==◌}
use Rattle.da_base.specs.Words.{Bytes, before_byte, after_byte, option_or_else, is_empty}
use Rattle.da_names.specs.declared.variables.Vars.{Vars}

-- the letters of the variables: u, n, d, s, r, l, and the percent sign itself
abbrev pub is_variable : ℕ → Bool
is_variable c = (c == 117) || (c == 110) || (c == 100) || (c == 115) || (c == 114) || (c == 108) || (c == 37)

abbrev pub is_template : Bool → Bytes → Bool
is_template percent [] = not percent
is_template true (c ∷ cs) = is_variable c && is_template false cs
is_template false (c ∷ cs) = is_template (c == 37) cs

-- each percent sign begins a variable
abbrev pub template_ok : Bytes → Bool
template_ok template = is_template false template

-- a field whose value is a template, with a key that isn't empty
abbrev pub is_template_field : Bytes × Bytes → Bool
is_template_field p = not (is_empty p.0) && template_ok p.1

-- what a variable stands for
abbrev pub variable : Vars → ℕ → Bytes
variable v c =
    if c == 117 then v.user
    else if c == 110 then before_byte 64 v.user
    else if c == 100 then option_or_else (after_byte 64 v.user) [] (λ d. d)
    else if c == 115 then v.service
    else if c == 114 then v.rip
    else if c == 108 then v.lip
    else c ∷ []

abbrev pub expanded_byte : Vars → Bool → ℕ → Bytes
expanded_byte v true c = variable v c
expanded_byte v false c = if c == 37 then [] else c ∷ []

abbrev pub expanded : Vars → Bool → Bytes → Bytes
expanded v percent [] = []
expanded v percent (c ∷ cs) = expanded_byte v percent c ++ expanded v (not percent && (c == 37)) cs

-- the template with each variable replaced by what it stands for
abbrev pub expand : Vars → Bytes → Bytes
expand v template = expanded v false template

-- the values of fields, each a template
abbrev pub expand_fields : Vars → List (Bytes × Bytes) → List (Bytes × Bytes)
expand_fields v = map (λ p. (p.0, expand v p.1))
