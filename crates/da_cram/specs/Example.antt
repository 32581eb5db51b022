-- The example of RFC 2195, section 2.
use Rattle.std.specs.Prelude.{List, [], ◌∷◌, codes}
use Rattle.da_base.specs.Words.{Bytes}
use Rattle.da_schemes.specs.Stored.{StoredPassword}
use Rattle.da_schemes.specs.declared.scheme.Scheme.TheVariants.{Plain}
use Rattle.da_schemes.specs.declared.secret.Secret.TheVariants.{Plaintext}

abbrev pub example_challenge : Bytes
example_challenge = codes "<1896.697170952@postoffice.reston.mci.net>"

abbrev pub example_messages : List Bytes
example_messages = codes "tim b913a602c7eda7a495b4e6e7334d3890" ∷ []

-- the same with a capital letter among the digits
abbrev pub messages_in_capitals : List Bytes
messages_in_capitals = codes "tim B913a602c7eda7a495b4e6e7334d3890" ∷ []

abbrev pub example_password : StoredPassword
example_password = record { scheme = Plain; secret = Plaintext (codes "tanstaaftanstaaf") }
