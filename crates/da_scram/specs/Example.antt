-- The example of RFC 7677, section 3, with the keys of its password `pencil`.
use Rattle.std.specs.Prelude.{List, [], ◌∷◌, Option, codes}
use Rattle.da_base.specs.Words.{Bytes}
use Rattle.da_schemes.specs.Stored.{StoredPassword, stored_password}
use Rattle.da_schemes.specs.declared.scheme.Scheme.TheVariants.{Plain}

abbrev pub example_nonce : Bytes
example_nonce = codes "%hvYDpWUa2RaTCAfuxFIlj)hNlF$k0"

abbrev pub example_first : Bytes
example_first = codes "n,,n=user,r=rOprNGfwEbeRWgbNEkqO"

abbrev pub example_challenge : Bytes
example_challenge = codes "r=rOprNGfwEbeRWgbNEkqO%hvYDpWUa2RaTCAfuxFIlj)hNlF$k0,s=W22ZaJ0SNY7soEsUEjb6gQ==,i=4096"

abbrev pub example_last : Bytes
example_last = codes "c=biws,r=rOprNGfwEbeRWgbNEkqO%hvYDpWUa2RaTCAfuxFIlj)hNlF$k0,p=dHzbZapWIk4jUhN+Ute9ytag9zjfMHgsqmmiz7AndVQ="

abbrev pub example_server_final : Bytes
example_server_final = codes "v=6rriTRBi23WpRR/wtup+mMhUZUn/dB5nLTJRsjl95G4="

abbrev pub example_keys : Option StoredPassword
example_keys =
    stored_password Plain
    (codes "{SCRAM-SHA-256}4096,W22ZaJ0SNY7soEsUEjb6gQ==,WG5d8oPm3OtcPnkdi4Uo7BkeZkBFzpcXkuLmtbsT4qY=,wfPLwcE6nTWhTAmQ7tl2KeoiWGPlZqQxSrmfPwDl2dU=")
