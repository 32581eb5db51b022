-- A stored password and the plaintext that is held against it.
use Rattle.da_base.specs.Words.{Bytes}
use Rattle.da_schemes.specs.Stored.{StoredPassword}

pub record Held : Type 0 where
  pub stored : StoredPassword
  pub plain : Bytes
