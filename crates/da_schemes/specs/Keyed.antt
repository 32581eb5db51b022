-- What the two states of a keyed digest hold.
use Rattle.sha2.specs.Hashers.{Holds256}
use Rattle.da_base.specs.Words.{Bytes}
use Rattle.da_schemes.specs.Hmac.{xor_each}
use Rattle.da_schemes.specs.declared.hmac.Keyed.{Keyed}

-- the states hold the block of a key XOR ipad and XOR opad (RFC 2104, section 2)
pub record IsKeyed (keyed : Keyed) (block : Bytes) : Type 0 where
  pub inner : Holds256 keyed.inner (xor_each block 0x36)
  pub outer : Holds256 keyed.outer (xor_each block 0x5C)
