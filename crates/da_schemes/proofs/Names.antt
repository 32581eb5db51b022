-- A scheme's name is read in any case.
use Rattle.std.proofs.Common.{◌≡◌, Some, map, refl}
use Rattle.std.specs.Prelude.{find, bytes_eq}
use Rattle.std.specs.Char.{to_ascii_lowercase}
use Rattle.da_base.specs.Words.{Bytes}
use Rattle.da_schemes.specs.Scheme.{scheme_name, schemes, scheme_named}
use Rattle.da_schemes.specs.declared.scheme.Scheme.{Scheme}
use Rattle.da_schemes.specs.declared.scheme.Scheme.TheVariants.{Plain, Clear, Cleartext, PlainMd5, LdapMd5, Sha, Sha256, Sha512, Smd5, Ssha, Ssha256, Ssha512, ScramSha256}

abbrev lowered : Bytes → Bytes
lowered name = map to_ascii_lowercase name

find-lowered : (scheme : Scheme) (name : Bytes) → name ≡ lowered (scheme_name scheme)
    → find (λ other. bytes_eq name (lowered (scheme_name other))) schemes ≡ Some scheme
find-lowered Plain name same = rw same refl
find-lowered Clear name same = rw same refl
find-lowered Cleartext name same = rw same refl
find-lowered PlainMd5 name same = rw same refl
find-lowered LdapMd5 name same = rw same refl
find-lowered Sha name same = rw same refl
find-lowered Sha256 name same = rw same refl
find-lowered Sha512 name same = rw same refl
find-lowered Smd5 name same = rw same refl
find-lowered Ssha name same = rw same refl
find-lowered Ssha256 name same = rw same refl
find-lowered Ssha512 name same = rw same refl
find-lowered ScramSha256 name same = rw same refl

pub scheme_named-lowered : (scheme : Scheme) (name : Bytes) → map to_ascii_lowercase name ≡ map to_ascii_lowercase (scheme_name scheme) → scheme_named name ≡ Some scheme
scheme_named-lowered scheme name same = find-lowered scheme (lowered name) same
