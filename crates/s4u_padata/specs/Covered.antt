-- What the checksum of a PA-FOR-USER covers (MS-SFU, section 2.2.1).
use Rattle.std.specs.Prelude.{ℕ, List, ◌++◌}
use Rattle.std.specs.List.{flat_map}
use Rattle.std.specs.Int.{w32, to_le_bytes, cast_unsigned}
use Rattle.krb_names.specs.declared.principal.Principal.{Principal}

-- the name type in four bytes, little-endian, the parts of the name, its realm and the package, one after the other
abbrev pub for_user_bytes : Principal → List ℕ → List ℕ
for_user_bytes user auth_package = to_le_bytes w32 (cast_unsigned w32 user.kind) ++ flat_map (λ part. part) user.parts ++ user.realm ++ auth_package
