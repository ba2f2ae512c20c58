-- The times of an authenticator that can be written.
use Rattle.std.proofs.Common.{◌<◌, ◌≤◌, ℤ, pos, negsuc, FitsSigned, w32, to_z, of_z, subst, sym, arith}
use Rattle.std.specs.Prelude.{nat_abs}
use Rattle.std.proofs.lemmas.Bool.Decides.{nat_tests}
use Rattle.std.proofs.lemmas.Int.{ints, to_z-of_z}
use Rattle.der_forms.specs.Values.{micros}
use Rattle.krb_messages.specs.declared.authenticator.Authenticator.{Authenticator}
use Rattle.krb_messages.specs.Authenticator.{authenticator}

few : (n : ℤ) → micros.Fits (record { 0 = n }) → nat_abs n < 1000000
few (pos n) fits = let h = fits.1.1 in grind (arith, ints, nat_tests, h)
few (negsuc n) fits = let h = fits.1.1 in absurd (cc)

pub secs_few : (auth : Authenticator) → authenticator.Fits auth → auth.ctime ≤ 250000000000
unfolding authenticator
secs_few auth fits = let h = fits.1.1.1.1.1.1.0.1.1 in grind (arith, nat_tests, h)

in_width : (n : ℤ) → micros.Fits (record { 0 = n }) → FitsSigned w32 n
in_width (pos n) fits = let h = few (pos n) fits in record { sfits = omega (arith, h) }
in_width (negsuc n) fits = let h = fits.1.1 in absurd (cc)

-- a number that is read as its bits
as_bits : (n : ℤ) → micros.Fits (record { 0 = n }) → nat_abs (to_z w32 (of_z w32 n)) < 1000000
as_bits n fits = subst (λ (z : ℤ). nat_abs z < 1000000) (sym (to_z-of_z w32 n (in_width n fits))) (few n fits)

pub micros_few : (auth : Authenticator) → authenticator.Fits auth → nat_abs (to_z w32 (of_z w32 auth.cusec)) < 1000000
unfolding authenticator
micros_few auth fits = as_bits auth.cusec fits.1.1.1.1.1.0
