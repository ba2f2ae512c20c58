-- The forms of single values are lawful.
use Rattle.std.proofs.Common.{◌≡◌, ℕ, Bool, true, List, ℤ, pos, negsuc, refl, arith}
use Rattle.std.proofs.lemmas.Int.{ints}
use Rattle.std.specs.Str.{is_utf8}
use Rattle.der_core.specs.declared.refusal.DerCause.TheVariants.{LengthForm, BadText}
use Rattle.der_core.specs.Laws.{IsCodec, IsContent}
use Rattle.der_core.specs.Forms.{integers, bit_strings, bytes, texts, int, is_between, within, within_in, int_within, int32, uint32, number_is, natural, bits, octets, text, text_such}
use Rattle.der_core.specs.CodecLaws.{element_of_lawful, such_lawful, mapped_lawful}
use Rattle.der_core.specs.IntegerLaws.{integer_found, integer_only, integer_spelt, integer_fits, integer_no_longer}
use Rattle.der_core.specs.BitLaws.{bits_found, bits_only, bits_spelt, bits_fit, bits_no_longer}

pub integers_lawful : IsContent integers
integers_lawful = record {
  found = λ here n fits e. integer_found here.place here.bytes n e;
  only = λ here n d. integer_only here.place here.bytes n d;
  spelt = λ n fits short. integer_spelt n fits;
  fits = integer_fits;
  no_longer = integer_no_longer;
}

pub bit_strings_lawful : IsContent bit_strings
bit_strings_lawful = record {
  found = λ here n fits e. bits_found here.place here.bytes n e;
  only = λ here n d. bits_only here.place here.bytes n d;
  spelt = λ n fits short. bits_spelt n fits;
  fits = bits_fit;
  no_longer = λ content n fits d. bits_no_longer content n d;
}

pub bytes_lawful : IsContent bytes
bytes_lawful = record {
  found = λ here x fits e. cc;
  only = λ here x d. rw d refl;
  spelt = λ x fits short. refl;
  fits = λ content x are_bytes d. tt;
  no_longer = λ content x are_bytes d. rw d (omega arith);
}

pub texts_lawful : IsContent texts
texts_lawful = such_lawful is_utf8 BadText bytes bytes_lawful

pub int_lawful : IsCodec int
int_lawful = element_of_lawful 2 integers integers_lawful

within_lawful : (low high : ℤ) → IsContent (within low high)
unfolding within_in
within_lawful low high =
    let such = such_lawful (is_between low high) LengthForm integers integers_lawful in
    record { found = such.found; only = such.only; spelt = such.spelt; fits = such.fits; no_longer = such.no_longer }

pub int_within_lawful : (low high : ℤ) → IsCodec (int_within low high)
int_within_lawful low high = element_of_lawful 2 (within low high) (within_lawful low high)

pub int32_lawful : IsCodec int32
int32_lawful = int_within_lawful (negsuc 2147483647) (pos 2147483647)

pub is_natural : (n : ℤ) → is_between (pos 0) (pos 4294967295) n ≡ true → pos (natural n) ≡ n
is_natural (pos n) h = refl
is_natural (negsuc n) h = absurd cc

pub uint32_lawful : IsCodec uint32
uint32_lawful = mapped_lawful _ natural pos (λ n fits. is_natural n fits.1) (int_within_lawful (pos 0) (pos 4294967295))

pub only_between : (n m : ℤ) → is_between n n m ≡ true → n ≡ m
only_between n m h = grind (arith, ints, h)

pub number_is_lawful : (n : ℤ) → IsCodec (number_is n)
number_is_lawful n = mapped_lawful (int_within n n) (λ _. tt) (λ _. n) (λ m fits. only_between n m fits.1) (int_within_lawful n n)

pub bits_lawful : IsCodec bits
bits_lawful = element_of_lawful 3 bit_strings bit_strings_lawful

pub octets_lawful : IsCodec octets
octets_lawful = element_of_lawful 4 bytes bytes_lawful

pub text_lawful : IsCodec text
text_lawful = element_of_lawful 0x1b texts texts_lawful

pub text_such_lawful : (passes : List ℕ → Bool) → IsCodec (text_such passes)
text_such_lawful passes = element_of_lawful 0x1b _ (such_lawful passes BadText texts texts_lawful)
