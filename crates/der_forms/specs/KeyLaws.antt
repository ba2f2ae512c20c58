-- Keys are lawful.
use Rattle.std.proofs.Common.{◌≡◌, ℕ, ◌-◌, List, length, replicate, ℤ, pos, true, ap, arith}
use Rattle.std.proofs.lemmas.Bool.{eqb-true}
use Rattle.std.proofs.lemmas.Bool.Decides.{nat_tests}
use Rattle.std.proofs.lemmas.Int.{ints}
use Rattle.std.proofs.lemmas.List.{take_at}
use Rattle.der_core.specs.declared.refusal.DerCause.TheVariants.{LengthForm}
use Rattle.der_core.specs.Laws.{IsCodec}
use Rattle.der_core.specs.CodecLaws.{element_of_lawful, such_lawful, mapped_lawful}
use Rattle.der_core.specs.Forms.{is_between}
use Rattle.der_core.specs.FormLaws.{bytes_lawful, int_within_lawful}
use Rattle.krb_names.specs.declared.etype.Etype.{Etype}
use Rattle.krb_names.specs.Etypes.{etype_number, key_length}
use Rattle.der_forms.specs.Laws.{AreFields}
use Rattle.der_forms.specs.FieldLaws.{depending_lawful, field_lawful, end_lawful, made_lawful, sequence_lawful}
use Rattle.der_forms.specs.Keys as form

pub etype_again : (n : ℤ) → is_between (pos 17) (pos 18) n ≡ true → pos (etype_number (form.etype_of n)) ≡ n
etype_again n h = grind (arith, ints, nat_tests, h)

pub etype_lawful : IsCodec form.etype
etype_lawful = mapped_lawful _ _ _ (λ n fits. etype_again n fits.1) (int_within_lawful (pos 17) (pos 18))

pub key_octets_lawful : (e : Etype) → IsCodec (form.key_octets e)
key_octets_lawful e = element_of_lawful 4 _ (such_lawful _ LengthForm _ bytes_lawful)

pub key_again : (x : form.Parts) → form.parts.content.Fits x → form.parts_of (form.make x) ≡ x
key_again x fits =
    let octets : List ℕ = x.1.0 in
    let len : length octets ≡ key_length x.0 = eqb-true _ _ fits.1.0.1 in
    ap (λ (b : List ℕ). (x.0, (b, tt))) (take_at octets (replicate (32 - length octets) 0) (key_length x.0) len)

pub key_fields : AreFields form.fields
key_fields = made_lawful form.parts _ _ key_again (
    depending_lawful 0 _ _ etype_lawful (λ e.
    field_lawful 1 _ _ (key_octets_lawful e)
    end_lawful))

pub key_lawful : IsCodec form.encryption_key
key_lawful = sequence_lawful form.fields key_fields
