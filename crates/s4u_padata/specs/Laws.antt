-- Each form is lawful.
use Rattle.std.proofs.Common.{◌≡◌, lit<, refl}
use Rattle.std.proofs.lemmas.Bool.{eqb-true}
use Rattle.der_core.specs.Laws.{IsCodec}
use Rattle.der_core.specs.FormLaws.{octets_lawful, text_lawful}
use Rattle.der_forms.specs.DefaultLaws.{Tests, defaulted_lawful}
use Rattle.der_forms.specs.FieldLaws.{dropped_lawful, field_lawful, optional_lawful, end_lawful, made_lawful, sequence_lawful}
use Rattle.der_forms.specs.KeptLaws.{kept_lawful}
use Rattle.der_forms.specs.Laws.{AreFields}
use Rattle.der_forms.specs.NameLaws.{realm_lawful}
use Rattle.der_forms.specs.Values.{flags_lawful, nonce_lawful}
use Rattle.krb_tickets.specs.Laws.{principal_name_lawful}
use Rattle.krb_tickets.specs.PrincipalName.{named_again}
use Rattle.krb_messages.specs.Laws.{checksum_lawful}
use Rattle.s4u_padata.specs.ForUser as for_user_form
use Rattle.s4u_padata.specs.PacOptions as options_form
use Rattle.s4u_padata.specs.UserId as id_form
use Rattle.s4u_padata.specs.X509User as x509_form

pub for_user_fields : AreFields for_user_form.fields
for_user_fields = made_lawful for_user_form.parts _ _ (λ x fits. refl) (
    field_lawful 0 _ _ principal_name_lawful (
    field_lawful 1 _ _ realm_lawful (
    field_lawful 2 _ _ checksum_lawful (
    field_lawful 3 _ _ text_lawful
    end_lawful))))

pub for_user_lawful : IsCodec for_user_form.for_user
for_user_lawful = sequence_lawful for_user_form.fields for_user_fields

pub pac_options_fields : AreFields options_form.fields
pac_options_fields = made_lawful options_form.parts _ _ (λ x fits. refl) (
    field_lawful 0 _ _ flags_lawful
    end_lawful)

pub pac_options_lawful : IsCodec options_form.pac_options
pac_options_lawful = sequence_lawful options_form.fields pac_options_fields

no_flags_test : Tests id_form.no_flags id_form.are_none
no_flags_test = record { met = refl; alone = λ flags h. λ i. record { 0 = eqb-true _ _ h i } }

id_again : (x : id_form.Parts) → id_form.parts_of (id_form.make x) ≡ x
id_again x = λ i. (x.0, (named_again x.1.1.0 x.1.0 i, x.1.1))

pub user_id_fields : AreFields id_form.fields
user_id_fields = made_lawful id_form.parts _ _ (λ x fits. id_again x) (
    field_lawful 0 _ _ nonce_lawful (
    optional_lawful 1 _ _ (lit< tt) principal_name_lawful (
    field_lawful 2 _ _ realm_lawful (
    dropped_lawful 3 _ _ (lit< tt) octets_lawful (
    defaulted_lawful 4 _ _ _ _ no_flags_test (lit< tt) flags_lawful
    end_lawful)))))

pub user_id_lawful : IsCodec id_form.user_id
unfolding id_form.user_id
user_id_lawful = sequence_lawful id_form.fields user_id_fields

pub x509_user_fields : AreFields x509_form.fields
x509_user_fields = made_lawful x509_form.parts _ _ (λ x fits. refl) (
    field_lawful 0 _ _ (kept_lawful _ user_id_lawful) (
    field_lawful 1 _ _ checksum_lawful
    end_lawful))

pub x509_user_lawful : IsCodec x509_form.x509_user
x509_user_lawful = sequence_lawful x509_form.fields x509_user_fields
