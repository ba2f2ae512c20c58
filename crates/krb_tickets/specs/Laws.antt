-- Each form is lawful.
use Rattle.std.proofs.Common.{lit<, pos, refl}
use Rattle.der_core.specs.Laws.{IsCodec}
use Rattle.der_core.specs.FormLaws.{int32_lawful, uint32_lawful, octets_lawful, number_is_lawful}
use Rattle.der_core.specs.CodecLaws.{element_of_lawful, explicit_lawful}
use Rattle.der_forms.specs.Laws.{AreFields}
use Rattle.der_forms.specs.FieldLaws.{depending_lawful, dropped_lawful, field_lawful, listed_lawful, optional_lawful, end_lawful, made_lawful, sequence_lawful}
use Rattle.der_forms.specs.NameLaws.{realm_lawful}
use Rattle.krb_tickets.specs.NameStringLaws.{name_string_lawful}
use Rattle.krb_tickets.specs.AuthItem as auth_item_form
use Rattle.krb_tickets.specs.HostAddress as host_address_form
use Rattle.krb_tickets.specs.EncryptedData as encrypted_data_form
use Rattle.krb_tickets.specs.PrincipalName as principal_name_form
use Rattle.krb_tickets.specs.Ticket as ticket_form
use Rattle.krb_tickets.specs.EncTicketPart as part_form
use Rattle.krb_tickets.specs.TransitedLaws.{transited_lawful}
use Rattle.der_forms.specs.KeyLaws.{key_lawful}
use Rattle.der_forms.specs.ListLaws.{sequence_of_lawful}
use Rattle.der_forms.specs.TimeLaws.{kerberos_time_lawful}
use Rattle.der_forms.specs.Values.{flags_lawful}

pub encrypted_data_fields : AreFields encrypted_data_form.fields
encrypted_data_fields = made_lawful encrypted_data_form.parts _ _ (λ x fits. refl) (
    field_lawful 0 _ _ int32_lawful (
    optional_lawful 1 _ _ (lit< tt) uint32_lawful (
    field_lawful 2 _ _ octets_lawful
    end_lawful)))

pub encrypted_data_lawful : IsCodec encrypted_data_form.encrypted_data
encrypted_data_lawful = sequence_lawful encrypted_data_form.fields encrypted_data_fields

pub principal_name_fields : AreFields principal_name_form.fields
principal_name_fields = made_lawful principal_name_form.parts _ _ (λ x fits. refl) (
    depending_lawful 0 _ _ int32_lawful (λ kind.
    field_lawful 1 _ _ (element_of_lawful 0x30 _ (name_string_lawful kind))
    end_lawful))

pub principal_name_lawful : IsCodec principal_name_form.principal_name
principal_name_lawful = sequence_lawful principal_name_form.fields principal_name_fields

pub ticket_fields : AreFields ticket_form.fields
ticket_fields = made_lawful ticket_form.parts _ _ (λ x fits. refl) (
    field_lawful 0 _ _ (number_is_lawful (pos 5)) (
    field_lawful 1 _ _ realm_lawful (
    field_lawful 2 _ _ principal_name_lawful (
    field_lawful 3 _ _ encrypted_data_lawful
    end_lawful))))

pub ticket_lawful : IsCodec ticket_form.ticket
ticket_lawful = explicit_lawful 0x61 _ (sequence_lawful ticket_form.fields ticket_fields)

pub auth_item_fields : AreFields auth_item_form.fields
auth_item_fields = made_lawful auth_item_form.parts _ _ (λ x fits. refl) (
    field_lawful 0 _ _ int32_lawful (
    field_lawful 1 _ _ octets_lawful
    end_lawful))

pub auth_item_lawful : IsCodec auth_item_form.auth_item
auth_item_lawful = sequence_lawful auth_item_form.fields auth_item_fields

pub host_address_fields : AreFields host_address_form.fields
host_address_fields = made_lawful host_address_form.parts _ _ (λ x fits. refl) (
    field_lawful 0 _ _ int32_lawful (
    field_lawful 1 _ _ octets_lawful
    end_lawful))

pub host_address_lawful : IsCodec host_address_form.host_address
host_address_lawful = sequence_lawful host_address_form.fields host_address_fields

pub enc_ticket_part_fields : AreFields part_form.fields
enc_ticket_part_fields = made_lawful part_form.parts _ _ (λ x fits. refl) (
    field_lawful 0 _ _ flags_lawful (
    field_lawful 1 _ _ key_lawful (
    field_lawful 2 _ _ realm_lawful (
    field_lawful 3 _ _ principal_name_lawful (
    field_lawful 4 _ _ transited_lawful (
    field_lawful 5 _ _ kerberos_time_lawful (
    optional_lawful 6 _ _ (lit< tt) kerberos_time_lawful (
    field_lawful 7 _ _ kerberos_time_lawful (
    dropped_lawful 8 _ _ (lit< tt) kerberos_time_lawful (
    dropped_lawful 9 _ _ (lit< tt) (sequence_of_lawful _ host_address_lawful) (
    listed_lawful 10 _ _ (lit< tt) (sequence_of_lawful _ auth_item_lawful)
    end_lawful)))))))))))

pub enc_ticket_part_lawful : IsCodec part_form.enc_ticket_part
enc_ticket_part_lawful = explicit_lawful 0x63 _ (sequence_lawful part_form.fields enc_ticket_part_fields)
