-- A ticket is written in no more bytes than it was read from, a part in at most 8 more: 32 flags, in three headers.
use Rattle.std.proofs.Common.{ℕ, ◌+◌, ◌≤◌, ℤ, pos, negsuc, List, length, refl, ap, inl, inr, arith}
use Rattle.std.specs.List.{flat_map}
use Rattle.der_core.specs.Forms.{text, int32}
use Rattle.der_core.specs.Laws.{IsBytes}
use Rattle.der_forms.specs.Fields.{made}
use Rattle.der_forms.specs.Growths.{Grows, ContentGrows}
use Rattle.der_forms.specs.GrowthLaws.{behind_grows, depending_same, dropped_same, element_of_same, end_same, explicit_grows, explicit_same, field_same, flags_near, int_within_same, items_same, kerberos_time_same, key_same, listed_same, made_grows, number_is_same, octets_same, optional_same, sequence_grows, sequence_of_same, sequence_same, text_such_same, uint32_same}
use Rattle.der_forms.specs.Names.{realm, kerberos_string}
use Rattle.krb_names.specs.Pieces.{is_name}
use Rattle.krb_tickets.specs.NameString.{name_string, is_joined}
use Rattle.krb_tickets.specs.NameStringLaws.{one_spelling}
use Rattle.der_forms.specs.Times.{kerberos_time}
use Rattle.der_forms.specs.Values.{flags as ticket_flags}
use Rattle.der_forms.specs.Lists.{sequence_of}
use Rattle.krb_tickets.specs.HostAddress.{host_address}
use Rattle.krb_tickets.specs.Transited as transited_form
use Rattle.krb_tickets.specs.AuthItem as auth_item_form
use Rattle.krb_tickets.specs.EncryptedData as encrypted_data_form
use Rattle.krb_tickets.specs.PrincipalName as principal_name_form
use Rattle.krb_tickets.specs.Ticket as ticket_form
use Rattle.krb_tickets.specs.EncTicketPart as part_form

int32_same : Grows 0 int32
int32_same = int_within_same (negsuc 2147483647) (pos 2147483647)

realm_same : Grows 0 realm
realm_same = text_such_same is_name

name_string_same : (kind : ℤ) → ContentGrows 0 (name_string kind)
name_string_same kind = record { at_most = λ bytes parts are_bytes d. by_form bytes parts are_bytes d }
  where
    by_form : (bytes : List ℕ) (parts : List (List ℕ)) → IsBytes bytes → (name_string kind).IsDer bytes parts → length (flat_map text.spelling parts) ≤ length bytes + 0
    by_form bytes parts are_bytes (inl d) = items_same kerberos_string (text_such_same is_name) bytes parts are_bytes d.0.0
    by_form bytes parts are_bytes (inr d) =
        let one = (text_such_same is_joined).at_most bytes d.1.part are_bytes d.1.spelt in
        omega (arith, one, ap length (one_spelling parts d.1.part d.1.lone))

principal_name_same : Grows 0 principal_name_form.principal_name
principal_name_same = sequence_same principal_name_form.fields (made_grows 0 principal_name_form.parts _ _ (λ x. refl) (
    depending_same 0 _ _ int32_same (λ kind.
    field_same 1 _ _ (element_of_same 0x30 _ (name_string_same kind))
    end_same)))

encrypted_data_same : Grows 0 encrypted_data_form.encrypted_data
encrypted_data_same = sequence_same encrypted_data_form.fields (made_grows 0 encrypted_data_form.parts _ _ (λ x. refl) (
    field_same 0 _ _ int32_same (
    optional_same 1 _ _ uint32_same (
    field_same 2 _ _ octets_same
    end_same))))

pub ticket_same : Grows 0 ticket_form.ticket
ticket_same = explicit_same 0x61 _ (sequence_same ticket_form.fields (made_grows 0 ticket_form.parts _ _ (λ x. refl) (
    field_same 0 _ _ (number_is_same (pos 5)) (
    field_same 1 _ _ realm_same (
    field_same 2 _ _ principal_name_same (
    field_same 3 _ _ encrypted_data_same
    end_same))))))

pub auth_item_same : Grows 0 auth_item_form.auth_item
auth_item_same = sequence_same auth_item_form.fields (made_grows 0 auth_item_form.parts _ _ (λ x. refl) (
    field_same 0 _ _ int32_same (
    field_same 1 _ _ octets_same
    end_same)))

joined_same : ContentGrows 0 transited_form.joined_realms
joined_same = record { at_most = λ bytes names are_bytes d. omega (arith, ap length d.0) }

transited_same : Grows 0 transited_form.transited
transited_same = sequence_same (made transited_form.parts transited_form.make transited_form.parts_of) (made_grows 0 transited_form.parts _ _ (λ x. refl) (
    field_same 0 _ _ (number_is_same (pos 1)) (
    field_same 1 _ _ (element_of_same 4 _ joined_same)
    end_same)))

pub part_near : Grows 8 part_form.enc_ticket_part
part_near = explicit_grows 7 0x63 _ (omega arith) (sequence_grows 6 part_form.fields (omega arith) (made_grows 6 part_form.parts _ _ (λ x. refl) (
    behind_grows 6 0 0 ticket_flags _ (explicit_grows 5 0xa0 ticket_flags (omega arith) flags_near) (λ flags.
    field_same 1 _ _ key_same (
    field_same 2 _ _ realm_same (
    field_same 3 _ _ principal_name_same (
    field_same 4 _ _ transited_same (
    field_same 5 _ _ kerberos_time_same (
    optional_same 6 _ _ kerberos_time_same (
    field_same 7 _ _ kerberos_time_same (
    dropped_same 8 kerberos_time _ (
    dropped_same 9 (sequence_of host_address) _ (
    listed_same 10 _ _ (sequence_of_same _ auth_item_same)
    end_same)))))))))))))
