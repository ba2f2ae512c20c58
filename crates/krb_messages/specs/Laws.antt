-- Each form is lawful.
use Rattle.std.proofs.Common.{◌≡◌, ℤ, Bool, true, false, lit<, pos, refl, sym, ap, ◌∙◌}
use Rattle.der_core.specs.Laws.{IsCodec}
use Rattle.der_core.specs.CodecLaws.{explicit_lawful}
use Rattle.der_core.specs.FormLaws.{int_lawful, int32_lawful, octets_lawful, text_lawful, number_is_lawful}
use Rattle.der_forms.specs.Choices.{tag_in}
use Rattle.der_forms.specs.ChoiceLaws.{Tells, choice_lawful}
use Rattle.der_forms.specs.Defaults.{or_usual}
use Rattle.der_forms.specs.FieldLaws.{dropped_lawful, field_lawful, optional_lawful, end_lawful, made_lawful, sequence_lawful}
use Rattle.der_forms.specs.Fields.{sequence}
use Rattle.der_forms.specs.KeptLaws.{kept_lawful}
use Rattle.der_forms.specs.KeyLaws.{key_lawful}
use Rattle.der_forms.specs.Laws.{AreFields}
use Rattle.der_forms.specs.Lists.{sequence_of}
use Rattle.der_forms.specs.ListLaws.{sequence_of_lawful}
use Rattle.der_forms.specs.NameLaws.{realm_lawful}
use Rattle.der_forms.specs.TimeLaws.{kerberos_time_lawful, moment_time_lawful, time_again}
use Rattle.der_forms.specs.Values.{flags_lawful, nonce_lawful, micros_lawful, micros_again}
use Rattle.krb_tickets.specs.Laws.{auth_item_lawful, encrypted_data_lawful, host_address_lawful, principal_name_lawful, ticket_lawful}
use Rattle.krb_tickets.specs.PrincipalName.{named_again}
use Rattle.krb_messages.specs.ApRep as ap_rep_form
use Rattle.krb_messages.specs.ApReq as ap_req_form
use Rattle.krb_messages.specs.Authenticator as authenticator_form
use Rattle.krb_messages.specs.Checksum as checksum_form
use Rattle.krb_messages.specs.EncApRep as enc_ap_rep_form
use Rattle.krb_messages.specs.EncKdcRep as enc_rep_form
use Rattle.krb_messages.specs.EtypeInfo2Entry as entry_form
use Rattle.krb_messages.specs.KdcRep as rep_form
use Rattle.krb_messages.specs.KdcReq as req_form
use Rattle.krb_messages.specs.KdcReqBody as body_form
use Rattle.krb_messages.specs.KrbError as error_form
use Rattle.krb_messages.specs.LastReq as last_req_form
use Rattle.krb_messages.specs.PaData as pa_data_form
use Rattle.krb_messages.specs.PaEncTsEnc as stamp_form

pub pa_data_fields : AreFields pa_data_form.fields
pa_data_fields = made_lawful pa_data_form.parts _ _ (λ x fits. refl) (
    field_lawful 1 _ _ int32_lawful (
    field_lawful 2 _ _ octets_lawful
    end_lawful))

pub pa_data_lawful : IsCodec pa_data_form.pa_data
pa_data_lawful = sequence_lawful pa_data_form.fields pa_data_fields

pub pa_items_lawful : IsCodec (sequence_of pa_data_form.pa_data)
pa_items_lawful = sequence_of_lawful _ pa_data_lawful

pub checksum_fields : AreFields checksum_form.fields
checksum_fields = made_lawful checksum_form.parts _ _ (λ x fits. refl) (
    field_lawful 0 _ _ int32_lawful (
    field_lawful 1 _ _ octets_lawful
    end_lawful))

pub checksum_lawful : IsCodec checksum_form.checksum_form
checksum_lawful = sequence_lawful checksum_form.fields checksum_fields

pub last_req_fields : AreFields last_req_form.fields
last_req_fields = made_lawful last_req_form.parts _ _ (λ x fits. refl) (
    field_lawful 0 _ _ int32_lawful (
    field_lawful 1 _ _ kerberos_time_lawful
    end_lawful))

pub last_req_lawful : IsCodec last_req_form.last_req
last_req_lawful = sequence_lawful last_req_form.fields last_req_fields

pub etype_info2_entry_fields : AreFields entry_form.fields
etype_info2_entry_fields = made_lawful entry_form.parts _ _ (λ x fits. refl) (
    field_lawful 0 _ _ int32_lawful (
    optional_lawful 1 _ _ (lit< tt) text_lawful (
    optional_lawful 2 _ _ (lit< tt) octets_lawful
    end_lawful)))

pub etype_info2_entry_lawful : IsCodec entry_form.etype_info2_entry
etype_info2_entry_lawful = sequence_lawful entry_form.fields etype_info2_entry_fields

pub etype_info2_lawful : IsCodec (sequence_of entry_form.etype_info2_entry)
etype_info2_lawful = sequence_of_lawful _ etype_info2_entry_lawful

pub pa_enc_ts_enc_fields : AreFields stamp_form.fields
pa_enc_ts_enc_fields = made_lawful stamp_form.parts _ _ (λ x fits. λ i. (x.0, (micros_again x.1.0 i, x.1.1))) (
    field_lawful 0 _ _ moment_time_lawful (
    optional_lawful 1 _ _ (lit< tt) micros_lawful
    end_lawful))

pub pa_enc_ts_enc_lawful : IsCodec stamp_form.pa_enc_ts_enc
pa_enc_ts_enc_lawful = sequence_lawful stamp_form.fields pa_enc_ts_enc_fields

body_again : (x : body_form.Parts) → body_form.parts_of (body_form.make x) ≡ x
body_again x = λ i. (x.0, (named_again x.1.1.0 x.1.0 i, (x.1.1.0, (named_again x.1.1.0 x.1.1.1.0 i, x.1.1.1.1))))

pub kdc_req_body_fields : AreFields body_form.fields
kdc_req_body_fields = made_lawful body_form.parts _ _ (λ x fits. body_again x) (
    field_lawful 0 _ _ flags_lawful (
    optional_lawful 1 _ _ (lit< tt) principal_name_lawful (
    field_lawful 2 _ _ realm_lawful (
    optional_lawful 3 _ _ (lit< tt) principal_name_lawful (
    optional_lawful 4 _ _ (lit< tt) kerberos_time_lawful (
    field_lawful 5 _ _ kerberos_time_lawful (
    optional_lawful 6 _ _ (lit< tt) kerberos_time_lawful (
    field_lawful 7 _ _ nonce_lawful (
    field_lawful 8 _ _ (sequence_of_lawful _ int32_lawful) (
    dropped_lawful 9 _ _ (lit< tt) (sequence_of_lawful _ host_address_lawful) (
    dropped_lawful 10 _ _ (lit< tt) encrypted_data_lawful (
    optional_lawful 11 _ _ (lit< tt) (sequence_of_lawful _ ticket_lawful)
    end_lawful))))))))))))

pub kdc_req_body_lawful : IsCodec body_form.kdc_req_body
unfolding body_form.kdc_req_body
kdc_req_body_lawful = sequence_lawful body_form.fields kdc_req_body_fields

pub kdc_req_fields : (is_as : Bool) → AreFields (req_form.fields is_as)
kdc_req_fields is_as = made_lawful (req_form.parts is_as) _ _ (λ x fits. refl) (
    field_lawful 1 _ _ int32_lawful (
    field_lawful 2 _ _ (number_is_lawful (req_form.msg_type_of is_as)) (
    optional_lawful 3 _ _ (lit< tt) (sequence_of_lawful _ pa_data_lawful) (
    field_lawful 4 _ _ (kept_lawful _ kdc_req_body_lawful)
    end_lawful))))

tells_req : (is_as : Bool) → req_form.is_ten (req_form.msg_type_of is_as) ≡ is_as
tells_req true = refl
tells_req false = refl

kdc_req_tells : Tells req_form.is_as_req (λ is_as. sequence (req_form.fields is_as))
kdc_req_tells is_as bytes x d = ap req_form.is_as_req (sym d.inside.made) ∙ tells_req is_as

pub kdc_req_lawful : IsCodec req_form.kdc_req
unfolding req_form.kdc_req
kdc_req_lawful = choice_lawful 0x6a 0x6c req_form.is_as_req _ refl kdc_req_tells (λ is_as. sequence_lawful (req_form.fields is_as) (kdc_req_fields is_as))

pub kdc_rep_fields : (is_as : Bool) → AreFields (rep_form.fields is_as)
kdc_rep_fields is_as = made_lawful (rep_form.parts is_as) _ _ (λ x fits. refl) (
    field_lawful 0 _ _ (number_is_lawful (pos 5)) (
    field_lawful 1 _ _ (number_is_lawful (rep_form.msg_type_of is_as)) (
    optional_lawful 2 _ _ (lit< tt) (sequence_of_lawful _ pa_data_lawful) (
    field_lawful 3 _ _ realm_lawful (
    field_lawful 4 _ _ principal_name_lawful (
    field_lawful 5 _ _ ticket_lawful (
    field_lawful 6 _ _ encrypted_data_lawful
    end_lawful)))))))

tells_rep : (is_as : Bool) → rep_form.is_eleven (rep_form.msg_type_of is_as) ≡ is_as
tells_rep true = refl
tells_rep false = refl

kdc_rep_tells : Tells rep_form.is_as_rep (λ is_as. sequence (rep_form.fields is_as))
kdc_rep_tells is_as bytes x d = ap rep_form.is_as_rep (sym d.inside.made) ∙ tells_rep is_as

pub kdc_rep_lawful : IsCodec rep_form.kdc_rep
unfolding rep_form.kdc_rep
kdc_rep_lawful = choice_lawful 0x6b 0x6d rep_form.is_as_rep _ refl kdc_rep_tells (λ is_as. sequence_lawful (rep_form.fields is_as) (kdc_rep_fields is_as))

pub enc_kdc_rep_fields : (is_as : Bool) → AreFields (enc_rep_form.fields is_as)
enc_kdc_rep_fields is_as = made_lawful enc_rep_form.parts _ _ (λ x fits. refl) (
    field_lawful 0 _ _ key_lawful (
    field_lawful 1 _ _ (sequence_of_lawful _ last_req_lawful) (
    field_lawful 2 _ _ nonce_lawful (
    optional_lawful 3 _ _ (lit< tt) kerberos_time_lawful (
    field_lawful 4 _ _ flags_lawful (
    field_lawful 5 _ _ kerberos_time_lawful (
    optional_lawful 6 _ _ (lit< tt) kerberos_time_lawful (
    field_lawful 7 _ _ kerberos_time_lawful (
    optional_lawful 8 _ _ (lit< tt) kerberos_time_lawful (
    field_lawful 9 _ _ realm_lawful (
    field_lawful 10 _ _ principal_name_lawful (
    dropped_lawful 11 _ _ (lit< tt) (sequence_of_lawful _ host_address_lawful) (
    dropped_lawful 12 _ _ (lit< tt) (sequence_of_lawful _ pa_data_lawful)
    end_lawful)))))))))))))

tells_part : (is_as : Bool) → enc_rep_form.is_first_tag (tag_in 0x79 0x7a is_as) ≡ is_as
tells_part true = refl
tells_part false = refl

enc_kdc_rep_tells : Tells enc_rep_form.is_as_part (λ is_as. sequence (enc_rep_form.fields is_as))
enc_kdc_rep_tells is_as bytes x d = ap enc_rep_form.is_as_part (sym d.inside.made) ∙ tells_part is_as

pub enc_kdc_rep_lawful : IsCodec enc_rep_form.enc_kdc_rep
unfolding enc_rep_form.enc_kdc_rep
enc_kdc_rep_lawful = choice_lawful 0x79 0x7a enc_rep_form.is_as_part _ refl enc_kdc_rep_tells (λ is_as. sequence_lawful (enc_rep_form.fields is_as) (enc_kdc_rep_fields is_as))

error_again : (x : error_form.Parts) → error_form.parts_of (error_form.make x) ≡ x
error_again x = λ i. (
  tt,
  (
    tt,
    (
      time_again x.1.1.0 i,
      (
        micros_again x.1.1.1.0 i,
        (
          x.1.1.1.1.0,
          (
            x.1.1.1.1.1.0,
            (
              x.1.1.1.1.1.1.0,
              (
                x.1.1.1.1.1.1.1.0,
                (
                  named_again (or_usual x.1.1.1.1.1.1.1.1.1.0 x.1.1.1.1.1.1.1.0) x.1.1.1.1.1.1.1.1.0 i,
                  x.1.1.1.1.1.1.1.1.1,
                ),
              ),
            ),
          ),
        ),
      ),
    ),
  ),
)

pub krb_error_fields : AreFields error_form.fields
krb_error_fields = made_lawful error_form.parts _ _ (λ x fits. error_again x) (
    field_lawful 0 _ _ (number_is_lawful (pos 5)) (
    field_lawful 1 _ _ (number_is_lawful (pos 30)) (
    optional_lawful 2 _ _ (lit< tt) moment_time_lawful (
    optional_lawful 3 _ _ (lit< tt) micros_lawful (
    field_lawful 4 _ _ kerberos_time_lawful (
    field_lawful 5 _ _ int32_lawful (
    field_lawful 6 _ _ int32_lawful (
    optional_lawful 7 _ _ (lit< tt) realm_lawful (
    optional_lawful 8 _ _ (lit< tt) principal_name_lawful (
    field_lawful 9 _ _ realm_lawful (
    field_lawful 10 _ _ principal_name_lawful (
    optional_lawful 11 _ _ (lit< tt) text_lawful (
    optional_lawful 12 _ _ (lit< tt) octets_lawful
    end_lawful)))))))))))))

pub krb_error_lawful : IsCodec error_form.krb_error
unfolding error_form.krb_error
krb_error_lawful = explicit_lawful 0x7e _ (sequence_lawful error_form.fields krb_error_fields)

pub ap_req_fields : AreFields ap_req_form.fields
ap_req_fields = made_lawful ap_req_form.parts _ _ (λ x fits. refl) (
    field_lawful 0 _ _ (number_is_lawful (pos 5)) (
    field_lawful 1 _ _ (number_is_lawful (pos 14)) (
    field_lawful 2 _ _ flags_lawful (
    field_lawful 3 _ _ ticket_lawful (
    field_lawful 4 _ _ encrypted_data_lawful
    end_lawful)))))

pub ap_req_lawful : IsCodec ap_req_form.ap_req
unfolding ap_req_form.ap_req
ap_req_lawful = explicit_lawful 0x6e _ (sequence_lawful ap_req_form.fields ap_req_fields)

pub authenticator_fields : AreFields authenticator_form.fields
authenticator_fields = made_lawful authenticator_form.parts _ _ (λ x fits. refl) (
    field_lawful 0 _ _ (number_is_lawful (pos 5)) (
    field_lawful 1 _ _ realm_lawful (
    field_lawful 2 _ _ principal_name_lawful (
    optional_lawful 3 _ _ (lit< tt) checksum_lawful (
    field_lawful 4 _ _ micros_lawful (
    field_lawful 5 _ _ moment_time_lawful (
    optional_lawful 6 _ _ (lit< tt) key_lawful (
    optional_lawful 7 _ _ (lit< tt) int_lawful (
    dropped_lawful 8 _ _ (lit< tt) (sequence_of_lawful _ auth_item_lawful)
    end_lawful)))))))))

pub authenticator_lawful : IsCodec authenticator_form.authenticator
unfolding authenticator_form.authenticator
authenticator_lawful = explicit_lawful 0x62 _ (sequence_lawful authenticator_form.fields authenticator_fields)

pub ap_rep_fields : AreFields ap_rep_form.fields
ap_rep_fields = made_lawful ap_rep_form.parts _ _ (λ x fits. refl) (
    field_lawful 0 _ _ (number_is_lawful (pos 5)) (
    field_lawful 1 _ _ (number_is_lawful (pos 15)) (
    field_lawful 2 _ _ encrypted_data_lawful
    end_lawful)))

pub ap_rep_lawful : IsCodec ap_rep_form.ap_rep
ap_rep_lawful = explicit_lawful 0x6f _ (sequence_lawful ap_rep_form.fields ap_rep_fields)

pub enc_ap_rep_fields : AreFields enc_ap_rep_form.fields
enc_ap_rep_fields = made_lawful enc_ap_rep_form.parts _ _ (λ x fits. refl) (
    field_lawful 0 _ _ moment_time_lawful (
    field_lawful 1 _ _ micros_lawful (
    optional_lawful 2 _ _ (lit< tt) key_lawful (
    optional_lawful 3 _ _ (lit< tt) int_lawful
    end_lawful))))

pub enc_ap_rep_lawful : IsCodec enc_ap_rep_form.enc_ap_rep
enc_ap_rep_lawful = explicit_lawful 0x7b _ (sequence_lawful enc_ap_rep_form.fields enc_ap_rep_fields)
