-- The structures are lawful.
use Rattle.std.proofs.Common.{ℕ, []}
use Rattle.std.specs.Int.{w16, w32}
use Rattle.ndr_core.specs.declared.refusal.NdrCause.TheVariants.{BadHeader, TooMany}
use Rattle.ndr_core.specs.Laws.{IsLayout}
use Rattle.ndr_core.specs.Fields.{number, raw}
use Rattle.ndr_core.proofs.LayoutLaws.{field_lawful, followed_lawful, mapped_lawful, decoded_lawful, pointed_lawful}
use Rattle.ndr_core.proofs.FieldLaws.{raw_lawful, number16_lawful, number32_lawful, within_lawful, pointer_to_lawful, wide32}
use Rattle.ndr_core.proofs.ArrayLaws.{count_lawful, each_lawful, repeated_lawful}
use Rattle.ndr_values.specs.Texts.{string_head, text_of}
use Rattle.ndr_values.proofs.SidLaws.{packed_sid_lawful}
use Rattle.ndr_values.proofs.TextLaws.{string_head_lawful, text_of_lawful}
use Rattle.krb_names.specs.Utf16.{utf16le_reading, utf16le_text}
use Rattle.pac_buffers.specs.Client.{client}
use Rattle.pac_buffers.specs.Delegation.{fixed, listed, delegation}
use Rattle.pac_buffers.specs.Requestor.{requestor}
use Rattle.pac_buffers.specs.Signature.{signature}

pub requestor_lawful : IsLayout requestor
requestor_lawful = mapped_lawful _ _ _ packed_sid_lawful

pub signature_lawful : IsLayout signature
signature_lawful = mapped_lawful _ _ _ (field_lawful _ _ (within_lawful w32 15 16 BadHeader wide32) (raw_lawful 12))

pub client_lawful : IsLayout client
client_lawful = mapped_lawful _ _ _ (
    field_lawful _ _ number32_lawful (
    field_lawful _ _ number32_lawful (
    followed_lawful (number w16) _ number16_lawful (λ n.
    decoded_lawful (raw n) utf16le_reading utf16le_text (raw_lawful n)))))

fixed_lawful : IsLayout fixed
fixed_lawful = field_lawful _ _ string_head_lawful (followed_lawful _ _ (within_lawful w32 0 32 TooMany wide32) (λ n. pointer_to_lawful n))

listed_lawful : (n : ℕ) → IsLayout (listed n)
listed_lawful n = mapped_lawful _ _ _ (followed_lawful _ _ (count_lawful n) (λ _. followed_lawful _ _ (repeated_lawful n string_head string_head_lawful) (λ heads. each_lawful text_of heads text_of_lawful)))

pub delegation_lawful : IsLayout delegation
delegation_lawful = mapped_lawful _ _ _ (followed_lawful fixed _ fixed_lawful (λ f. field_lawful _ _ (text_of_lawful f.0) (pointed_lawful f.1.1 (listed f.1.0) [] (listed_lawful f.1.0))))
