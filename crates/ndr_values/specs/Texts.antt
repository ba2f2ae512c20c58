-- RPC_UNICODE_STRING (MS-DTYP, section 2.3.10): USHORT Length; USHORT MaximumLength; [size_is(MaximumLength/2), length_is(Length/2)] WCHAR* Buffer.
use Rattle.std.specs.Prelude.{ℕ, not, nat_eq, List, [], length}
use Rattle.std.specs.Int.{w16}
use Rattle.ndr_core.specs.Layout.{Layout, field, followed, mapped, decoded, pointed}
use Rattle.ndr_core.specs.Fields.{number, pointer_to}
use Rattle.ndr_core.specs.Arrays.{units}
use Rattle.krb_names.specs.Utf16.{utf16le_reading, utf16le_text}
use Rattle.ndr_values.specs.declared.text.StringHead.{StringHead}

-- the string where it stands: its length in bytes, and whether its pointer is not null; the maximum is not compared
abbrev pub string_head : Layout StringHead
string_head =
    mapped (followed (number w16) (λ len. field (number w16) (pointer_to len)))
    (λ p. record { len = p.0; there = p.1.1 })
    (λ h. (h.len, (h.len, h.there)))

-- the text that it points to, in UTF-16LE
abbrev pub text_of : StringHead → Layout (List ℕ)
text_of head = pointed head.there (decoded (units head.len) utf16le_reading utf16le_text) []

-- the octets that it points to, where nothing reads them as a text
abbrev pub octets_of : StringHead → Layout (List ℕ)
octets_of head = pointed head.there (units head.len) []

-- how octets are written: none as a null pointer
abbrev pub head_of_octets : List ℕ → StringHead
head_of_octets octets = record { len = length octets; there = not (nat_eq (length octets) 0) }

-- how a text is written
abbrev pub head_of : List ℕ → StringHead
head_of text = head_of_octets (utf16le_text text)
