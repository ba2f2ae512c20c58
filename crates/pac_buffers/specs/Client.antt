-- PAC_CLIENT_INFO (MS-PAC, section 2.7): FILETIME ClientId; USHORT NameLength; WCHAR Name[NameLength / 2].
use Rattle.std.specs.Prelude.{◌+◌, ◌*◌, ◌/◌, ◌%◌, ◌^◌, length}
use Rattle.std.specs.Int.{w16, w32}
use Rattle.ndr_core.specs.Layout.{Layout, field, followed, mapped, decoded}
use Rattle.ndr_core.specs.Fields.{number, raw}
use Rattle.krb_names.specs.Utf16.{utf16le_reading, utf16le_text}
use Rattle.pac_buffers.specs.declared.client_info.ClientInfo.{ClientInfo}

abbrev pub client : Layout ClientInfo
client =
    mapped (
    field (number w32) (
    field (number w32) (
    followed (number w16) (λ n.
    decoded (raw n) utf16le_reading utf16le_text))))
    (λ p. record { time = p.0 + p.1.0 * 2 ^ 32; name = p.1.1.1 })
    (λ c. (c.time % 2 ^ 32, (c.time / 2 ^ 32, (length (utf16le_text c.name), c.name))))
