use Rattle.std.proofs.Common.{◌≤◌, length, sym, subst}
use Rattle.krb_names.specs.Utf16.{utf16le_text}
use Rattle.pac_buffers.specs.declared.client_info.ClientInfo.{ClientInfo}
use Rattle.ticket_parts.proofs.Values.{client_writable}
use Rattle.ticket_parts.proofs.making.client_bytes.Goals as goal

pub write-requires : goal.write-requires
write-requires c =
    let few = (client_writable c.args.rec.now c.requires).name.few in
    record { few = subst (λ (info : ClientInfo). length (utf16le_text info.name) ≤ 65534) (sym c.in_ok-client_of.ensures) few }
