use Rattle.std.proofs.Common.{◌≤◌, length, sym, subst}
use Rattle.krb_names.specs.Utf16.{utf16le_text}
use Rattle.pac_logon.specs.declared.logon_info.LogonInfo.{LogonInfo}
use Rattle.ticket_parts.proofs.Values.{logon_writable}
use Rattle.ticket_parts.proofs.making.logon_bytes.Goals as goal

pub write_logon-requires-clause-name : goal.write_logon-requires-clause-name
write_logon-requires-clause-name c =
    let few = (logon_writable c.args.rec.now c.requires).name.few in
    subst (λ (info : LogonInfo). length (utf16le_text info.subject.name) ≤ 65534) (sym c.in_ok-logon_of.ensures) few

pub write_logon-requires-clause-domain : goal.write_logon-requires-clause-domain
write_logon-requires-clause-domain c =
    let few = (logon_writable c.args.rec.now c.requires).domain.few in
    subst (λ (info : LogonInfo). length (utf16le_text info.subject.domain) ≤ 65534) (sym c.in_ok-logon_of.ensures) few
