use Rattle.std.proofs.Common.{◌≡◌, ◌∙◌, sym, subst}
use Rattle.std.specs.Prelude.{IfOk}
use Rattle.der_core.specs.Codec.{whole}
use Rattle.krb_tickets.specs.EncryptedData.{encrypted_data}
use Rattle.as_core.specs.Stamps.{Stamp, stamp_seen}
use Rattle.as_core.proofs.Timestamps.{other_told, sealed_told}
use Rattle.as_core.proofs.timestamp.read_sealed.Goals as goal

pub returns-then-is_of_type : goal.returns-then-is_of_type
returns-then-is_of_type c =
    let reading = whole encrypted_data c.args.bytes.now in
    let is = sealed_told c.args.key.now reading c.in-Ok.sealed c.as_slice.result.now c.in-Ok.ensures.exact (sym c.is_of_type.ensures ∙ c.if-is_of_type.true) c.as_slice.ensures in
    subst (λ (stamp : Stamp). IfOk c.read_cipher.result (λ view. stamp_seen view ≡ stamp)) is c.read_cipher.ensures

pub returns-in-Ok : goal.returns-in-Ok
returns-in-Ok c =
    other_told c.args.key.now (whole encrypted_data c.args.bytes.now) c.in-Ok.sealed c.in-Ok.ensures.exact (sym c.is_of_type.ensures ∙ c.if-is_of_type.false)
