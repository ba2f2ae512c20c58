use Rattle.std.proofs.Common.{◌<◌, ◌≤◌, ◌^◌, length, ap, sym, subst, arith}
use Rattle.krb_tickets.specs.declared.encrypted_data.EncryptedData.{EncryptedData}
use Rattle.krb_tickets.specs.EncryptedData.{encrypted_data}
use Rattle.s4u_client.specs.Requests.{confounder_of}
use Rattle.s4u_client.proofs.Forms.{sealed_short}
use Rattle.s4u_client.proofs.begin.stamp_item.Goals as goal

pub write-requires-clause-short : goal.write-requires-clause-short
write-requires-clause-short c =
    let size = c.in_ok-sealed.ensures.size in
    let text = c.in_ok-text.ensures.short in
    let few = subst (λ (x : EncryptedData). length x.cipher ≤ 81) c.in_ok-sealed.ensures.value (omega (arith, size, text, ap length c.as_slice.ensures)) in
    let short = sealed_short c.args.key.now 1 81 (confounder_of c.args.random.now) c.as_slice.result.now few in
    subst (λ (x : EncryptedData). length (encrypted_data.spelling x) < 2 ^ 32) (sym c.in_ok-sealed.ensures.value) (omega (arith, short))

pub returns-clause-short : goal.returns-clause-short
returns-clause-short c =
    let size = c.in_ok-sealed.ensures.size in
    let text = c.in_ok-text.ensures.short in
    let few = subst (λ (x : EncryptedData). length x.cipher ≤ 81) c.in_ok-sealed.ensures.value (omega (arith, size, text, ap length c.as_slice.ensures)) in
    let short = sealed_short c.args.key.now 1 81 (confounder_of c.args.random.now) c.as_slice.result.now few in
    let own = subst (λ (x : EncryptedData). length (encrypted_data.spelling x) ≤ 200) (sym c.in_ok-sealed.ensures.value) (omega (arith, short)) in
    record { kind = record { sfits = omega arith }; few = omega (arith, own, ap length c.in_ok-write.ensures.ok) }
