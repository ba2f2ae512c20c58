use Rattle.std.proofs.Common.{◌≡◌, ℕ, ℤ, to_z, of_z, List, Bor, Option, sym, ap, subst, ◌∙◌}
use Rattle.std.specs.Prelude.{option_map}
use Rattle.std.specs.Int.{w32}
use Rattle.pac_buffers.specs.Buffers.{Buffer, pac, built, buffers_of, IsSound}
use Rattle.pac_buffers.proofs.Built.{built_is_sound, type_again}
use Rattle.pac_buffers.proofs.Contents.{buffers_again}
use Rattle.pac_buffers.proofs.container.Pac.build.Goals as goal

pub invariant_of-result : goal.invariant_of-result
invariant_of-result c =
    let lent : Option (List ℕ) = option_map {T = Bor (List ℕ)} {U = List ℕ} (λ x. x.now) c.args.delegation in
    let bs : List Buffer = built c.args.logon.now c.args.client.now lent c.args.ticket c.args.server_type c.args.realm_type in
    let sound : IsSound bs = built_is_sound c.args.logon.now c.args.client.now lent c.args.ticket c.args.server_type c.args.realm_type c.requires.few in
    let spelt : c.in_ok-bytes.bytes.items ≡ pac bs =
    c.in_ok-bytes.ensures ∙ ap (λ (s : ℤ). pac (built c.args.logon.now c.args.client.now lent c.args.ticket s (to_z w32 (of_z w32 c.args.realm_type)))) (type_again c.args.server_type c.requires.server)
    ∙ ap (λ (r : ℤ). pac (built c.args.logon.now c.args.client.now lent c.args.ticket c.args.server_type r)) (type_again c.args.realm_type c.requires.realm) in
    let own : buffers_of c.in_ok-bytes.bytes.items ≡ bs = ap buffers_of spelt ∙ buffers_again bs sound in
    record { spelt = ap pac own ∙ sym spelt; sound = subst IsSound (sym own) sound }

pub returns : goal.returns
returns c =
    let lent : Option (List ℕ) = option_map {T = Bor (List ℕ)} {U = List ℕ} (λ x. x.now) c.args.delegation in
    let bs : List Buffer = built c.args.logon.now c.args.client.now lent c.args.ticket c.args.server_type c.args.realm_type in
    let sound : IsSound bs = built_is_sound c.args.logon.now c.args.client.now lent c.args.ticket c.args.server_type c.args.realm_type c.requires.few in
    let spelt : c.in_ok-bytes.bytes.items ≡ pac bs =
    c.in_ok-bytes.ensures ∙ ap (λ (s : ℤ). pac (built c.args.logon.now c.args.client.now lent c.args.ticket s (to_z w32 (of_z w32 c.args.realm_type)))) (type_again c.args.server_type c.requires.server)
    ∙ ap (λ (r : ℤ). pac (built c.args.logon.now c.args.client.now lent c.args.ticket c.args.server_type r)) (type_again c.args.realm_type c.requires.realm) in
    record { ok = ap buffers_of spelt ∙ buffers_again bs sound }
