use Rattle.std.proofs.Common.{◌≡◌, ◌+◌, ◌++◌, ◌∷◌, [], ℕ, List, Bool, Bor, Option, length, cond, sym, ap, subst, ◌∙◌}
use Rattle.std.specs.Prelude.{IfOk, option_map}
use Rattle.std.specs.Bool.{then_some}
use Rattle.pac_buffers.specs.Buffers.{Buffer, if_there, pac, built}
use Rattle.pac_buffers.specs.Drafts.{Holds}
use Rattle.pac_buffers.proofs.Built.{grown, grown_is, length-grown, lent_if, there_mapped, type_and_zeros, type_again}
use Rattle.pac_buffers.proofs.container.spelt.Goals as goal

pub returns : goal.returns
returns c =
    let logon = c.in_ok-add.ensures.ok _ _ c.in_ok-draft.ensures.ok in
    let client = c.in_ok-add-2.ensures.ok _ _ logon in
    let delegation = c.in_ok-add_if.ensures.ok _ _ client in
    let server = c.in_ok-add-3.ensures.ok _ _ delegation in
    let realm = c.in_ok-add-4.ensures.ok _ _ server in
    let ticket = c.in_ok-add_if-2.ensures.ok _ _ realm in
    let lent : Option (List ℕ) = option_map {T = Bor (List ℕ)} {U = List ℕ} (λ x. x.now) c.args.delegation in
    let last : option_map {T = Bor (List ℕ)} {U = List ℕ} (λ x. x.now) c.then_some.result ≡ then_some c.args.ticket c.unsigned-realm.result =
    ap (option_map {T = Bor (List ℕ)} {U = List ℕ} (λ x. x.now)) c.then_some.ensures ∙ lent_if c.args.ticket c.as_slice.result ∙ ap (then_some c.args.ticket) c.as_slice.ensures in
    let bs : List Buffer = grown c.args.logon.now c.args.client.now lent c.args.ticket c.unsigned-server.result c.unsigned-realm.result in
    let front : List Buffer = (((([] ++ record { kind = 1; content = c.args.logon.now } ∷ []) ++ record { kind = 10; content = c.args.client.now } ∷ []) ++ if_there 11 lent) ++ record { kind = 6; content = c.unsigned-server.result } ∷ [])
    ++ record { kind = 7; content = c.unsigned-realm.result } ∷ [] in
    let held : Holds c.add_if-2.new.self c.count_of.result bs = subst (λ (o : Option (List ℕ)). Holds c.add_if-2.new.self c.count_of.result (front ++ if_there 16 o)) last ticket in
    let many : c.count_of.result ≡ length bs = c.count_of.ensures ∙ ap (λ (t : Bool). 4 + cond t 1 0 + cond c.args.ticket 1 0) (c.is_some.ensures ∙ there_mapped c.args.delegation) ∙ sym (length-grown c.args.logon.now c.args.client.now lent c.args.ticket c.unsigned-server.result c.unsigned-realm.result) in
    let whole : Holds c.add_if-2.new.self (length bs) bs = subst (λ (n : ℕ). Holds c.add_if-2.new.self n bs) many held in
    let same : bs ≡ built c.args.logon.now c.args.client.now lent c.args.ticket c.args.server_type c.args.realm_type = grown_is c.args.logon.now c.args.client.now lent c.args.ticket c.unsigned-server.result c.unsigned-realm.result c.args.server_type c.args.realm_type (c.unsigned-server.ensures ∙ ap type_and_zeros (type_again c.args.server_type c.requires.server)) (c.unsigned-realm.ensures ∙ ap type_and_zeros (type_again c.args.realm_type c.requires.realm)) in
    subst (λ (l : List Buffer). IfOk c.finish.result (λ bytes. bytes.items ≡ pac l)) same (c.finish.ensures.ok bs whole)
