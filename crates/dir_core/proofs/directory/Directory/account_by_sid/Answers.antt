use Rattle.std.proofs.Common.{◌≡◌, ◌<◌, ◌∙◌, ℕ, ap, length, subst, sym}
use Rattle.std.specs.Prelude.{IfSome, Option, slice_get}
use Rattle.dir_records.proofs.Bounds.{well_bounded}
use Rattle.dir_core.specs.Lookups.{accounts_of, sid_place_from}
use Rattle.dir_core.proofs.Served.{account_within, realm_within, sid_placed}
use Rattle.dir_core.proofs.SidApart.{sids_apart}
use Rattle.dir_core.proofs.SidOnce.{once_by_sid}
use Rattle.dir_core.proofs.directory.Directory.account_by_sid.Goals as goal

pub place_of_sid-requires-clause-few : goal.place_of_sid-requires-clause-few
place_of_sid-requires-clause-few c = rw c.as_slice.ensures (well_bounded c.self.inside.contents c.self.invariant.0).few

pub place_of_sid-requires-clause-indexed : goal.place_of_sid-requires-clause-indexed
place_of_sid-requires-clause-indexed c = rw (c.as_slice.ensures, c.as_slice-2.ensures) c.self.invariant.1.realms

is_placed : (c : goal.After-place_of_sid) → c.place_of_sid.result ≡ sid_place_from c.args.sid.now 0 c.args.self.now.realms
is_placed c = c.place_of_sid.ensures ∙ ap (sid_place_from c.args.sid.now 0) (c.as_slice.ensures ∙ ap (λ d. d.realms) c.self.view_is)

pub returns-clause-within : goal.returns-clause-within
returns-clause-within c =
    let realms = c.args.self.now.realms in
    subst (λ (o : Option (ℕ × ℕ)). IfSome o (λ place. place.0 < length realms)) (sym (is_placed c))
    (realm_within realms (sid_place_from c.args.sid.now 0 realms) (sid_placed c.args.sid.now realms))

pub returns-clause-account : goal.returns-clause-account
returns-clause-account c =
    let realms = c.args.self.now.realms in
    subst (λ (o : Option (ℕ × ℕ)). IfSome o (λ place. place.1 < length (accounts_of (slice_get realms place.0)))) (sym (is_placed c))
    (account_within realms (sid_place_from c.args.sid.now 0 realms) (sid_placed c.args.sid.now realms))

pub returns-clause-only : goal.returns-clause-only
returns-clause-only c =
    let realms = c.self.inside.contents.realms in
    let apart = sids_apart c.self.inside.contents c.self.invariant.0 in
    let few = once_by_sid c.args.sid.now realms apart.sids apart.numbers in
    let same = ap (λ d. d.realms) c.self.view_is in
    rw same at few
