-- What is told of a ticket that does not open.
use Rattle.std.proofs.Common.{◌≡◌, ◌≢◌, Result, Ok, Err, refl, ap}
use Rattle.kdc_records.specs.declared.rule.Rule.{Rule}
use Rattle.ticket_codec.specs.declared.fault.OpenFault.{OpenFault}
use Rattle.ticket_codec.specs.declared.fault.OpenFault.TheVariants as open_faults
use Rattle.ticket_codec.specs.declared.fault.ShowFault.{ShowFault}
use Rattle.ticket_codec.specs.declared.fault.ShowFault.TheVariants.{Deny}
use Rattle.ticket_codec.specs.declared.fault.Unopened.{Unopened}
use Rattle.ticket_codec.specs.declared.role.Role.{Role}
use Rattle.ticket_codec.specs.Denied.{denied, unless_unopened}
use Rattle.ticket_codec.specs.Opening.{ruled, unopened_rule}

pub opened_told : {X : Type 0} (role : Role) (r : Result X Unopened) (x : X) → unless_unopened r ≡ Ok x → denied (ruled role r) ≡ Ok x
opened_told role (Ok y) x h = cc
opened_told role (Err unopened) x h = absurd (cc)

pub unopened_told : {X : Type 0} (role : Role) (r : Result X Unopened) (unopened : Unopened) → (open_faults.Unopened unopened ≢ open_faults.NoMemory → unless_unopened r ≡ Err (open_faults.Unopened unopened))
    → denied (ruled role r) ≡ Err (Deny (unopened_rule role unopened))
unopened_told role (Ok y) unopened h = absurd (let e = h (λ f. absurd cc) in cc)
unopened_told {X} role (Err found) unopened h =
    let e = h (λ f. absurd cc) in
    let same : found ≡ unopened = cc in
    ap (λ (u : Unopened). let told : Result X ShowFault = Err (Deny (unopened_rule role u)) in told) same
