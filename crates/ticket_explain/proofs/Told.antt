-- What a call tells of one that it makes.
use Rattle.std.proofs.Common.{◌≡◌, ◌≢◌, Result, Ok, Err, ap}
use Rattle.der_core.specs.declared.refusal.DerRefusal.{DerRefusal}
use Rattle.dir_records.specs.DirectoryValue.{DirectoryValue}
use Rattle.krb_tickets.specs.declared.ticket.Ticket.{Ticket}
use Rattle.krb_tickets.specs.Told.{told}
use Rattle.ticket_codec.specs.declared.fault.OpenFault.TheVariants as open_faults
use Rattle.ticket_codec.specs.declared.fault.Unopened.{Unopened}
use Rattle.ticket_codec.specs.Denied.{unless_unopened}
use Rattle.ticket_explain.specs.Explained.{explained_reading, explained_ticket}

-- what was opened is the reading
pub opened_is : {A : Type 0} (r : Result A Unopened) (x : A) → unless_unopened r ≡ Ok x → r ≡ Ok x
opened_is (Ok y) x e = cc
opened_is (Err unopened) x e = absurd cc

-- and so is what failed
pub unopened_is : {A : Type 0} (r : Result A Unopened) (unopened : Unopened) → (open_faults.Unopened unopened ≢ open_faults.NoMemory → unless_unopened r ≡ Err (open_faults.Unopened unopened)) → r ≡ Err unopened
unopened_is (Ok y) unopened h = absurd (let e = h (λ f. absurd cc) in cc)
unopened_is {A} (Err found) unopened h =
    let e = h (λ f. absurd cc) in
    let same : found ≡ unopened = cc in
    ap (λ (u : Unopened). let r : Result A Unopened = Err u in r) same

-- what is told of a ticket that was read
pub reading_told : (dir : DirectoryValue) (r : Result Ticket DerRefusal) (t : Ticket) → told r ≡ Ok t → explained_reading dir r ≡ explained_ticket dir t
reading_told dir (Ok x) t e = let same : x ≡ t = cc in ap (λ (t : Ticket). explained_ticket dir t) same
reading_told dir (Err refusal) t e = absurd cc
