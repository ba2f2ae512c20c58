-- What a call that reads a message tells of its reading.
use Rattle.std.proofs.Common.{◌≡◌, ◌≢◌, Result, Ok, Err, refl}
use Rattle.der_core.specs.declared.refusal.DerRefusal.{DerRefusal}
use Rattle.krb_tickets.specs.declared.fault.Malformed.{Malformed}
use Rattle.krb_tickets.specs.declared.fault.TicketFault.TheVariants as faults
use Rattle.krb_tickets.specs.Told.{told}

pub told_whole : {X : Type 0} (r : Result X DerRefusal) (x : X) → told r ≡ Ok x → r ≡ Ok x
told_whole (Ok other) x h = cc
told_whole (Err refusal) x h = absurd (cc)

-- a refusal
pub record IsRefused {X : Type 0} (r : Result X DerRefusal) : Type 0 where
  pub refusal : DerRefusal
  pub is : r ≡ Err refusal

pub told_refused : {X : Type 0} (r : Result X DerRefusal) (fault : Malformed) → (faults.Malformed fault ≢ faults.NoMemory → told r ≡ Err (faults.Malformed fault)) → IsRefused r
told_refused (Ok x) fault h = let e = h (λ e. cc) in absurd (cc)
told_refused (Err refusal) fault h = record { refusal = refusal; is = refl }
