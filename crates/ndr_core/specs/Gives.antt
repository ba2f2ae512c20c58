-- What a call on a reader answers.
use Rattle.std.specs.Prelude.{◌≡◌, Result, Ok, Err}
use Rattle.ndr_core.specs.declared.refusal.NdrRefusal.{NdrRefusal}
use Rattle.ndr_core.specs.declared.fault.LogonFault.{LogonFault}
use Rattle.ndr_core.specs.declared.fault.LogonFault.TheVariants as faults
use Rattle.ndr_core.specs.Place.{At}

-- The call answers what the reading gives, or refuses as the reading does.
abbrev pub Answers : {X Y : Type 0} → (X → Y) → Result X NdrRefusal → Result Y LogonFault → Type 0
Answers view (Ok x) reading = reading ≡ Ok (view x)
Answers view (Err e) reading = reading ≡ Err (faults.Ndr e)

-- The same of a reader, which goes on behind the value.
abbrev pub Reads : {X Y : Type 0} → (X → Y) → Result X NdrRefusal → At → Result (Y × At) LogonFault → Type 0
Reads view (Ok x) new reading = reading ≡ Ok (view x, new)
Reads view (Err e) new reading = reading ≡ Err (faults.Ndr e)

-- The same, and after a refusal the reader stays.
abbrev pub Moves : {X Y : Type 0} → (X → Y) → Result X NdrRefusal → At → At → Result (Y × At) LogonFault → Type 0
Moves view (Ok x) old new reading = reading ≡ Ok (view x, new)
Moves view (Err e) old new reading = (reading ≡ Err (faults.Ndr e)) × (new ≡ old)

abbrev pub Fails : {Y : Type 0} → LogonFault → Result Y LogonFault → Type 0
Fails faults.NoMemory reading = Unit {0}
Fails faults.BadText reading = reading ≡ Err faults.BadText
Fails (faults.Ndr e) reading = reading ≡ Err (faults.Ndr e)

-- A value that takes memory: as the reading gives, unless memory runs out.
abbrev pub Gives : {X Y : Type 0} → (X → Y) → Result X LogonFault → At → Result (Y × At) LogonFault → Type 0
Gives view (Ok x) new reading = reading ≡ Ok (view x, new)
Gives view (Err fault) new reading = Fails fault reading

-- The same where nothing is left to read.
abbrev pub Tells : {X Y : Type 0} → (X → Y) → Result X LogonFault → Result Y LogonFault → Type 0
Tells view (Ok x) reading = reading ≡ Ok (view x)
Tells view (Err fault) reading = Fails fault reading
