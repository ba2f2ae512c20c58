-- What a call that reads a value answers; want of memory is free.
use Rattle.std.specs.Prelude.{◌≡◌, Result, Ok, Err}
use Rattle.der_core.specs.declared.refusal.DerRefusal.{DerRefusal}
use Rattle.der_core.specs.Place.{At}
use Rattle.der_forms.specs.declared.read_fault.ReadFault.{ReadFault}
use Rattle.der_forms.specs.declared.read_fault.ReadFault.TheVariants as faults

abbrev pub Fails : {Y : Type 0} → ReadFault → Result Y DerRefusal → Type 0
Fails (faults.Refused refusal) reading = reading ≡ Err refusal
Fails faults.NoMemory reading = Unit {0}

-- The call gives what the reading gives and goes on behind it, or refuses as it does; a refusal may leave the reader anywhere.
abbrev pub ReadsOn : {X : Type 0} → Result X ReadFault → At → Result (X × At) DerRefusal → Type 0
ReadsOn (Ok x) new reading = reading ≡ Ok (x, new)
ReadsOn (Err fault) new reading = Fails fault reading

-- The call gives what the reading gives, or refuses as it does.
abbrev pub Reads : {X : Type 0} → Result X ReadFault → Result X DerRefusal → Type 0
Reads (Ok x) reading = reading ≡ Ok x
Reads (Err fault) reading = Fails fault reading

-- The same for a call that takes no memory.
abbrev pub GivesOn : {X Y : Type 0} → (X → Y) → Result X DerRefusal → At → Result (Y × At) DerRefusal → Type 0
GivesOn view (Ok x) new reading = reading ≡ Ok (view x, new)
GivesOn view (Err e) new reading = reading ≡ Err e
