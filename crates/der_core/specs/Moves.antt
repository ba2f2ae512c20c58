-- What a call on a reader answers.
use Rattle.std.specs.Prelude.{◌≡◌, Result, Ok, Err}
use Rattle.der_core.specs.declared.refusal.DerRefusal.{DerRefusal}
use Rattle.der_core.specs.Place.{At}

-- The call gives what the reading gives and goes on behind it, or refuses as the reading does and stays.
abbrev pub Moves : {X Y : Type 0} → (X → Y) → Result X DerRefusal → At → At → Result (Y × At) DerRefusal → Type 0
Moves view (Ok x) old new reading = reading ≡ Ok (view x, new)
Moves view (Err e) old new reading = (reading ≡ Err e) × (new ≡ old)

-- The call gives what the reading gives, or refuses as it does.
abbrev pub Gives : {X Y : Type 0} → (X → Y) → Result X DerRefusal → Result Y DerRefusal → Type 0
Gives view (Ok x) reading = reading ≡ Ok (view x)
Gives view (Err e) reading = reading ≡ Err e
