-- Which faults of a run raise which device's count.
use Rattle.std.specs.Prelude.{◌≡◌, ℕ, ◌+◌, ◌≤◌, if◌then◌else◌, Bool, true, false, Result, Ok, Err}
use Rattle.kdc_prelude.specs.Causes.{Rose}
use Rattle.kdc_run.specs.declared.served.RunFault.{RunFault}
use Rattle.kdc_run.specs.declared.served.RunFault.TheVariants.{NoMemory, Out, Entropy, Changes, Door}

abbrev pub is_out : RunFault → Bool
is_out Out = true
is_out NoMemory = false
is_out Entropy = false
is_out Changes = false
is_out Door = false

abbrev pub is_entropy : RunFault → Bool
is_entropy Entropy = true
is_entropy NoMemory = false
is_entropy Out = false
is_entropy Changes = false
is_entropy Door = false

abbrev pub is_changes : RunFault → Bool
is_changes Changes = true
is_changes NoMemory = false
is_changes Out = false
is_changes Entropy = false
is_changes Door = false

abbrev pub is_door : RunFault → Bool
is_door Door = true
is_door NoMemory = false
is_door Out = false
is_door Entropy = false
is_door Changes = false

-- a count that rose, or stayed
abbrev pub CountIs : Bool → ℕ → ℕ → Type 0
CountIs true before now = (before ≤ now) × Rose before now
CountIs false before now = now ≡ before

-- the device's count rose where its fault is told, and stayed where it is not
abbrev pub HasCount : {T : Type 0} → (RunFault → Bool) → ℕ → ℕ → Result T RunFault → Type 0
HasCount is_mine before now (Ok x) = now ≡ before
HasCount is_mine before now (Err fault) = CountIs (is_mine fault) before now

-- what writing a note may answer
abbrev pub IsWriting : RunFault → Type 0
IsWriting NoMemory = Unit {0}
IsWriting Out = Unit {0}
IsWriting Entropy = ⊥
IsWriting Changes = ⊥
IsWriting Door = ⊥

-- what taking the changes may answer
abbrev pub IsTaking : RunFault → Type 0
IsTaking NoMemory = Unit {0}
IsTaking Out = Unit {0}
IsTaking Changes = Unit {0}
IsTaking Entropy = ⊥
IsTaking Door = ⊥

-- what answering a request may answer
abbrev pub IsAnswering : RunFault → Type 0
IsAnswering NoMemory = Unit {0}
IsAnswering Entropy = Unit {0}
IsAnswering Out = ⊥
IsAnswering Changes = ⊥
IsAnswering Door = ⊥

-- what serving a caller that is there may answer
abbrev pub IsServing : RunFault → Type 0
IsServing NoMemory = Unit {0}
IsServing Out = Unit {0}
IsServing Entropy = Unit {0}
IsServing Changes = Unit {0}
IsServing Door = ⊥

-- how many blocks are drawn at most for a request at which a run ends so
abbrev pub most_drawn : RunFault → ℕ
most_drawn NoMemory = 1
most_drawn Out = 1
most_drawn Entropy = 0
most_drawn Changes = 0
most_drawn Door = 0

-- how many batches are applied where so many blocks were drawn: one more where there are no random octets
abbrev pub applied : RunFault → ℕ → ℕ
applied fault drawn = if is_entropy fault then drawn + 1 else drawn
