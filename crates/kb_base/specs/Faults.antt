-- Which answers raise a device's count of faults.
use Rattle.std.specs.Prelude.{◌≡◌, ℕ, ◌≤◌, Result, MatchResult}
use Rattle.kdc_prelude.specs.Causes.{Rose}
use Rattle.kb_base.specs.declared.fault.DeviceFault.{DeviceFault}
use Rattle.kb_base.specs.declared.fault.DeviceFault.TheVariants.{Failed, NoMemory}

-- what a fault says of the count
abbrev pub RisesBy : ℕ → ℕ → DeviceFault → Type 0
RisesBy before now Failed = Rose before now
RisesBy before now NoMemory = now ≡ before

-- `Failed` is told where, and only where, the count rose; an outcome and want of memory leave it as it was
pub record HasDeviceCause {T : Type 0} (before now : ℕ) (result : Result T DeviceFault) : Type 0 where
  pub later : before ≤ now
  pub failed : MatchResult result (λ _. now ≡ before) (λ fault. RisesBy before now fault)
