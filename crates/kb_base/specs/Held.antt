-- What the devices in memory hold: their contents, the numbers of the calls that fail, and how many calls were made and failed.
use Rattle.std.specs.Prelude.{ℕ, List}
use Rattle.kb_base.specs.Blocks.{BlocksValue}
use Rattle.kb_base.specs.Callers.{CallersValue}

-- the bytes that are left
pub record SourceValue : Type 0 where
  pub left : List ℕ
  pub fails : List ℕ
  pub calls : ℕ
  pub faults : ℕ

-- the bytes that were written
pub record SinkValue : Type 0 where
  pub held : List ℕ
  pub fails : List ℕ
  pub calls : ℕ
  pub faults : ℕ

-- the batches that are left
pub record ChangesValue : Type 0 where
  pub batches : List (List ℕ)
  pub fails : List ℕ
  pub calls : ℕ
  pub faults : ℕ

-- the callers; faults of accepting are counted apart from those of the callers' connections
pub record DoorValue : Type 0 where
  pub callers : CallersValue
  pub fails : List ℕ
  pub calls : ℕ
  pub accept_faults : ℕ
  pub faults : ℕ

-- the blocks
pub record EntropyValue : Type 0 where
  pub blocks : BlocksValue
  pub fails : List ℕ
  pub calls : ℕ
  pub faults : ℕ

-- the callers of a door that never fails; the faults are the writes without a current caller
pub record SteadyDoorValue : Type 0 where
  pub callers : CallersValue
  pub faults : ℕ

-- the bytes that are left of a peer, and those that it was sent
pub record LinkValue : Type 0 where
  pub left : List ℕ
  pub sent : List ℕ
  pub fails : List ℕ
  pub calls : ℕ
  pub faults : ℕ

-- the same of a peer that never fails
pub record SteadyLinkValue : Type 0 where
  pub left : List ℕ
  pub sent : List ℕ
