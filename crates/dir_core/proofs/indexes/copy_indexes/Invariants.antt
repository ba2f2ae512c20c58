use Rattle.std.proofs.Common.{take}
use Rattle.std.specs.List.{AllZip}
use Rattle.dir_core.specs.Indexed.{IsSameIndex}
use Rattle.dir_core.proofs.indexes.copy_indexes.Given as goal

abbrev pub invariant-loop-index : goal.invariant-loop-index
invariant-loop-index l =
    AllZip IsSameIndex (take l.index-index l.indexes) l.copied
