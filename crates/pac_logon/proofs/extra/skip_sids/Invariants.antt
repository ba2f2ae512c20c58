use Rattle.std.proofs.Common.{◌≡◌, drop}
use Rattle.ndr_core.specs.Arrays.{each_at}
use Rattle.pac_logon.specs.Referents.{sid_past}
use Rattle.pac_logon.proofs.Loops.{gone}
use Rattle.pac_logon.proofs.extra.skip_sids.Given as goal

abbrev pub invariant-loop-there : goal.invariant-loop-there
invariant-loop-there l = gone (each_at sid_past (drop l.there-index l.pointers) l.from) ≡ gone (each_at sid_past l.pointers l.fn.from)
