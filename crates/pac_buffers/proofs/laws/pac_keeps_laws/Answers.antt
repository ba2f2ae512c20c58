use Rattle.pac_buffers.proofs.Built.{built_is_sound}
use Rattle.pac_buffers.proofs.Faults.{no_fault}
use Rattle.pac_buffers.proofs.Contents.{buffer_is}
use Rattle.pac_buffers.proofs.Prefixes.{no_prefix, spelt_once}
use Rattle.pac_buffers.proofs.laws.pac_keeps_laws.Goals as goal

pub returns-clause-ok : goal.returns-clause-ok
returns-clause-ok c = built_is_sound

pub returns-clause-found : goal.returns-clause-found
returns-clause-found c = no_fault

pub returns-clause-exact : goal.returns-clause-exact
returns-clause-exact c = λ bs kind sound. buffer_is kind bs sound

pub returns-clause-only : goal.returns-clause-only
returns-clause-only c = λ bs cs first second same. spelt_once bs cs first second same

pub returns-clause-whole : goal.returns-clause-whole
returns-clause-whole c = λ bs cs rest first second whole. no_prefix bs cs rest first second whole
