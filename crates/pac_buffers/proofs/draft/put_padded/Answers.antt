use Rattle.std.proofs.Common.{append_assoc, rules}
use Rattle.ndr_core.specs.Fields.{gap}
use Rattle.ndr_core.proofs.Zeros.{first_zeros}
use Rattle.pac_buffers.proofs.draft.put_padded.Goals as goal

pub returns : goal.returns
unfolding gap
returns c = search (rules, append_assoc, first_zeros)
