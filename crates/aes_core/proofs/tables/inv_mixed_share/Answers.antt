use Rattle.std.proofs.Common.{arith}
use Rattle.aes_core.proofs.TableRules.{inv_mixed_at}
use Rattle.aes_core.proofs.tables.inv_mixed_share.Goals as goal

pub returns : goal.returns
returns c = inv_mixed_at c.args.row c.args.x c.requires (omega arith)
