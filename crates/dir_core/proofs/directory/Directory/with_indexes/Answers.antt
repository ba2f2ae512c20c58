use Rattle.dir_records.proofs.Bounds.{few_accounts, well_bounded}
use Rattle.dir_core.proofs.directory.Directory.with_indexes.Goals as goal

pub of_contents-requires-clause-few : goal.of_contents-requires-clause-few
of_contents-requires-clause-few c = (well_bounded c.args.contents c.requires).few

pub of_contents-requires-clause-accounts : goal.of_contents-requires-clause-accounts
of_contents-requires-clause-accounts c = few_accounts c.args.contents.realms (well_bounded c.args.contents c.requires)
