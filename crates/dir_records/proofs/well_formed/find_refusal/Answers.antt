use Rattle.std.proofs.Common.{◌∙◌, sym}
use Rattle.dir_records.proofs.Bounds.{are_bounded, few_trusts, few_wide_accounts}
use Rattle.dir_records.proofs.well_formed.find_refusal.Goals as goal

pub find_clash-requires-clause-accounts : goal.find_clash-requires-clause-accounts
find_clash-requires-clause-accounts c =
    few_wide_accounts c.args.contents.now.realms (are_bounded c.args.contents.now.realms (rw c.as_slice.ensures at (sym c.in_ok-refusal.ensures ∙ c.in-None.is)))

pub find_clash-requires-clause-trusts : goal.find_clash-requires-clause-trusts
find_clash-requires-clause-trusts c =
    few_trusts c.args.contents.now.realms (are_bounded c.args.contents.now.realms (rw c.as_slice.ensures at (sym c.in_ok-refusal.ensures ∙ c.in-None.is)))
