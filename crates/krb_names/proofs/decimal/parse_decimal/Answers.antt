use Rattle.std.proofs.Common.{◌≡◌, true, arith}
use Rattle.krb_names.specs.Decimals.{is_decimal}
use Rattle.krb_names.proofs.Decimals.{refused}
use Rattle.krb_names.proofs.decimal.parse_decimal.Goals as goal

pub returns-in_default : goal.returns-in_default
returns-in_default c =
    let plain : is_decimal c.args.text.now ≡ true = cc in
    refused c.args.most c.args.text.now c.parse.result _ c.parse.ensures.value.0 c.in_default.is plain (omega arith)
