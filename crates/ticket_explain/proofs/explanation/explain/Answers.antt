use Rattle.ticket_explain.proofs.Lengths.{few_bytes}
use Rattle.ticket_explain.proofs.explanation.explain.Goals as goal

pub explain_bytes-requires : goal.explain_bytes-requires
explain_bytes-requires c =
    let few = few_bytes c.args.bytes.now c.without_last_newline.result.now c.in-Ok.ticket.items c.requires c.without_last_newline.ensures c.in-Ok.ensures.ok in
    rw c.as_slice.ensures.value few
