use Rattle.std.proofs.Common.{◌∙◌, ap, sym}
use Rattle.std.specs.Prelude.{position}
use Rattle.kdc_prelude.specs.Texts.{same_text}
use Rattle.dir_records.specs.declared.records.Trust.{Trust}
use Rattle.ticket_codec.proofs.Steps.{trust_is}
use Rattle.ticket_codec.proofs.holding.find_trust.Goals as goal

pub returns-in-None : goal.returns-in-None
returns-in-None c = record {
  exact =
      c.in-None.ensures.place
      ∙ ap (position (λ (trust : Trust). same_text trust.partner c.args.partner.now)) c.as_slice.ensures
      ∙ sym (trust_is c.args.dir.now c.args.realm c.realm.result.now c.args.partner.now c.realm.ensures.found);
}
