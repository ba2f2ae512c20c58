use Rattle.std.proofs.Common.{◌≡◌, ◌∙◌, inl, inr, sym}
use Rattle.std.specs.Prelude.{codes}
use Rattle.std.proofs.lemmas.Slice.Eq.{bytes_eq-Decides}
use Rattle.hex.proofs.HexLemmas.{decode_of-same}
use Rattle.kdc_replay.specs.Octets.{Spells, spelling}
use Rattle.kdc_replay.proofs.Spellings.{none_spelt, decoded, no_dash}
use Rattle.kdc_replay.proofs.octets.decode.Goals as goal

pub returns-then-eq-clause-only : goal.returns-then-eq-clause-only
returns-then-eq-clause-only c = λ octets spells.
    let dash : c.args.word.now ≡ codes "-" = (bytes_eq-Decides c.args.word.now (codes "-")).0 (sym c.eq.ensures ∙ c.if-eq.true) in
    c.new.ensures.items ∙ sym (none_spelt octets (spells.0, spells.1 ∙ dash))

pub returns-clause-only : goal.returns-clause-only
returns-clause-only c = λ octets spells.
    let some = no_dash c.args.word.now c.eq.result c.eq.ensures c.if-eq.false in
    decode_of-same c.args.word.now c.in_ok-decode.field-0.items octets c.in_ok-decode.ensures.ok (decoded c.args.word.now octets spells some)

pub returns-in_err-decode-clause-found : goal.returns-in_err-decode-clause-found
returns-in_err-decode-clause-found c = λ octets spells unread.
    let some = no_dash c.args.word.now c.eq.result c.eq.ensures c.if-eq.false in
    let value = decoded c.args.word.now octets spells some in
    let told = rw unread at c.from_residual.ensures.1 in
    elim c.in_err-decode.ensures.err [
      | inl full ↦ let no_memory = told.1 full in cc
      | inr bad ↦ cc
    ]
