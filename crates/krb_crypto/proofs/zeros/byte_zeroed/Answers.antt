use Rattle.std.proofs.Common.{◌≡◌, ℕ, ◌<◌, ◌≤◌, List, length, get_or, arith, sym, ◌∙◌, inl, inr, refl}
use Rattle.std.proofs.lemmas.Bool.{cases_lt, false≢true}
use Rattle.krb_crypto.specs.Checksums.{zeroed}
use Rattle.krb_crypto.proofs.ZeroedTexts.{length-zeroed, zeroed_in, zeroed_below, zeroed_above}
use Rattle.krb_crypto.proofs.zeros.byte_zeroed.Goals as goal

-- an index that is not in a range keeps its byte
outside : (from to i : ℕ) (text : List ℕ) → from ≤ to → to ≤ length text → ((from ≤ i) × (i < to) → ⊥) → get_or (zeroed from to text) i 0 ≡ get_or text i 0
outside from to i text h l out = elim (cases_lt i from) [
  | inl low ↦ zeroed_below from to i text h l low
  | inr high ↦ elim (cases_lt i to) [
    | inl within ↦ absurd (out (high, within))
    | inr above ↦ zeroed_above from to i text h l above
  ]
]

pub returns-then-is_within-2 : goal.returns-then-is_within-2
returns-then-is_within-2 c =
    let text : List ℕ = c.args.text.now in
    let once : List ℕ = zeroed c.args.first.now.start c.args.first.now.end text in
    let len : length once ≡ length text = length-zeroed c.args.first.now.start c.args.first.now.end text c.requires.first.0 c.requires.first.1 in
    let here = c.if-is_within-2.ensures.0 refl in
    sym (
    outside c.args.second.now.start c.args.second.now.end c.args.i once c.requires.second.0 (omega arith) (λ p. false≢true (c.if-is_within.ensures.1 p))
    ∙ zeroed_in c.args.first.now.start c.args.first.now.end c.args.i text c.requires.first.0 c.requires.first.1 here.0 here.1
    )

pub returns : goal.returns
returns c =
    let text : List ℕ = c.args.text.now in
    let once : List ℕ = zeroed c.args.first.now.start c.args.first.now.end text in
    let len : length once ≡ length text = length-zeroed c.args.first.now.start c.args.first.now.end text c.requires.first.0 c.requires.first.1 in
    sym (
    outside c.args.second.now.start c.args.second.now.end c.args.i once c.requires.second.0 (omega arith) (λ p. false≢true (c.if-is_within.ensures.1 p))
    ∙ outside c.args.first.now.start c.args.first.now.end c.args.i text c.requires.first.0 c.requires.first.1 (λ p. false≢true (c.if-is_within-2.ensures.1 p))
    )
