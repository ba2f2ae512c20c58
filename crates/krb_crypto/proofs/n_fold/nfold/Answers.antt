use Rattle.std.proofs.Common.{◌≡◌, ℕ, ◌+◌, ◌*◌, ◌/◌, ◌%◌, ◌^◌, ◌<◌, ◌≤◌, List, length, take, replicate, arith, ap, sym, ◌∙◌, refl, subst}
use Rattle.aes_core.specs.Inverses.{AreBytes}
use native.Mathlib.Nat.{div-add-mod, mul-div-le, mul-le-mul_left}
use Rattle.std.proofs.lemmas.List.{take-replicate}
use Rattle.krb_crypto.specs.BytesValue.{bytes_value}
use Rattle.krb_crypto.specs.Folding.{nfold, big_endian, bits, copies, sum_of_pieces, common_multiple, piece}
use Rattle.krb_crypto.proofs.CtsInverse.{bytes-zeros}
use Rattle.krb_crypto.proofs.ByteSums.{piece_value, sum_of_pieces_more, carry_round, value-zeros, value-lt, big_endian-value, sum_of_pieces_none, piece-lt}
use Rattle.krb_crypto.proofs.n_fold.nfold.Goals as goal

pub loop-j-init : goal.loop-j-init
loop-j-init c =
    let n : ℕ = length c.args.out.now in (
      subst AreBytes (sym c.clear.ensures) (bytes-zeros n),
      ap bytes_value c.clear.ensures ∙ value-zeros n ∙ sum_of_pieces_none (8 * n) _,
    )

pub loop-j-preserved : goal.loop-j-preserved
loop-j-preserved c =
    let text : List ℕ = c.args.text.now in
    let m : ℕ = length text in
    let n : ℕ = length c.args.out.now in
    let j : ℕ = c.loop-j.j in
    let whole : ℕ = c.common_multiple-whole.result in
    let count : ℕ = whole / m in
    let len : length c.loop-j.out ≡ n = omega arith in
    let exact : m * count + whole % m ≡ whole = div-add-mod whole m in
    let pieces : n * (whole / n) ≤ whole = mul-div-le whole n in
    let more : n * (j + 1) ≤ n * (whole / n) = mul-le-mul_left n (omega arith) in
    let fits : n * j + n ≤ count * m = omega arith in
    let bs : List ℕ = copies count (bits text) in
    let piece_is : bytes_value (take n c.piece_at-piece.result) ≡ piece (8 * n) bs j =
    piece_value n j count text c.piece_at-piece.result (omega arith) fits (λ k h. c.piece_at-piece.ensures count k fits h) in
    let first : List ℕ = c.add_bytes-carry.new.sum in
    let second : List ℕ = c.add_bytes.new.sum in
    let l1 : length first ≡ n = omega arith in
    let l2 : length second ≡ n = omega arith in
    let zeros : bytes_value (take (length first) (replicate 64 0)) ≡ 0 = ap bytes_value (take-replicate (length first) 64 0 (omega arith)) ∙ value-zeros (length first) in
    let low = λ (xs : List ℕ) (e : length xs ≡ n) (h : AreBytes xs). subst (λ k. bytes_value xs < 256 ^ k) e (value-lt xs h) in
    let once : bytes_value first + c.add_bytes-carry.result * 256 ^ n ≡ bytes_value c.loop-j.out + piece (8 * n) bs j =
    (λ t. bytes_value first + c.add_bytes-carry.result * 256 ^ sym len t) ∙ c.add_bytes-carry.ensures.value
    ∙ (λ t. bytes_value c.loop-j.out + ((λ u. bytes_value (take (len u) c.piece_at-piece.result)) ∙ piece_is) t + 0) ∙ omega arith in
    let twice : bytes_value second + c.add_bytes.result * 256 ^ n ≡ bytes_value first + c.add_bytes-carry.result =
    (λ t. bytes_value second + c.add_bytes.result * 256 ^ sym l1 t) ∙ c.add_bytes.ensures.value
    ∙ (λ t. bytes_value first + zeros t + c.add_bytes-carry.result) ∙ omega arith in
    let below : piece (8 * n) bs j < 256 ^ n = piece-lt n j count text in (
      c.add_bytes.ensures.bytes,
      sum_of_pieces_more (8 * n) j bs (bytes_value c.loop-j.out) (piece (8 * n) bs j) (bytes_value second) c.loop-j.invariant.1 refl
          (carry_round n (bytes_value c.loop-j.out) (piece (8 * n) bs j) (bytes_value first) c.add_bytes-carry.result (bytes_value second) c.add_bytes.result
          (low c.loop-j.out len c.loop-j.invariant.0) below (low first l1 c.add_bytes-carry.ensures.bytes) (low second l2 c.add_bytes.ensures.bytes)
          once twice c.add_bytes-carry.ensures.low c.add_bytes.ensures.low),
    )

pub returns : goal.returns
unfolding nfold
returns c =
    let text : List ℕ = c.args.text.now in
    let n : ℕ = length c.args.out.now in
    let len : length c.loop-j.out ≡ n = omega arith in
    let all : c.loop-j.j ≡ c.common_multiple-whole.result / n = omega arith in
    let value : c.common_multiple-whole.result ≡ common_multiple (length text) n = c.common_multiple-whole.ensures.value in
    sym (big_endian-value c.loop-j.out c.loop-j.invariant.0)
    ∙ (λ t. big_endian (len t) (c.loop-j.invariant.1 t))
    ∙ (λ t. big_endian n (sum_of_pieces (8 * n) (all t) (copies (c.common_multiple-whole.result / length text) (bits text))))
    ∙ (λ t. big_endian n (sum_of_pieces (8 * n) (value t / n) (copies (value t / length text) (bits text))))
