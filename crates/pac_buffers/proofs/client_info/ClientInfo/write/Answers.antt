use Rattle.std.proofs.Common.{◌≡◌, ◌<◌, ◌^◌, ℕ, length, List, Ok, Some, sym, subst, rules, arith}
use Rattle.krb_names.specs.Utf16.{utf16le_reading, utf16le_text}
use Rattle.krb_names.proofs.Units.{text_back}
use Rattle.ndr_core.specs.Object.{packed, packed_spelling}
use Rattle.pac_buffers.specs.Client.{client}
use Rattle.pac_buffers.proofs.InfoFits.{client_again}
use Rattle.pac_buffers.proofs.Sizes.{client_short}
use Rattle.pac_buffers.proofs.client_info.ClientInfo.write.Goals as goal

pub returns-clause-exact : goal.returns-clause-exact
returns-clause-exact c =
    let ok : c.from_vec.result ≡ packed_spelling client c.args.self.now = search rules in
    let time : c.args.self.now.time < 2 ^ 64 = omega arith in
    let back : utf16le_reading (utf16le_text c.args.self.now.name) ≡ Some c.args.self.now.name = subst (λ (t : List ℕ). utf16le_reading (utf16le_text t) ≡ Some t) c.as_str.ensures (text_back _ c.as_str.utf8) in
    subst (λ (b : List ℕ). packed client b ≡ Ok c.args.self.now) (sym ok) (client_again c.args.self.now time back c.requires.few)

pub returns-clause-short : goal.returns-clause-short
returns-clause-short c =
    let ok : c.from_vec.result ≡ packed_spelling client c.args.self.now = search rules in
    subst (λ (b : List ℕ). length b < 2 ^ 30) (sym ok) (client_short c.args.self.now c.requires.few)
