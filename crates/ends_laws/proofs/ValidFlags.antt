-- A granted ticket is not invalid.
use Rattle.std.proofs.Common.{◌≡◌, ◌∙◌, ◌+◌, Bool, true, false, ◌&&◌, Some, refl, sym, ap}
use Rattle.kdc_prelude.specs.Options.{holds_of}
use Rattle.krb_names.specs.declared.moment.Moment.{Moment}
use Rattle.kdc_records.specs.declared.decision.Terms.{Terms}
use Rattle.kdc_records.specs.Bits.{bit_if, has_bit}
use Rattle.dir_records.specs.DirectoryValue.{DirectoryValue}
use Rattle.as_core.specs.AsRequests.{as_ask}
use Rattle.as_core.specs.AsRules.{as_terms, is_stamped, may_be_delegated}
use Rattle.s4u_rules.specs.SelfRules.{aim_is_trusted, self_terms, user_may_be_delegated}
use Rattle.s4u_rules.specs.TgsRules.{aim_of, may_be_forwardable, ordinary_terms}
use Rattle.proxy_rules.specs.ProxyRules.{is_forwardable, proxy_terms}
use Rattle.tgs_core.specs.Grants.{ByAccount, ByEvidence, ByHeader, ForHeadersUser, ForUser, Grounds, terms_of}
use Rattle.tgs_core.specs.Requests.{Request}
use Rattle.tgs_core.proofs.FoundGrants.{mapped_of, some_is}

one_flag : (a : Bool) → has_bit 7 (bit_if 1 a) ≡ false
one_flag true = refl
one_flag false = refl

two_flags : (a b : Bool) → has_bit 7 (bit_if 1 a + bit_if 10 b) ≡ false
two_flags true true = refl
two_flags true false = refl
two_flags false true = refl
two_flags false false = refl

three_flags : (a b : Bool) → has_bit 7 (bit_if 1 a + bit_if 9 true + bit_if 10 b) ≡ false
three_flags true true = refl
three_flags true false = refl
three_flags false true = refl
three_flags false false = refl

by_terms : (given terms : Terms) → given ≡ terms → has_bit 7 given.flags ≡ false → has_bit 7 terms.flags ≡ false
by_terms given terms e h = ap (λ (t : Terms). has_bit 7 t.flags) (sym e) ∙ h

pub terms_are_valid : (dir : DirectoryValue) (now : Moment) (request : Request) (grounds : Grounds) (terms : Terms) → terms_of dir now request grounds ≡ Some terms → has_bit 7 terms.flags ≡ false
terms_are_valid dir now request (ByAccount account) terms e =
    let given : Terms = as_terms (as_ask dir request.realm now request.message) in
    by_terms given terms (some_is given terms e) (three_flags (has_bit 1 (as_ask dir request.realm now request.message).wish.options && holds_of may_be_delegated (as_ask dir request.realm now request.message).account) (is_stamped (as_ask dir request.realm now request.message).stamp))
terms_are_valid dir now request (ByHeader shown) terms e =
    let found = mapped_of (aim_of dir request.realm request.wish) (ordinary_terms dir request.realm now request.wish shown.rec) terms e in
    by_terms (ordinary_terms dir request.realm now request.wish shown.rec found.value) terms found.is (two_flags (may_be_forwardable request.wish shown.rec) (has_bit 10 shown.rec.flags))
terms_are_valid dir now request (ForUser shown account asked) terms e =
    let found = mapped_of (aim_of dir request.realm request.wish) (self_terms dir request.realm now request.wish shown.rec) terms e in
    by_terms (self_terms dir request.realm now request.wish shown.rec found.value) terms found.is (one_flag (may_be_forwardable request.wish shown.rec && holds_of (user_may_be_delegated dir request.realm shown.rec) request.wish.user && aim_is_trusted dir request.realm found.value))
terms_are_valid dir now request (ForHeadersUser shown asked) terms e =
    let found = mapped_of (aim_of dir request.realm request.wish) (self_terms dir request.realm now request.wish shown.rec) terms e in
    by_terms (self_terms dir request.realm now request.wish shown.rec found.value) terms found.is (one_flag (may_be_forwardable request.wish shown.rec && holds_of (user_may_be_delegated dir request.realm shown.rec) request.wish.user && aim_is_trusted dir request.realm found.value))
terms_are_valid dir now request (ByEvidence shown evidence) terms e =
    let found = mapped_of (aim_of dir request.realm request.wish) (proxy_terms dir request.realm now request.wish shown.rec evidence.rec) terms e in
    by_terms (proxy_terms dir request.realm now request.wish shown.rec evidence.rec found.value) terms found.is (one_flag (has_bit 1 request.wish.options && is_forwardable evidence.rec))
