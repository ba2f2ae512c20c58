-- What a TGS-REQ that no rule denies is known to be.
use Rattle.std.proofs.Common.{◌≡◌, ◌∙◌, ℕ, Bool, true, [], drop, refl, sym}
use Rattle.std.specs.Prelude.{Option, None, Some, is_some}
use Rattle.kdc_prelude.proofs.Verdicts.{passes}
use Rattle.kdc_prelude.specs.Options.{holds_of}
use Rattle.kdc_prelude.specs.Verdicts.{first_failing}
use Rattle.kdc_records.specs.Wishes.{end_is_later, start_is_now}
use Rattle.krb_names.specs.declared.moment.Moment.{Moment}
use Rattle.kdc_records.specs.declared.decision.Aim.{Aim}
use Rattle.kdc_records.specs.declared.decision.Terms.{Terms}
use Rattle.kdc_records.specs.declared.rule.Rule.{Rule}
use Rattle.kdc_records.specs.declared.rule.Rule.TheVariants.{G9, G10, G11, G12, G13, G14, G15, G16, G17, G18, G19, G20, G21, G22, S4, S5, S6, S7, T1}
use Rattle.kdc_records.specs.declared.ticket_rec.TicketRec.{TicketRec}
use Rattle.kdc_records.specs.declared.wish.Wish.{Wish}
use Rattle.kdc_records.specs.Decisions.{decided, is_grant}
use Rattle.dir_records.specs.DirectoryValue.{DirectoryValue}
use Rattle.route_rules.specs.Cross.{is_reached_subject, is_reached_way}
use Rattle.s4u_rules.specs.Granted.{EndsLater, HeaderGrants, SelfGrants}
use Rattle.s4u_rules.specs.Headers.{SeenHeader, Shown, ShownHeader, Wrong}
use Rattle.s4u_rules.specs.SelfRules.{SeenSelf, self_decision, self_rules, self_terms, self_verdict, server_is_the_requestor, user_fits_header, user_is_enabled, user_is_known}
use Rattle.s4u_rules.specs.SelfRules as selves
use Rattle.s4u_rules.specs.TgsRules.{aim_is_allowed, aim_is_enabled, aim_may_be_asked, aim_of, end_within, etype_is_listed, header_has_begun, header_is_certified, header_is_own, header_lasts, header_rules, header_verdict, options_are_plain, ordinary_decision, ordinary_rules, ordinary_terms, requestor_is_enabled, requestor_is_known, stamp_is_fresh}

found : {X : Type 0} (test : X → Bool) (x : Option X) → holds_of test x ≡ true → (y : X) × (x ≡ Some y) × (test y ≡ true)
found test None h = absurd (cc)
found test (Some y) h = (y, refl, h)

of_found : {X : Type 0} (test : X → Bool) (x : Option X) (y : X) → x ≡ Some y → holds_of test x ≡ true → test y ≡ true
of_found test x y e h = let at : holds_of test (Some y) ≡ true = sym (λ i. holds_of test (e i)) ∙ h in at

there : {X : Type 0} (x : Option X) → is_some x ≡ true → (y : X) × (x ≡ Some y)
there None h = absurd (cc)
there (Some y) h = (y, refl)

shown : (dir : DirectoryValue) (at : ℕ) (now : Moment) (wish : Wish) (header : ShownHeader) → first_failing (header_rules dir at now wish header) ≡ None → HeaderGrants dir at now wish (Shown header)
shown dir at now wish header h =
    let rows = header_rules dir at now wish header in
    let g9 = passes G9 (stamp_is_fresh now header) (drop 1 rows) h in
    let g10 = passes G10 (header_has_begun now header) (drop 2 rows) g9.1 in
    let g11 = passes G11 (header_lasts now header) (drop 3 rows) g10.1 in
    let g12 = passes G12 (header_is_certified header) (drop 4 rows) g11.1 in
    let g13 = passes G13 (holds_of (requestor_is_known dir at) header.rec) (drop 5 rows) g12.1 in
    let g14 = passes G14 (holds_of (requestor_is_enabled dir at) header.rec) (drop 6 rows) g13.1 in
    let g15 = passes G15 (holds_of (is_reached_subject dir at) header.rec) (drop 7 rows) g14.1 in
    let g16 = passes G16 (holds_of (is_reached_way dir at) header.rec) (drop 8 rows) g15.1 in
    let g17 = passes G17 (start_is_now now wish) (drop 9 rows) g16.1 in
    let g18 = passes G18 (options_are_plain wish) (drop 10 rows) g17.1 in
    let g19 = passes G19 (holds_of (aim_may_be_asked header.rec) (aim_of dir at wish)) (drop 11 rows) g18.1 in
    let g20 = passes G20 (holds_of (aim_is_enabled dir at) (aim_of dir at wish)) (drop 12 rows) g19.1 in
    let g21 = passes G21 (etype_is_listed wish) (drop 13 rows) g20.1 in
    let g22 = passes G22 (holds_of (header_is_own wish) header.rec) (drop 14 rows) g21.1 in
    let certified = there header.rec g12.0 in
    let aimed = found (aim_may_be_asked header.rec) (aim_of dir at wish) g19.0 in
    let rec = certified.0 in
    record {
      header = header;
      shown = refl;
      fresh = g9.0;
      begun = g10.0;
      lasting = g11.0;
      rec = rec;
      certified = certified.1;
      known = of_found (requestor_is_known dir at) header.rec rec certified.1 g13.0;
      enabled = of_found (requestor_is_enabled dir at) header.rec rec certified.1 g14.0;
      subject_reached = of_found (is_reached_subject dir at) header.rec rec certified.1 g15.0;
      way_reached = of_found (is_reached_way dir at) header.rec rec certified.1 g16.0;
      from_now = g17.0;
      plain = g18.0;
      aim = aimed.0;
      aimed = aimed.1;
      allowed = of_found (λ (one : TicketRec). aim_is_allowed one aimed.0) header.rec rec certified.1 aimed.2;
      aim_enabled = of_found (aim_is_enabled dir at) (aim_of dir at wish) aimed.0 aimed.1 g20.0;
      listed = g21.0;
      own = of_found (header_is_own wish) header.rec rec certified.1 g22.0;
    }

pub header_known : (dir : DirectoryValue) (at : ℕ) (now : Moment) (wish : Wish) (seen : SeenHeader) → header_verdict dir at now wish seen ≡ None → HeaderGrants dir at now wish seen
header_known dir at now wish (Wrong rule) h = absurd (cc)
header_known dir at now wish (Shown header) h = shown dir at now wish header h

no_rule : (failing : Option Rule) (terms : Terms) → is_grant (decided failing terms) ≡ true → failing ≡ None
no_rule None terms h = refl
no_rule (Some rule) terms h = absurd (cc)

pub ordinary_known : (dir : DirectoryValue) (at : ℕ) (now : Moment) (wish : Wish) (rec : TicketRec) (aim : Aim) → is_grant (ordinary_decision dir at now wish rec aim) ≡ true → EndsLater dir at now wish rec
ordinary_known dir at now wish rec aim h =
    (passes T1 (end_is_later now (end_within dir at now wish rec)) [] (no_rule (first_failing (ordinary_rules dir at now wish rec)) (ordinary_terms dir at now wish rec aim) h)).0

self_shown : (dir : DirectoryValue) (at : ℕ) (now : Moment) (wish : Wish) (rec : TicketRec) → first_failing (self_rules dir at now wish rec) ≡ None → SelfGrants dir at now wish rec selves.Shown
self_shown dir at now wish rec h =
    let rows = self_rules dir at now wish rec in
    let s4 = passes S4 (server_is_the_requestor dir at wish rec) (drop 1 rows) h in
    let s5 = passes S5 (holds_of (user_fits_header dir at rec) wish.user) (drop 2 rows) s4.1 in
    let s6 = passes S6 (holds_of (user_is_known dir at) wish.user) (drop 3 rows) s5.1 in
    let s7 = passes S7 (holds_of (user_is_enabled dir at) wish.user) (drop 4 rows) s6.1 in
    let t1 = passes T1 (end_is_later now (end_within dir at now wish rec)) [] s7.1 in
    let named = found (user_fits_header dir at rec) wish.user s5.0 in
    record {
      shown = refl;
      requested = s4.0;
      user = named.0;
      named = named.1;
      fits = named.2;
      user_known = of_found (user_is_known dir at) wish.user named.0 named.1 s6.0;
      user_enabled = of_found (user_is_enabled dir at) wish.user named.0 named.1 s7.0;
      lasting = t1.0;
    }

pub self_known : (dir : DirectoryValue) (at : ℕ) (now : Moment) (wish : Wish) (rec : TicketRec) (aim : Aim) (seen : SeenSelf) → is_grant (self_decision dir at now wish rec aim seen) ≡ true → SelfGrants dir at now wish rec seen
self_known dir at now wish rec aim (selves.Wrong rule) h = absurd (cc)
self_known dir at now wish rec aim selves.Shown h = self_shown dir at now wish rec (no_rule (self_verdict dir at now wish rec selves.Shown) (self_terms dir at now wish rec aim) h)
