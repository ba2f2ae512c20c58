-- What a request that no rule denies is known to be.
use Rattle.std.proofs.Common.{◌≡◌, true, drop, refl}
use Rattle.std.specs.Prelude.{Option, None, Some, is_some}
use Rattle.kdc_prelude.proofs.Verdicts.{passes}
use Rattle.kdc_prelude.specs.Options.{holds_of}
use Rattle.kdc_prelude.specs.Verdicts.{first_failing}
use Rattle.kdc_records.specs.Wishes.{end_is_later, start_is_now}
use Rattle.kdc_records.specs.declared.rule.Rule.TheVariants.{A1, A2, A3, A4, A5, A6, A7, A8, A9, A10}
use Rattle.kdc_records.specs.declared.decision.Terms.{Terms}
use Rattle.kdc_records.specs.declared.rule.Rule.{Rule}
use Rattle.kdc_records.specs.Decisions.{decided, is_grant}
use Rattle.as_core.specs.AsRules.{AsGrants, AsRequest, as_decision, as_rules, as_terms, client_is_enabled, key_type_is_listed, options_are_plain, server_is_krbtgt, stamp_is_fresh, stamp_is_read, stamp_is_there}

kept : (ask : AsRequest) → first_failing (as_rules ask) ≡ None → AsGrants ask
kept ask h =
    let rows = as_rules ask in
    let a1 = passes A1 (is_some ask.account) (drop 1 rows) h in
    let a2 = passes A2 (holds_of client_is_enabled ask.account) (drop 2 rows) a1.1 in
    let a3 = passes A3 (holds_of server_is_krbtgt ask.aim) (drop 3 rows) a2.1 in
    let a4 = passes A4 (start_is_now ask.now ask.wish) (drop 4 rows) a3.1 in
    let a5 = passes A5 (options_are_plain ask.wish) (drop 5 rows) a4.1 in
    let a6 = passes A6 (holds_of (key_type_is_listed ask.wish) ask.account) (drop 6 rows) a5.1 in
    let a7 = passes A7 (holds_of (stamp_is_there ask.stamp) ask.account) (drop 7 rows) a6.1 in
    let a8 = passes A8 (stamp_is_read ask.stamp) (drop 8 rows) a7.1 in
    let a9 = passes A9 (stamp_is_fresh ask.now ask.stamp) (drop 9 rows) a8.1 in
    let a10 = passes A10 (end_is_later ask.now ask.end) (drop 10 rows) a9.1 in
    record {
      known = a1.0;
      enabled = a2.0;
      krbtgt = a3.0;
      from_now = a4.0;
      plain = a5.0;
      listed = a6.0;
      authenticated = a7.0;
      read = a8.0;
      fresh = a9.0;
      lasting = a10.0;
    }

no_rule : (failing : Option Rule) (terms : Terms) → is_grant (decided failing terms) ≡ true → failing ≡ None
no_rule None terms h = refl
no_rule (Some rule) terms h = absurd (cc)

pub granted : (ask : AsRequest) → is_grant (as_decision ask) ≡ true → AsGrants ask
granted ask h = kept ask (no_rule (first_failing (as_rules ask)) (as_terms ask) h)
