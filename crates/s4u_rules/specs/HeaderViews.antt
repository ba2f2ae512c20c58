-- The header of a TGS-REQ, and the padata of S4U2self, as a call is lent them.
use Rattle.std.specs.Option.{option_copied}
use Rattle.krb_names.specs.Moments.{in_micros}
use Rattle.s4u_rules.specs.declared.header.HeaderView.{HeaderView}
use Rattle.s4u_rules.specs.declared.header.HeaderView.TheVariants as views
use Rattle.s4u_rules.specs.declared.header.ShownView.TheInside.{Inside}
use Rattle.s4u_rules.specs.declared.header.SelfView.{SelfView}
use Rattle.s4u_rules.specs.declared.header.SelfView.TheVariants as self_views
use Rattle.s4u_rules.specs.Headers.{SeenHeader, Shown, ShownHeader, Wrong}
use Rattle.s4u_rules.specs.SelfRules.{SeenSelf}
use Rattle.s4u_rules.specs.SelfRules as selves

abbrev pub shown_seen : Inside → ShownHeader
shown_seen header = record { stamp = in_micros header.stamp; start = header.start; end = header.end; invalid = header.invalid; rec = option_copied header.rec }

abbrev pub header_seen : HeaderView → SeenHeader
header_seen (views.Wrong rule) = Wrong rule
header_seen (views.Shown stamp start end invalid rec) =
    Shown (record { stamp = in_micros stamp; start = start; end = end; invalid = invalid; rec = option_copied rec })

abbrev pub self_seen : SelfView → SeenSelf
self_seen (self_views.Wrong rule) = selves.Wrong rule
self_seen self_views.Shown = selves.Shown
