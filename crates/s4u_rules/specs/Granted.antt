-- What a TGS-REQ that is granted is known to be: a fact a rule.
use Rattle.std.specs.Prelude.{◌≡◌, ℕ, true, Some}
use Rattle.kdc_records.specs.Wishes.{end_is_later, start_is_now}
use Rattle.krb_names.specs.declared.moment.Moment.{Moment}
use Rattle.krb_names.specs.declared.principal.Principal.{Principal}
use Rattle.kdc_records.specs.declared.decision.Aim.{Aim}
use Rattle.kdc_records.specs.declared.ticket_rec.TicketRec.{TicketRec}
use Rattle.kdc_records.specs.declared.wish.Wish.{Wish}
use Rattle.dir_records.specs.DirectoryValue.{DirectoryValue}
use Rattle.route_rules.specs.Cross.{is_reached_subject, is_reached_way}
use Rattle.s4u_rules.specs.Headers.{SeenHeader, Shown, ShownHeader}
use Rattle.s4u_rules.specs.SelfRules.{SeenSelf, server_is_the_requestor, user_fits_header, user_is_enabled, user_is_known}
use Rattle.s4u_rules.specs.SelfRules as selves
use Rattle.s4u_rules.specs.TgsRules.{aim_is_allowed, aim_is_enabled, aim_of, end_within, etype_is_listed, header_has_begun, header_is_own, header_lasts, options_are_plain, requestor_is_enabled, requestor_is_known, stamp_is_fresh}

-- by its header, which was opened and has a record, and by what it asks for, which aims at something
pub record HeaderGrants (dir : DirectoryValue) (at : ℕ) (now : Moment) (wish : Wish) (seen : SeenHeader) : Type 0 where
  pub header : ShownHeader
  pub shown : seen ≡ Shown header
  pub fresh : stamp_is_fresh now header ≡ true
  pub begun : header_has_begun now header ≡ true
  pub lasting : header_lasts now header ≡ true
  pub rec : TicketRec
  pub certified : header.rec ≡ Some rec
  pub known : requestor_is_known dir at rec ≡ true
  pub enabled : requestor_is_enabled dir at rec ≡ true
  pub subject_reached : is_reached_subject dir at rec ≡ true
  pub way_reached : is_reached_way dir at rec ≡ true
  pub from_now : start_is_now now wish ≡ true
  pub plain : options_are_plain wish ≡ true
  pub aim : Aim
  pub aimed : aim_of dir at wish ≡ Some aim
  pub allowed : aim_is_allowed rec aim ≡ true
  pub aim_enabled : aim_is_enabled dir at aim ≡ true
  pub listed : etype_is_listed wish ≡ true
  pub own : header_is_own wish rec ≡ true

-- by T1
abbrev pub EndsLater : DirectoryValue → ℕ → Moment → Wish → TicketRec → Type 0
EndsLater dir at now wish rec = end_is_later now (end_within dir at now wish rec) ≡ true

-- by the rules of S4U2self, which names a user
pub record SelfGrants (dir : DirectoryValue) (at : ℕ) (now : Moment) (wish : Wish) (rec : TicketRec) (seen : SeenSelf) : Type 0 where
  pub shown : seen ≡ selves.Shown
  pub requested : server_is_the_requestor dir at wish rec ≡ true
  pub user : Principal
  pub named : wish.user ≡ Some user
  pub fits : user_fits_header dir at rec user ≡ true
  pub user_known : user_is_known dir at user ≡ true
  pub user_enabled : user_is_enabled dir at user ≡ true
  pub lasting : EndsLater dir at now wish rec
