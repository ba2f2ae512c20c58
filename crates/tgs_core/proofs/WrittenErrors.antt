-- The error of a rule can be written, and how long it is.
use Rattle.std.proofs.Common.{◌≡◌, ℕ, ◌≤◌, Bool, true, false, cond, ◌&&◌, List, [], ◌∷◌, length, Option, Some, None, refl, arith}
use Rattle.std.specs.Prelude.{IfSome, option_map, slice_get, unwrap_or}
use Rattle.std.specs.List.{AllByRecursion}
use Rattle.krb_names.specs.declared.moment.Moment.{Moment}
use Rattle.krb_names.specs.declared.principal.Principal.{Principal}
use Rattle.krb_tickets.specs.Transited.{is_realm}
use Rattle.krb_messages.specs.declared.kdc_req.KdcReq.{KdcReq}
use Rattle.krb_messages.specs.KrbError.{krb_error}
use Rattle.kdc_records.specs.declared.rule.Rule.{Rule}
use Rattle.kdc_records.specs.declared.rule.Rule.TheVariants.{A7}
use Rattle.dir_records.specs.declared.records.Account.{Account as AccountRec}
use Rattle.dir_records.specs.declared.records.RealmRec.{RealmRec}
use Rattle.dir_records.specs.DirectoryValue.{DirectoryValue}
use Rattle.dir_records.specs.IsDirectory.{IsDirectory, IsRealm, IsRealmInRange}
use Rattle.ticket_codec.specs.Made.{IsTicketName}
use Rattle.tgs_core.specs.Errors.{account_asking, error_data, error_of, error_realm, error_server, first_realm, krbtgt_of, methods_for, server_asked}
use Rattle.tgs_core.specs.Received.{IsReceived}
use Rattle.tgs_core.specs.Requests.{realm_is_known}
use Rattle.tgs_core.proofs.Askers.{asking_is_member}
use Rattle.tgs_core.proofs.ErrorForms.{error_fits, error_short, methods_short}
use Rattle.tgs_core.proofs.SoundGrants.{krbtgt_parts}

-- ---- realms

and_true : (a b : Bool) → a ≡ true → b ≡ true → (a && b) ≡ true
and_true a b h h2 = rw (h, h2) refl

first_of : (realms : List RealmRec) → 1 ≤ length realms → AllByRecursion IsRealm realms → AllByRecursion IsRealmInRange realms
    → is_realm (unwrap_or (option_map (λ realm. realm.name) (slice_get realms 0)) []) ≡ true
first_of [] some forms ranges = absurd (omega (arith, some))
first_of (realm ∷ realms) some forms ranges = and_true _ _ ranges.0.name forms.0.name

first_is_named : (dir : DirectoryValue) → IsDirectory dir → is_realm (first_realm dir) ≡ true
first_is_named dir h = first_of dir.realms h.consistent.forms.some_realms h.consistent.forms.realms h.in_range.realms

chosen_is_named : (b : Bool) (asked first : List ℕ) → is_realm asked ≡ true → is_realm first ≡ true → is_realm (cond b asked first) ≡ true
chosen_is_named true asked first h h2 = h
chosen_is_named false asked first h h2 = h2

realm_is_named : (dir : DirectoryValue) (message : Option KdcReq) → IsDirectory dir → IfSome message IsReceived → is_realm (error_realm dir message) ≡ true
realm_is_named dir None h received = first_is_named dir h
realm_is_named dir (Some message) h received = chosen_is_named (realm_is_known dir message) message.req_body.realm (first_realm dir) received.realm (first_is_named dir h)

-- ---- servers

krbtgt_is_named : (realm : List ℕ) → is_realm realm ≡ true → IsTicketName realm (krbtgt_of realm)
krbtgt_is_named realm h = record { realm = h; same = refl; kind = record { sfits = omega arith }; parts = krbtgt_parts realm h }

server_is_named : (realm own : List ℕ) (server : Option Principal) → is_realm realm ≡ true → IfSome server (IsTicketName own) → IsTicketName realm (error_server realm server)
server_is_named realm own None h received = krbtgt_is_named realm h
server_is_named realm own (Some server) h received = record { realm = h; same = refl; kind = received.kind; parts = received.parts }

asked_is_named : (realm : List ℕ) (message : Option KdcReq) → is_realm realm ≡ true → IfSome message IsReceived → IsTicketName realm (error_server realm (server_asked message))
asked_is_named realm None h received = krbtgt_is_named realm h
asked_is_named realm (Some message) h received = server_is_named realm message.req_body.realm message.req_body.sname h received.server

-- ---- e-data

methods_short_for : (dir : DirectoryValue) (message : Option KdcReq) (account : Option AccountRec) → account_asking dir message ≡ account → IsDirectory dir
    → IfSome (methods_for account) (λ bytes. length bytes ≤ 4096)
methods_short_for dir message None e h = tt
methods_short_for dir message (Some account) e h = let member = asking_is_member dir message account h e in methods_short account member.form member.range

data_short : (dir : DirectoryValue) (message : Option KdcReq) (rule : Rule) → IsDirectory dir → IfSome (error_data dir message rule) (λ bytes. length bytes ≤ 4096)
data_short dir message A7 h = methods_short_for dir message (account_asking dir message) refl h
data_short dir message rule h = tt

-- ---- the error

pub written_error_fits : (dir : DirectoryValue) (now : Moment) (message : Option KdcReq) (rule : Rule) → IsDirectory dir → IfSome message IsReceived
    → krb_error.Fits (error_of dir now message rule)
unfolding error_of
written_error_fits dir now message rule h received =
    let realm = error_realm dir message in
    let named = asked_is_named realm message (realm_is_named dir message h received) received in
    error_fits now rule realm (error_server realm (server_asked message)) (error_data dir message rule) named

pub written_error_short : (dir : DirectoryValue) (now : Moment) (message : Option KdcReq) (rule : Rule) → IsDirectory dir → IfSome message IsReceived
    → length (krb_error.spelling (error_of dir now message rule)) ≤ 8192
unfolding error_of
written_error_short dir now message rule h received =
    let realm = error_realm dir message in
    let named = asked_is_named realm message (realm_is_named dir message h received) received in
    error_short now rule realm (error_server realm (server_asked message)) (error_data dir message rule) named (data_short dir message rule h)
