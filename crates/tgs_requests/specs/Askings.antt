-- How a request asks for a ticket (RFC 4120, section 5.4.1; MS-SFU, section 3.2.5), and what a TGS-REQ asks for.
use Rattle.std.specs.Prelude.{◌≤◌, ◌*◌, ℕ, ℤ, ◌&&◌, ◌||◌, Bool, true, List, [], ◌∷◌, filter, length, Option, None, Some, option_map, Result, Ok, Err, if◌then◌else◌, IfSome}
use Rattle.std.specs.List.{AllByRecursion, list_any}
use Rattle.std.specs.Ordering.{int_eq}
use Rattle.kdc_prelude.specs.Options.{holds_of}
use Rattle.kdc_prelude.specs.Steps.{◌>>=◌}
use Rattle.kdc_prelude.specs.Texts.{same_text}
use Rattle.der_core.specs.declared.refusal.DerRefusal.{DerRefusal}
use Rattle.der_core.specs.Codec.{Codec, whole}
use Rattle.krb_names.specs.declared.principal.Principal.{Principal}
use Rattle.krb_tickets.specs.Pac.{is_number}
use Rattle.krb_messages.specs.declared.kdc_req.KdcReq.{KdcReq}
use Rattle.krb_messages.specs.declared.kdc_req_body.KdcReqBody.{KdcReqBody}
use Rattle.krb_messages.specs.declared.pa_data.PaData.{PaData}
use Rattle.krb_messages.specs.KdcReq.{is_as_req}
use Rattle.s4u_padata.specs.declared.for_user.ForUser.{ForUser}
use Rattle.s4u_padata.specs.declared.pac_options.PacOptions.{PacOptions}
use Rattle.s4u_padata.specs.declared.x509_user.X509User.{X509User}
use Rattle.s4u_padata.specs.ForUser.{for_user}
use Rattle.s4u_padata.specs.PacOptions.{pac_options}
use Rattle.s4u_padata.specs.X509User.{x509_user}
use Rattle.kdc_records.specs.declared.wish.Branch.{Branch}
use Rattle.kdc_records.specs.declared.wish.Branch.TheVariants.{Initial, Ordinary, SelfTicket, Proxy}
use Rattle.kdc_records.specs.declared.wish.Wish.{Wish}
use Rattle.kdc_records.specs.Bits.{has_bit}
use Rattle.as_core.specs.AsRequests.{as_wish, extra_tickets}
use Rattle.as_core.specs.Stamps.{items_of}
use Rattle.s4u_rules.specs.SelfRules.{user_asked}
use Rattle.tgs_requests.specs.declared.asking.SelfAsked.{SelfAsked}

-- ---- how it asks

-- padata of a type
abbrev pub is_of_type : ℕ → PaData → Bool
is_of_type number item = is_number number item.padata_type

-- padata of S4U2self: PA-FOR-USER or PA-S4U-X509-USER (MS-SFU, section 2.2)
abbrev pub is_for_user : PaData → Bool
is_for_user item = is_of_type 129 item || is_of_type 130 item

-- S4U2self is asked
abbrev pub asks_self : KdcReq → Bool
asks_self message = list_any is_for_user (items_of message.padata)

-- S4U2proxy is asked: cname-in-addl-tkt (MS-SFU, section 2.2.3)
abbrev pub asks_proxy : KdcReq → Bool
asks_proxy message = has_bit 14 message.req_body.kdc_options

-- how a TGS-REQ asks; padata of S4U2self decide before the option does (MS-SFU, section 3.2.5)
abbrev pub tgs_branch : KdcReq → Branch
tgs_branch message = if asks_self message then SelfTicket else (if asks_proxy message then Proxy else Ordinary)

-- how a request asks for a ticket
abbrev pub branch_of : KdcReq → Branch
branch_of message = if is_as_req message then Initial else tgs_branch message

-- ---- padata

-- the only one of a list
abbrev pub only : {X : Type 0} → List X → Option X
only [] = None
only (x ∷ []) = Some x
only (x ∷ more ∷ xs) = None

abbrev pub read_or_none : {X : Type 0} → Result X DerRefusal → Option X
read_or_none (Ok x) = Some x
read_or_none (Err refusal) = None

-- ---- the user of S4U2self

-- what a list of at most one says in a form: nothing where there is more, or it does not read
abbrev pub at_most_one : {X : Type 0} → Codec X → List PaData → Option (Option X)
at_most_one form [] = Some None
at_most_one form (item ∷ []) = option_map Some (read_or_none (whole form item.padata_value))
at_most_one form (item ∷ more ∷ items) = None

-- the padata of S4U2self: at most one of each type, which read
unfoldable pub self_asked : KdcReq → Option SelfAsked
self_asked message =
    at_most_one for_user (filter (is_of_type 129) (items_of message.padata)) >>= λ by_name.
    at_most_one x509_user (filter (is_of_type 130) (items_of message.padata)) >>= λ by_id.
    Some (record { for_user = by_name; x509_user = by_id })

-- what is known of padata that were read: they can be written, and a user-id has at most three times as many bytes as padata have
pub record IsSelfAsked (items : List PaData) (asked : SelfAsked) : Type 0 where
  pub for_user : IfSome asked.for_user for_user.Fits
  pub x509_user : IfSome asked.x509_user x509_user.Fits
  pub short : IfSome asked.x509_user (λ found. (n : ℕ) → AllByRecursion (λ item. length item.padata_value ≤ n) items → length found.id_bytes ≤ 3 * n)

-- the same realm, and the same name in it
abbrev pub same_user : Principal → Principal → Bool
same_user user other = same_text (user_asked user).1 (user_asked other).1 && same_text (user_asked user).0 (user_asked other).0

-- the user of PA-FOR-USER, where there is one, is this one
abbrev pub agrees_with : Option ForUser → Principal → Bool
agrees_with None user = true
agrees_with (Some asked) user = same_user asked.user user

-- PA-S4U-X509-USER, where there is one, has a name, the nonce of the body, and the user of PA-FOR-USER
abbrev pub is_for_request : ℤ → Option ForUser → Option X509User → Bool
is_for_request nonce by_name None = true
is_for_request nonce by_name (Some asked) = int_eq asked.nonce nonce && holds_of (agrees_with by_name) asked.user

-- S1: PA-FOR-USER and PA-S4U-X509-USER occur at most once each and read; the latter has a name and the body's nonce; both name
-- one user (MS-SFU, section 3.2.5.1.1)
abbrev pub names_one_user : KdcReqBody → SelfAsked → Bool
names_one_user body asked = is_for_request body.nonce asked.for_user asked.x509_user

-- the user: by PA-S4U-X509-USER, else by PA-FOR-USER
abbrev pub user_by : Option ForUser → Option X509User → Option Principal
user_by None None = None
user_by (Some asked) None = Some asked.user
user_by by_name (Some asked) = asked.user

-- where S4U2self is asked and S1 holds
abbrev pub user_wished : KdcReqBody → SelfAsked → Option Principal
user_wished body asked = if names_one_user body asked then user_by asked.for_user asked.x509_user else None

-- ---- what is asked for

-- the PA-PAC-OPTIONS that padata are, if they are of the type and read (MS-KILE, section 2.2.10)
abbrev pub pac_options_of : PaData → Option PacOptions
pac_options_of item = if is_of_type 167 item then read_or_none (whole pac_options item.padata_value) else None

abbrev pub or_later : {X : Type 0} → Option X → Option X → Option X
or_later None later = later
or_later (Some x) later = Some x

-- the first that reads
abbrev pub pac_options_in : List PaData → Option PacOptions
pac_options_in [] = None
pac_options_in (item ∷ items) = or_later (pac_options_of item) (pac_options_in items)

-- resource-based constrained delegation is asked for (MS-SFU, section 2.2.5)
abbrev pub asks_resource_based : KdcReq → Bool
asks_resource_based message = holds_of (λ options. has_bit 3 options.flags) (pac_options_in (items_of message.padata))

-- the user that S4U2self is asked for
abbrev pub self_user : KdcReq → Option Principal
self_user message = if asks_self message then self_asked message >>= user_wished message.req_body else None

-- what a TGS-REQ asks for; a user only by S4U2self
unfoldable pub tgs_wish : KdcReq → Wish
tgs_wish message = record {
  branch = tgs_branch message;
  realm = message.req_body.realm;
  client = message.req_body.cname;
  server = message.req_body.sname;
  options = message.req_body.kdc_options;
  from = message.req_body.from;
  till = message.req_body.till;
  etypes = message.req_body.etype;
  nonce = message.req_body.nonce;
  user = self_user message;
  rbcd = asks_resource_based message;
  extra = extra_tickets message.req_body.additional_tickets;
  both = asks_self message && asks_proxy message;
}

-- what a request asks for
abbrev pub wish_of : KdcReq → Wish
wish_of message = if is_as_req message then as_wish message.req_body else tgs_wish message
