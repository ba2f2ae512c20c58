-- The reply to a request that is denied (RFC 4120, sections 3.1.4 and 5.9.1).
use Rattle.std.specs.Prelude.{ℕ, pos, List, [], ◌∷◌, codes, Option, None, Some, option_map, slice_get, unwrap_or, if◌then◌else◌}
use Rattle.kdc_prelude.specs.Steps.{◌>>=◌}
use Rattle.krb_names.specs.declared.moment.Moment.{Moment}
use Rattle.krb_names.specs.declared.principal.Principal.{Principal}
use Rattle.der_forms.specs.Lists.{sequence_of}
use Rattle.krb_messages.specs.declared.kdc_req.KdcReq.{KdcReq}
use Rattle.krb_messages.specs.declared.krb_error.KrbError.{KrbError}
use Rattle.krb_messages.specs.declared.pa_data.PaData.{PaData}
use Rattle.krb_messages.specs.KrbError.{krb_error}
use Rattle.krb_messages.specs.PaData.{pa_data}
use Rattle.kdc_records.specs.declared.rule.Rule.{Rule}
use Rattle.kdc_records.specs.declared.rule.Rule.TheVariants.{A7}
use Rattle.kdc_records.specs.RuleCodes.{code_of}
use Rattle.kdc_records.specs.RuleNames.{name_of}
use Rattle.dir_records.specs.declared.records.Account.{Account as AccountRec}
use Rattle.dir_records.specs.DirectoryValue.{DirectoryValue}
use Rattle.as_core.specs.AsRules.{client_account}
use Rattle.tgs_core.specs.Replies.{key_info}
use Rattle.tgs_core.specs.Requests.{realm_is_known, request_of}

-- the directory's first realm
abbrev pub first_realm : DirectoryValue → List ℕ
first_realm dir = unwrap_or (option_map (λ realm. realm.name) (slice_get dir.realms 0)) []

-- the realm that answers: the one that is asked, where the request reads and the directory has it
abbrev pub error_realm : DirectoryValue → Option KdcReq → List ℕ
error_realm dir None = first_realm dir
error_realm dir (Some message) = if realm_is_known dir message then message.req_body.realm else first_realm dir

-- krbtgt of a realm, of kind 2 (NT-SRV-INST)
abbrev pub krbtgt_of : List ℕ → Principal
krbtgt_of realm = record { kind = pos 2; parts = codes "krbtgt" ∷ realm ∷ []; realm = realm }

-- the server of a realm's error: the one that is asked for, or the realm's krbtgt
abbrev pub error_server : List ℕ → Option Principal → Principal
error_server realm None = krbtgt_of realm
error_server realm (Some server) = record { kind = server.kind; parts = server.parts; realm = realm }

-- the server that a request asks for, where it reads
abbrev pub server_asked : Option KdcReq → Option Principal
server_asked message = message >>= λ read. read.req_body.sname

-- METHOD-DATA of an account that has to pre-authenticate (RFC 4120, section 5.2.7): its key's type and salt, and that a timestamp is wanted
abbrev pub methods_of : AccountRec → List PaData
methods_of account = key_info account ∷ (record { padata_type = pos 2; padata_value = [] }) ∷ []

-- the account that an AS-REQ's client is
abbrev pub account_asking : DirectoryValue → Option KdcReq → Option AccountRec
account_asking dir message = message >>= request_of dir >>= λ request. client_account dir request.realm request.message.req_body.cname

-- e-data of an account that has to pre-authenticate
abbrev pub methods_for : Option AccountRec → Option (List ℕ)
methods_for account = option_map (λ found. (sequence_of pa_data).spelling (methods_of found)) account

-- e-data: of a want of pre-authentication alone
abbrev pub error_data : DirectoryValue → Option KdcReq → Rule → Option (List ℕ)
error_data dir message A7 = methods_for (account_asking dir message)
error_data dir message rule = None

-- at a moment, by a rule, as this realm, for this server, with these e-data
abbrev pub error_with : Moment → Rule → List ℕ → Principal → Option (List ℕ) → KrbError
error_with now rule realm server e_data = record {
  pvno = pos 5;
  msg_type = pos 30;
  ctime = None;
  cusec = None;
  stime = now.secs;
  susec = pos now.micros;
  error_code = code_of rule;
  crealm = None;
  cname = None;
  realm = realm;
  sname = server;
  e_text = Some (name_of rule);
  e_data = e_data;
}

-- by a rule, to the message that was read, if one was
unfoldable pub error_of : DirectoryValue → Moment → Option KdcReq → Rule → KrbError
error_of dir now message rule =
    let realm = error_realm dir message in
    error_with now rule realm (error_server realm (server_asked message)) (error_data dir message rule)

-- its bytes
abbrev pub error_bytes : DirectoryValue → Moment → Option KdcReq → Rule → List ℕ
error_bytes dir now message rule = krb_error.spelling (error_of dir now message rule)
