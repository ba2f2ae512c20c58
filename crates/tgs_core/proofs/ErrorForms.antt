-- An error can be written, and how long it is.
use Rattle.std.proofs.Common.{◌≡◌, ℕ, ◌+◌, ◌<◌, ◌≤◌, Bool, true, false, ◌&&◌, nat_lt, List, [], ◌∷◌, length, pos, Option, Some, None, refl, sym, ap, length-append, arith}
use Rattle.std.specs.Prelude.{FitsSigned, IfSome}
use Rattle.std.specs.Int.{w32}
use Rattle.std.specs.List.{AllByRecursion, flat_map, list_all}
use Rattle.std.specs.Str.{IsAscii, is_utf8}
use Rattle.std.proofs.lemmas.Bool.Decides.{nat_tests}
use Rattle.std.proofs.lemmas.Str.{IsUtf8-from_ascii, is_utf8-from_IsUtf8}
use Rattle.std.proofs.lemmas.Str.Ascii.{IsAscii-cons, IsAscii-nil}
use Rattle.std.proofs.lemmas.List.Concat.{flat_map-cons}
use Rattle.der_core.specs.Elements.{element}
use Rattle.der_core.specs.Forms.{int32, number_is, octets, text}
use Rattle.der_forms.specs.Lists.{sequence_of}
use Rattle.der_forms.specs.Names.{realm as realm_name}
use Rattle.der_forms.specs.Times.{kerberos_time, moment_time}
use Rattle.der_forms.specs.Values.{micros}
use Rattle.krb_names.specs.declared.etype.Etype.{Etype}
use Rattle.krb_names.specs.declared.etype.Etype.TheVariants.{Aes128, Aes256}
use Rattle.krb_names.specs.declared.moment.Moment.{Moment}
use Rattle.krb_names.specs.declared.principal.Principal.{Principal}
use Rattle.krb_names.proofs.TimeLaw.{written_again}
use Rattle.krb_names.specs.Etypes.{etype_number}
use Rattle.krb_tickets.specs.PrincipalName.{in_realm, name_of, principal_name}
use Rattle.ticket_laws.proofs.Fields.{Within, end_within, field_within, optional_within}
use Rattle.ticket_laws.proofs.Sizes.{element_within}
use Rattle.ticket_laws.proofs.Texts.{realm_fits, realm_short}
use Rattle.ticket_laws.proofs.Values.{int32_fits, int32_within, name_fits, name_within, number_fits, number_within, time_within}
use Rattle.krb_messages.specs.declared.krb_error.KrbError.{KrbError}
use Rattle.krb_messages.specs.declared.pa_data.PaData.{PaData}
use Rattle.krb_messages.specs.EtypeInfo2Entry.{etype_info2_entry}
use Rattle.krb_messages.specs.KrbError.{krb_error}
use Rattle.krb_messages.specs.KrbError as error_form
use Rattle.krb_messages.specs.PaData.{pa_data}
use Rattle.kdc_records.specs.declared.rule.Rule.{Rule}
use Rattle.kdc_records.specs.declared.rule.Rule.TheVariants.{U1}
use Rattle.kdc_records.specs.RuleCodes.{code_of}
use Rattle.kdc_records.specs.RuleNames.{name_of as rule_name}
use Rattle.dir_records.specs.declared.records.Account.{Account as AccountRec}
use Rattle.dir_records.specs.IsDirectory.{IsAccount, IsAccountInRange}
use Rattle.ticket_codec.specs.Made.{IsTicketName}
use Rattle.tgs_core.specs.Errors.{error_with, methods_of}
use Rattle.tgs_core.specs.Replies.{key_entry, key_info}
use Rattle.tgs_core.proofs.ReplyForms.{entry_short, padata_fits, padata_short}

-- ---- rules

code_fits : (rule : Rule) → FitsSigned w32 (code_of rule)
code_fits U1 = record { sfits = omega arith }
code_fits rule = record { sfits = omega arith }

both : (a b : Bool) → (a && b) ≡ true → (a ≡ true) × (b ≡ true)
both true b h = (refl, h)
both false b h = absurd (cc)

pub are_ascii : (bytes : List ℕ) → list_all (λ b. nat_lt b 128) bytes ≡ true → IsAscii bytes
are_ascii [] h = IsAscii-nil
are_ascii (b ∷ bytes) h =
    let parts = both (nat_lt b 128) (list_all (λ c. nat_lt c 128) bytes) h in
    let few : b < 128 = grind (arith, nat_tests) in
    IsAscii-cons b bytes few (are_ascii bytes parts.1)

pub ascii_is_text : (bytes : List ℕ) → list_all (λ b. nat_lt b 128) bytes ≡ true → is_utf8 bytes ≡ true
ascii_is_text bytes h = is_utf8-from_IsUtf8 bytes (IsUtf8-from_ascii bytes (are_ascii bytes h))

name_is_text : (rule : Rule) → is_utf8 (rule_name rule) ≡ true
name_is_text U1 = ascii_is_text (rule_name U1) refl
name_is_text rule = ascii_is_text (rule_name rule) refl

name_short : (rule : Rule) → length (rule_name rule) ≤ 3
name_short U1 = omega arith
name_short rule = omega arith

-- ---- KRB-ERROR (RFC 4120, section 5.9.1)

data_fits : (e_data : Option (List ℕ)) → IfSome e_data octets.Fits
data_fits None = tt
data_fits (Some e_data) = tt

data_short : (e_data : Option (List ℕ)) → IfSome e_data (λ bytes. length bytes ≤ 4096) → IfSome e_data (λ bytes. length (octets.spelling bytes) ≤ 4102)
data_short None h = tt
data_short (Some e_data) h = element_within 4 4096 e_data h

susec_fits : (now : Moment) → FitsSigned w32 (pos now.micros)
susec_fits now = let few = now.in_second in record { sfits = omega (arith, few) }

-- the server's realm is the realm
error_again : (now : Moment) (rule : Rule) (realm : List ℕ) (server : Principal) (e_data : Option (List ℕ)) → server.realm ≡ realm
    → error_form.make (error_form.parts_of (error_with now rule realm server e_data)) ≡ error_with now rule realm server e_data
error_again now rule realm server e_data same =
    λ i. record {
      pvno = pos 5;
      msg_type = pos 30;
      ctime = None;
      cusec = None;
      stime = now.secs;
      susec = pos now.micros;
      error_code = code_of rule;
      crealm = None;
      cname = None;
      realm = realm;
      sname = in_realm (name_of server) (sym same i);
      e_text = Some (rule_name rule);
      e_data = e_data;
    }

pub error_fits : (now : Moment) (rule : Rule) (realm : List ℕ) (server : Principal) (e_data : Option (List ℕ)) → IsTicketName realm server → krb_error.Fits (error_with now rule realm server e_data)
unfolding krb_error
error_fits now rule realm server e_data w =
    let early = now.in_range in (
      error_again now rule realm server e_data w.same,
      (
        number_fits 5 (omega arith),
        (
          number_fits 30 (omega arith),
          (
            tt,
            (
              tt,
              (
                written_again now.secs (omega (arith, early)),
                (
                  int32_fits (pos now.micros) (susec_fits now),
                  (
                    int32_fits (code_of rule) (code_fits rule),
                    (
                      tt,
                      (
                        tt,
                        (
                          realm_fits realm w.realm,
                          (
                            name_fits (name_of server) w.kind w.parts,
                            ((tt, name_is_text rule), (data_fits e_data, tt)),
                          ),
                        ),
                      ),
                    ),
                  ),
                ),
              ),
            ),
          ),
        ),
      ),
    )

pub error_short : (now : Moment) (rule : Rule) (realm : List ℕ) (server : Principal) (e_data : Option (List ℕ)) → IsTicketName realm server
    → IfSome e_data (λ bytes. length bytes ≤ 4096) → length (krb_error.spelling (error_with now rule realm server e_data)) ≤ 8192
unfolding krb_error
error_short now rule realm server e_data w short =
    let x : KrbError = error_with now rule realm server e_data in
    let n = 6 + 14 + (6 + 14 + (6 + 0 + (6 + 0 + (6 + 21 + (6 + 14 + (6 + 14 + (6 + 0 + (6 + 0 + (6 + 261 + (6 + 2126 + (6 + 9 + (6 + 4102 + 0)))))))))))) in
    let fields : Within error_form.parts (error_form.parts_of x) n =
    field_within 0 (number_is (pos 5)) _ _ _ _ _ (number_within 5 (omega arith)) (
    field_within 1 (number_is (pos 30)) _ _ _ _ _ (number_within 30 (omega arith)) (
    optional_within 2 moment_time _ None _ 0 _ tt (
    optional_within 3 micros _ None _ 0 _ tt (
    field_within 4 kerberos_time _ _ _ _ _ (time_within now.secs) (
    field_within 5 int32 _ _ _ _ _ (int32_within (pos now.micros) (susec_fits now)) (
    field_within 6 int32 _ _ _ _ _ (int32_within (code_of rule) (code_fits rule)) (
    optional_within 7 realm_name _ None _ 0 _ tt (
    optional_within 8 principal_name _ None _ 0 _ tt (
    field_within 9 realm_name _ _ _ _ _ (element_within 27 255 realm (realm_short realm w.realm)) (
    field_within 10 principal_name _ _ _ _ _ (name_within (name_of server) w.kind w.parts) (
    optional_within 11 text _ (Some (rule_name rule)) _ 9 _ (element_within 27 3 (rule_name rule) (name_short rule)) (
    optional_within 12 octets _ e_data _ 4102 _ (data_short e_data short)
    end_within)))))))))))) in
    let spelling : List ℕ = error_form.parts.content.spelling (error_form.parts_of x) in
    omega (arith, element_within 0x7e (6 + n) (element 48 spelling) (element_within 48 n spelling fields.le))

-- ---- METHOD-DATA (RFC 4120, section 5.2.7)

-- that a timestamp is wanted
abbrev pub timestamp_wanted : PaData
timestamp_wanted = record { padata_type = pos 2; padata_value = [] }

nineteen : FitsSigned w32 (pos 19)
nineteen = record { sfits = omega arith }

two : FitsSigned w32 (pos 2)
two = record { sfits = omega arith }

pub methods_fit : (account : AccountRec) → AllByRecursion pa_data.Fits (methods_of account)
methods_fit account = (padata_fits (key_info account) nineteen, (padata_fits timestamp_wanted two, tt))

etype_fits : (e : Etype) → FitsSigned w32 (pos (etype_number e))
etype_fits Aes128 = record { sfits = omega arith }
etype_fits Aes256 = record { sfits = omega arith }

info_short : (account : AccountRec) → IsAccount account → IsAccountInRange account → length (key_info account).padata_value ≤ 2110
info_short account form range =
    let entry = key_entry account in
    let one = entry_short entry (record { etype = etype_fits account.key.key.etype; utf8 = range.salt; few = form.salt; s2kparams = tt }) in
    let alone : List ℕ = flat_map etype_info2_entry.spelling (entry ∷ []) in
    omega (
      arith,
      one,
      element_within 48 2098 alone (omega (arith, one, ap length (flat_map-cons etype_info2_entry.spelling entry []), length-append (etype_info2_entry.spelling entry) [])),
    )

pub methods_short : (account : AccountRec) → IsAccount account → IsAccountInRange account → length ((sequence_of pa_data).spelling (methods_of account)) ≤ 4096
methods_short account form range =
    let info = key_info account in
    let rest : List ℕ = flat_map pa_data.spelling (timestamp_wanted ∷ []) in
    let first = padata_short info nineteen in
    let second = padata_short timestamp_wanted two in
    let value = info_short account form range in
    let all : List ℕ = flat_map pa_data.spelling (methods_of account) in
    let few : length all ≤ 2200 = omega (
      arith,
      first,
      second,
      value,
      ap length (flat_map-cons pa_data.spelling info (timestamp_wanted ∷ [])),
      length-append (pa_data.spelling info) rest,
      ap length (flat_map-cons pa_data.spelling timestamp_wanted []),
      length-append (pa_data.spelling timestamp_wanted) [],
    ) in
    omega (arith, element_within 48 2200 all few)
