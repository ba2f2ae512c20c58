-- The lines that are printed of a ticket (own choice).
use Rattle.std.specs.Prelude.{ℕ, List, ◌∷◌, ◌++◌, codes, decimal}
use Rattle.std.specs.Fmt.{signed_decimal}
use Rattle.krb_tickets.specs.declared.ticket.Ticket.{Ticket}
use Rattle.kdc_records.specs.declared.ticket_rec.TicketRec.{TicketRec}
use Rattle.krb_names.specs.NameTexts.{at_realm, name_text}
use Rattle.krb_names.specs.SidValue.{sid_text}
use Rattle.ticket_explain.specs.Words.{delegation_text, flag_names, kvno_text, listed, time_text}

-- `ticket NAME@REALM etype E kvno V`
unfoldable pub ticket_line : Ticket → List ℕ
ticket_line t = codes "ticket " ++ name_text t.sname ++ codes " etype " ++ signed_decimal t.sealed.etype ++ codes " kvno " ++ kvno_text t.sealed.kvno ++ codes "\n"

-- `holder HOLDER`
unfoldable pub holder_line : List ℕ → List ℕ
holder_line holder = codes "holder " ++ holder ++ codes "\n"

-- `client NAME@REALM`
unfoldable pub client_line : TicketRec → List ℕ
client_line t = codes "client " ++ name_text t.client ++ codes "\n"

-- `subject NAME@REALM SID control C`
unfoldable pub subject_line : TicketRec → List ℕ
subject_line t = codes "subject " ++ at_realm t.subject.name t.subject.realm ++ codes " " ++ sid_text t.subject.sid ++ codes " control " ++ decimal t.subject.control ++ codes "\n"

-- `flags F`, the names of those that are set, joined by commas
unfoldable pub flags_line : TicketRec → List ℕ
flags_line t = codes "flags " ++ listed 44 (flag_names t.flags) ++ codes "\n"

-- `times AUTH START END`
unfoldable pub times_line : TicketRec → List ℕ
times_line t = codes "times " ++ time_text t.auth ++ codes " " ++ time_text t.start ++ codes " " ++ time_text t.end ++ codes "\n"

-- `transited LIST`, joined by commas
unfoldable pub transited_line : TicketRec → List ℕ
transited_line t = codes "transited " ++ listed 44 t.transited ++ codes "\n"

-- `delegation TARGET via S1 S2`
unfoldable pub delegation_line : TicketRec → List ℕ
delegation_line t = codes "delegation " ++ delegation_text t.delegation ++ codes "\n"

unfoldable pub record_lines : TicketRec → List ℕ
record_lines t = client_line t ++ subject_line t ++ flags_line t ++ times_line t ++ transited_line t ++ delegation_line t
