-- A chain goes back to a root, and the user is the same all along.
use Rattle.std.proofs.Common.{◌≡◌, ◌∙◌, true, List, [], ◌∷◌, Option, None, Some, refl, sym, ap, subst}
use Rattle.std.specs.List.{AllByRecursion}
use Rattle.kdc_records.specs.declared.subject.Subject.{Subject}
use Rattle.tgs_core.specs.Grants.{ByAccount, ByEvidence, ByHeader, ForHeadersUser, ForUser, Grounds, ShownTicket, ticket_presented}
use Rattle.history_laws.specs.Chains.{Chain, InitialEntry, IsTraced, OrdinaryEntry, OtherUserEntry, OwnUserEntry, ProxyEntry, ends_in_root, is_root}
use Rattle.history_laws.specs.Entries.{Entry}
use Rattle.history_laws.specs.Places.{Place, line_from, place, user_line, voucher}
use Rattle.history_laws.proofs.Places.{place_line}

-- ---- a root

no_line : (earlier : List Entry) → line_from earlier None ≡ []
no_line [] = refl
no_line (e ∷ es) = refl

-- an entry without voucher
at_root : (earlier : List Entry) (entry : Entry) (grounds : Grounds) → entry.grant.grounds ≡ grounds → voucher grounds ≡ None → is_root grounds ≡ true → IsTraced earlier entry
at_root earlier entry grounds is none root =
    let line : user_line earlier entry ≡ entry ∷ [] =
    ap (λ (v : Option ShownTicket). entry ∷ line_from earlier v) (ap voucher is ∙ none) ∙ ap (λ (l : List Entry). entry ∷ l) (no_line earlier) in
    record {
      root = ap ends_in_root line ∙ (ap is_root is ∙ root);
      user = subst (AllByRecursion (λ (step : Entry). step.ticket.subject ≡ entry.ticket.subject)) (sym line) (refl, tt);
    }

-- ---- a step

all_same : (line : List Entry) (a b : Subject) → a ≡ b → AllByRecursion (λ (step : Entry). step.ticket.subject ≡ a) line → AllByRecursion (λ (step : Entry). step.ticket.subject ≡ b) line
all_same line a b same all = subst (λ (s : Subject). AllByRecursion (λ (step : Entry). step.ticket.subject ≡ s) line) same all

-- an entry whose voucher was issued
at_step : (earlier : List Entry) (entry : Entry) (grounds : Grounds) (shown : ShownTicket) (at : Place) → entry.grant.grounds ≡ grounds → voucher grounds ≡ Some shown → place earlier shown ≡ Some at
    → at.entry.ticket.subject ≡ entry.ticket.subject → IsTraced at.before at.entry → IsTraced earlier entry
at_step earlier entry grounds shown at is vouches found same rest =
    let line : user_line earlier entry ≡ entry ∷ user_line at.before at.entry =
    ap (λ (v : Option ShownTicket). entry ∷ line_from earlier v) (ap voucher is ∙ vouches) ∙ ap (λ (l : List Entry). entry ∷ l) (place_line earlier shown at found) in
    record {
      root = ap ends_in_root line ∙ rest.root;
      user =
          subst (AllByRecursion (λ (step : Entry). step.ticket.subject ≡ entry.ticket.subject)) (sym line)
          (refl, all_same (user_line at.before at.entry) at.entry.ticket.subject entry.ticket.subject same rest.user);
    }

pub traced : {earlier : List Entry} {entry : Entry} → Chain earlier entry → IsTraced earlier entry
traced {earlier} {entry} (InitialEntry account listed row) = at_root earlier entry (ByAccount account) listed.granted refl refl
traced {earlier} {entry} (OrdinaryEntry header at listed is chain row) =
    at_step earlier entry (ByHeader header) (ticket_presented header) at listed.granted refl is.found row.subject (traced chain)
traced {earlier} {entry} (OwnUserEntry header account asked at listed is chain row) = at_root earlier entry (ForUser header account asked) listed.granted refl refl
traced {earlier} {entry} (OtherUserEntry header asked at listed is chain row) =
    at_step earlier entry (ForHeadersUser header asked) (ticket_presented header) at listed.granted refl is.found row.subject (traced chain)
traced {earlier} {entry} (ProxyEntry header evidence at from listed is chain was proof row) =
    at_step earlier entry (ByEvidence header evidence) evidence from listed.granted refl was.found row.subject (traced proof)
