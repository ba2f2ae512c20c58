-- Each entry that is not tainted has a chain: an induction over the earlier entries.
use Rattle.std.proofs.Common.{◌≡◌, ◌∙◌, ℕ, Bool, true, false, ◌||◌, ◌⊎◌, inl, inr, List, [], ◌∷◌, ◌++◌, Option, None, Some, refl, sym, ap, subst}
use Rattle.std.specs.Prelude.{flat_map, if◌then◌else◌, is_some, option_map, reverse, unwrap_or}
use Rattle.std.specs.List.{AllByRecursion, list_any}
use Rattle.std.proofs.lemmas.Grind.{flat_map-append}
use Rattle.std.proofs.lemmas.List.{append-nil, reverse-append}
use Rattle.krb_names.specs.declared.principal.Principal.{Principal}
use Rattle.kdc_records.specs.declared.subject.Delegation.{Delegation}
use Rattle.kdc_records.specs.declared.subject.Subject.{Subject}
use Rattle.kdc_records.specs.declared.ticket_rec.TicketRec.{TicketRec}
use Rattle.kdc_records.specs.Parties.{is_user}
use Rattle.dir_records.specs.declared.records.RealmRec.{RealmRec}
use Rattle.s4u_rules.specs.SelfRules.{is_user_of}
use Rattle.s4u_rules.specs.TgsRules.{is_for_its_client}
use Rattle.proxy_rules.specs.ProxyRules.{requestor_text, services_of}
use Rattle.tgs_core.specs.Grants.{ByAccount, ByEvidence, ByHeader, ForHeadersUser, ForUser, Grounds, ShownTicket, ticket_presented}
use Rattle.history_laws.specs.Chains.{Chain, InitialEntry, IsListed, IsPlace, OrdinaryEntry, OtherUserEntry, OwnUserEntry, ProxyEntry, is_delegated, link, links, services_told}
use Rattle.history_laws.specs.Entries.{Entry}
use Rattle.history_laws.specs.Places.{Place, is_issue, is_issued, is_taint, is_tainted, line_from, place, presented, user_line, voucher}
use Rattle.history_laws.proofs.Granted.{GrantBy, IsGranted, IsRead}
use Rattle.history_laws.proofs.Places.{issue_party, issue_record, place_line}

-- ---- the links of a line

abbrev link_of : Entry → List (List ℕ)
link_of entry = link entry.grant.realm entry.grant.grounds

abbrev has_delegated : List Entry → Bool
has_delegated line = list_any (λ entry. is_delegated entry.grant.grounds) line

links_of_reverse : (entry : Entry) (line : List Entry) → flat_map link_of (reverse (entry ∷ line)) ≡ flat_map link_of (reverse line) ++ link_of entry
links_of_reverse entry line =
    ap (flat_map link_of) (reverse-append (entry ∷ []) line)
    ∙ (flat_map-append link_of (reverse line) (entry ∷ []) ∙ ap (λ (l : List (List ℕ)). flat_map link_of (reverse line) ++ l) (append-nil (link_of entry)))

abbrev links_with : Bool → List (List ℕ) → Option (List (List ℕ))
links_with b list = if b then Some list else None

no_link : (realm : RealmRec) (grounds : Grounds) → is_delegated grounds ≡ false → link realm grounds ≡ []
no_link realm (ByAccount account) h = refl
no_link realm (ByHeader shown) h = refl
no_link realm (ForUser shown account asked) h = refl
no_link realm (ForHeadersUser shown asked) h = refl
no_link realm (ByEvidence shown evidence) h = absurd (cc)

neither : (a b : Bool) → (a || b) ≡ false → (a ≡ false) × (b ≡ false)
neither true b h = absurd (cc)
neither false b h = (refl, h)

-- a line without S4U2proxy has no link
no_links : (line : List Entry) → has_delegated line ≡ false → flat_map link_of (reverse line) ≡ []
no_links [] h = refl
no_links (entry ∷ line) h =
    let both = neither (is_delegated entry.grant.grounds) (has_delegated line) h in
    links_of_reverse entry line
    ∙ (ap (λ (l : List (List ℕ)). l ++ link_of entry) (no_links line both.1) ∙ no_link entry.grant.realm entry.grant.grounds both.0)

links_plain : (entry : Entry) (line : List Entry) → is_delegated entry.grant.grounds ≡ false → links (entry ∷ line) ≡ links line
links_plain entry line h =
    ap (λ (b : Bool). links_with (b || has_delegated line) (flat_map link_of (reverse (entry ∷ line)))) h
    ∙ ap (links_with (has_delegated line))
    (links_of_reverse entry line
    ∙ (ap (λ (l : List (List ℕ)). flat_map link_of (reverse line) ++ l) (no_link entry.grant.realm entry.grant.grounds h) ∙ append-nil _))

links_or : (b : Bool) (list : List (List ℕ)) → (b ≡ false → list ≡ []) → list ≡ unwrap_or (links_with b list) []
links_or true list h = refl
links_or false list h = h refl

links_delegated : (entry : Entry) (line : List Entry) → is_delegated entry.grant.grounds ≡ true → links (entry ∷ line) ≡ Some (unwrap_or (links line) [] ++ link_of entry)
links_delegated entry line h =
    ap (λ (b : Bool). links_with (b || has_delegated line) (flat_map link_of (reverse (entry ∷ line)))) h
    ∙ ap Some
    (links_of_reverse entry line
    ∙ ap (λ (l : List (List ℕ)). l ++ link_of entry) (links_or (has_delegated line) (flat_map link_of (reverse line)) (no_links line)))

-- ---- what a chain says of a place

pub chain_list : {earlier : List Entry} {entry : Entry} → Chain earlier entry → services_told entry.ticket ≡ links (user_line earlier entry)
chain_list (InitialEntry account listed row) = listed.list
chain_list (OrdinaryEntry header at listed is chain row) = listed.list
chain_list (OwnUserEntry header account asked at listed is chain row) = listed.list
chain_list (OtherUserEntry header asked at listed is chain row) = listed.list
chain_list (ProxyEntry header evidence at from listed is chain was proof row) = listed.list

-- a shown ticket has a place, which has a chain
pub record IsChained (earlier : List Entry) (shown : ShownTicket) : Type 0 where
  pub at : Place
  pub is : IsPlace earlier shown at
  pub chain : Chain at.before at.entry

-- the services of its line are those that it lists
line_services : (earlier : List Entry) (shown : ShownTicket) → IsChained earlier shown → links (line_from earlier (Some shown)) ≡ services_told shown.rec
line_services earlier shown c = ap links (place_line earlier shown c.at c.is.found) ∙ (sym (chain_list c.chain) ∙ ap services_told (sym c.is.same))

told_services : (ticket : TicketRec) (delegation : Option Delegation) → ticket.delegation ≡ delegation → unwrap_or (services_told ticket) [] ≡ services_of ticket.delegation
told_services ticket delegation e = rw e (of delegation)
  where
    of : (delegation : Option Delegation) → unwrap_or (option_map (λ (d : Delegation). d.services) delegation) [] ≡ services_of delegation
    of None = refl
    of (Some delegation) = refl

told_bare : (ticket : TicketRec) → ticket.delegation ≡ None → services_told ticket ≡ None
told_bare ticket e = ap (option_map (λ (d : Delegation). d.services)) e

subject_at : (earlier : List Entry) (shown : ShownTicket) (c : IsChained earlier shown) → c.at.entry.ticket.subject ≡ shown.rec.subject
subject_at earlier shown c = ap (λ (ticket : TicketRec). ticket.subject) (sym c.is.same)

client_at : (earlier : List Entry) (shown : ShownTicket) (c : IsChained earlier shown) → c.at.entry.ticket.client ≡ shown.rec.client
client_at earlier shown c = ap (λ (ticket : TicketRec). ticket.client) (sym c.is.same)

-- the place's ticket is its client's own where the shown one is
own_at : (earlier : List Entry) (shown : ShownTicket) (c : IsChained earlier shown) → is_for_its_client shown.rec ≡ true → is_for_its_client c.at.entry.ticket ≡ true
own_at earlier shown c own = (λ k. let subject : Subject = subject_at earlier shown c k in is_user subject.name subject.realm (client_at earlier shown c k)) ∙ own

user_at : (earlier : List Entry) (shown : ShownTicket) (c : IsChained earlier shown) (user : Principal) → is_user_of shown.rec.subject user ≡ true → is_user_of c.at.entry.ticket.subject user ≡ true
user_at earlier shown c user h = ap (λ (subject : Subject). is_user_of subject user) (subject_at earlier shown c) ∙ h

-- ---- the chain of an entry, from what is known of it and the chains of what was shown for it

module _ (earlier : List Entry) (entry : Entry) (chained : (shown : ShownTicket) → IsRead shown → is_taint earlier shown ≡ false → IsChained earlier shown) where
  -- the list of an entry that is not by S4U2proxy, where its line's is empty
  plain_list : (grounds : Grounds) → entry.grant.grounds ≡ grounds → is_delegated grounds ≡ false → entry.ticket.delegation ≡ None → links (line_from earlier (voucher grounds)) ≡ None
      → IsListed earlier entry grounds
  plain_list grounds is plain bare line = record {
    granted = is;
    list =
        told_bare entry.ticket bare
        ∙ sym (links_plain entry (line_from earlier (voucher entry.grant.grounds)) (ap is_delegated is ∙ plain) ∙ (ap (λ (g : Grounds). links (line_from earlier (voucher g))) is ∙ line));
  }

  -- the line of a ticket that lists nothing has no link
  bare_line : (shown : ShownTicket) → IsChained earlier shown → shown.rec.delegation ≡ None → links (line_from earlier (Some shown)) ≡ None
  bare_line shown c bare = line_services earlier shown c ∙ told_bare shown.rec bare

  no_line : (earlier : List Entry) → links (line_from earlier None) ≡ None
  no_line [] = refl
  no_line (e ∷ es) = refl

  by_grounds : (grounds : Grounds) → entry.grant.grounds ≡ grounds → GrantBy entry grounds → list_any (is_taint earlier) (presented grounds) ≡ false → Chain earlier entry
  by_grounds (ByAccount account) is grant clean =
      InitialEntry account
      (plain_list (ByAccount account) is refl grant.bare (no_line earlier))
      (record { realm = grant.realm; rules = grant.rules; found = grant.found; subject = grant.subject })
  by_grounds (ByHeader header) is grant clean =
      let shown = ticket_presented header in
      let c = chained shown grant.read (neither _ _ clean).0 in
      OrdinaryEntry header c.at
      (plain_list (ByHeader header) is refl grant.bare (bare_line shown c grant.first))
      c.is c.chain
      (record { subject = subject_at earlier shown c ∙ sym grant.subject; client = client_at earlier shown c ∙ sym grant.client })
  by_grounds (ForUser header account asked) is grant clean =
      let shown = ticket_presented header in
      let c = chained shown grant.read (neither _ _ clean).0 in
      OwnUserEntry header account asked c.at
      (plain_list (ForUser header account asked) is refl grant.bare (no_line earlier))
      c.is c.chain
      (record {
        user = grant.user;
        step = grant.step;
        requestor = own_at earlier shown c grant.own;
        client = client_at earlier shown c;
        local = grant.local;
        found = grant.found;
        subject = grant.subject;
      })
  by_grounds (ForHeadersUser header asked) is grant clean =
      let shown = ticket_presented header in
      let c = chained shown grant.read (neither _ _ clean).0 in
      OtherUserEntry header asked c.at
      (plain_list (ForHeadersUser header asked) is refl grant.bare (bare_line shown c grant.first))
      c.is c.chain
      (record {
        user = grant.user;
        step = grant.step;
        other = grant.other;
        is_user = user_at earlier shown c grant.user grant.is_user;
        client = client_at earlier shown c;
        subject = subject_at earlier shown c ∙ sym grant.subject;
      })
  by_grounds (ByEvidence header evidence) is grant clean =
      let shown = ticket_presented header in
      let c = chained shown grant.read (neither _ _ clean).0 in
      let d = chained evidence grant.evidence_read (neither _ _ (neither _ _ clean).1).0 in
      ProxyEntry header evidence c.at d.at
      (record {
        granted = is;
        list =
            grant.list
            ∙ sym (links_delegated entry (line_from earlier (voucher entry.grant.grounds)) (ap is_delegated is)
            ∙ ap (λ (g : Grounds). Some (unwrap_or (links (line_from earlier (voucher g))) [] ++ link entry.grant.realm g)) is
            ∙ ap (λ (o : Option (List (List ℕ))). Some (unwrap_or o [] ++ requestor_text entry.grant.realm header.rec)) (line_services earlier evidence d)
            ∙ ap (λ (l : List (List ℕ)). Some (l ++ requestor_text entry.grant.realm header.rec)) (told_services evidence.rec evidence.rec.delegation refl));
      })
      c.is c.chain d.is d.chain
      (record {
        step = grant.step;
        requestor = own_at earlier shown c grant.step.own;
        client = client_at earlier shown c;
        subject = subject_at earlier evidence d ∙ sym grant.subject;
      })

  unfolds : IsGranted entry → is_tainted earlier entry ≡ false → Chain earlier entry
  unfolds granted clean = by_grounds entry.grant.grounds refl granted.row clean

-- ---- a shown ticket that is not tainted has a place, which has a chain

taint_step : (b c t d : Bool) → (if b then t else (if c then d else true)) ≡ false → ((b ≡ true) × (t ≡ false)) ⊎ ((b ≡ false) × (c ≡ true) × (d ≡ false))
taint_step true c t d clean = inl (refl, clean)
taint_step false true t d clean = inr (refl, refl, clean)
taint_step false false t d clean = absurd (cc)

later_place : (entry : Entry) (earlier : List Entry) (shown : ShownTicket) (at : Place) → place earlier shown ≡ Some at → place (entry ∷ earlier) shown ≡ Some at
later_place entry earlier shown at e =
    subst (λ (o : Option Place). (if is_some o then o else (if is_issue entry shown then Some (record { before = earlier; entry = entry }) else None)) ≡ Some at) (sym e) refl

here_place : (entry : Entry) (earlier : List Entry) (shown : ShownTicket) → is_issued earlier shown ≡ false → is_issue entry shown ≡ true
    → place (entry ∷ earlier) shown ≡ Some (record { before = earlier; entry = entry })
here_place entry earlier shown first issue =
    let here : Place = record { before = earlier; entry = entry } in
    ap (λ (b : Bool). if b then place earlier shown else (if is_issue entry shown then Some here else None)) first
    ∙ ap (λ (b : Bool). if b then Some here else None) issue

chained : (earlier : List Entry) → AllByRecursion IsGranted earlier → (shown : ShownTicket) → IsRead shown → is_taint earlier shown ≡ false → IsChained earlier shown
chained [] all shown read clean = absurd (cc)
chained (entry ∷ earlier) all shown read clean =
    elim (taint_step (is_issued earlier shown) (is_issue entry shown) (is_taint earlier shown) (is_tainted earlier entry) clean) [
      | inl h ↦
          let c = chained earlier all.1 shown read h.1 in
          record { at = c.at; is = record { found = later_place entry earlier shown c.at c.is.found; party = c.is.party; same = c.is.same }; chain = c.chain }
      | inr h ↦ record {
        at = record { before = earlier; entry = entry };
        is = record { found = here_place entry earlier shown h.0 h.1; party = issue_party entry shown h.1; same = issue_record entry all.0 shown read h.1 };
        chain = unfolds earlier entry (chained earlier all.1) all.0 h.2;
      }
    ]

pub chain : (earlier : List Entry) (entry : Entry) → AllByRecursion IsGranted earlier → IsGranted entry → is_tainted earlier entry ≡ false → Chain earlier entry
chain earlier entry all granted = unfolds earlier entry (chained earlier all) granted
