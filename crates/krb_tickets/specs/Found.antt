-- What is known of PACs that were looked for.
use Rattle.std.specs.Prelude.{◌≡◌, ℕ, ◌≤◌, List, [], ◌∷◌, length, Result, Ok, Err}
use Rattle.der_core.specs.declared.refusal.DerRefusal.{DerRefusal}
use Rattle.krb_tickets.specs.declared.auth_item.AuthItem.{AuthItem}
use Rattle.krb_tickets.specs.declared.pac.Found.{Found}
use Rattle.krb_tickets.specs.declared.pac.Found.TheVariants.{Nothing, One, Several}
use Rattle.krb_tickets.specs.Pac.{pacs_in}

abbrev pub AreFound : Found → List (List ℕ) → Type 0
AreFound Nothing pacs = pacs ≡ []
AreFound (One pac) pacs = pacs ≡ pac.now ∷ []
AreFound Several pacs = 2 ≤ length pacs

-- the PACs among the elements that the reading gives are found, or the call refuses as the reading does
abbrev pub Finds : Result Found DerRefusal → Result (List AuthItem) DerRefusal → Type 0
Finds (Ok found) reading = (elements : List AuthItem) × (reading ≡ Ok elements) × AreFound found (pacs_in elements)
Finds (Err refusal) reading = reading ≡ Err refusal
