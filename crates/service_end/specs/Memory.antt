-- What a service end remembers (RFC 4120, section 3.2.3: the replay cache).
use Rattle.std.specs.Prelude.{ℕ, List, []}
use Rattle.krb_names.specs.declared.principal.Principal.{Principal}

-- an authenticator that was accepted: its client, and when it was made, in microseconds after 1970
pub record Entry : Type 0 where
  pub client : Principal
  pub at : ℕ

-- what is kept: authenticators, and the latest moment that a call used which accepted one, 0 where none did
pub record Memory : Type 0 where
  pub entries : List Entry
  pub latest : ℕ

abbrev pub nothing_seen : Memory
nothing_seen = record { entries = []; latest = 0 }
