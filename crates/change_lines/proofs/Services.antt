-- Lemmas on the names of services.
use Rattle.std.proofs.Common.{◌≡◌, ℕ, List, false, nat_eq, codes, ap}
use Rattle.std.specs.Prelude.{Option, None, Some, Ok}
use Rattle.std.specs.List.{starts_with}
use Rattle.kdc_prelude.specs.Results.{unless_refused}
use Rattle.krb_names.specs.Spns.{spn_reading}
use Rattle.krb_names.specs.declared.refusal.NameRefusal.{NameRefusal}
use Rattle.change_lines.specs.Fields.{service_of}

-- a text that is read is read as it is
as_it_is : (fault : Option NameRefusal) (text read : List ℕ) → unless_refused fault text ≡ Ok read → text ≡ read
as_it_is None text read h = cc
as_it_is (Some fault) text read h = absurd (cc)

pub service_read : (text spn : List ℕ) → spn_reading text ≡ Ok spn → starts_with nat_eq text (codes "krbtgt/") ≡ false → service_of text ≡ Ok spn
unfolding service_of
service_read text spn read other = rw (read, other) (ap Ok (as_it_is _ text spn read))
