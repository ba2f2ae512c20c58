-- Realms are lawful, and a name text is a realm.
use Rattle.std.proofs.Common.{◌≡◌, ℕ, List, [], ◌∷◌, true, refl}
use Rattle.std.specs.Prelude.{Option, None, Some, is_none, Ok}
use Rattle.kdc_prelude.specs.Results.{unless_refused}
use Rattle.der_core.specs.Laws.{IsCodec}
use Rattle.der_core.specs.FormLaws.{text_such_lawful}
use Rattle.krb_names.specs.declared.refusal.NameRefusal.{NameRefusal}
use Rattle.krb_names.specs.Pieces.{fault_of, is_name}
use Rattle.krb_names.specs.Realms.{realm_reading}
use Rattle.der_forms.specs.Names.{kerberos_string, realm}

pub kerberos_string_lawful : IsCodec kerberos_string
kerberos_string_lawful = text_such_lawful is_name

pub realm_lawful : IsCodec realm
realm_lawful = kerberos_string_lawful

reads_where_none : (fault : Option NameRefusal) (text : List ℕ) → is_none fault ≡ true → unless_refused fault text ≡ Ok text
reads_where_none None text h = refl
reads_where_none (Some fault) text h = absurd cc

pub realm_of_name : (text : List ℕ) → is_name text ≡ true → realm_reading text ≡ Ok text
realm_of_name text h = reads_where_none (fault_of (text ∷ []) true) text h
