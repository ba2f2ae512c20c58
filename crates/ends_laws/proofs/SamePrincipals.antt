-- A name is the same as itself.
use Rattle.std.proofs.Common.{◌≡◌, ◌∙◌, Bool, true, ◌&&◌, List, ℕ, refl, ap}
use lib.Pointwise.{bytes_decides, pointwise, pointwise_decides}
use Rattle.kdc_prelude.specs.Texts.{same_text}
use Rattle.krb_names.specs.declared.principal.Principal.{Principal}
use Rattle.krb_names.specs.Principals.{same_principal}

pub text_is_same : (text : List ℕ) → same_text text text ≡ true
text_is_same text = (bytes_decides text text).1 refl

texts_are_same : (texts : List (List ℕ)) → pointwise same_text texts texts ≡ true
texts_are_same texts = (pointwise_decides bytes_decides texts texts).1 refl

pub name_is_same : (name : Principal) → same_principal name name ≡ true
name_is_same name = ap (λ (b : Bool). b && same_text name.realm name.realm) (texts_are_same name.parts) ∙ text_is_same name.realm
