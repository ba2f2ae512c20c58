use Rattle.std.proofs.Common.{◌≡◌, ℕ, List, [], ◌∷◌, refl, sym, subst, arith}
use Rattle.std.specs.Prelude.{All}
use Rattle.std.specs.Str.{IsUtf8, chars, is_utf8}
use Rattle.std.proofs.lemmas.List.Elements.{All-cons}
use Rattle.std.proofs.lemmas.Str.{IsUtf8-from_is_utf8}
use Rattle.pac_buffers.specs.declared.delegation_info.DelegationInfo.{DelegationInfo}
use Rattle.pac_laws.specs.Writable.{IsWritableDelegation}
use Rattle.pac_logon.specs.Logon.{IsNdrText}
use Rattle.ticket_parts.proofs.Names.{units_short}
use Rattle.ticket_tests.proofs.parts.delegation.Goals as goal

abbrev files : List ℕ
files = 104 ∷ 116 ∷ 116 ∷ 112 ∷ 47 ∷ 102 ∷ 105 ∷ 108 ∷ 101 ∷ 115 ∷ []

abbrev web : List ℕ
web = 119 ∷ 101 ∷ 98 ∷ 64 ∷ 82 ∷ []

files_utf8 : IsUtf8 files
unfolding chars is_utf8 lib.Utf8.encode
files_utf8 = IsUtf8-from_is_utf8 files refl

web_utf8 : IsUtf8 web
unfolding chars is_utf8 lib.Utf8.encode
web_utf8 = IsUtf8-from_is_utf8 web refl

files_text : IsNdrText files
files_text = record { utf8 = files_utf8; few = omega (arith, units_short files files_utf8) }

web_text : IsNdrText web
web_text = record { utf8 = web_utf8; few = omega (arith, units_short web web_utf8) }

no_texts : All (λ text. IsNdrText text) []
no_texts k d lt = absurd (omega arith)

made_writable : (target : List ℕ) (services : List (List ℕ)) → target ≡ files → services ≡ web ∷ [] → IsWritableDelegation (record { target = target; services = services })
made_writable target services one two =
    let made : IsWritableDelegation (record { target = files; services = web ∷ [] }) = record { target = files_text; few = omega arith; services = All-cons (λ text. IsNdrText text) web [] web_text no_texts } in
    let same : ◌≡◌ {A = DelegationInfo} (record { target = target; services = services }) (record { target = files; services = web ∷ [] }) = cc in
    subst IsWritableDelegation (sym same) made

pub returns : goal.returns
returns c = made_writable c.in_ok-copy.field-0 c.in_ok-one_text.field-0 c.in_ok-copy.ensures c.in_ok-one_text.ensures
