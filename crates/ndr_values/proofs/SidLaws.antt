-- Security identifiers are lawful.
use Rattle.std.proofs.Common.{ℕ, suc, ◌<◌, ◌≤◌, ◌^◌, List, [], ◌∷◌, length, get_or, refl, arith, lit<, Result, Ok, Err}
use Rattle.std.specs.Result.{OnOk}
use Rattle.std.proofs.lemmas.Bool.{le-leb}
use Rattle.std.specs.Int.{w8, w32}
use Rattle.krb_names.specs.SidValue.{SidValue}
use Rattle.ndr_core.specs.Fields.{number}
use Rattle.ndr_core.specs.Arrays.{repeated}
use Rattle.ndr_core.specs.declared.refusal.NdrCause.TheVariants.{BadCount}
use Rattle.ndr_core.specs.Laws.{IsLayout}
use Rattle.ndr_core.proofs.LayoutLaws.{field_lawful, followed_lawful, mapped_lawful}
use Rattle.ndr_core.proofs.FieldLaws.{raw_lawful, number32_lawful, exactly_lawful, within_lawful, wide8, wide32}
use Rattle.ndr_core.proofs.ArrayLaws.{repeated_lawful}
use Rattle.ndr_values.specs.Sids.{sid_body, packed_sid, rpc_sid}

pub sid_body_lawful : (n : ℕ) → IsLayout (sid_body n)
sid_body_lawful n = mapped_lawful _ _ _ (field_lawful _ _ (mapped_lawful _ _ _ (raw_lawful 6)) (repeated_lawful n _ number32_lawful))

pub packed_sid_lawful : IsLayout packed_sid
packed_sid_lawful = mapped_lawful _ _ _ (field_lawful _ _ (exactly_lawful w8 1 BadCount wide8) (followed_lawful _ _ (within_lawful w8 1 15 BadCount wide8) (λ n. sid_body_lawful n)))

pub rpc_sid_lawful : (most : ℕ) → IsLayout (rpc_sid most)
rpc_sid_lawful most = mapped_lawful _ _ _ (followed_lawful _ _ (within_lawful w32 1 most BadCount wide32) (λ n. field_lawful _ _ (exactly_lawful w8 1 BadCount wide8) (field_lawful _ _ (exactly_lawful w8 n BadCount wide8) (sid_body_lawful n))))

-- what holds anyway holds where a call succeeds
pub on_ok : {T E P : Type 0} (r : Result T E) → P → OnOk r P
on_ok (Ok x) p = p
on_ok (Err e) p = tt

pub numbers_fit : (numbers : List ℕ) → ((k : ℕ) → get_or numbers k 0 < 2 ^ 32) → (repeated (length numbers) (number w32)).Fits numbers
numbers_fit [] small = tt
numbers_fit (n ∷ ns) small = (small 0, numbers_fit ns (λ k. let e : get_or (n ∷ ns) (suc k) 0 < 2 ^ 32 = small (suc k) in e))

pub sid_body_fits : (s : SidValue) → s.authority < 2 ^ 48 → (repeated (length s.numbers) (number w32)).Fits s.numbers → (sid_body (length s.numbers)).Fits s
sid_body_fits s low fits = (refl, ((omega arith, refl), fits))

pub packed_sid_fits : (s : SidValue) → 1 ≤ length s.numbers → length s.numbers ≤ 15 → (sid_body (length s.numbers)).Fits s → packed_sid.Fits s
packed_sid_fits s some few fits =
    let first = le-leb 1 (length s.numbers) some in
    let second = le-leb (length s.numbers) 15 few in
    (refl, ((lit< tt, refl), ((omega arith, rw (first, second) refl), fits)))
