-- The fields of a security identifier from its value.
use Rattle.std.specs.Prelude.{◌≡◌, ℕ, ◌-◌, ◌≤◌, List, ◌++◌, take, length, replicate}
use Rattle.std.proofs.Common.{ap, arith, ◌∙◌, sym}
use Rattle.std.proofs.lemmas.List.{take-append-drop, length-take-le}
use Rattle.krb_names.specs.SidValue.{SidValue, IsSid}
use Rattle.krb_names.specs.declared.sid.Sid.TheInside.{Inside}

abbrev pub value_of : Inside → SidValue
value_of s = record { authority = s.authority; numbers = take s.count s.subs }

abbrev pub fields_of : SidValue → Inside
fields_of v = record { authority = v.authority; count = length v.numbers; subs = v.numbers ++ replicate (15 - length v.numbers) 0 }

pub fields_again : (s : Inside) → IsSid s.authority s.count s.subs → fields_of (value_of s) ≡ s
fields_again s h =
    let fit : s.count ≤ length s.subs = omega (arith, h.few, h.size) in
    let count : length (take s.count s.subs) ≡ s.count = length-take-le s.count s.subs fit in
    let subs : take s.count s.subs ++ replicate (15 - length (take s.count s.subs)) 0 ≡ s.subs =
    rw count (ap (λ rest. take s.count s.subs ++ rest) (sym h.rest) ∙ take-append-drop s.count s.subs) in
    let with_count : ℕ → Inside = λ n. record { authority = s.authority; count = n; subs = take s.count s.subs ++ replicate (15 - length (take s.count s.subs)) 0 } in
    let with_subs : List ℕ → Inside = λ l. record { authority = s.authority; count = s.count; subs = l } in
    ap with_count count ∙ ap with_subs subs
