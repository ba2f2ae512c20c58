-- The PACs that are built.
use Rattle.std.proofs.Common.{◌≡◌, ℕ, ◌+◌, ◌-◌, ◌<◌, ◌≤◌, ◌^◌, ◌⊎◌, inl, inr, ℤ, pos, to_z, of_z, Bool, true, false, cond, List, [], ◌∷◌, ◌++◌, length, replicate, Option, Some, None, Bor, refl, sym, ap, ◌∙◌, arith}
use Rattle.std.specs.Prelude.{IfSome, is_some, option_map}
use Rattle.std.specs.Bool.{then_some}
use Rattle.std.specs.Int.{w32, to_le_bytes}
use Rattle.ndr_core.specs.Fields.{gap}
use Rattle.ndr_core.specs.Object.{padded}
use Rattle.pac_buffers.specs.Container.{list_end}
use Rattle.pac_buffers.specs.Signature.{natural}
use Rattle.pac_buffers.specs.Buffers.{Buffer, contents, pac, if_there, built, size_of, IsSound}
use Rattle.pac_buffers.proofs.Entries.{length-contents, length-padded, length-pac}

padded_most : (x : List ℕ) → length (padded x) ≤ length x + 8
unfolding gap
padded_most x = omega (arith, length-padded x)

-- room for the buffers and the zeros between
abbrev room : List Buffer → ℕ
room [] = 0
room (b ∷ bs) = length b.content + 8 + room bs

contents_most : (bs : List Buffer) → length (contents bs) ≤ room bs
contents_most [] = omega arith
contents_most (b ∷ bs) = omega (arith, length-contents b bs, padded_most b.content, contents_most bs)

pac_short : (bs : List Buffer) → list_end (length bs) + room bs < 2 ^ 32 → length (pac bs) < 2 ^ 32
pac_short bs few = omega (arith, length-pac bs, contents_most bs)

pub built_is_sound : (logon client : List ℕ) (delegation : Option (List ℕ)) (ticket : Bool) (server realm : ℤ) → length logon + length client + size_of delegation < 2 ^ 32 - 256
    → IsSound (built logon client delegation ticket server realm)
built_is_sound logon client None false server realm few =
    record { short = pac_short (built logon client None false server realm) (omega arith); small = refl; distinct = refl; needed = refl; signed = refl }
built_is_sound logon client None true server realm few =
    record { short = pac_short (built logon client None true server realm) (omega arith); small = refl; distinct = refl; needed = refl; signed = refl }
built_is_sound logon client (Some d) false server realm few =
    record { short = pac_short (built logon client (Some d) false server realm) (omega arith); small = refl; distinct = refl; needed = refl; signed = refl }
built_is_sound logon client (Some d) true server realm few =
    record { short = pac_short (built logon client (Some d) true server realm) (omega arith); small = refl; distinct = refl; needed = refl; signed = refl }

-- the same for callers that know a bound of each
pub few_together : (logon client : List ℕ) (delegation : Option (List ℕ)) → length logon < 2 ^ 30 → length client < 2 ^ 30 → IfSome delegation (λ x. length x < 2 ^ 30) → length logon + length client + size_of delegation < 2 ^ 32 - 256
few_together logon client None first second third = omega arith
few_together logon client (Some d) first second third = omega arith

pub built_sound : (logon client : List ℕ) (delegation : Option (List ℕ)) (ticket : Bool) (server realm : ℤ) → length logon < 2 ^ 30 → length client < 2 ^ 30 → IfSome delegation (λ x. length x < 2 ^ 30)
    → IsSound (built logon client delegation ticket server realm)
built_sound logon client delegation ticket server realm first second third = built_is_sound logon client delegation ticket server realm (few_together logon client delegation first second third)

-- one buffer after the other
abbrev pub grown : List ℕ → List ℕ → Option (List ℕ) → Bool → List ℕ → List ℕ → List Buffer
grown logon client delegation ticket server realm =
    ((((([] ++ record { kind = 1; content = logon } ∷ []) ++ record { kind = 10; content = client } ∷ []) ++ if_there 11 delegation) ++ record { kind = 6; content = server } ∷ [])
    ++ record { kind = 7; content = realm } ∷ []) ++ if_there 16 (then_some ticket realm)

abbrev pub type_and_zeros : ℤ → List ℕ
type_and_zeros sum_type = to_le_bytes w32 (natural sum_type) ++ replicate 12 0

grown_is_built : (logon client : List ℕ) (delegation : Option (List ℕ)) (ticket : Bool) (s r : ℤ) → grown logon client delegation ticket (type_and_zeros s) (type_and_zeros r) ≡ built logon client delegation ticket s r
grown_is_built logon client None false s r = refl
grown_is_built logon client None true s r = refl
grown_is_built logon client (Some d) false s r = refl
grown_is_built logon client (Some d) true s r = refl

pub grown_is : (logon client : List ℕ) (delegation : Option (List ℕ)) (ticket : Bool) (server realm : List ℕ) (s r : ℤ) → server ≡ type_and_zeros s → realm ≡ type_and_zeros r
    → grown logon client delegation ticket server realm ≡ built logon client delegation ticket s r
grown_is logon client delegation ticket server realm s r first second =
    ap (λ (x : List ℕ). grown logon client delegation ticket x realm) first ∙ ap (grown logon client delegation ticket (type_and_zeros s)) second ∙ grown_is_built logon client delegation ticket s r

pub length-grown : (logon client : List ℕ) (delegation : Option (List ℕ)) (ticket : Bool) (server realm : List ℕ) → length (grown logon client delegation ticket server realm) ≡ 4 + cond (is_some delegation) 1 0 + cond ticket 1 0
length-grown logon client None false server realm = refl
length-grown logon client None true server realm = refl
length-grown logon client (Some d) false server realm = refl
length-grown logon client (Some d) true server realm = refl

pub lent_if : (t : Bool) (x : Bor (List ℕ)) → option_map {T = Bor (List ℕ)} {U = List ℕ} (λ y. y.now) (then_some t x) ≡ then_some t x.now
lent_if true x = refl
lent_if false x = refl

pub there_mapped : (o : Option (Bor (List ℕ))) → is_some o ≡ is_some (option_map {T = Bor (List ℕ)} {U = List ℕ} (λ y. y.now) o)
there_mapped None = refl
there_mapped (Some x) = refl

-- the type of a checksum as it is passed on
pub type_again : (z : ℤ) → (z ≡ pos 15) ⊎ (z ≡ pos 16) → to_z w32 (of_z w32 z) ≡ z
type_again z (inl e) = ap (λ y. to_z w32 (of_z w32 y)) e ∙ sym e
type_again z (inr e) = ap (λ y. to_z w32 (of_z w32 y)) e ∙ sym e
