-- Entries of the same client and moment.
use Rattle.std.proofs.Common.{◌≡◌, ◌∙◌, true, refl, sym}
use Rattle.std.specs.Bool.{Decides}
use Rattle.std.specs.Cmp.Lexicographic.{pointwise}
use Rattle.std.proofs.lemmas.Bool.Decides.{Decides-and, Decides-eqb}
use Rattle.std.proofs.lemmas.Slice.Eq.{bytes_eq-Decides, slice_eq-Decides}
use Rattle.kdc_prelude.specs.Texts.{same_text}
use Rattle.service_end.specs.Accepting.{same_entry}
use Rattle.service_end.specs.Memory.{Entry}

AreSame : Entry → Entry → Type 0
AreSame a b = ((a.client.parts ≡ b.client.parts) × (a.client.realm ≡ b.client.realm)) × (a.at ≡ b.at)

tells : (a b : Entry) → Decides (same_entry a b) (AreSame a b)
unfolding AreSame
tells a b =
    Decides-and _ _
    (Decides-and _ _ (slice_eq-Decides bytes_eq-Decides a.client.parts b.client.parts (pointwise same_text a.client.parts b.client.parts) refl) (bytes_eq-Decides a.client.realm b.client.realm))
    (Decides-eqb a.at b.at)

pub same_self : (a : Entry) → same_entry a a ≡ true
unfolding AreSame
same_self a = (tells a a).1 ((refl, refl), refl)

pub same_moment : (a b : Entry) → same_entry a b ≡ true → a.at ≡ b.at
unfolding AreSame
same_moment a b h = ((tells a b).0 h).1

-- what is the same as one of two that are the same is the same as the other
pub turned : (a b x : Entry) → same_entry a b ≡ true → same_entry a x ≡ true → same_entry b x ≡ true
unfolding AreSame
turned a b x h k =
    let first = (tells a b).0 h in
    let second = (tells a x).0 k in
    (tells b x).1 ((sym first.0.0 ∙ second.0.0, sym first.0.1 ∙ second.0.1), sym first.1 ∙ second.1)
