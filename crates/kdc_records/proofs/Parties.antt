-- The test of parties tells the equal ones.
use Rattle.std.proofs.Common.{◌≡◌, ℕ, ◌==◌, ◌&&◌, true, List, refl, ap, subst, ◌∙◌}
use Rattle.std.proofs.lemmas.Bool.{eq-eqb, eqb-true}
use lib.Pointwise.{bytes_decides}
use Rattle.kdc_prelude.specs.Texts.{same_text}
use Rattle.kdc_prelude.proofs.Bools.{both}
use Rattle.kdc_records.specs.Parties.{Party, Krbtgt, Trust, Account, same_party}

texts_are : (a b : List ℕ) → same_text a b ≡ true → a ≡ b
texts_are a b h = (bytes_decides a b).0 h

pub same_parties : (a b : Party) → same_party a b ≡ true → a ≡ b
unfolding same_party
same_parties (Krbtgt a) (Krbtgt b) h = ap Krbtgt (texts_are a b h)
same_parties (Krbtgt a) (Trust b p) h = absurd cc
same_parties (Krbtgt a) (Account b n) h = absurd cc
same_parties (Trust a p) (Krbtgt b) h = absurd cc
same_parties (Trust a p) (Trust b q) h =
    let parts = both (same_text a b) (same_text p q) h in
    ap (λ (x : List ℕ). Trust x p) (texts_are a b parts.0) ∙ ap (Trust b) (texts_are p q parts.1)
same_parties (Trust a p) (Account b n) h = absurd cc
same_parties (Account a m) (Krbtgt b) h = absurd cc
same_parties (Account a m) (Trust b p) h = absurd cc
same_parties (Account a m) (Account b n) h =
    let parts = both (same_text a b) (m == n) h in
    ap (λ (x : List ℕ). Account x m) (texts_are a b parts.0) ∙ ap (Account b) (eqb-true m n parts.1)

text_itself : (a : List ℕ) → same_text a a ≡ true
text_itself a = (bytes_decides a a).1 refl

itself : (a : Party) → same_party a a ≡ true
unfolding same_party
itself (Krbtgt a) = text_itself a
itself (Trust a p) = ap (λ b. b && same_text p p) (text_itself a) ∙ text_itself p
itself (Account a n) = ap (λ b. b && (n == n)) (text_itself a) ∙ eq-eqb n n refl

pub equal_parties : (a b : Party) → a ≡ b → same_party a b ≡ true
equal_parties a b e = subst (λ (c : Party). same_party a c ≡ true) e (itself a)
