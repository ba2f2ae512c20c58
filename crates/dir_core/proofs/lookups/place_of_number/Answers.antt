use Rattle.std.proofs.Common.{◌≡◌, ◌-◌, ◌&&◌, ◌∙◌, sym, Bool, true, false, eq-eqb, length, take, refl}
use Rattle.std.specs.Prelude.{◌==◌}
use Rattle.std.proofs.lemmas.Bool.{eqb-true}
use Rattle.kdc_prelude.specs.Texts.{same_text}
use Rattle.dir_core.proofs.SidNumbers.{in_domain, in_other_domain, is_of_domain}
use Rattle.dir_core.proofs.lookups.place_of_number.Goals.{else-authority-via-then-authority+else-eq, else-authority-via-else-authority}
use Rattle.dir_core.proofs.lookups.place_of_number.Goals as goal

both : (a b : Bool) → a ≡ true → b ≡ true → (a && b) ≡ true
both true b h k = k
both false b h k = absurd (cc)

second : (a b : Bool) → b ≡ false → (a && b) ≡ false
second true b h = h
second false b h = refl

first : (a b : Bool) → a ≡ false → (a && b) ≡ false
first true b h = absurd (cc)
first false b h = refl

not_true : (b : Bool) → (b ≡ true → ⊥) → b ≡ false
not_true true h = absurd (h refl)
not_true false h = refl

pub returns-then-eq : goal.returns-then-eq
returns-then-eq c =
    let realm = c.args.realm.now.sid in
    let sid = c.args.sid.now in
    let authority : (realm.authority == sid.authority) ≡ true = eq-eqb realm.authority sid.authority (sym c.authority.ensures.value ∙ c.if-authority.true ∙ c.authority-2.ensures.value) in
    let numbers = rw (c.numbers.ensures.value, c.numbers-numbers.ensures.value) at (sym c.if-eq.ensures) in
    let domain = both (realm.authority == sid.authority) (same_text realm.numbers (take (length sid.numbers - 1) sid.numbers)) authority numbers in
    let found = rw c.numbers-numbers.ensures.value at (c.find.ensures ∙ c.requires.numbers _) in
    found ∙ in_domain realm sid c.args.realm.now.accounts c.numbers-numbers.ensures.some domain

pub returns-else-authority : goal.returns-else-authority
returns-else-authority c =
    let realm = c.args.realm.now.sid in
    let sid = c.args.sid.now in
    let domain : is_of_domain realm sid ≡ false = elim c.else-authority.branch [
      | else-authority-via-then-authority+else-eq w ↦ second (realm.authority == sid.authority) (same_text realm.numbers (take (length sid.numbers - 1) sid.numbers)) (rw (w.numbers.ensures.value, c.numbers-numbers.ensures.value) at (sym w.if-eq.ensures))
      | else-authority-via-else-authority w ↦ first (realm.authority == sid.authority) (same_text realm.numbers (take (length sid.numbers - 1) sid.numbers)) (not_true (realm.authority == sid.authority) (λ e. absurd (w.if-authority.false (c.authority.ensures.value ∙ eqb-true realm.authority sid.authority e ∙ sym c.authority-2.ensures.value))))
    ] in
    in_other_domain realm sid c.args.realm.now.accounts c.numbers-numbers.ensures.some domain
