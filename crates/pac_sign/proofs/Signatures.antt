-- The contents of signatures once checksums were put.
use Rattle.std.proofs.Common.{◌≡◌, ℕ, ◌<◌, Bool, true, false, ◌&&◌, cond, List, [], ◌∷◌, ◌++◌, length, take, drop, get_or, Option, Some, None, refl, sym, ap, ◌∙◌, length-append, arith}
use Rattle.std.specs.Prelude.{nat_eq, nat_le, option_map}
use Rattle.std.specs.Int.{w32, from_le_bytes}
use Rattle.std.specs.List.{find, list_all}
use Rattle.std.proofs.lemmas.Bool.{eq-eqb, eqb-true, ne_eqb, le-leb}
use Rattle.std.proofs.lemmas.List.{take_at, take_all, drop_at, length-take-le, get_or_append_left, get_or-take}
use Rattle.kdc_prelude.proofs.Bools.{both}
use Rattle.krb_names.specs.declared.key.Key.{Key}
use Rattle.pac_buffers.specs.Buffers.{Buffer, with_value, with_sum, content_of, is_signature, IsSound}
use Rattle.pac_buffers.proofs.Sums.{whole_if, wholes, changed, value_by, sized_if}
use Rattle.pac_sign.specs.Sums.{sum_type}
use Rattle.pac_sign.specs.Verified.{value_for}

-- ---- the contents

abbrev first_of : ℕ → Buffer → Option Buffer → Option (List ℕ)
first_of kind b o = option_map (λ x. x.content) (cond (nat_eq b.kind kind) (Some b) o)

abbrev renewed : List ℕ → Option (List ℕ) → Option (List ℕ)
renewed sum o = option_map (λ c. take 4 c ++ sum) o

first_is : (kind : ℕ) (b : Buffer) (o : Option Buffer) (t : Bool) → nat_eq b.kind kind ≡ t → first_of kind b o ≡ option_map (λ x. x.content) (cond t (Some b) o)
first_is kind b o t test = ap (λ (u : Bool). option_map (λ (x : Buffer). x.content) (cond u (Some b) o)) test

own_by : (t : Bool) (kind : ℕ) (sum : List ℕ) (b : Buffer) (o p : Option Buffer) → nat_eq b.kind kind ≡ t → option_map (λ x. x.content) p ≡ renewed sum (option_map (λ x. x.content) o)
    → first_of kind (with_value kind sum b) p ≡ renewed sum (first_of kind b o)
own_by true kind sum b o p test later =
    ap (λ (w : Buffer). first_of kind w p) (value_by kind sum b true test) ∙ first_is kind (changed sum b) p true test ∙ sym (ap (renewed sum) (first_is kind b o true test))
own_by false kind sum b o p test later =
    ap (λ (w : Buffer). first_of kind w p) (value_by kind sum b false test) ∙ first_is kind b p false test ∙ later ∙ sym (ap (renewed sum) (first_is kind b o false test))

pub content_own : (kind : ℕ) (sum : List ℕ) (bs : List Buffer) → content_of kind (with_sum kind sum bs) ≡ renewed sum (content_of kind bs)
content_own kind sum [] = refl
content_own kind sum (b ∷ bs) =
    own_by (nat_eq b.kind kind) kind sum b (find (λ (x : Buffer). nat_eq x.kind kind) bs) (find (λ (x : Buffer). nat_eq x.kind kind) (with_sum kind sum bs)) refl (content_own kind sum bs)

other_by : (t : Bool) (kind other : ℕ) (sum : List ℕ) (b : Buffer) (o p : Option Buffer) → (kind ≡ other → ⊥) → nat_eq b.kind other ≡ t → option_map (λ x. x.content) p ≡ option_map (λ x. x.content) o
    → first_of kind (with_value other sum b) p ≡ first_of kind b o
other_by true kind other sum b o p apart test later =
    let not_own : nat_eq b.kind kind ≡ false = ne_eqb b.kind kind (λ e. apart (sym e ∙ eqb-true b.kind other test)) in
    ap (λ (w : Buffer). first_of kind w p) (value_by other sum b true test) ∙ first_is kind (changed sum b) p false not_own ∙ later ∙ sym (first_is kind b o false not_own)
other_by false kind other sum b o p apart test later =
    ap (λ (w : Buffer). first_of kind w p) (value_by other sum b false test) ∙ same_first (nat_eq b.kind kind)
  where
    same_first : (u : Bool) → option_map (λ (x : Buffer). x.content) (cond u (Some b) p) ≡ option_map (λ (x : Buffer). x.content) (cond u (Some b) o)
    same_first true = refl
    same_first false = later

pub content_other : (kind other : ℕ) (sum : List ℕ) (bs : List Buffer) → (kind ≡ other → ⊥) → content_of kind (with_sum other sum bs) ≡ content_of kind bs
content_other kind other sum [] apart = refl
content_other kind other sum (b ∷ bs) apart =
    other_by (nat_eq b.kind other) kind other sum b (find (λ (x : Buffer). nat_eq x.kind kind) bs) (find (λ (x : Buffer). nat_eq x.kind kind) (with_sum other sum bs)) apart refl (content_other kind other sum bs apart)

some_is : (x y : List ℕ) → Some x ≡ Some y → x ≡ y
some_is x y e = cc

whole_by : (t : Bool) (kind : ℕ) (b : Buffer) (o : Option Buffer) (c : List ℕ) → nat_eq b.kind kind ≡ t → whole_if kind b ≡ true → (option_map (λ x. x.content) o ≡ Some c → length c ≡ 16) → first_of kind b o ≡ Some c → length c ≡ 16
whole_by true kind b o c test whole later e =
    sym (ap length (some_is b.content c (sym (first_is kind b o true test) ∙ e))) ∙ sized_if (nat_eq b.kind kind) (length b.content) test whole
whole_by false kind b o c test whole later e = later (sym (first_is kind b o false test) ∙ e)

-- a signature has 16 bytes
content_whole : (kind : ℕ) (bs : List Buffer) (c : List ℕ) → list_all (whole_if kind) bs ≡ true → content_of kind bs ≡ Some c → length c ≡ 16
content_whole kind [] c all e = absurd cc
content_whole kind (b ∷ bs) c all e =
    let t = both (whole_if kind b) (list_all (whole_if kind) bs) all in
    whole_by (nat_eq b.kind kind) kind b (find (λ (x : Buffer). nat_eq x.kind kind) bs) c refl t.0 (content_whole kind bs c t.1) e

pub signature_whole : (kind : ℕ) (bs : List Buffer) (c : List ℕ) → IsSound bs → is_signature kind ≡ true → content_of kind bs ≡ Some c → length c ≡ 16
signature_whole kind bs c sound signature e = content_whole kind bs c (wholes kind bs signature sound.signed) e

-- ---- a checksum twice, and two checksums

take_again : (x s : List ℕ) → length x ≡ 16 → take 4 (take 4 x ++ s) ≡ take 4 x
take_again x s sized = take_at (take 4 x) s 4 (length-take-le 4 x (omega arith))

twice_by : (t : Bool) (kind : ℕ) (a b : List ℕ) (x : Buffer) → nat_eq x.kind kind ≡ t → whole_if kind x ≡ true → with_value kind a (with_value kind b x) ≡ with_value kind a x
twice_by true kind a b x test whole =
    let sized = sized_if (nat_eq x.kind kind) (length x.content) test whole in
    let with_content : List ℕ → Buffer = λ y. record { kind = x.kind; content = y ++ a } in
    ap (with_value kind a) (value_by kind b x true test) ∙ value_by kind a (changed b x) true test ∙ ap with_content (take_again x.content b sized) ∙ sym (value_by kind a x true test)
twice_by false kind a b x test whole = ap (with_value kind a) (value_by kind b x false test)

pub sum_twice : (kind : ℕ) (a b : List ℕ) (bs : List Buffer) → list_all (whole_if kind) bs ≡ true → with_sum kind a (with_sum kind b bs) ≡ with_sum kind a bs
sum_twice kind a b [] all = refl
sum_twice kind a b (x ∷ xs) all =
    let t = both (whole_if kind x) (list_all (whole_if kind) xs) all in
    rw (twice_by (nat_eq x.kind kind) kind a b x refl t.0, sum_twice kind a b xs t.1) refl

commute_by : (t u : Bool) (kind other : ℕ) (a b : List ℕ) (x : Buffer) → (kind ≡ other → ⊥) → nat_eq x.kind kind ≡ t → nat_eq x.kind other ≡ u → with_value kind a (with_value other b x) ≡ with_value other b (with_value kind a x)
commute_by true true kind other a b x apart first second = absurd (apart (sym (eqb-true x.kind kind first) ∙ eqb-true x.kind other second))
commute_by true false kind other a b x apart first second =
    ap (with_value kind a) (value_by other b x false second) ∙ value_by kind a x true first ∙ sym (value_by other b (changed a x) false second) ∙ sym (ap (with_value other b) (value_by kind a x true first))
commute_by false true kind other a b x apart first second =
    ap (with_value kind a) (value_by other b x true second) ∙ value_by kind a (changed b x) false first ∙ sym (value_by other b x true second) ∙ sym (ap (with_value other b) (value_by kind a x false first))
commute_by false false kind other a b x apart first second =
    ap (with_value kind a) (value_by other b x false second) ∙ value_by kind a x false first ∙ sym (value_by other b x false second) ∙ sym (ap (with_value other b) (value_by kind a x false first))

pub sums_commute : (kind other : ℕ) (a b : List ℕ) (bs : List Buffer) → (kind ≡ other → ⊥) → with_sum kind a (with_sum other b bs) ≡ with_sum other b (with_sum kind a bs)
sums_commute kind other a b [] apart = refl
sums_commute kind other a b (x ∷ xs) apart = rw (commute_by (nat_eq x.kind kind) (nat_eq x.kind other) kind other a b x apart refl refl, sums_commute kind other a b xs apart) refl

-- ---- what is read of a signature

front_byte : (c s : List ℕ) (i : ℕ) → length c ≡ 16 → i < 4 → get_or (take 4 c ++ s) i 0 ≡ get_or c i 0
front_byte c s i sized lt =
    get_or_append_left (take 4 c) s 0 i (omega (arith, length-take-le 4 c (omega arith))) ∙ get_or-take 4 c i 0 lt

type_kept : (c s : List ℕ) → length c ≡ 16 → from_le_bytes w32 (take 4 c ++ s) ≡ from_le_bytes w32 c
type_kept c s sized = omega (arith, front_byte c s 0 sized (omega arith), front_byte c s 1 sized (omega arith), front_byte c s 2 sized (omega arith), front_byte c s 3 sized (omega arith))

pub value_is : (key : Key) (c s : List ℕ) → length c ≡ 16 → length s ≡ 12 → from_le_bytes w32 c ≡ sum_type key.etype → value_for key (Some (take 4 c ++ s)) ≡ Some s
value_is key c s sized twelve kind =
    let long : length (take 4 c ++ s) ≡ 16 = length-append (take 4 c) s ∙ omega (arith, length-take-le 4 c (omega arith)) in
    let enough : nat_le 16 (length (take 4 c ++ s)) ≡ true = le-leb _ _ (omega arith) in
    let own : nat_eq (from_le_bytes w32 (take 4 c ++ s)) (sum_type key.etype) ≡ true = eq-eqb _ _ (type_kept c s sized ∙ kind) in
    let value : take 12 (drop 4 (take 4 c ++ s)) ≡ s = ap (take 12) (drop_at (take 4 c) s 4 (length-take-le 4 c (omega arith))) ∙ take_all 12 s (omega arith) in
    let chosen : Bool → Option (List ℕ) = λ t. cond t (Some (take 12 (drop 4 (take 4 c ++ s)))) None in
    ap (λ (t : Bool). chosen (t && nat_eq (from_le_bytes w32 (take 4 c ++ s)) (sum_type key.etype))) enough ∙ ap chosen own ∙ ap Some value
