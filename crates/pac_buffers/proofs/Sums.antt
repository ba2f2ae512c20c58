-- A PAC with another checksum in a signature.
use Rattle.std.proofs.Common.{◌≡◌, ℕ, ◌+◌, ◌≤◌, ◌^◌, Bool, true, false, not, ◌||◌, ◌&&◌, cond, List, [], ◌∷◌, ◌++◌, length, take, drop, map, replicate, Option, Some, None, refl, sym, ap, ◌∙◌, append_assoc, append-nil, length-append, arith}
use Rattle.std.specs.Prelude.{nat_eq, nat_lt, IfSome, option_map}
use Rattle.std.specs.declared.ops.Range.{Range}
use Rattle.std.specs.Bool.{OnTrue, OnFalse}
use Rattle.std.specs.List.{find, flat_map, list_any, list_all}
use Rattle.std.proofs.lemmas.Bool.{eqb-true, eqb-false, ne_eqb}
use Rattle.std.proofs.lemmas.List.{take_at, drop_at, take-append-drop, length-take-le, length-map}
use Rattle.std.proofs.lemmas.List.Concat.{flat_map-cons}
use Rattle.kdc_prelude.specs.Distinct.{all_distinct}
use Rattle.kdc_prelude.proofs.Bools.{both}
use Rattle.ndr_core.specs.Fields.{gap}
use Rattle.ndr_core.specs.Object.{padded}
use Rattle.pac_buffers.specs.declared.info_buffer.InfoBuffer.{InfoBuffer}
use Rattle.pac_buffers.specs.InfoBuffers.{is_kind, end_of}
use Rattle.pac_buffers.specs.Container.{list_end, entry_of, needed}
use Rattle.pac_buffers.specs.Places.{place_of}
use Rattle.pac_buffers.specs.Buffers.{Buffer, placed, header, entry_bytes, contents, pac, is_signature, is_whole, with_value, with_sum, has_buffer, IsSound}
use Rattle.pac_buffers.proofs.Lists.{not_first, not_second, lies_in}
use Rattle.pac_buffers.proofs.Entries.{front_of_pac, length-front, pac_parts, length-padded, length-pac, length-contents}
use Rattle.pac_buffers.proofs.Contents.{entry_is}
use Rattle.pac_buffers.proofs.Faults.{no_fault}

-- 12 bytes in the place of others
abbrev pub overwritten : ℕ → List ℕ → List ℕ → List ℕ
overwritten at sum bytes = take at bytes ++ (sum ++ drop (at + 12) bytes)

put_first : (front c rest sum : List ℕ) (at : ℕ) → at ≡ length front → length c ≡ 16 → overwritten (at + 4) sum (front ++ (c ++ rest)) ≡ front ++ ((take 4 c ++ sum) ++ rest)
put_first front c rest sum at is sized =
    let four : List ℕ = take 4 c in
    let parts : front ++ (c ++ rest) ≡ (front ++ four) ++ (drop 4 c ++ rest) =
    ap (λ (x : List ℕ). front ++ (x ++ rest)) (sym (take-append-drop 4 c)) ∙ ap (λ (x : List ℕ). front ++ x) (append_assoc four (drop 4 c) rest) ∙ sym (append_assoc front four (drop 4 c ++ rest)) in
    let before : take (at + 4) (front ++ (c ++ rest)) ≡ front ++ four =
    ap (take (at + 4)) parts ∙ take_at (front ++ four) (drop 4 c ++ rest) (at + 4) (omega (arith, length-append front four, length-take-le 4 c (omega arith))) in
    let behind : drop (at + 4 + 12) (front ++ (c ++ rest)) ≡ rest =
    ap (drop (at + 4 + 12)) (sym (append_assoc front c rest)) ∙ drop_at (front ++ c) rest (at + 4 + 12) (omega (arith, length-append front c)) in
    ap (λ (x : List ℕ). x ++ (sum ++ drop (at + 4 + 12) (front ++ (c ++ rest)))) before ∙ ap (λ (x : List ℕ). (front ++ four) ++ (sum ++ x)) behind
    ∙ append_assoc front four (sum ++ rest) ∙ ap (λ (x : List ℕ). front ++ x) (sym (append_assoc four sum rest))

-- a signature takes no zeros behind it
padded_whole : (c : List ℕ) → length c ≡ 16 → padded c ≡ c
unfolding gap
padded_whole c sized = ap (λ (n : ℕ). c ++ replicate (gap 8 n) 0) sized ∙ append-nil c

-- where a buffer has this type it has 16 bytes
abbrev pub whole_if : ℕ → Buffer → Bool
whole_if kind b = not (nat_eq b.kind kind) || nat_eq (length b.content) 16

pub sized_if : (t : Bool) (n : ℕ) → t ≡ true → (not t || nat_eq n 16) ≡ true → n ≡ 16
sized_if true n is e = eqb-true n 16 e
sized_if false n is e = absurd cc

-- ---- the changed buffer

value_kind_by : (t : Bool) (kind : ℕ) (sum : List ℕ) (b : Buffer) → (cond t (record { kind = b.kind; content = take 4 b.content ++ sum }) b).kind ≡ b.kind
value_kind_by true kind sum b = refl
value_kind_by false kind sum b = refl

value_size_by : (t : Bool) (sum : List ℕ) (b : Buffer) → length sum ≡ 12 → (not t || nat_eq (length b.content) 16) ≡ true → length (cond t (record { kind = b.kind; content = take 4 b.content ++ sum }) b).content ≡ length b.content
value_size_by true sum b twelve e =
    let sized : length b.content ≡ 16 = eqb-true _ _ e in
    length-append (take 4 b.content) sum ∙ omega (arith, length-take-le 4 b.content (omega arith))
value_size_by false sum b twelve e = refl

value_kind : (kind : ℕ) (sum : List ℕ) (b : Buffer) → (with_value kind sum b).kind ≡ b.kind
value_kind kind sum b = value_kind_by (nat_eq b.kind kind) kind sum b

value_size : (kind : ℕ) (sum : List ℕ) (b : Buffer) → length sum ≡ 12 → whole_if kind b ≡ true → length (with_value kind sum b).content ≡ length b.content
value_size kind sum b twelve e = value_size_by (nat_eq b.kind kind) sum b twelve e

padded_size : (x y : List ℕ) → length x ≡ length y → length (padded x) ≡ length (padded y)
padded_size x y e = length-padded x ∙ ap (λ (n : ℕ). n + gap 8 n) e ∙ sym (length-padded y)

placed_same : (kind : ℕ) (sum : List ℕ) (at : ℕ) (bs : List Buffer) → length sum ≡ 12 → list_all (whole_if kind) bs ≡ true → placed at (with_sum kind sum bs) ≡ placed at bs
placed_same kind sum at [] twelve all = refl
placed_same kind sum at (b ∷ bs) twelve all =
    let t = both (whole_if kind b) (list_all (whole_if kind) bs) all in
    let v : Buffer = with_value kind sum b in
    let size = value_size kind sum b twelve t.0 in
    let entry : ℕ → ℕ → InfoBuffer = λ k s. record { kind = k; size = s; offset = at } in
    let own : entry v.kind (length v.content) ≡ entry b.kind (length b.content) = ap (λ (k : ℕ). entry k (length v.content)) (value_kind kind sum b) ∙ ap (entry b.kind) size in
    let next : at + length (padded v.content) ≡ at + length (padded b.content) = ap (λ (n : ℕ). at + n) (padded_size v.content b.content size) in
    ap (λ (e : InfoBuffer). e ∷ placed (at + length (padded v.content)) (with_sum kind sum bs)) own
    ∙ ap (λ (n : ℕ). entry b.kind (length b.content) ∷ placed n (with_sum kind sum bs)) next
    ∙ ap (λ (es : List InfoBuffer). entry b.kind (length b.content) ∷ es) (placed_same kind sum (at + length (padded b.content)) bs twelve t.1)

front_same : (kind : ℕ) (sum : List ℕ) (bs : List Buffer) → length sum ≡ 12 → list_all (whole_if kind) bs ≡ true → front_of_pac (with_sum kind sum bs) ≡ front_of_pac bs
unfolding front_of_pac
front_same kind sum bs twelve all =
    let many : length (with_sum kind sum bs) ≡ length bs = length-map bs (with_value kind sum) in
    ap (λ (n : ℕ). header n ++ flat_map entry_bytes (placed (list_end n) (with_sum kind sum bs))) many
    ∙ ap (λ (es : List InfoBuffer). header (length bs) ++ flat_map entry_bytes es) (placed_same kind sum (list_end (length bs)) bs twelve all)

-- no buffer of this type
pub none_changed : (kind : ℕ) (sum : List ℕ) (bs : List Buffer) → has_buffer kind bs ≡ false → with_sum kind sum bs ≡ bs
none_changed kind sum [] none = refl
none_changed kind sum (b ∷ bs) none =
    let here : nat_eq b.kind kind ≡ false = not_first (nat_eq b.kind kind) (has_buffer kind bs) none in
    let own : with_value kind sum b ≡ b = rw here refl in
    rw (own, none_changed kind sum bs (not_second (nat_eq b.kind kind) (has_buffer kind bs) none)) refl

swapped : (a b : ℕ) → nat_eq a b ≡ false → nat_eq b a ≡ false
swapped a b e = ne_eqb b a (λ same. eqb-false a b e (sym same))

not_true : (b : Bool) → not b ≡ true → b ≡ false
not_true true e = absurd cc
not_true false e = refl

none_behind : (k kind : ℕ) (bs : List Buffer) → k ≡ kind → list_any (nat_eq k) (map (λ b. b.kind) bs) ≡ false → has_buffer kind bs ≡ false
none_behind k kind [] is none = refl
none_behind k kind (b ∷ bs) is none =
    let here : nat_eq b.kind kind ≡ false = swapped kind b.kind (ap (λ (n : ℕ). nat_eq n b.kind) (sym is) ∙ not_first (nat_eq k b.kind) (list_any (nat_eq k) (map (λ (c : Buffer). c.kind) bs)) none) in
    rw (here, none_behind k kind bs is (not_second (nat_eq k b.kind) (list_any (nat_eq k) (map (λ (c : Buffer). c.kind) bs)) none)) refl

some_is : (x y : InfoBuffer) → Some x ≡ Some y → x ≡ y
some_is x y e = cc

contents_cons : (b : Buffer) (bs : List Buffer) → contents (b ∷ bs) ≡ padded b.content ++ contents bs
contents_cons b bs = flat_map-cons (λ (c : Buffer). padded c.content) b bs

abbrev pub changed : List ℕ → Buffer → Buffer
changed sum b = record { kind = b.kind; content = take 4 b.content ++ sum }

pub value_by : (kind : ℕ) (sum : List ℕ) (b : Buffer) (t : Bool) → nat_eq b.kind kind ≡ t → with_value kind sum b ≡ cond t (changed sum b) b
value_by kind sum b t test = ap (λ (u : Bool). cond u (changed sum b) b) test

abbrev more_of : List ℕ → Buffer → List ℕ
more_of front b = front ++ padded b.content

-- the first buffer is the signature, or the others hold it
put_by : (t : Bool) (kind : ℕ) (sum front : List ℕ) (at : ℕ) (b : Buffer) (bs : List Buffer) (e : InfoBuffer) → nat_eq b.kind kind ≡ t → length sum ≡ 12 → at ≡ length front
    → list_any (nat_eq b.kind) (map (λ c. c.kind) bs) ≡ false → whole_if kind b ≡ true
    → cond t (Some (record { kind = b.kind; size = length b.content; offset = at })) (find (is_kind kind) (placed (at + length (padded b.content)) bs)) ≡ Some e
    → (find (is_kind kind) (placed (at + length (padded b.content)) bs) ≡ Some e → overwritten (e.offset + 4) sum (more_of front b ++ contents bs) ≡ more_of front b ++ contents (with_sum kind sum bs))
    → overwritten (e.offset + 4) sum (front ++ contents (b ∷ bs)) ≡ front ++ contents (with_sum kind sum (b ∷ bs))
put_by true kind sum front at b bs e test twelve is alone whole found later =
    let c : List ℕ = b.content in
    let own : InfoBuffer = record { kind = b.kind; size = length c; offset = at } in
    let offset : at ≡ e.offset = ap (λ (x : InfoBuffer). x.offset) (some_is own e found) in
    let sized : length c ≡ 16 = sized_if (nat_eq b.kind kind) (length c) test whole in
    let others : with_sum kind sum bs ≡ bs = none_changed kind sum bs (none_behind b.kind kind bs (eqb-true _ _ test) alone) in
    let bytes : contents (b ∷ bs) ≡ c ++ contents bs = contents_cons b bs ∙ ap (λ (x : List ℕ). x ++ contents bs) (padded_whole c sized) in
    let long : length (take 4 c ++ sum) ≡ 16 = length-append (take 4 c) sum ∙ omega (arith, length-take-le 4 c (omega arith)) in
    let new : contents (with_sum kind sum (b ∷ bs)) ≡ (take 4 c ++ sum) ++ contents bs =
    contents_cons (with_value kind sum b) (with_sum kind sum bs) ∙ ap (λ (v : Buffer). padded v.content ++ contents (with_sum kind sum bs)) (value_by kind sum b true test)
    ∙ ap (λ (x : List ℕ). x ++ contents (with_sum kind sum bs)) (padded_whole (take 4 c ++ sum) long) ∙ ap (λ (l : List Buffer). (take 4 c ++ sum) ++ contents l) others in
    ap (λ (n : ℕ). overwritten (n + 4) sum (front ++ contents (b ∷ bs))) (sym offset) ∙ ap (λ (x : List ℕ). overwritten (at + 4) sum (front ++ x)) bytes
    ∙ put_first front c (contents bs) sum at is sized ∙ ap (λ (x : List ℕ). front ++ x) (sym new)
put_by false kind sum front at b bs e test twelve is alone whole found later =
    let bytes : front ++ contents (b ∷ bs) ≡ more_of front b ++ contents bs = ap (λ (r : List ℕ). front ++ r) (contents_cons b bs) ∙ sym (append_assoc front (padded b.content) (contents bs)) in
    let new : front ++ contents (with_sum kind sum (b ∷ bs)) ≡ more_of front b ++ contents (with_sum kind sum bs) =
    ap (λ (r : List ℕ). front ++ r) (contents_cons (with_value kind sum b) (with_sum kind sum bs) ∙ ap (λ (v : Buffer). padded v.content ++ contents (with_sum kind sum bs)) (value_by kind sum b false test))
    ∙ sym (append_assoc front (padded b.content) (contents (with_sum kind sum bs))) in
    ap (overwritten (e.offset + 4) sum) bytes ∙ later found ∙ sym new

put_over : (kind : ℕ) (sum front : List ℕ) (at : ℕ) (bs : List Buffer) (e : InfoBuffer) → length sum ≡ 12 → at ≡ length front → all_distinct nat_eq (map (λ b. b.kind) bs) ≡ true → list_all (whole_if kind) bs ≡ true
    → find (is_kind kind) (placed at bs) ≡ Some e → overwritten (e.offset + 4) sum (front ++ contents bs) ≡ front ++ contents (with_sum kind sum bs)
put_over kind sum front at [] e twelve is distinct all found = absurd cc
put_over kind sum front at (b ∷ bs) e twelve is distinct all found =
    let d = both (not (list_any (nat_eq b.kind) (map (λ (c : Buffer). c.kind) bs))) (all_distinct nat_eq (map (λ (c : Buffer). c.kind) bs)) distinct in
    let w = both (whole_if kind b) (list_all (whole_if kind) bs) all in
    let next : at + length (padded b.content) ≡ length (more_of front b) = omega (arith, length-append front (padded b.content)) in
    put_by (nat_eq b.kind kind) kind sum front at b bs e refl twelve is (not_true _ d.0) w.0 found (put_over kind sum (more_of front b) (at + length (padded b.content)) bs e twelve next d.1 w.1)

-- ---- whole PACs

signature_if : (t : Bool) (b : Buffer) (kind : ℕ) → nat_eq b.kind kind ≡ t → is_signature kind ≡ true → is_whole b ≡ true → (not t || nat_eq (length b.content) 16) ≡ true
signature_if true b kind test signature whole =
    let own : is_signature b.kind ≡ true = ap is_signature (eqb-true b.kind kind test) ∙ signature in
    ap (λ (u : Bool). not u || nat_eq (length b.content) 16) (sym own) ∙ whole
signature_if false b kind test signature whole = refl

pub wholes : (kind : ℕ) (bs : List Buffer) → is_signature kind ≡ true → list_all is_whole bs ≡ true → list_all (whole_if kind) bs ≡ true
wholes kind [] signature all = refl
wholes kind (b ∷ bs) signature all =
    let t = both (is_whole b) (list_all is_whole bs) all in
    rw (signature_if (nat_eq b.kind kind) b kind refl signature t.0, wholes kind bs signature t.1) refl

pub sum_put : (kind : ℕ) (sum : List ℕ) (bs : List Buffer) (e : InfoBuffer) → IsSound bs → is_signature kind ≡ true → length sum ≡ 12 → entry_of kind (pac bs) ≡ Some e
    → overwritten (e.offset + 4) sum (pac bs) ≡ pac (with_sum kind sum bs)
sum_put kind sum bs e sound signature twelve found =
    let all = wholes kind bs signature sound.signed in
    ap (overwritten (e.offset + 4) sum) (pac_parts bs)
    ∙ put_over kind sum (front_of_pac bs) (list_end (length bs)) bs e twelve (sym (length-front bs)) sound.distinct all (sym (entry_is kind bs sound) ∙ found)
    ∙ ap (λ (l : List ℕ). l ++ contents (with_sum kind sum bs)) (sym (front_same kind sum bs twelve all)) ∙ sym (pac_parts (with_sum kind sum bs))

none_found_by : (t : Bool) (e : InfoBuffer) (o : Option InfoBuffer) → cond t (Some e) o ≡ None → (t ≡ false) × (o ≡ None)
none_found_by true e o none = absurd cc
none_found_by false e o none = (refl, none)

none_found : (kind at : ℕ) (bs : List Buffer) → find (is_kind kind) (placed at bs) ≡ None → has_buffer kind bs ≡ false
none_found kind at [] none = refl
none_found kind at (b ∷ bs) none =
    let own : InfoBuffer = record { kind = b.kind; size = length b.content; offset = at } in
    let t = none_found_by (nat_eq b.kind kind) own (find (is_kind kind) (placed (at + length (padded b.content)) bs)) none in
    rw (t.0) (none_found kind (at + length (padded b.content)) bs t.1)

pub not_put : (kind : ℕ) (sum : List ℕ) (bs : List Buffer) → IsSound bs → entry_of kind (pac bs) ≡ None → with_sum kind sum bs ≡ bs
not_put kind sum bs sound none = none_changed kind sum bs (none_found kind (list_end (length bs)) bs (sym (entry_is kind bs sound) ∙ none))

found_size_by : (t : Bool) (kind at : ℕ) (b : Buffer) (o : Option InfoBuffer) (e : InfoBuffer) → nat_eq b.kind kind ≡ t → whole_if kind b ≡ true → (o ≡ Some e → e.size ≡ 16)
    → cond t (Some (record { kind = b.kind; size = length b.content; offset = at })) o ≡ Some e → e.size ≡ 16
found_size_by true kind at b o e test whole later found =
    let own : InfoBuffer = record { kind = b.kind; size = length b.content; offset = at } in
    sym (ap (λ (x : InfoBuffer). x.size) (some_is own e found)) ∙ sized_if (nat_eq b.kind kind) (length b.content) test whole
found_size_by false kind at b o e test whole later found = later found

found_size : (kind at : ℕ) (bs : List Buffer) (e : InfoBuffer) → list_all (whole_if kind) bs ≡ true → find (is_kind kind) (placed at bs) ≡ Some e → e.size ≡ 16
found_size kind at [] e all found = absurd cc
found_size kind at (b ∷ bs) e all found =
    let t = both (whole_if kind b) (list_all (whole_if kind) bs) all in
    found_size_by (nat_eq b.kind kind) kind at b (find (is_kind kind) (placed (at + length (padded b.content)) bs)) e refl t.0 (found_size kind (at + length (padded b.content)) bs e t.1) found

-- a signature has 16 bytes, and lies in the PAC
pub signature_lies : (kind : ℕ) (bs : List Buffer) (e : InfoBuffer) → IsSound bs → is_signature kind ≡ true → entry_of kind (pac bs) ≡ Some e → (e.size ≡ 16) × (end_of e ≤ length (pac bs))
signature_lies kind bs e sound signature found =
    (found_size kind (list_end (length bs)) bs e (wholes kind bs signature sound.signed) (sym (entry_is kind bs sound) ∙ found), lies_in kind (pac bs) e (no_fault bs sound) found)

-- ---- what is kept

contents_size : (kind : ℕ) (sum : List ℕ) (bs : List Buffer) → length sum ≡ 12 → list_all (whole_if kind) bs ≡ true → length (contents (with_sum kind sum bs)) ≡ length (contents bs)
contents_size kind sum [] twelve all = refl
contents_size kind sum (b ∷ bs) twelve all =
    let t = both (whole_if kind b) (list_all (whole_if kind) bs) all in
    let own = padded_size (with_value kind sum b).content b.content (value_size kind sum b twelve t.0) in
    length-contents (with_value kind sum b) (with_sum kind sum bs) ∙ omega (arith, own, contents_size kind sum bs twelve t.1) ∙ sym (length-contents b bs)

kinds_same : (kind : ℕ) (sum : List ℕ) (bs : List Buffer) → map (λ b. b.kind) (with_sum kind sum bs) ≡ map (λ b. b.kind) bs
kinds_same kind sum [] = refl
kinds_same kind sum (b ∷ bs) = rw (value_kind kind sum b, kinds_same kind sum bs) refl

small_same : (kind : ℕ) (sum : List ℕ) (bs : List Buffer) → list_all (λ b. nat_lt b.kind (2 ^ 32)) (with_sum kind sum bs) ≡ list_all (λ b. nat_lt b.kind (2 ^ 32)) bs
small_same kind sum [] = refl
small_same kind sum (b ∷ bs) = rw (value_kind kind sum b, small_same kind sum bs) refl

pub has_same : (kind : ℕ) (sum : List ℕ) (other : ℕ) (bs : List Buffer) → has_buffer other (with_sum kind sum bs) ≡ has_buffer other bs
has_same kind sum other [] = refl
has_same kind sum other (b ∷ bs) = rw (value_kind kind sum b, has_same kind sum other bs) refl

needed_same : (kind : ℕ) (sum : List ℕ) (kinds : List ℕ) (bs : List Buffer) → list_all (λ k. has_buffer k (with_sum kind sum bs)) kinds ≡ list_all (λ k. has_buffer k bs) kinds
needed_same kind sum [] bs = refl
needed_same kind sum (k ∷ kinds) bs = rw (has_same kind sum k bs, needed_same kind sum kinds bs) refl

whole_same : (kind : ℕ) (sum : List ℕ) (bs : List Buffer) → length sum ≡ 12 → list_all (whole_if kind) bs ≡ true → list_all is_whole (with_sum kind sum bs) ≡ list_all is_whole bs
whole_same kind sum [] twelve all = refl
whole_same kind sum (b ∷ bs) twelve all =
    let t = both (whole_if kind b) (list_all (whole_if kind) bs) all in
    rw (value_kind kind sum b, value_size kind sum b twelve t.0, whole_same kind sum bs twelve t.1) refl

pub sum_sound : (kind : ℕ) (sum : List ℕ) (bs : List Buffer) → IsSound bs → is_signature kind ≡ true → length sum ≡ 12 → IsSound (with_sum kind sum bs)
sum_sound kind sum bs sound signature twelve =
    let all = wholes kind bs signature sound.signed in
    let many : length (with_sum kind sum bs) ≡ length bs = length-map bs (with_value kind sum) in
    let size : length (pac (with_sum kind sum bs)) ≡ length (pac bs) = omega (arith, length-pac (with_sum kind sum bs), length-pac bs, many, contents_size kind sum bs twelve all) in
    let short = sound.short in
    record {
      short = omega arith;
      small = small_same kind sum bs ∙ sound.small;
      distinct = ap (all_distinct nat_eq) (kinds_same kind sum bs) ∙ sound.distinct;
      needed = needed_same kind sum needed bs ∙ sound.needed;
      signed = whole_same kind sum bs twelve all ∙ sound.signed;
    }

-- ---- places

some_place : (r : Range ℕ) (b : InfoBuffer) → Some r ≡ Some (place_of b) → r ≡ place_of b
some_place r b e = cc

no_place : (r : Range ℕ) → Some r ≡ None → ⊥
no_place r e = cc

pub no_entry : (o : Option InfoBuffer) → None ≡ option_map place_of o → o ≡ None
no_entry None e = refl
no_entry (Some b) e = absurd (no_place (place_of b) (sym e))

-- the entry of a place
record IsAt (kind : ℕ) (bs : List Buffer) (r : Range ℕ) : Type 0 where
  entry : InfoBuffer
  found : entry_of kind (pac bs) ≡ Some entry
  place : r ≡ place_of entry

at_by : (kind : ℕ) (bs : List Buffer) (r : Range ℕ) (o : Option InfoBuffer) → entry_of kind (pac bs) ≡ o → Some r ≡ option_map place_of o → IsAt kind bs r
at_by kind bs r None is e = absurd (no_place r e)
at_by kind bs r (Some b) is e = record { entry = b; found = is; place = some_place r b e }

is_at : (kind : ℕ) (bs : List Buffer) (r : Range ℕ) → Some r ≡ option_map place_of (entry_of kind (pac bs)) → IsAt kind bs r
is_at kind bs r e = at_by kind bs r (entry_of kind (pac bs)) refl e

pub place_whole : (kind : ℕ) (bs : List Buffer) (o : Option (Range ℕ)) → IsSound bs → is_signature kind ≡ true → o ≡ option_map place_of (entry_of kind (pac bs)) → IfSome o (λ range. range.start + 16 ≡ range.end)
place_whole kind bs None sound signature e = tt
place_whole kind bs (Some r) sound signature e =
    let a = is_at kind bs r e in
    let start : r.start ≡ a.entry.offset = ap (λ (x : Range ℕ). x.start) a.place in
    let end : r.end ≡ a.entry.offset + a.entry.size = ap (λ (x : Range ℕ). x.end) a.place in
    let lies = signature_lies kind bs a.entry sound signature a.found in
    omega (arith, lies.0)

pub put_writes : (kind : ℕ) (sum items new : List ℕ) (bs : List Buffer) (r : Range ℕ) → IsSound bs → is_signature kind ≡ true → length sum ≡ 12 → items ≡ pac bs → Some r ≡ option_map place_of (entry_of kind (pac bs))
    → new ≡ overwritten (r.start + 4) sum items → new ≡ pac (with_sum kind sum bs)
put_writes kind sum items new bs r sound signature twelve own e written =
    let a = is_at kind bs r e in
    let start : r.start ≡ a.entry.offset = ap (λ (x : Range ℕ). x.start) a.place in
    written ∙ ap (overwritten (r.start + 4) sum) own ∙ ap (λ (n : ℕ). overwritten (n + 4) sum (pac bs)) start ∙ sum_put kind sum bs a.entry sound signature twelve a.found

pub none_there : (kind : ℕ) (bs : List Buffer) → IsSound bs → None ≡ option_map place_of (entry_of kind (pac bs)) → has_buffer kind bs ≡ false
none_there kind bs sound e = none_found kind (list_end (length bs)) bs (sym (entry_is kind bs sound) ∙ no_entry _ e)

some_found_by : (t : Bool) (b e : InfoBuffer) (o : Option InfoBuffer) (rest : Bool) → (o ≡ Some e → rest ≡ true) → cond t (Some b) o ≡ Some e → (t || rest) ≡ true
some_found_by true b e o rest later found = refl
some_found_by false b e o rest later found = later found

some_found : (kind at : ℕ) (bs : List Buffer) (e : InfoBuffer) → find (is_kind kind) (placed at bs) ≡ Some e → has_buffer kind bs ≡ true
some_found kind at [] e found = absurd cc
some_found kind at (b ∷ bs) e found =
    let own : InfoBuffer = record { kind = b.kind; size = length b.content; offset = at } in
    let next : ℕ = at + length (padded b.content) in
    some_found_by (nat_eq b.kind kind) own e (find (is_kind kind) (placed next bs)) (has_buffer kind bs) (some_found kind next bs e) found

pub some_there : (kind : ℕ) (bs : List Buffer) (r : Range ℕ) → IsSound bs → Some r ≡ option_map place_of (entry_of kind (pac bs)) → has_buffer kind bs ≡ true
some_there kind bs r sound e =
    let a = is_at kind bs r e in
    some_found kind (list_end (length bs)) bs a.entry (sym (entry_is kind bs sound) ∙ a.found)

-- the length stays
pub length-sum : (kind : ℕ) (sum : List ℕ) (bs : List Buffer) → IsSound bs → is_signature kind ≡ true → length sum ≡ 12 → length (pac (with_sum kind sum bs)) ≡ length (pac bs)
length-sum kind sum bs sound signature twelve =
    let all = wholes kind bs signature sound.signed in
    let many : length (with_sum kind sum bs) ≡ length bs = length-map bs (with_value kind sum) in
    omega (arith, length-pac (with_sum kind sum bs), length-pac bs, many, contents_size kind sum bs twelve all)

-- no buffer moves
pub entry_same : (kind : ℕ) (sum : List ℕ) (bs : List Buffer) (other : ℕ) → IsSound bs → is_signature kind ≡ true → length sum ≡ 12 → entry_of other (pac (with_sum kind sum bs)) ≡ entry_of other (pac bs)
entry_same kind sum bs other sound signature twelve =
    let all = wholes kind bs signature sound.signed in
    let many : length (with_sum kind sum bs) ≡ length bs = length-map bs (with_value kind sum) in
    entry_is other (with_sum kind sum bs) (sum_sound kind sum bs sound signature twelve)
    ∙ ap (λ (n : ℕ). find (is_kind other) (placed (list_end n) (with_sum kind sum bs))) many
    ∙ ap (find (is_kind other)) (placed_same kind sum (list_end (length bs)) bs twelve all) ∙ sym (entry_is other bs sound)

-- what a call that puts a checksum leaves
pub put_gives : (kind : ℕ) (sum : List ℕ) (old new : List Buffer) (done : Bool) → is_signature kind ≡ true → done ≡ (is_signature kind && has_buffer kind old) → OnTrue done (new ≡ with_sum kind sum old) → OnFalse done (new ≡ old)
    → new ≡ with_sum kind sum old
put_gives kind sum old new true signature is value same = value
put_gives kind sum old new false signature is value same =
    same ∙ sym (none_changed kind sum old (sym (is ∙ ap (λ (t : Bool). t && has_buffer kind old) signature)))
