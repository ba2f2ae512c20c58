-- A PAC of sound buffers has no fault.
use Rattle.std.proofs.Common.{◌≡◌, ℕ, ◌+◌, ◌%◌, ◌≤◌, Bool, true, false, not, ◌&&◌, List, [], ◌∷◌, ◌++◌, length, map, None, refl, sym, ap, ◌∙◌, append_assoc, arith}
use Rattle.std.specs.Prelude.{nat_eq, nat_lt}
use Rattle.std.specs.List.{list_any, list_all}
use Rattle.std.proofs.lemmas.Bool.{ltb-false, le-ltb, le-leb}
use Rattle.std.proofs.lemmas.List.{length-map}
use Rattle.std.proofs.lemmas.List.Folds.{list_any-append}
use Rattle.kdc_prelude.specs.Distinct.{all_distinct}
use Rattle.kdc_prelude.proofs.Bools.{both}
use Rattle.kdc_prelude.proofs.Lists.{any-map}
use Rattle.ndr_core.specs.Object.{padded}
use Rattle.pac_buffers.specs.declared.info_buffer.InfoBuffer.{InfoBuffer}
use Rattle.pac_buffers.specs.InfoBuffers.{info_buffer, end_of, leaves, is_misaligned, meets_list, share_byte}
use Rattle.pac_buffers.specs.Container.{count_of, list_end, list_of, any_entry, has_kind, overlap, first_twice, first_missing, needed, is_listed, pac_fault}
use Rattle.pac_buffers.specs.Buffers.{Buffer, placed, contents, pac, has_buffer, IsSound}
use Rattle.pac_buffers.proofs.Lists.{not_first, not_second}
use Rattle.pac_buffers.proofs.Entries.{length-contents, length-padded, padded_eighth, infos_are, count_is, length-pac, length-placed}

-- a question about each entry
any_is : (test : InfoBuffer → Bool) (raws : List (List ℕ)) → any_entry test raws ≡ list_any test (map info_buffer raws)
any_is test raws = any-map test info_buffer raws

none_leaves : (at len : ℕ) (bs : List Buffer) → at + length (contents bs) ≤ len → list_any (leaves len) (placed at bs) ≡ false
none_leaves at len [] le = refl
none_leaves at len (b ∷ bs) le =
    let sizes = length-contents b bs in
    let long = length-padded b.content in
    let here : nat_lt len (at + length b.content) ≡ false = le-ltb _ _ (omega arith) in
    rw (here, none_leaves (at + length (padded b.content)) len bs (omega arith)) refl

none_misaligned : (at : ℕ) (bs : List Buffer) → at % 8 ≡ 0 → list_any is_misaligned (placed at bs) ≡ false
none_misaligned at [] eighth = refl
none_misaligned at (b ∷ bs) eighth =
    let next = padded_eighth b.content in
    rw (eighth, none_misaligned (at + length (padded b.content)) bs (omega arith)) refl

both_false : (a b : Bool) → b ≡ false → (a && b) ≡ false
both_false true b e = e
both_false false b e = refl

none_meets : (at len : ℕ) (bs : List Buffer) → len ≤ at → list_any (meets_list len) (placed at bs) ≡ false
none_meets at len [] le = refl
none_meets at len (b ∷ bs) le =
    let here : nat_lt at len ≡ false = le-ltb _ _ le in
    let first : (nat_lt 0 (length b.content) && nat_lt at len) ≡ false = both_false _ _ here in
    rw (first, none_meets (at + length (padded b.content)) len bs (omega arith)) refl

-- ---- no byte in two buffers

apart : (a b : InfoBuffer) → end_of b ≤ a.offset → share_byte a b ≡ false
apart a b le =
    let third : nat_lt a.offset (end_of b) ≡ false = le-ltb _ _ le in
    let front : (nat_lt 0 a.size && nat_lt 0 b.size && nat_lt a.offset (end_of b)) ≡ false = both_false (nat_lt 0 a.size && nat_lt 0 b.size) _ third in
    ap (λ (t : Bool). t && nat_lt b.offset (end_of a)) front

none_shares : (e : InfoBuffer) (earlier : List InfoBuffer) → list_any (leaves e.offset) earlier ≡ false → list_any (share_byte e) earlier ≡ false
none_shares e [] before = refl
none_shares e (d ∷ ds) before =
    let here = apart e d (ltb-false _ _ (not_first (leaves e.offset d) (list_any (leaves e.offset) ds) before)) in
    rw (here, none_shares e ds (not_second (leaves e.offset d) (list_any (leaves e.offset) ds) before)) refl

later : (at next : ℕ) (earlier : List InfoBuffer) → at ≤ next → list_any (leaves at) earlier ≡ false → list_any (leaves next) earlier ≡ false
later at next [] le before = refl
later at next (d ∷ ds) le before =
    let here : nat_lt next (end_of d) ≡ false = le-ltb _ _ (omega (arith, ltb-false _ _ (not_first (leaves at d) (list_any (leaves at) ds) before))) in
    rw (here, later at next ds le (not_second (leaves at d) (list_any (leaves at) ds) before)) refl

map-append : {X Y : Type 0} (f : X → Y) (xs ys : List X) → map f (xs ++ ys) ≡ map f xs ++ map f ys
map-append f [] ys = refl
map-append f (x ∷ xs) ys = ap (λ r. f x ∷ r) (map-append f xs ys)

pub head_is : {X : Type 0} (x y : X) (xs ys : List X) → x ∷ xs ≡ y ∷ ys → x ≡ y
head_is x y xs ys e = cc

pub tail_is : {X : Type 0} (x y : X) (xs ys : List X) → x ∷ xs ≡ y ∷ ys → xs ≡ ys
tail_is x y xs ys e = cc

-- ends of the earlier entries, and of one more
one_more : (at next : ℕ) (e : InfoBuffer) (earlier : List InfoBuffer) → at ≤ next → end_of e ≤ next → list_any (leaves at) earlier ≡ false → list_any (leaves next) (earlier ++ e ∷ []) ≡ false
one_more at next e earlier le end before =
    let own : nat_lt next (end_of e) ≡ false = le-ltb _ _ end in
    list_any-append (leaves next) earlier (e ∷ []) ∙ rw (later at next earlier le before, own) refl

no_overlap : (at : ℕ) (bs : List Buffer) (earlier raws : List (List ℕ)) → map info_buffer raws ≡ placed at bs → list_any (leaves at) (map info_buffer earlier) ≡ false → overlap earlier raws ≡ false
no_overlap at bs earlier [] says before = refl
no_overlap at [] earlier (raw ∷ raws) says before = absurd cc
no_overlap at (b ∷ bs) earlier (raw ∷ raws) says before =
    let next : ℕ = at + length (padded b.content) in
    let e : InfoBuffer = record { kind = b.kind; size = length b.content; offset = at } in
    let own : info_buffer raw ≡ e = head_is (info_buffer raw) e (map info_buffer raws) (placed next bs) says in
    let others : map info_buffer raws ≡ placed next bs = tail_is (info_buffer raw) e (map info_buffer raws) (placed next bs) says in
    let long = length-padded b.content in
    let more : list_any (leaves next) (map info_buffer (earlier ++ raw ∷ [])) ≡ false =
    ap (list_any (leaves next)) (map-append info_buffer earlier (raw ∷ []) ∙ ap (λ (d : InfoBuffer). map info_buffer earlier ++ d ∷ []) own)
    ∙ one_more at next e (map info_buffer earlier) (omega arith) (omega arith) before in
    let here : any_entry (share_byte (info_buffer raw)) earlier ≡ false = ap (λ (d : InfoBuffer). any_entry (share_byte d) earlier) own ∙ any_is (share_byte e) earlier ∙ none_shares e (map info_buffer earlier) before in
    rw (here, no_overlap next bs (earlier ++ raw ∷ []) raws others more) refl

-- ---- types

kinds_of : List (List ℕ) → List ℕ
kinds_of raws = map (λ raw. (info_buffer raw).kind) raws

kind_is_among : (kind : ℕ) (raws : List (List ℕ)) → has_kind kind raws ≡ list_any (λ k. nat_eq k kind) (kinds_of raws)
unfolding kinds_of
kind_is_among kind raws = any-map (λ k. nat_eq k kind) (λ raw. (info_buffer raw).kind) raws

not_true : (b : Bool) → not b ≡ true → b ≡ false
not_true true e = absurd cc
not_true false e = refl

among : (x k : ℕ) (xs ks : List ℕ) → list_any (nat_eq x) (xs ++ k ∷ ks) ≡ false → nat_eq x k ≡ false
among x k xs ks e =
    let split = sym (list_any-append (nat_eq x) xs (k ∷ ks)) ∙ e in
    not_first (nat_eq x k) (list_any (nat_eq x) ks) (not_second (list_any (nat_eq x) xs) (list_any (nat_eq x) (k ∷ ks)) split)

none_before : (k : ℕ) (xs ks : List ℕ) → all_distinct nat_eq (xs ++ k ∷ ks) ≡ true → list_any (λ x. nat_eq x k) xs ≡ false
none_before k [] ks e = refl
none_before k (x ∷ xs) ks e =
    let t = both (not (list_any (nat_eq x) (xs ++ k ∷ ks))) (all_distinct nat_eq (xs ++ k ∷ ks)) e in
    let here : nat_eq x k ≡ false = among x k xs ks (not_true _ t.0) in
    rw (here, none_before k xs ks t.1) refl

none_twice : (earlier raws : List (List ℕ)) → all_distinct nat_eq (kinds_of earlier ++ kinds_of raws) ≡ true → first_twice earlier raws ≡ None
unfolding kinds_of
none_twice earlier [] distinct = refl
none_twice earlier (raw ∷ raws) distinct =
    let kind : ℕ = (info_buffer raw).kind in
    let here : has_kind kind earlier ≡ false = kind_is_among kind earlier ∙ none_before kind (kinds_of earlier) (kinds_of raws) distinct in
    let moved : kinds_of (earlier ++ raw ∷ []) ++ kinds_of raws ≡ kinds_of earlier ++ kind ∷ kinds_of raws =
    ap (λ (l : List ℕ). l ++ kinds_of raws) (map-append (λ (r : List ℕ). (info_buffer r).kind) earlier (raw ∷ [])) ∙ append_assoc (kinds_of earlier) (kind ∷ []) (kinds_of raws) in
    rw (here) (none_twice (earlier ++ raw ∷ []) raws (ap (all_distinct nat_eq) moved ∙ distinct))

none_missing : (kinds : List ℕ) (raws : List (List ℕ)) → list_all (λ kind. has_kind kind raws) kinds ≡ true → first_missing kinds raws ≡ None
none_missing [] raws all = refl
none_missing (kind ∷ kinds) raws all =
    let t = both (has_kind kind raws) (list_all (λ k. has_kind k raws) kinds) all in
    rw (t.0) (none_missing kinds raws t.1)

placed_kinds : (at : ℕ) (bs : List Buffer) → map (λ e. e.kind) (placed at bs) ≡ map (λ b. b.kind) bs
placed_kinds at [] = refl
placed_kinds at (b ∷ bs) = ap (λ r. b.kind ∷ r) (placed_kinds (at + length (padded b.content)) bs)

kinds_said : (raws : List (List ℕ)) → kinds_of raws ≡ map (λ e. e.kind) (map info_buffer raws)
unfolding kinds_of
kinds_said [] = refl
kinds_said (raw ∷ raws) = ap (λ r. (info_buffer raw).kind ∷ r) (kinds_said raws)

all_had : (kinds : List ℕ) (raws : List (List ℕ)) (bs : List Buffer) → kinds_of raws ≡ map (λ b. b.kind) bs → list_all (λ kind. has_buffer kind bs) kinds ≡ true → list_all (λ kind. has_kind kind raws) kinds ≡ true
all_had [] raws bs same all = refl
all_had (kind ∷ kinds) raws bs same all =
    let t = both (has_buffer kind bs) (list_all (λ k. has_buffer k bs) kinds) all in
    let here : has_kind kind raws ≡ true = kind_is_among kind raws ∙ ap (list_any (λ k. nat_eq k kind)) same ∙ sym (any-map (λ k. nat_eq k kind) (λ (b : Buffer). b.kind) bs) ∙ t.0 in
    rw (here, all_had kinds raws bs same t.1) refl

pub no_fault : (bs : List Buffer) → IsSound bs → pac_fault (pac bs) ≡ None
unfolding kinds_of
no_fault bs sound =
    let at : ℕ = list_end (length bs) in
    let raws : List (List ℕ) = list_of (pac bs) in
    let sized = length-pac bs in
    let short = sound.short in
    let says : map info_buffer raws ≡ placed at bs = infos_are bs sound.short sound.small in
    let count = count_is bs (omega arith) in
    let listed : is_listed (pac bs) ≡ true =
    let first = le-leb 8 (length (pac bs)) (omega arith) in
    let second = le-leb (list_end (count_of (pac bs))) (length (pac bs)) (omega arith) in
    rw (first, second) refl in
    let leaving : any_entry (leaves (length (pac bs))) raws ≡ false = any_is _ raws ∙ ap (list_any (leaves (length (pac bs)))) says ∙ none_leaves at (length (pac bs)) bs (omega arith) in
    let aligned : any_entry is_misaligned raws ≡ false = any_is _ raws ∙ ap (list_any is_misaligned) says ∙ none_misaligned at bs (omega arith) in
    let many : length raws ≡ length bs = sym (length-map raws info_buffer) ∙ ap length says ∙ length-placed at bs in
    let meeting : any_entry (meets_list (list_end (length raws))) raws ≡ false =
    ap (λ (n : ℕ). any_entry (meets_list (list_end n)) raws) many ∙ any_is _ raws ∙ ap (list_any (meets_list at)) says ∙ none_meets at at bs (omega arith) in
    let sharing : overlap [] raws ≡ false = no_overlap at bs [] raws says refl in
    let kinds : kinds_of raws ≡ map (λ b. b.kind) bs = kinds_said raws ∙ ap (map (λ (e : InfoBuffer). e.kind)) says ∙ placed_kinds at bs in
    let twice : first_twice [] raws ≡ None = none_twice [] raws (ap (all_distinct nat_eq) kinds ∙ sound.distinct) in
    let missing : first_missing needed raws ≡ None = none_missing needed raws (all_had needed raws bs kinds sound.needed) in
    rw (listed, leaving, aligned, meeting, sharing, twice, missing) refl
