-- The list of a PAC of buffers.
use Rattle.std.proofs.Common.{◌≡◌, ℕ, suc, ◌+◌, ◌*◌, ◌%◌, ◌<◌, ◌^◌, true, List, [], ◌∷◌, ◌++◌, length, drop, map, replicate, refl, sym, ap, ◌∙◌, append_assoc, length-append, arith}
use Rattle.std.specs.Prelude.{nat_lt}
use Rattle.std.specs.List.{flat_map, list_all, AllByRecursion}
use Rattle.std.specs.Int.{w32, w64, from_le_bytes}
use Rattle.std.specs.Simd.{first_chunks}
use Rattle.std.proofs.lemmas.Bool.{ltb-true}
use Rattle.std.proofs.lemmas.List.{drop_at, length-replicate}
use Rattle.std.proofs.lemmas.List.Concat.{flat_map-cons}
use Rattle.std.proofs.lemmas.Nat.{from_le_bytes-to_le_bytes_4, from_le_bytes-to_le_bytes_8}
use Rattle.kdc_prelude.proofs.Bools.{both}
use Rattle.ndr_core.specs.Fields.{gap}
use Rattle.ndr_core.specs.Object.{padded}
use Rattle.pac_buffers.specs.declared.info_buffer.InfoBuffer.{InfoBuffer}
use Rattle.pac_buffers.specs.InfoBuffers.{info_buffer}
use Rattle.pac_buffers.specs.Container.{count_of, list_end, list_of}
use Rattle.pac_buffers.specs.Buffers.{Buffer, placed, entry_bytes, header, contents, pac}

-- an entry's numbers fit
pub record IsEntry (e : InfoBuffer) : Type 0 where
  pub kind : e.kind < 2 ^ 32
  pub size : e.size < 2 ^ 32
  pub offset : e.offset < 2 ^ 64

entry_again : (e : InfoBuffer) → IsEntry e → info_buffer (entry_bytes e) ≡ e
entry_again e fits =
    let kind : from_le_bytes w32 (entry_bytes e) ≡ e.kind = from_le_bytes-to_le_bytes_4 e.kind fits.kind in
    let size : from_le_bytes w32 (drop 4 (entry_bytes e)) ≡ e.size = from_le_bytes-to_le_bytes_4 e.size fits.size in
    let offset : from_le_bytes w64 (drop 8 (entry_bytes e)) ≡ e.offset = from_le_bytes-to_le_bytes_8 e.offset fits.offset in
    let with_kind : ℕ → InfoBuffer = λ k. record { kind = k; size = from_le_bytes w32 (drop 4 (entry_bytes e)); offset = from_le_bytes w64 (drop 8 (entry_bytes e)) } in
    let with_size : ℕ → InfoBuffer = λ s. record { kind = e.kind; size = s; offset = from_le_bytes w64 (drop 8 (entry_bytes e)) } in
    let with_offset : ℕ → InfoBuffer = λ o. record { kind = e.kind; size = e.size; offset = o } in
    ap with_kind kind ∙ ap with_size size ∙ ap with_offset offset

pub entries_again : (es : List InfoBuffer) → AllByRecursion IsEntry es → map info_buffer (map entry_bytes es) ≡ es
entries_again [] fit = refl
entries_again (e ∷ es) fit = rw (entry_again e fit.0, entries_again es fit.1) refl

pub chunks_are : (es : List InfoBuffer) (rest : List ℕ) → first_chunks 16 (length es) (flat_map entry_bytes es ++ rest) ≡ map entry_bytes es
chunks_are [] rest = refl
chunks_are (e ∷ es) rest =
    let behind : List ℕ = flat_map entry_bytes es ++ rest in
    let parts : flat_map entry_bytes (e ∷ es) ++ rest ≡ entry_bytes e ++ behind = ap (λ (l : List ℕ). l ++ rest) (flat_map-cons entry_bytes e es) ∙ append_assoc (entry_bytes e) (flat_map entry_bytes es) rest in
    ap (first_chunks 16 (suc (length es))) parts ∙ ap (λ (r : List (List ℕ)). entry_bytes e ∷ r) (chunks_are es rest)

pub length-placed : (at : ℕ) (bs : List Buffer) → length (placed at bs) ≡ length bs
length-placed at [] = refl
length-placed at (b ∷ bs) = ap suc (length-placed (at + length (padded b.content)) bs)

pub length-entries : (es : List InfoBuffer) → length (flat_map entry_bytes es) ≡ 16 * length es
length-entries [] = refl
length-entries (e ∷ es) = omega (arith, ap length (flat_map-cons entry_bytes e es), length-append (entry_bytes e) (flat_map entry_bytes es), length-entries es)

pub count_is : (bs : List Buffer) → length bs < 2 ^ 32 → count_of (pac bs) ≡ length bs
unfolding pac
count_is bs few = from_le_bytes-to_le_bytes_4 (length bs) few

-- the header and the list
unfoldable pub front_of_pac : List Buffer → List ℕ
front_of_pac bs = header (length bs) ++ flat_map entry_bytes (placed (list_end (length bs)) bs)

pub length-front : (bs : List Buffer) → length (front_of_pac bs) ≡ list_end (length bs)
unfolding front_of_pac
length-front bs =
    length-append (header (length bs)) (flat_map entry_bytes (placed (list_end (length bs)) bs)) ∙ omega (arith, length-entries (placed (list_end (length bs)) bs), length-placed (list_end (length bs)) bs)

pub pac_parts : (bs : List Buffer) → pac bs ≡ front_of_pac bs ++ contents bs
unfolding pac front_of_pac
pac_parts bs = refl

pub length-pac : (bs : List Buffer) → length (pac bs) ≡ list_end (length bs) + length (contents bs)
length-pac bs = ap length (pac_parts bs) ∙ length-append (front_of_pac bs) (contents bs) ∙ ap (λ (n : ℕ). n + length (contents bs)) (length-front bs)

pub list_is : (bs : List Buffer) → length bs < 2 ^ 32 → list_of (pac bs) ≡ map entry_bytes (placed (list_end (length bs)) bs)
unfolding list_of pac
list_is bs few =
    let es : List InfoBuffer = placed (list_end (length bs)) bs in
    let count : count_of (pac bs) ≡ length es = count_is bs few ∙ sym (length-placed (list_end (length bs)) bs) in
    let behind : drop 8 (pac bs) ≡ flat_map entry_bytes es ++ contents bs =
    ap (drop 8) (append_assoc (header (length bs)) (flat_map entry_bytes es) (contents bs)) ∙ drop_at (header (length bs)) (flat_map entry_bytes es ++ contents bs) 8 refl in
    rw (count, behind) (chunks_are es (contents bs))

-- ---- places

pub length-padded : (x : List ℕ) → length (padded x) ≡ length x + gap 8 (length x)
length-padded x = length-append x (replicate (gap 8 (length x)) 0) ∙ ap (λ (n : ℕ). length x + n) (length-replicate {A = ℕ} (gap 8 (length x)) 0)

pub padded_eighth : (x : List ℕ) → length (padded x) % 8 ≡ 0
unfolding gap
padded_eighth x = omega (arith, length-padded x)

pub length-contents : (b : Buffer) (bs : List Buffer) → length (contents (b ∷ bs)) ≡ length (padded b.content) + length (contents bs)
length-contents b bs = ap length (flat_map-cons (λ (c : Buffer). padded c.content) b bs) ∙ length-append (padded b.content) (contents bs)

pub entries_fit : (at : ℕ) (bs : List Buffer) → at + length (contents bs) < 2 ^ 32 → list_all (λ b. nat_lt b.kind (2 ^ 32)) bs ≡ true → AllByRecursion IsEntry (placed at bs)
entries_fit at [] short small = tt
entries_fit at (b ∷ bs) short small =
    let t = both (nat_lt b.kind (2 ^ 32)) (list_all (λ (c : Buffer). nat_lt c.kind (2 ^ 32)) bs) small in
    let sizes = length-contents b bs in
    let long = length-padded b.content in
    (record { kind = ltb-true _ _ t.0; size = omega arith; offset = omega arith }, entries_fit (at + length (padded b.content)) bs (omega arith) t.1)

-- what the list says is where the buffers are placed
pub infos_are : (bs : List Buffer) → length (pac bs) < 2 ^ 32 → list_all (λ b. nat_lt b.kind (2 ^ 32)) bs ≡ true → map info_buffer (list_of (pac bs)) ≡ placed (list_end (length bs)) bs
infos_are bs short small =
    let sized = length-pac bs in
    ap (map info_buffer) (list_is bs (omega arith)) ∙ entries_again (placed (list_end (length bs)) bs) (entries_fit (list_end (length bs)) bs (omega arith) small)
