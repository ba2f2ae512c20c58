-- No spelling of a PAC is a proper prefix of another: its list tells how many bytes it has.
use Rattle.std.proofs.Common.{◌≡◌, ℕ, ◌+◌, ◌<◌, ◌^◌, true, List, [], ◌∷◌, ◌++◌, length, drop, map, refl, sym, ap, ◌∙◌, append_assoc, length-append, arith}
use Rattle.std.specs.Prelude.{nat_lt}
use Rattle.std.specs.List.{flat_map, list_all}
use Rattle.std.specs.Int.{w32, from_le_bytes}
use Rattle.std.proofs.lemmas.List.{drop_at, nil_from_length}
use Rattle.std.proofs.lemmas.Nat.{from_le_bytes-to_le_bytes_4}
use Rattle.ndr_core.specs.Fields.{gap}
use Rattle.ndr_core.specs.Object.{padded}
use Rattle.pac_buffers.specs.declared.info_buffer.InfoBuffer.{InfoBuffer}
use Rattle.pac_buffers.specs.InfoBuffers.{info_buffer}
use Rattle.pac_buffers.specs.Container.{count_of, list_end, list_of}
use Rattle.pac_buffers.specs.Buffers.{Buffer, placed, entry_bytes, header, contents, pac, buffers_of, IsSound}
use Rattle.pac_buffers.proofs.Entries.{chunks_are, entries_again, entries_fit, infos_are, length-contents, length-pac, length-padded, length-placed}
use Rattle.pac_buffers.proofs.Contents.{buffers_again}
use Rattle.pac_buffers.proofs.Faults.{head_is, tail_is}

-- the list is found whatever is behind the PAC
list_behind : (bs : List Buffer) (rest : List ℕ) → length bs < 2 ^ 32 → list_of (pac bs ++ rest) ≡ map entry_bytes (placed (list_end (length bs)) bs)
unfolding list_of pac
list_behind bs rest few =
    let es : List InfoBuffer = placed (list_end (length bs)) bs in
    let behind : List ℕ = contents bs ++ rest in
    let count : count_of (pac bs ++ rest) ≡ length es = from_le_bytes-to_le_bytes_4 (length bs) few ∙ sym (length-placed (list_end (length bs)) bs) in
    let left : drop 8 (pac bs ++ rest) ≡ flat_map entry_bytes es ++ behind =
    ap (drop 8) (append_assoc (header (length bs) ++ flat_map entry_bytes es) (contents bs) rest ∙ append_assoc (header (length bs)) (flat_map entry_bytes es) behind)
    ∙ drop_at (header (length bs)) (flat_map entry_bytes es ++ behind) 8 refl in
    rw (count, left) (chunks_are es behind)

-- buffers of the same entries have as many bytes
same_size : (at to : ℕ) (bs cs : List Buffer) → placed at bs ≡ placed to cs → length (contents bs) ≡ length (contents cs)
same_size at to [] [] same = refl
same_size at to [] (c ∷ cs) same = absurd cc
same_size at to (b ∷ bs) [] same = absurd cc
same_size at to (b ∷ bs) (c ∷ cs) same =
    let first : InfoBuffer = record { kind = b.kind; size = length b.content; offset = at } in
    let second : InfoBuffer = record { kind = c.kind; size = length c.content; offset = to } in
    let next : ℕ = at + length (padded b.content) in
    let other : ℕ = to + length (padded c.content) in
    let size : length b.content ≡ length c.content = ap (λ (e : InfoBuffer). e.size) (head_is first second (placed next bs) (placed other cs) same) in
    let gaps : gap 8 (length b.content) ≡ gap 8 (length c.content) = ap (gap 8) size in
    omega (arith, length-contents b bs, length-contents c cs, length-padded b.content, length-padded c.content, size, gaps, same_size next other bs cs (tail_is first second (placed next bs) (placed other cs) same))

pub no_prefix : (bs cs : List Buffer) (rest : List ℕ) → IsSound bs → IsSound cs → pac bs ++ rest ≡ pac cs → rest ≡ []
no_prefix bs cs rest first second whole =
    let es : List InfoBuffer = placed (list_end (length bs)) bs in
    let size = length-pac bs in
    let other = length-pac cs in
    let short = first.short in
    let entries : map info_buffer (map entry_bytes es) ≡ es = entries_again es (entries_fit (list_end (length bs)) bs (omega arith) first.small) in
    let same : placed (list_end (length cs)) cs ≡ es =
    sym (infos_are cs second.short second.small) ∙ ap (λ (l : List ℕ). map info_buffer (list_of l)) (sym whole) ∙ ap (map info_buffer) (list_behind bs rest (omega arith)) ∙ entries in
    let many : length cs ≡ length bs = sym (length-placed (list_end (length cs)) cs) ∙ ap length same ∙ length-placed (list_end (length bs)) bs in
    nil_from_length rest (omega (arith, ap length whole, length-append (pac bs) rest, same_size (list_end (length cs)) (list_end (length bs)) cs bs same, many))

pub spelt_once : (bs cs : List Buffer) → IsSound bs → IsSound cs → pac bs ≡ pac cs → bs ≡ cs
spelt_once bs cs first second same = sym (buffers_again bs first) ∙ ap buffers_of same ∙ buffers_again cs second
