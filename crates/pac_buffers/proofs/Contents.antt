-- The buffers of a PAC of buffers.
use Rattle.std.proofs.Common.{◌≡◌, ℕ, ◌+◌, Bool, true, false, cond, List, [], ◌∷◌, ◌++◌, length, take, drop, map, replicate, Option, Some, None, refl, sym, ap, ◌∙◌, append_assoc, length-append, arith}
use Rattle.std.specs.Prelude.{nat_eq}
use Rattle.std.specs.List.{find}
use Rattle.std.specs.Option.{option_map}
use Rattle.std.proofs.lemmas.List.{take_at, drop_at}
use Rattle.std.proofs.lemmas.List.Concat.{flat_map-cons}
use Rattle.ndr_core.specs.Fields.{gap}
use Rattle.ndr_core.specs.Object.{padded}
use Rattle.pac_buffers.specs.declared.info_buffer.InfoBuffer.{InfoBuffer}
use Rattle.pac_buffers.specs.InfoBuffers.{info_buffer, is_kind}
use Rattle.pac_buffers.specs.Container.{list_end, list_of, slice_of, entry_of, buffer_of}
use Rattle.pac_buffers.specs.Buffers.{Buffer, placed, contents, pac, content_of, buffers_of, IsSound}
use Rattle.pac_buffers.proofs.Entries.{front_of_pac, length-front, pac_parts, infos_are}

-- the buffer that an entry names
abbrev pub buffer_at : List ℕ → InfoBuffer → Buffer
buffer_at bytes e = record { kind = e.kind; content = slice_of bytes e }

first_slice : (front : List ℕ) (b : Buffer) (bs : List Buffer) → take (length b.content) (drop (length front) (front ++ contents (b ∷ bs))) ≡ b.content
first_slice front b bs =
    let zeros : List ℕ = replicate (gap 8 (length b.content)) 0 in
    let parts : contents (b ∷ bs) ≡ b.content ++ (zeros ++ contents bs) = flat_map-cons (λ (c : Buffer). padded c.content) b bs ∙ append_assoc b.content zeros (contents bs) in
    ap (take (length b.content)) (drop_at front (contents (b ∷ bs)) (length front) refl ∙ parts) ∙ take_at b.content (zeros ++ contents bs) (length b.content) refl

pub slices : (front : List ℕ) (at : ℕ) (bs : List Buffer) → at ≡ length front → map (buffer_at (front ++ contents bs)) (placed at bs) ≡ bs
slices front at [] is = refl
slices front at (b ∷ bs) is =
    let more : List ℕ = front ++ padded b.content in
    let bytes : front ++ contents (b ∷ bs) ≡ more ++ contents bs = ap (λ (r : List ℕ). front ++ r) (flat_map-cons (λ (c : Buffer). padded c.content) b bs) ∙ sym (append_assoc front (padded b.content) (contents bs)) in
    let with_content : List ℕ → Buffer = λ x. record { kind = b.kind; content = x } in
    let own : buffer_at (front ++ contents (b ∷ bs)) (record { kind = b.kind; size = length b.content; offset = at }) ≡ b =
    ap (λ (n : ℕ). with_content (take (length b.content) (drop n (front ++ contents (b ∷ bs))))) is ∙ ap with_content (first_slice front b bs) in
    let next : ℕ = at + length (padded b.content) in
    let others : map (buffer_at (front ++ contents (b ∷ bs))) (placed next bs) ≡ bs =
    ap (λ (l : List ℕ). map (buffer_at l) (placed next bs)) bytes ∙ slices more next bs (omega (arith, length-append front (padded b.content))) in
    rw (own, others) refl

pub buffers_again : (bs : List Buffer) → IsSound bs → buffers_of (pac bs) ≡ bs
unfolding buffers_of
buffers_again bs sound =
    ap (map (buffer_at (pac bs))) (infos_are bs sound.short sound.small) ∙ ap (λ (l : List ℕ). map (buffer_at l) (placed (list_end (length bs)) bs)) (pac_parts bs)
    ∙ slices (front_of_pac bs) (list_end (length bs)) bs (sym (length-front bs))

test_mapped : {X Y : Type 0} (f : X → Y) (t : Bool) (x : X) (o : Option X) (p : Option Y) → option_map f o ≡ p → option_map f (cond t (Some x) o) ≡ cond t (Some (f x)) p
test_mapped f true x o p e = refl
test_mapped f false x o p e = e

find_mapped : {X Y : Type 0} (p : Y → Bool) (f : X → Y) (xs : List X) → option_map f (find (λ x. p (f x)) xs) ≡ find p (map f xs)
find_mapped p f [] = refl
find_mapped p f (x ∷ xs) = test_mapped f (p (f x)) x (find (λ y. p (f y)) xs) (find p (map f xs)) (find_mapped p f xs)

pub entry_is : (kind : ℕ) (bs : List Buffer) → IsSound bs → entry_of kind (pac bs) ≡ find (is_kind kind) (placed (list_end (length bs)) bs)
entry_is kind bs sound = find_mapped (is_kind kind) info_buffer (list_of (pac bs)) ∙ ap (find (is_kind kind)) (infos_are bs sound.short sound.small)

mapped_twice : {X Y Z : Type 0} (g : Y → Z) (f : X → Y) (o : Option X) → option_map g (option_map f o) ≡ option_map (λ x. g (f x)) o
mapped_twice g f None = refl
mapped_twice g f (Some x) = refl

pub buffer_is : (kind : ℕ) (bs : List Buffer) → IsSound bs → buffer_of kind (pac bs) ≡ content_of kind bs
buffer_is kind bs sound =
    let at : ℕ = list_end (length bs) in
    let es : List InfoBuffer = placed at bs in
    let whole : map (buffer_at (pac bs)) es ≡ bs = ap (λ (l : List ℕ). map (buffer_at l) es) (pac_parts bs) ∙ slices (front_of_pac bs) at bs (sym (length-front bs)) in
    ap (option_map (slice_of (pac bs))) (entry_is kind bs sound)
    ∙ sym (mapped_twice (λ (b : Buffer). b.content) (buffer_at (pac bs)) (find (is_kind kind) es))
    ∙ ap (option_map (λ (b : Buffer). b.content)) (find_mapped (λ (b : Buffer). nat_eq b.kind kind) (buffer_at (pac bs)) es)
    ∙ ap (λ (l : List Buffer). option_map (λ (b : Buffer). b.content) (find (λ (b : Buffer). nat_eq b.kind kind) l)) whole
