-- A PAC that grows by one buffer.
use Rattle.std.proofs.Common.{◌≡◌, ℕ, ◌+◌, List, [], ◌∷◌, ◌++◌, length, sym, ap, ◌∙◌, append_assoc, append-nil, arith}
use Rattle.std.specs.List.{flat_map}
use Rattle.std.proofs.lemmas.List.Concat.{flat_map-append}
use Rattle.ndr_core.specs.Object.{padded}
use Rattle.pac_buffers.specs.declared.draft.Draft.{Draft}
use Rattle.pac_buffers.specs.declared.info_buffer.InfoBuffer.{InfoBuffer}
use Rattle.pac_buffers.specs.Container.{list_end}
use Rattle.pac_buffers.specs.Buffers.{Buffer, placed, entry_bytes, header, contents}
use Rattle.pac_buffers.specs.Drafts.{Holds}
use Rattle.pac_buffers.proofs.Entries.{length-contents}

-- where the next buffer starts
entry_of_next : ℕ → Buffer → InfoBuffer
entry_of_next at b = record { kind = b.kind; size = length b.content; offset = at }

placed_more : (at : ℕ) (bs : List Buffer) (b : Buffer) → placed at (bs ++ b ∷ []) ≡ placed at bs ++ entry_of_next (at + length (contents bs)) b ∷ []
unfolding entry_of_next
placed_more at [] b = ap (λ (n : ℕ). entry_of_next n b ∷ []) (omega arith)
placed_more at (d ∷ ds) b =
    let own : InfoBuffer = record { kind = d.kind; size = length d.content; offset = at } in
    let next : ℕ = at + length (padded d.content) in
    let end : next + length (contents ds) ≡ at + length (contents (d ∷ ds)) = omega (arith, length-contents d ds) in
    ap (λ (es : List InfoBuffer). own ∷ es) (placed_more next ds b) ∙ ap (λ (n : ℕ). own ∷ (placed next ds ++ entry_of_next n b ∷ [])) end

pub holds_more : (old new : Draft) (count : ℕ) (bs : List Buffer) (b : Buffer) → Holds old count bs → new.start ≡ old.start
    → new.list.items ≡ old.list.items ++ entry_bytes (record { kind = b.kind; size = length b.content; offset = old.start + length old.body.items })
    → new.body.items ≡ old.body.items ++ padded b.content → Holds new count (bs ++ b ∷ [])
unfolding entry_of_next
holds_more old new count bs b held start list body =
    let at : ℕ = list_end count in
    let es : List InfoBuffer = placed at bs in
    let offset : old.start + length old.body.items ≡ at + length (contents bs) = omega (arith, held.start, ap length held.body) in
    let e : ℕ → InfoBuffer = λ n. record { kind = b.kind; size = length b.content; offset = n } in
    let entries : flat_map entry_bytes (placed at (bs ++ b ∷ [])) ≡ flat_map entry_bytes es ++ entry_bytes (e (at + length (contents bs))) =
    ap (flat_map entry_bytes) (placed_more at bs b) ∙ flat_map-append entry_bytes es (e (at + length (contents bs)) ∷ []) in
    record {
      start = start ∙ held.start;
      list = list ∙ ap (λ (l : List ℕ). l ++ entry_bytes (e (old.start + length old.body.items))) held.list
          ∙ ap (λ (n : ℕ). (header count ++ flat_map entry_bytes es) ++ entry_bytes (e n)) offset
          ∙ append_assoc (header count) (flat_map entry_bytes es) (entry_bytes (e (at + length (contents bs)))) ∙ ap (λ (l : List ℕ). header count ++ l) (sym entries);
      body = body ∙ ap (λ (l : List ℕ). l ++ padded b.content) held.body ∙ ap (λ (l : List ℕ). contents bs ++ l) (sym (append-nil (padded b.content)))
          ∙ sym (flat_map-append (λ (c : Buffer). padded c.content) bs (b ∷ []));
    }

-- three pieces, one after the other
pub joined : (old one two three a b c a' b' c' : List ℕ) → one ≡ old ++ a → two ≡ one ++ b → three ≡ two ++ c → a ≡ a' → b ≡ b' → c ≡ c' → three ≡ old ++ (a' ++ (b' ++ c'))
joined old one two three a b c a' b' c' first second third x y z =
    third ∙ ap (λ (l : List ℕ). l ++ c) (second ∙ ap (λ (l : List ℕ). l ++ b) first) ∙ append_assoc (old ++ a) b c ∙ append_assoc old a (b ++ c)
    ∙ ap (λ (l : List ℕ). old ++ (l ++ (b ++ c))) x ∙ ap (λ (l : List ℕ). old ++ (a' ++ (l ++ c))) y ∙ ap (λ (l : List ℕ). old ++ (a' ++ (b' ++ l))) z
