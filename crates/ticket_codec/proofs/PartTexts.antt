-- What is told of a part that is read, and how long a text is that opens.
use Rattle.std.proofs.Common.{◌≡◌, ◌≢◌, ℕ, ◌+◌, ◌<◌, ◌≤◌, List, length, refl, arith, Bool, true, false, nat_lt, None, Some, Ok, Err, option_map, slice_range}
use Rattle.std.specs.Prelude.{Option, Result, IfSome}
use Rattle.std.specs.declared.ops.Range.{Range}
use Rattle.std.proofs.lemmas.Bool.Decides.{nat_tests}
use Rattle.krb_names.specs.declared.key.Key.{Key}
use Rattle.der_core.specs.declared.refusal.DerRefusal.{DerRefusal}
use Rattle.krb_crypto.specs.Encryption.{opened}
use Rattle.krb_crypto.proofs.Opened.{opened_short}
use Rattle.krb_tickets.specs.declared.enc_ticket_part.EncTicketPart.{EncTicketPart}
use Rattle.krb_tickets.specs.declared.fault.Malformed.{Malformed}
use Rattle.krb_tickets.specs.declared.fault.TicketFault.TheVariants as faults
use Rattle.krb_tickets.specs.Told.{told}
use Rattle.ticket_codec.specs.Opening.{part_read}

pub told_part : (r : Result EncTicketPart DerRefusal) (part : EncTicketPart) → told r ≡ Ok part → Some part ≡ part_read r
told_part (Ok other) part h = cc
told_part (Err refusal) part h = absurd (cc)

pub told_whole : (r : Result EncTicketPart DerRefusal) (part : EncTicketPart) → told r ≡ Ok part → r ≡ Ok part
told_whole (Ok other) part h = cc
told_whole (Err refusal) part h = absurd (cc)

pub told_none : (r : Result EncTicketPart DerRefusal) (fault : Malformed) → (faults.Malformed fault ≢ faults.NoMemory → told r ≡ Err (faults.Malformed fault)) → None ≡ part_read r
told_none (Ok part) fault h = let e = h (λ e. cc) in absurd (cc)
told_none (Err refusal) fault h = refl

-- what opens has a confounder and a checksum
pub opened_long : (key : Key) (usage : ℕ) (bytes text : List ℕ) → Some text ≡ opened key usage bytes → 28 ≤ length bytes
opened_long key usage bytes text h = by_test (nat_lt (length bytes) 28) refl
  where
    by_test : (t : Bool) → nat_lt (length bytes) 28 ≡ t → 28 ≤ length bytes
    by_test true e =
        let short : length bytes < 28 = grind (arith, nat_tests) in
        let nothing = opened_short key usage bytes short in
        absurd (cc)
    by_test false e = grind (arith, nat_tests)

pub range_within : (found : Option (Range ℕ)) (key : Key) (usage : ℕ) (old new : List ℕ)
    → IfSome found (λ range. (range.start ≡ 16) × (range.end + 12 ≡ length old))
    → option_map (λ range. slice_range new range.start range.end) found ≡ opened key usage old
    → length new ≡ length old
    → IfSome found (λ range. (range.start ≤ range.end) × (range.end ≤ length new))
range_within None key usage old new h e size = tt
range_within (Some range) key usage old new h e size =
    let long : 28 ≤ length old = opened_long key usage old (slice_range new range.start range.end) e in
    let start : range.start ≡ 16 = h.0 in
    let end : range.end + 12 ≡ length old = h.1 in
    (omega arith, omega arith)

-- and what was sealed is 28 bytes shorter
pub range_size : (found : Option (Range ℕ)) (old new : List ℕ) → IfSome found (λ range. (range.start ≡ 16) × (range.end + 12 ≡ length old)) → length new ≡ length old
    → IfSome found (λ range. range.end + 28 ≡ range.start + length new)
range_size None old new h size = tt
range_size (Some range) old new h size = omega (arith, h.0, h.1, size)
