-- Parts are the same exactly where they are equal.
use Rattle.std.proofs.Common.{◌≡◌, ℕ, true, List, Option, Some, None, refl, ap, arith}
use Rattle.std.specs.Bool.{Decides}
use Rattle.std.specs.Cmp.Lexicographic.{pointwise}
use Rattle.std.proofs.lemmas.Bool.Decides.{Decides-eqb, Decides-int_eq, Decides-and, Decides-like}
use Rattle.std.proofs.lemmas.Slice.Eq.{slice_eq-Decides, bytes_eq-Decides}
use Rattle.krb_names.specs.declared.etype.Etype.{Etype}
use Rattle.krb_names.specs.declared.etype.Etype.TheVariants.{Aes128, Aes256}
use Rattle.krb_names.specs.declared.key.Key.{Key}
use Rattle.krb_names.specs.declared.principal.Principal.{Principal}
use Rattle.krb_names.specs.Etypes.{etype_number}
use Rattle.kdc_prelude.specs.Texts.{same_text}
use Rattle.krb_tickets.specs.SameItem.{same_item, same_item_tells}
use Rattle.krb_tickets.specs.declared.enc_ticket_part.EncTicketPart.{EncTicketPart}
use Rattle.krb_tickets.specs.SamePart.{same_key, same_name, same_time, same_part}

same_texts_tell : (a b : List (List ℕ)) → Decides (pointwise same_text a b) (a ≡ b)
same_texts_tell a b = slice_eq-Decides bytes_eq-Decides a b (pointwise same_text a b) refl

same_etype_tells : (a b : Etype) → etype_number a ≡ etype_number b → a ≡ b
same_etype_tells Aes128 Aes128 e = refl
same_etype_tells Aes128 Aes256 e = absurd (omega (arith, e))
same_etype_tells Aes256 Aes128 e = absurd (omega (arith, e))
same_etype_tells Aes256 Aes256 e = refl

same_key_tells : (a b : Key) → Decides (same_key a b) (a ≡ b)
same_key_tells a b = Decides-like _ (λ e. by_fields (same_etype_tells a.etype b.etype e.0) e.1) (λ e. (ap (λ (k : Key). etype_number k.etype) e, ap (λ (k : Key). k.raw) e)) (Decides-and _ _ (Decides-eqb _ _) (bytes_eq-Decides a.raw b.raw))
  where
    by_fields : a.etype ≡ b.etype → a.raw ≡ b.raw → a ≡ b
    by_fields e f = λ i. record { etype = e i; raw = f i }

same_name_tells : (a b : Principal) → Decides (same_name a b) (a ≡ b)
same_name_tells a b =
    Decides-like _ (λ e. by_fields e.0 e.1.0 e.1.1) (λ e. (ap (λ (p : Principal). p.kind) e, (ap (λ (p : Principal). p.parts) e, ap (λ (p : Principal). p.realm) e)))
    (Decides-and _ _ (Decides-int_eq a.kind b.kind) (Decides-and _ _ (same_texts_tell a.parts b.parts) (bytes_eq-Decides a.realm b.realm)))
  where
    by_fields : a.kind ≡ b.kind → a.parts ≡ b.parts → a.realm ≡ b.realm → a ≡ b
    by_fields e f g = λ i. record { kind = e i; parts = f i; realm = g i }

same_time_tells : (a b : Option ℕ) → Decides (same_time a b) (a ≡ b)
same_time_tells None None = (λ e. refl, λ e. refl)
same_time_tells None (Some n) = (λ e. absurd cc, λ e. absurd cc)
same_time_tells (Some m) None = (λ e. absurd cc, λ e. absurd cc)
same_time_tells (Some m) (Some n) = Decides-like _ (λ e. ap (λ (k : ℕ). Some k) e) (λ e. cc) (Decides-eqb m n)

-- a part's fields one after the other
Fields : EncTicketPart → EncTicketPart → Type 0
Fields a b = (a.flags ≡ b.flags) × ((a.key ≡ b.key) × ((a.client ≡ b.client) × ((a.transited ≡ b.transited) × ((a.auth ≡ b.auth) × ((a.start ≡ b.start) × ((a.end ≡ b.end) × (a.items ≡ b.items)))))))

pub same_part_tells : (a b : EncTicketPart) → Decides (same_part a b) (a ≡ b)
unfolding same_part Fields
same_part_tells a b =
    Decides-like _ made split (
    Decides-and _ _ (Decides-eqb a.flags b.flags) (
    Decides-and _ _ (same_key_tells a.key b.key) (
    Decides-and _ _ (same_name_tells a.client b.client) (
    Decides-and _ _ (same_texts_tell a.transited b.transited) (
    Decides-and _ _ (Decides-eqb a.auth b.auth) (
    Decides-and _ _ (same_time_tells a.start b.start) (
    Decides-and _ _ (Decides-eqb a.end b.end)
    (slice_eq-Decides same_item_tells a.items b.items (pointwise same_item a.items b.items) refl))))))))
  where
    made : Fields a b → a ≡ b
    made (e, (f, (g, (h, (j, (k, (l, m))))))) = λ i. record { flags = e i; key = f i; client = g i; transited = h i; auth = j i; start = k i; end = l i; items = m i }

    split : a ≡ b → Fields a b
    split e = (
      ap (λ (p : EncTicketPart). p.flags) e,
      (
        ap (λ (p : EncTicketPart). p.key) e,
        (
          ap (λ (p : EncTicketPart). p.client) e,
          (
            ap (λ (p : EncTicketPart). p.transited) e,
            (
              ap (λ (p : EncTicketPart). p.auth) e,
              (ap (λ (p : EncTicketPart). p.start) e, (ap (λ (p : EncTicketPart). p.end) e, ap (λ (p : EncTicketPart). p.items) e)),
            ),
          ),
        ),
      ),
    )

-- the same parts are equal, and equal parts the same
pub same_is : (a b : EncTicketPart) → same_part a b ≡ true → a ≡ b
same_is a b e = (same_part_tells a b).0 e

pub equal_is : (a b : EncTicketPart) → a ≡ b → same_part a b ≡ true
equal_is a b e = (same_part_tells a b).1 e
