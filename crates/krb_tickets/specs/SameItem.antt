-- When two elements of authorization data are the same.
use Rattle.std.proofs.Common.{◌≡◌, Bool, refl, sym, ap}
use Rattle.std.specs.Prelude.{◌&&◌}
use Rattle.std.specs.Bool.{Decides}
use Rattle.std.specs.Cmp.{IsEquivalence}
use Rattle.std.specs.Ordering.{int_eq}
use Rattle.std.proofs.lemmas.Bool.Decides.{Decides-int_eq, Decides-and, Decides-like, same_from_decides}
use Rattle.std.proofs.lemmas.Slice.Eq.{bytes_eq-Decides}
use Rattle.kdc_prelude.specs.Texts.{same_text}
use Rattle.krb_tickets.specs.declared.auth_item.AuthItem.{AuthItem}

abbrev pub same_item : AuthItem → AuthItem → Bool
same_item a b = int_eq a.kind b.kind && same_text a.content b.content

pub same_item_tells : (a b : AuthItem) → Decides (same_item a b) (a ≡ b)
same_item_tells a b = Decides-like _ (λ e. by_fields e.0 e.1) (λ e. (ap (λ (x : AuthItem). x.kind) e, ap (λ (x : AuthItem). x.content) e)) (Decides-and _ _ (Decides-int_eq a.kind b.kind) (bytes_eq-Decides a.content b.content))
  where
    by_fields : a.kind ≡ b.kind → a.content ≡ b.content → a ≡ b
    by_fields e f = λ i. record { kind = e i; content = f i }

pub same_item_equiv : IsEquivalence same_item
same_item_equiv = record {
  refl = λ a. (same_item_tells a a).1 refl;
  symm = λ a b. same_from_decides _ _ (same_item_tells a b) (Decides-like _ (λ e. sym e) (λ e. sym e) (same_item_tells b a));
  congr = λ a b c e. ap (λ (x : AuthItem). same_item x c) ((same_item_tells a b).0 e);
}
