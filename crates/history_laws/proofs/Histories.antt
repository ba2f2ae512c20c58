-- From a history of exchanges to its entries.
use Rattle.std.proofs.Common.{◌≡◌, ℕ, zero, suc, List, [], ◌∷◌, ◌++◌, Option, None, Some, refl, sym, subst, take}
use Rattle.std.specs.Prelude.{filter_map, reverse, slice_get}
use Rattle.std.specs.List.{AllByRecursion, cons_option}
use Rattle.std.proofs.lemmas.List.{reverse-append}
use Rattle.kdc_frames.specs.Exchanges.{Exchange}
use Rattle.history_laws.specs.Entries.{Entry, IsAnswered, entries, entry_at}
use Rattle.history_laws.specs.Laws.{ChainLaw, ListLaw, UserLaw}
use Rattle.history_laws.proofs.Chains.{chain, chain_list}
use Rattle.history_laws.proofs.Granted.{IsGranted}
use Rattle.history_laws.proofs.Grants.{of_exchange}
use Rattle.history_laws.proofs.Traces.{traced}

all_take : {X : Type 0} (P : X → Type 0) (i : ℕ) (xs : List X) → AllByRecursion P xs → AllByRecursion P (take i xs)
all_take P zero xs all = tt
all_take P (suc i) [] all = tt
all_take P (suc i) (x ∷ xs) all = (all.0, all_take P i xs all.1)

all_at : {X : Type 0} (P : X → Type 0) (xs : List X) (i : ℕ) (x : X) → AllByRecursion P xs → slice_get xs i ≡ Some x → P x
all_at P [] i x all e = absurd (cc)
all_at P (y ∷ xs) zero x all e = let same : y ≡ x = cc in subst P same all.0
all_at P (y ∷ xs) (suc i) x all e = all_at P xs i x all.1 e

all_push : {X : Type 0} (P : X → Type 0) (xs : List X) (x : X) → AllByRecursion P xs → P x → AllByRecursion P (xs ++ x ∷ [])
all_push P [] x all p = (p, tt)
all_push P (y ∷ xs) x all p = (all.0, all_push P xs x all.1 p)

all_reverse : {X : Type 0} (P : X → Type 0) (xs : List X) → AllByRecursion P xs → AllByRecursion P (reverse xs)
all_reverse P [] all = tt
all_reverse P (x ∷ xs) all = subst (AllByRecursion P) (sym (reverse-append (x ∷ []) xs)) (all_push P (reverse xs) x (all_reverse P xs all.1) all.0)

-- each entry of an answered history was granted
all_granted : (history : List Exchange) → AllByRecursion IsAnswered history → AllByRecursion IsGranted (filter_map entry_at history)
all_granted [] all = tt
all_granted (exchange ∷ history) all = go (entry_at exchange) (of_exchange exchange all.0) (all_granted history all.1)
  where
    go : (o : Option Entry) → ((entry : Entry) → o ≡ Some entry → IsGranted entry) → AllByRecursion IsGranted (filter_map entry_at history) → AllByRecursion IsGranted (cons_option o (filter_map entry_at history))
    go None granted rest = rest
    go (Some entry) granted rest = (granted entry refl, rest)

pub chain_at : ChainLaw
chain_at history i exchange entry all at made clean =
    chain (entries (take i history)) entry
    (all_granted (reverse (take i history)) (all_reverse IsAnswered (take i history) (all_take IsAnswered i history all)))
    (of_exchange exchange (all_at IsAnswered history i exchange all at) entry made)
    clean

pub list_at : ListLaw
list_at history i exchange entry all at made clean = chain_list (chain_at history i exchange entry all at made clean)

pub user_at : UserLaw
user_at history i exchange entry all at made clean = traced (chain_at history i exchange entry all at made clean)
