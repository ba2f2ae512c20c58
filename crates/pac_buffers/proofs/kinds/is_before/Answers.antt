use Rattle.std.proofs.Common.{◌≡◌, ℕ, ◌<◌, false, get_or, refl, sym, ap, ◌∙◌, rules, of_calls, arith}
use Rattle.std.specs.Prelude.{nat_eq, nat_lt}
use Rattle.std.proofs.lemmas.Bool.{eq-eqb, ne_eqb}
use Rattle.std.proofs.lemmas.Fn.{always_returns_same}
use Rattle.std.proofs.lemmas.List.Sorted.{IsPartitionedBy-ltb}
use Rattle.pac_buffers.proofs.Ascending.{types_ascend, none_of_type, first_decides}
use Rattle.pac_buffers.proofs.kinds.is_before.Goals as goal

pub returns-then-x-kind : goal.returns-then-x-kind
returns-then-x-kind c =
    let kinds = c.args.kinds.now in
    let first = c.partition_point-first.result in
    let x = c.in-Some.x.now in
    let point = c.partition_point-first.ensures.partitioned (λ x. nat_lt x.0 c.args.kind) (always_returns_same _ _ _ (λ a r f k. search (rules, of_calls))) (IsPartitionedBy-ltb (λ x. x.0) c.args.kinds.now c.args.kind (types_ascend c.args.kinds.now c.requires)) in
    let at = c.in-Some.ensures.lookup.3 in
    let here : nat_lt x.0 c.args.kind ≡ false = ap (λ (y : ℕ × ℕ). nat_lt y.0 c.args.kind) (at.1 x) ∙ point.1 first x (omega arith) at.0 in
    let same = eq-eqb _ _ c.if-x-kind.true in
    first_decides c.args.kind c.args.number kinds first x c.requires at.0 at.1 (λ k d less. point.0 k d (omega arith) less) here (nat_lt x.1 c.args.number) (rw same refl)

pub returns-else-x-kind : goal.returns-else-x-kind
returns-else-x-kind c =
    let kinds = c.args.kinds.now in
    let first = c.partition_point-first.result in
    let x = c.in-Some.x.now in
    let point = c.partition_point-first.ensures.partitioned (λ x. nat_lt x.0 c.args.kind) (always_returns_same _ _ _ (λ a r f k. search (rules, of_calls))) (IsPartitionedBy-ltb (λ x. x.0) c.args.kinds.now c.args.kind (types_ascend c.args.kinds.now c.requires)) in
    let at = c.in-Some.ensures.lookup.3 in
    let here : nat_lt x.0 c.args.kind ≡ false = ap (λ (y : ℕ × ℕ). nat_lt y.0 c.args.kind) (at.1 x) ∙ point.1 first x (omega arith) at.0 in
    let other = ne_eqb _ _ c.if-x-kind.false in
    first_decides c.args.kind c.args.number kinds first x c.requires at.0 at.1 (λ k d less. point.0 k d (omega arith) less) here (nat_eq x.0 c.args.kind) (rw other refl)

pub returns-in-None : goal.returns-in-None
returns-in-None c =
    let point = c.partition_point-first.ensures.partitioned (λ x. nat_lt x.0 c.args.kind) (always_returns_same _ _ _ (λ a r f k. search (rules, of_calls))) (IsPartitionedBy-ltb (λ x. x.0) c.args.kinds.now c.args.kind (types_ascend c.args.kinds.now c.requires)) in
    sym (none_of_type c.args.kind c.args.number c.args.kinds.now c.partition_point-first.result c.in-None.ensures.lookup.3 (λ k d less. point.0 k d (omega arith) less))
