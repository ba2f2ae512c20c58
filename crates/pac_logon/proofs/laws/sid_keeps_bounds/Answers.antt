use Rattle.std.proofs.Common.{◌<◌, ◌^◌, ℕ, List, subst}
use Rattle.std.specs.Prelude.{All}
use Rattle.pac_logon.proofs.laws.sid_keeps_bounds.Goals as goal

pub returns : goal.returns
returns c = record {
  low = c.authority.ensures.low;
  some = c.numbers.ensures.some;
  few = c.requires.few;
  fits = subst (λ (l : List ℕ). All (λ n. n < 2 ^ 32) l) c.numbers.ensures.value c.numbers_fit.ensures;
}
