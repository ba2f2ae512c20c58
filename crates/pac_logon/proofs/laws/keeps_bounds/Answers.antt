use Rattle.std.proofs.Common.{◌<◌, ◌^◌, ℕ, List, subst}
use Rattle.std.specs.Prelude.{All}
use Rattle.std.specs.Str.{IsUtf8}
use Rattle.pac_logon.proofs.laws.keeps_bounds.Goals as goal

pub returns : goal.returns
returns c = record {
  time = c.fields_fit.ensures.time;
  name = record { utf8 = subst IsUtf8 c.as_str.ensures c.as_str.utf8; few = c.requires.name };
  domain = record { utf8 = subst IsUtf8 c.as_str-2.ensures c.as_str-2.utf8; few = c.requires.domain };
  domain_sid = c.sid_keeps_bounds.ensures;
  number = c.fields_fit.ensures.number;
  control = c.fields_fit.ensures.control;
  few = c.requires.few;
  groups = subst (λ (l : List ℕ). All (λ n. n < 2 ^ 32) l) c.as_slice.ensures c.numbers_fit.ensures;
}
