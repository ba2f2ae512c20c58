use Rattle.std.proofs.Common.{◌≡◌, drop, map, string_bytes}
use Rattle.std.specs.List.{list_all}
use Rattle.kdc_prelude.specs.Texts.{is_one_of}
use Rattle.dir_text.proofs.members.are_known.Given as goal

abbrev pub invariant-loop-name : goal.invariant-loop-name
invariant-loop-name l =
    list_all (is_one_of (map (λ other. other.now) l.known)) (map (λ name. string_bytes name.now) (drop l.name-index l.names))
    ≡ list_all (is_one_of (map (λ other. other.now) l.known)) (map (λ name. string_bytes name.now) l.names)
