use Rattle.std.proofs.Common.{◌≡◌, ◌≤◌, drop}
use Rattle.dir_records.specs.Members.{realms_refusal}
use Rattle.dir_records.proofs.members.find_realms_refusal.Given as goal

abbrev pub invariant-loop-at : goal.invariant-loop-at
invariant-loop-at l = record {
  few : l.others ≤ 100000;
  rest : realms_refusal l.at l.others (drop l.at l.realms) ≡ realms_refusal 0 0 l.realms;
}
