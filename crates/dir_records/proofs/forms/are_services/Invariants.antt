use Rattle.std.proofs.Common.{◌≡◌, drop}
use Rattle.std.specs.List.{list_all}
use Rattle.dir_records.specs.Forms.{is_service_name}
use Rattle.dir_records.proofs.forms.are_services.Given as goal

abbrev pub invariant-loop-spn : goal.invariant-loop-spn
invariant-loop-spn l = list_all is_service_name (drop l.spn-index l.spns) ≡ list_all is_service_name l.spns
