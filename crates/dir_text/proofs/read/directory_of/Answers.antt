use Rattle.std.proofs.Common.{◌≡◌, sym, ap, subst, ◌∙◌}
use Rattle.std.specs.Prelude.{List, Result}
use Rattle.kdc_prelude.specs.Results.{◌>>=◌}
use Rattle.serde_json.specs.Data.{Data}
use Rattle.dir_records.specs.DirectoryValue.{DirectoryValue}
use Rattle.dir_records.specs.WellFormed.{directory_of_realms}
use Rattle.dir_records.specs.declared.records.RealmRec.{RealmRec}
use Rattle.dir_records.specs.declared.refusal.DirRefusal.{DirRefusal}
use Rattle.dir_text.specs.Gives.{Gives}
use Rattle.dir_text.specs.DirectoryText.{directory_of, realms_in}
use Rattle.dir_text.proofs.read.directory_of.Goals as goal

pub returns : goal.returns
returns c =
    let P : Result DirectoryValue DirRefusal → Type 0 = λ reading. Gives c.new.result reading in
    let from_value = λ (d : Result Data DirRefusal). d >>= realms_in >>= directory_of_realms in
    let from_realms = λ (realms : Result (List RealmRec) DirRefusal). realms >>= directory_of_realms in
    subst P
    (ap directory_of_realms c.into_vec.ensures ∙ sym (ap from_value c.in_ok-value.ensures ∙ ap from_realms c.in_ok-realms.ensures))
    c.new.ensures
