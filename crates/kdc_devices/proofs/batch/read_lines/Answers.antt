use Rattle.kdc_devices.proofs.Fronts.{batch_of_front}
use Rattle.kdc_devices.proofs.batch.read_lines.Goals as goal

pub returns-in-Some-clause-value : goal.returns-in-Some-clause-value
returns-in-Some-clause-value g c =
    batch_of_front _ c.in_ok-next.next.items c.in-Some.batch.items c.in_ok-next.ensures.value c.in-Some.ensures
