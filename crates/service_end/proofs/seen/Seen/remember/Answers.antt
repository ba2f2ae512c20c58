use Rattle.std.proofs.Common.{[], ◌∷◌, ◌++◌, ◌∙◌, ap, rules}
use Rattle.std.proofs.lemmas.Fn.{filter_same}
use Rattle.krb_names.specs.Moments.{in_micros}
use Rattle.service_end.specs.Accepting.{is_recent}
use Rattle.service_end.specs.Memory.{Memory}
use Rattle.service_end.proofs.Remembered.{remembered}
use Rattle.service_end.proofs.seen.Seen.remember.Goals as goal

pub returns-clause-ok : goal.returns-clause-ok
returns-clause-ok c =
    let kept = filter_same _ (is_recent (in_micros c.args.moment)) _ (λ x b f' k. search rules) _ _ c.retain.ensures.filtered in
    let pushed = c.in_ok-push.ensures.items ∙ ap (λ (m : Memory). m.entries ++ c.args.entry ∷ []) c.self.view_is in
    remembered (in_micros c.args.moment) c.args.self.now c.args.entry _ _ c.requires pushed kept
