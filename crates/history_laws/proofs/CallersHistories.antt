-- The history of a run is its callers' exchanges, one caller after the other.
use Rattle.std.proofs.Common.{◌∙◌, List, [], ◌∷◌, ◌++◌, length, refl, ap}
use Rattle.kdc_frames.specs.Exchanges.{Exchange, Inputs, all_requests, exchanges, exchanges_by_caller, inputs_after}
use Rattle.kdc_frames.specs.Requests.{requests_of}
use Rattle.kdc_frames.proofs.Histories.{exchanges_on}
use Rattle.history_laws.specs.Runs.{CallersLaw}

pub callers_law : CallersLaw
unfolding exchanges all_requests exchanges_by_caller
callers_law inputs [] = refl
callers_law inputs (taken ∷ callers) =
    let next : Inputs = inputs_after (length (requests_of taken)) inputs in
    exchanges_on inputs (requests_of taken) (all_requests callers)
    ∙ ap (λ (later : List Exchange). exchanges inputs (requests_of taken) ++ later) (callers_law next callers)
