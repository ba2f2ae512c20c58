use Rattle.std.proofs.Common.{◌≡◌, ◌∙◌, ◌≤◌, ◌*◌, List, length, Option, ap, subst, sym}
use Rattle.std.specs.Prelude.{IfSome}
use Rattle.std.specs.List.{AllByRecursion}
use Rattle.krb_messages.specs.declared.pa_data.PaData.{PaData}
use Rattle.s4u_padata.specs.declared.for_user.ForUser.{ForUser}
use Rattle.s4u_padata.specs.declared.x509_user.X509User.{X509User}
use Rattle.s4u_padata.specs.ForUser.{for_user}
use Rattle.s4u_padata.specs.X509User.{x509_user}
use Rattle.as_core.specs.Stamps.{items_of}
use Rattle.tgs_requests.proofs.Sizes.{id_short}
use Rattle.tgs_requests.proofs.user.read_asked.Goals as goal

pub returns-clause-known : goal.returns-clause-known
returns-clause-known c =
    let items : c.items_of-items.result.now ≡ items_of c.args.message.now.padata = c.items_of-items.ensures ∙ ap items_of c.as_ref.ensures.value in
    record {
      for_user = subst (λ (found : Option (Option ForUser)). IfSome found (λ one. IfSome one for_user.Fits)) c.in-Some.is c.in_ok-for_user.ensures.fits;
      x509_user = subst (λ (found : Option (Option X509User)). IfSome found (λ one. IfSome one x509_user.Fits)) c.in-Some-2.is c.in_ok-x509_user.ensures.fits;
      short = id_short (items_of c.args.message.now.padata) c.in-Some-2.x509_user (λ n all.
          let own = subst (λ (found : List PaData). AllByRecursion (λ item. length item.padata_value ≤ n) found) (sym items) all in
          subst (λ (found : Option (Option X509User)). IfSome found (λ one. IfSome one (λ x. length (x509_user.spelling x) ≤ 3 * n))) c.in-Some-2.is (c.in_ok-x509_user.ensures.short n own));
    }
