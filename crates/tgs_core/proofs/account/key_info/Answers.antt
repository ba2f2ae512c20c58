use Rattle.std.proofs.Common.{◌≡◌, ◌<◌, ◌^◌, List, [], ◌∷◌, ◌++◌, length, sym, ◌∙◌, subst, arith}
use Rattle.der_forms.specs.Lists.{sequence_of}
use Rattle.krb_messages.specs.declared.etype_info2.EtypeInfo2Entry.{EtypeInfo2Entry}
use Rattle.krb_messages.specs.EtypeInfo2Entry.{etype_info2_entry}
use Rattle.tgs_core.specs.Replies.{key_entry}
use Rattle.tgs_core.proofs.WrittenReplies.{entries_short}
use Rattle.tgs_core.proofs.account.key_info.Goals as goal

pub write-requires-clause-short : goal.write-requires-clause-short
write-requires-clause-short c =
    let account = c.args.account.now in
    let is : c.push.new.self ≡ key_entry account ∷ [] = c.in_ok-push.ensures.ok ∙ (λ i. c.new-entries.ensures i ++ c.in_ok-key_entry.ensures i ∷ []) in
    let few = entries_short account c.requires.account c.requires.range in
    subst (λ (entries : List EtypeInfo2Entry). length ((sequence_of etype_info2_entry).spelling entries) < 2 ^ 32) (sym is) (omega (arith, few))
