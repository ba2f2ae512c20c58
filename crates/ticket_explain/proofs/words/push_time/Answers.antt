use Rattle.std.proofs.Common.{◌≡◌, ◌++◌, List, ℕ, OnOk, string_bytes, subst}
use Rattle.ticket_explain.specs.Words.{time_text}
use Rattle.ticket_explain.proofs.Times.{time_is_ascii}
use Rattle.ticket_explain.proofs.words.push_time.Goals as goal

pub push_ascii-requires : goal.push_ascii-requires
push_ascii-requires c = time_is_ascii c.ktime_write.result c.args.time c.ktime_write.ensures.exact

pub returns : goal.returns
unfolding time_text
returns c =
    let P : List ℕ → Type 0 = λ v. OnOk c.push_ascii.result (string_bytes c.push_ascii.new.text ≡ string_bytes c.args.text.now ++ v) in
    subst P c.ktime_write.ensures.value c.push_ascii.ensures
