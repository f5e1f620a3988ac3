use Rattle.std.proofs.Common.{◌≡◌, ◌∷◌, ◌++◌, sym, ap, ◌∙◌, rules}
use Rattle.pvlist.proofs.LineLemmas.{hosts_lacking}
use Rattle.pvlist.proofs.host_words.read_listed.Goals as goal

pub returns-in_err-read_host-2-clause-err : goal.returns-in_err-read_host-2-clause-err
returns-in_err-read_host-2-clause-err c =
    let all : c.loop-word.hosts.items ++ c.in-Some.word.now ∷ c.next.new.self ≡ c.args.first.now ∷ c.args.words =
    ap (λ rest. c.loop-word.hosts.items ++ rest) (sym c.in-Some.ensures.some) ∙ c.loop-word.invariant.all in
    let lacks = hosts_lacking _ _ _ _ _ c.in_err-read_host-2.field-0.0 all c.in_err-read_host-2.ensures.err in
    search (rules, lacks)
