use Rattle.std.proofs.Common.{sym, ap, ◌∙◌}
use Rattle.std.specs.Prelude.{is_some}
use Rattle.link_table.specs.Links.{has_subscription}
use Rattle.link_table.specs.Numbers.{is_had}
use Rattle.link_table.specs.Writes.{is_write}
use Rattle.link_table.proofs.KeyedLemmas.{is_some_found}
use Rattle.link_table.proofs.SearchLemmas.{some_copied}
use Rattle.link_table.proofs.table.Links.is_had.Goals as goal

pub returns-in-Subscription : goal.returns-in-Subscription
returns-in-Subscription c =
    let rows = c.args.self.now in
    c.is_some.ensures ∙ some_copied c.by_sub.result ∙ ap is_some c.by_sub.ensures ∙ is_some_found (has_subscription c.args.server c.args.number) rows.links
    ∙ ap (λ counter. is_had counter c.args.server rows c.args.number) (sym c.in-Subscription.is)

pub returns-in-Write : goal.returns-in-Write
returns-in-Write c =
    let rows = c.args.self.now in
    c.is_some-in-Write.ensures ∙ some_copied c.write.result ∙ ap is_some c.write.ensures ∙ is_some_found (is_write c.args.server c.args.number) rows.writes
    ∙ ap (λ counter. is_had counter c.args.server rows c.args.number) (sym c.in-Write.is)
