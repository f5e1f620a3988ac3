use Rattle.std.proofs.Common.{sym, ap, ◌∙◌}
use Rattle.std.specs.Option.{option_copied}
use Rattle.link_table.specs.Links.{is_of}
use Rattle.link_table.specs.LinkIndex.{key_of}
use Rattle.link_table.proofs.OwnerLemmas.{got_row, none_of, last_is_there}
use Rattle.link_table.proofs.link_set.LinkSet.last_of.Goals as goal

-- a server of which there are none has no link
pub returns-then-count-eq0-clause-none : goal.returns-then-count-eq0-clause-none
returns-then-count-eq0-clause-none c = λ _.
    none_of (is_of c.args.server) c.args.self.now (sym c.count_of-count.ensures ∙ c.if-count-eq0.true)

-- what stands in its place is a link of it
pub returns-in-Some-clause-found : goal.returns-in-Some-clause-found
returns-in-Some-clause-found c =
    got_row key_of c.args.server _ c.in-Some.link.now c.args.self.now (sym c.nth_of.ensures ∙ ap option_copied c.in-Some.is)

-- and the last of them stands there
pub returns-in-None-clause-none : goal.returns-in-None-clause-none
returns-in-None-clause-none c = λ _.
    absurd (last_is_there _ c.count_of-count.result c.count_of-count.ensures c.if-count-eq0.false (sym c.nth_of.ensures ∙ ap option_copied c.in-None.is))
