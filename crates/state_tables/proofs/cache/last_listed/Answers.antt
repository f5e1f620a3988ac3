use Rattle.std.proofs.Common.{◌-◌, map, sym, ap, ◌∙◌}
use Rattle.std.specs.List.{filter}
use Rattle.std.specs.Option.{option_copied}
use Rattle.std.proofs.lemmas.List.Sums.{length-filter}
use Rattle.row_index.specs.Rows.{is_owned_by, row_of}
use Rattle.link_table.proofs.OwnerLemmas.{none_of, last_is_there}
use Rattle.state_tables.proofs.ListedLemmas.{got_listed, owned_count}
use Rattle.state_tables.proofs.cache.last_listed.Goals as goal

-- a server that owns nothing has nothing listed
pub returns-then-count-eq0-clause-none : goal.returns-then-count-eq0-clause-none
returns-then-count-eq0-clause-none c = λ _.
    none_of (is_owned_by c.args.server) c.args.listed.now (length-filter (is_owned_by c.args.server) c.args.listed.now ∙ sym c.count_of-count.ensures ∙ c.if-count-eq0.true)

pub returns-in-Some-clause-found : goal.returns-in-Some-clause-found
returns-in-Some-clause-found c =
    got_listed c.args.server (c.count_of-count.result - 1) c.in-Some.cid.now c.args.listed.now c.requires (sym c.of.ensures ∙ ap option_copied c.in-Some.is)

-- and the last of it is there
pub returns-in-None-clause-none : goal.returns-in-None-clause-none
returns-in-None-clause-none c = λ _.
    absurd (last_is_there (map row_of (filter (is_owned_by c.args.server) c.args.listed.now)) c.count_of-count.result (c.count_of-count.ensures ∙ owned_count c.args.server c.args.listed.now) c.if-count-eq0.false (sym c.of.ensures ∙ ap option_copied c.in-None.is))
