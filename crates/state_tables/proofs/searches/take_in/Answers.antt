use Rattle.std.proofs.Common.{ap, ◌∙◌}
use Rattle.std.specs.List.{filter, find}
use Rattle.named_rows.specs.Indexes.{is_at, is_not_at}
use Rattle.state_tables.specs.Kept.{kept_key, search_in}
use Rattle.state_tables.proofs.SearchChanges.{goes_for_one, gone_for_one}
use Rattle.state_tables.proofs.searches.take_in.Goals as goal

-- the one that is added has another key
pub returns-in-Some-clause-ok : goal.returns-in-Some-clause-ok
returns-in-Some-clause-ok c =
    c.take.ensures.rows ∙ ap (filter (is_not_at kept_key c.in-Some.key)) c.in_ok-add.ensures.ok
    ∙ goes_for_one c.args.limits.now c.args.kept.owner c.args.rows.now c.are_apart.ensures c.args.kept c.requires.new c.in-Some.key c.in-Some.ensures

pub returns-in-Some-clause-left : goal.returns-in-Some-clause-left
returns-in-Some-clause-left c =
    c.take.ensures.taken ∙ ap (λ rows. search_in (find (is_at kept_key c.in-Some.key) rows)) c.in_ok-add.ensures.ok
    ∙ gone_for_one c.args.limits.now c.args.kept.owner c.args.rows.now c.are_apart.ensures c.args.kept c.requires.new c.in-Some.key c.in-Some.ensures
