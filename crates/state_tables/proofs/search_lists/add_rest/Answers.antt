use Rattle.std.proofs.Common.{refl}
use Rattle.row_index.specs.Lists.{AddsTo, RemovesFrom}
use Rattle.state_tables.specs.Kept.{is_owned, kept_key}
use Rattle.state_tables.proofs.KeptLists.{added_and_removed}
use Rattle.state_tables.proofs.search_lists.add_rest.Goals as goal

-- what was listed is listed no longer
pub returns-in-Err-clause-err_hosts : goal.returns-in-Err-clause-err_hosts
returns-in-Err-clause-err_hosts c =
    let kept = c.args.kept.now in
    let adds : AddsTo kept.owner (kept_key kept) c.args.hosts.now c.add.new.self = rw (← c.key-key.ensures) c.in_ok-add.ensures.ok in
    let removes : RemovesFrom kept.owner (kept_key kept) c.add.new.self c.remove.new.self = rw (← c.key-key.ensures) c.remove.ensures in
    added_and_removed is_owned kept kept.owner (λ n. refl) _ _ _ adds removes
