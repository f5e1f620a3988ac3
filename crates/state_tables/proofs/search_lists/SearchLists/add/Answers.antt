use Rattle.std.proofs.Common.{refl}
use Rattle.row_index.specs.Lists.{AddsTo, RemovesFrom}
use Rattle.state_tables.specs.Kept.{is_named, kept_key}
use Rattle.state_tables.proofs.KeptLists.{added_and_removed, all_kept}
use Rattle.state_tables.proofs.search_lists.SearchLists.add.Goals as goal

-- what was listed is listed no longer
pub returns-in-Err-clause-err : goal.returns-in-Err-clause-err
returns-in-Err-clause-err c =
    let kept = c.args.kept.now in
    let adds : AddsTo kept.name (kept_key kept) c.args.self.now.names c.add.new.self = rw (← c.key-key.ensures) c.in_ok-add.ensures.ok in
    let removes : RemovesFrom kept.name (kept_key kept) c.add.new.self c.remove.new.self = rw (← c.key-key.ensures) c.remove.ensures in
    all_kept kept _ _ (added_and_removed is_named kept kept.name (λ n. refl) _ _ _ adds removes) c.in-Err.ensures.err_hosts c.in-Err.ensures.err_reals
