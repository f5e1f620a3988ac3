use Rattle.row_index.specs.Lists.{RemovesFrom}
use Rattle.state_tables.specs.Kept.{RemovesFromText, kept_key}
use Rattle.state_tables.proofs.KeptLists.{all_removed}
use Rattle.state_tables.proofs.search_lists.SearchLists.remove.Goals as goal

pub returns : goal.returns
returns c =
    let kept = c.args.kept.now in
    let names : RemovesFrom kept.name (kept_key kept) c.args.self.now.names c.remove.new.self = rw (← c.key-key.ensures) c.remove.ensures in
    let hosts : RemovesFrom kept.owner (kept_key kept) c.args.self.now.hosts c.remove-2.new.self = rw (← c.key-key.ensures) c.remove-2.ensures in
    let reals : RemovesFromText kept.real (kept_key kept) c.args.self.now.reals c.remove_real.new.reals = rw (← c.key-key.ensures) c.remove_real.ensures in
    all_removed kept _ _ names hosts reals
