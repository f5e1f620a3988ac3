use Rattle.std.proofs.Common.{◌∙◌, sym}
use Rattle.row_index.proofs.Owned.{ids_with_put}
use Rattle.row_index.proofs.row_map.RowMap.get_mut.Goals as goal

pub invariant_of-self-lent : goal.invariant_of-self-lent
invariant_of-self-lent g c =
    λ _. (λ w. λ o. c.self.invariant o ∙ sym (ids_with_put o c.args.key c.self.inside.rows w), c.self.invariant)
