use Rattle.row_index.specs.Lists.{is_not_key}
use Rattle.row_index.proofs.Known.{apart_fewer}
use Rattle.row_index.proofs.apart_keys.ApartKeys.remove.Goals as goal

-- what is left is apart as all were
pub invariant_of-self-in-Many : goal.invariant_of-self-in-Many
invariant_of-self-in-Many g c =
    let apart = rw c.in-Many.is at c.self.invariant in
    rw (c.remove_only.ensures, c.deref_mut.ensures.value) (apart_fewer (is_not_key c.args.key) _ apart)

pub invariant_of-self-in-Tall : goal.invariant_of-self-in-Tall
invariant_of-self-in-Tall g c =
    let apart = rw c.in-Tall.is at c.self.invariant in
    rw (c.remove.ensures, c.deref_mut-in-Tall.ensures.value) (apart_fewer (is_not_key c.args.key) _ apart)
