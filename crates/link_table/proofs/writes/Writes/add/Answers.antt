use Rattle.std.proofs.Common.{map, ap, ◌∙◌}
use Rattle.std.specs.List.{filter, list_any}
use Rattle.row_index.proofs.Owned.{undone}
use Rattle.row_index.specs.Rows.{row_of, lacks_key}
use Rattle.link_table.specs.Writes.{is_write}
use Rattle.link_table.specs.WriteIndex.{write_key}
use Rattle.link_table.proofs.KeyedLemmas.{new_key}
use Rattle.link_table.proofs.WriteLemmas.{listed_with_more, listed_as}
use Rattle.link_table.proofs.writes.Writes.add.Goals as goal

-- no write stands under the key
pub add-requires : goal.add-requires
add-requires c =
    let write = c.args.write in
    record { new = new_key write_key c.self.inside.rows c.self.invariant.keyed (write_key write) (ap (list_any (is_write write.server write.id)) c.self.view_is ∙ c.requires) }

-- its session has its key
pub invariant_of-self-in-Ok : goal.invariant_of-self-in-Ok
invariant_of-self-in-Ok c =
    let s = c.self.inside in
    let write = c.args.write in
    let new = new_key write_key s.rows c.self.invariant.keyed (write_key write) (ap (list_any (is_write write.server write.id)) c.self.view_is ∙ c.requires) in
    rw c.in_ok-add.ensures.ok (listed_with_more s.rows s.by_session c.self.invariant c.add-2.new.self write new c.in-Ok.ensures.ok)

-- a write that is added and removed again leaves the writes as they were
pub invariant_of-self-in-Err : goal.invariant_of-self-in-Err
invariant_of-self-in-Err c =
    let s = c.self.inside in
    let write = c.args.write in
    let new = new_key write_key s.rows c.self.invariant.keyed (write_key write) (ap (list_any (is_write write.server write.id)) c.self.view_is ∙ c.requires) in
    let back = c.remove.ensures ∙ ap (filter (lacks_key (write_key write))) c.in_ok-add.ensures.ok ∙ undone (write_key write) write s.rows new in
    rw back (listed_as s.rows s.by_session c.add-2.new.self c.self.invariant c.in-Err.ensures.err)

pub returns-in-Err-clause-err : goal.returns-in-Err-clause-err
returns-in-Err-clause-err c =
    let s = c.self.inside in
    let write = c.args.write in
    let new = new_key write_key s.rows c.self.invariant.keyed (write_key write) (ap (list_any (is_write write.server write.id)) c.self.view_is ∙ c.requires) in
    ap (map row_of) (c.remove.ensures ∙ ap (filter (lacks_key (write_key write))) c.in_ok-add.ensures.ok ∙ undone (write_key write) write s.rows new) ∙ c.self.view_is
