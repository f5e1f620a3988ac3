use Rattle.std.proofs.Common.{map, sym, ap, ◌∙◌}
use Rattle.std.specs.List.{filter}
use Rattle.std.specs.Option.{option_copied}
use Rattle.row_index.specs.Rows.{row_of}
use Rattle.link_table.specs.Writes.{is_not_write}
use Rattle.link_table.specs.LinkIndex.{key}
use Rattle.link_table.specs.WriteIndex.{write_key}
use Rattle.link_table.proofs.KeyedLemmas.{rows_with_fewer, rows_without_none}
use Rattle.link_table.proofs.WriteLemmas.{listed_with_fewer}
use Rattle.link_table.proofs.writes.Writes.remove.Goals as goal

-- where there is no such write, none goes
pub returns-in_default : goal.returns-in_default
returns-in_default c =
    let none = sym c.get.ensures ∙ ap option_copied c.in_default.is in
    sym c.self.view_is ∙ rows_without_none write_key c.self.inside.rows c.self.invariant.keyed (key c.args.server c.args.id) none ∙ ap (filter (is_not_write c.args.server c.args.id)) c.self.view_is

-- its session has its key no more
pub invariant_of-self : goal.invariant_of-self
invariant_of-self c =
    let s = c.self.inside in
    let there = sym c.get.ensures ∙ ap option_copied c.in-Some.is in
    rw c.remove-2.ensures (listed_with_fewer s.rows s.by_session c.self.invariant c.remove.new.self (key c.args.server c.args.id) c.in-Some.write.now there c.remove.ensures)

pub returns : goal.returns
returns c =
    ap (map row_of) c.remove-2.ensures ∙ rows_with_fewer write_key c.self.inside.rows c.self.invariant.keyed (key c.args.server c.args.id) ∙ ap (filter (is_not_write c.args.server c.args.id)) c.self.view_is
