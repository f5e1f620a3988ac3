use Rattle.std.proofs.Common.{map, sym, ap, ◌∙◌}
use Rattle.std.specs.List.{filter}
use Rattle.std.specs.Option.{option_copied}
use Rattle.row_index.specs.Rows.{row_of}
use Rattle.link_table.specs.Links.{is_not_link}
use Rattle.link_table.specs.LinkIndex.{key, key_of, forgotten}
use Rattle.link_table.proofs.KeyedLemmas.{rows_with_fewer, rows_without_none}
use Rattle.link_table.proofs.LinkSetLemmas.{indexed_with_fewer, key_at}
use Rattle.link_table.proofs.link_set.LinkSet.remove.Goals as goal

-- where there is no such link, none goes
pub returns-in_default : goal.returns-in_default
returns-in_default c =
    let none = sym c.get.ensures ∙ ap option_copied c.in_default.is in
    sym c.self.view_is ∙ rows_without_none key_of c.self.inside.rows c.self.invariant.keyed (key c.args.server c.args.cid) none ∙ ap (filter (is_not_link c.args.server c.args.cid)) c.self.view_is

-- its name and its subscriptions lead nowhere any more
pub invariant_of-self : goal.invariant_of-self
invariant_of-self c =
    let s = c.self.inside in
    let k = key c.args.server c.args.cid in
    let link = c.in-Some.link.now in
    let there = sym c.get.ensures ∙ ap option_copied c.in-Some.is in
    let own = ap (λ x. x.owner) (key_at s.rows c.self.invariant.keyed k link there) in
    let leads = c.forget.ensures ∙ ap (λ server. forgotten server link.subscriptions s.leads) (sym own) in
    rw (c.remove-2.ensures, leads) (indexed_with_fewer s.rows s.by_name c.remove.new.self s.leads c.self.invariant k link there c.remove.ensures)

pub returns : goal.returns
returns c =
    ap (map row_of) c.remove-2.ensures ∙ rows_with_fewer key_of c.self.inside.rows c.self.invariant.keyed (key c.args.server c.args.cid) ∙ ap (filter (is_not_link c.args.server c.args.cid)) c.self.view_is
