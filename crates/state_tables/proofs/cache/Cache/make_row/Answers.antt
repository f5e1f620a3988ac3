use Rattle.std.proofs.Common.{sym, ap, ◌∙◌}
use Rattle.std.specs.List.{filter}
use Rattle.row_index.specs.Rows.{lacks_key}
use Rattle.link_table.specs.LinkIndex.{key}
use Rattle.named_rows.proofs.Lists.{absent_is_unfound}
use Rattle.gateway_state.specs.CachedRows.{is_cached_of, put_row}
use Rattle.state_tables.specs.LatestRows.{unchanged, bare}
use Rattle.state_tables.proofs.LatestLemmas.{made_already, made_last}
use Rattle.state_tables.proofs.ListedLemmas.{listed_again}
use Rattle.state_tables.proofs.ServerLemmas.{listed_new, unlisted}
use Rattle.state_tables.proofs.cache.Cache.make_row.Goals as goal

-- the link has a row already
pub returns-then-has-clause-ok : goal.returns-then-has-clause-ok
returns-then-has-clause-ok c =
    let rows = c.self.inside.latest in
    sym c.self.view_is ∙ sym (made_already c.args.server c.args.cid rows (sym c.has.ensures ∙ c.if-has.true)) ∙ ap (put_row c.args.server c.args.cid unchanged) c.self.view_is

-- nothing is listed of a link without a row
pub add-requires : goal.add-requires
add-requires c =
    let s = c.self.inside in
    let none = absent_is_unfound (is_cached_of c.args.cid) s.latest (sym c.has.ensures ∙ c.if-has.false) in
    record { new = unlisted c.args.server c.args.cid s.latest s.listed none c.self.invariant }

pub add-requires-2 : goal.add-requires-2
add-requires-2 c = record { new = sym c.has.ensures ∙ c.if-has.false }

pub invariant_of-self-in-Ok : goal.invariant_of-self-in-Ok
invariant_of-self-in-Ok c =
    let s = c.self.inside in
    let none = absent_is_unfound (is_cached_of c.args.cid) s.latest (sym c.has.ensures ∙ c.if-has.false) in
    rw (c.in-Ok.ensures.ok, c.in_ok-add.ensures.ok) (listed_new (bare c.args.server c.args.cid) s.latest s.listed none c.self.invariant)

-- the entry goes again where there is no memory for the row
pub invariant_of-self-in-Err : goal.invariant_of-self-in-Err
invariant_of-self-in-Err c =
    let s = c.self.inside in
    let k = key c.args.server c.args.cid in
    let none = absent_is_unfound (is_cached_of c.args.cid) s.latest (sym c.has.ensures ∙ c.if-has.false) in
    let new = unlisted c.args.server c.args.cid s.latest s.listed none c.self.invariant in
    let same = c.remove.ensures ∙ ap (filter (lacks_key k)) c.in_ok-add.ensures.ok ∙ listed_again c.args.server c.args.cid s.listed new in
    rw (c.in-Err.ensures.err, same) c.self.invariant

pub returns-in-Ok-clause-ok : goal.returns-in-Ok-clause-ok
returns-in-Ok-clause-ok c =
    let rows = c.self.inside.latest in
    c.in-Ok.ensures.ok ∙ sym (made_last c.args.server c.args.cid rows (sym c.has.ensures ∙ c.if-has.false)) ∙ ap (put_row c.args.server c.args.cid unchanged) c.self.view_is
