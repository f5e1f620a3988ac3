use Rattle.std.proofs.Common.{sym, ap, ◌∙◌}
use Rattle.std.specs.List.{filter, find, list_any}
use Rattle.link_table.specs.Writes.{is_write, is_write_on, is_not_write_on}
use Rattle.link_table.specs.WriteIndex.{leads_to}
use Rattle.link_table.proofs.WriteLemmas.{led_names, none_led}
use Rattle.link_table.proofs.writes.Writes.one_on.Goals as goal

-- a key of the session that leads to such a write is of those alone
pub returns-in-Some-clause-found : goal.returns-in-Some-clause-found
returns-in-Some-clause-found c =
    let s = c.self.inside in
    let k = c.in-Some.key in
    let led = ap (find (leads_to (is_write_on c.args.session c.args.sid) s.rows)) (sym c.of-keys.ensures) ∙ sym c.first_on.ensures ∙ c.in-Some.is in
    ap (list_any (is_write k.owner k.id)) (sym c.self.view_is) ∙ (led_names s.rows s.by_session c.self.invariant c.args.session c.args.sid k led).0

pub returns-in-Some-clause-alone : goal.returns-in-Some-clause-alone
returns-in-Some-clause-alone c =
    let s = c.self.inside in
    let k = c.in-Some.key in
    let led = ap (find (leads_to (is_write_on c.args.session c.args.sid) s.rows)) (sym c.of-keys.ensures) ∙ sym c.first_on.ensures ∙ c.in-Some.is in
    ap (λ rows. list_any (is_not_write_on c.args.session c.args.sid) (filter (is_write k.owner k.id) rows)) (sym c.self.view_is) ∙ (led_names s.rows s.by_session c.self.invariant c.args.session c.args.sid k led).1

-- and where none does, there is none
pub returns-in-None-clause-none : goal.returns-in-None-clause-none
returns-in-None-clause-none c = λ _.
    let s = c.self.inside in
    let led = ap (find (leads_to (is_write_on c.args.session c.args.sid) s.rows)) (sym c.of-keys.ensures) ∙ sym c.first_on.ensures ∙ c.in-None.is in
    ap (list_any (is_write_on c.args.session c.args.sid)) (sym c.self.view_is) ∙ none_led s.rows s.by_session c.self.invariant c.args.session c.args.sid led
