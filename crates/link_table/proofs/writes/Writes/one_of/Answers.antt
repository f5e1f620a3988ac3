use Rattle.std.proofs.Common.{sym, ap, ◌∙◌}
use Rattle.std.specs.List.{filter, list_any}
use Rattle.std.specs.Prelude.{slice_get}
use Rattle.std.specs.Option.{option_copied}
use Rattle.link_table.specs.Writes.{is_write, is_write_of, is_not_write_of}
use Rattle.link_table.proofs.WriteLemmas.{first_names, none_first_of}
use Rattle.link_table.proofs.writes.Writes.one_of.Goals as goal

-- the first key of the session is of a write of it
pub returns-in-Some-clause-found : goal.returns-in-Some-clause-found
returns-in-Some-clause-found c =
    let s = c.self.inside in
    let k = c.in-Some.key.now in
    let led = ap (λ keys. slice_get keys 0) (sym c.of.ensures) ∙ sym c.first.ensures.value ∙ ap option_copied c.in-Some.is in
    ap (list_any (is_write k.owner k.id)) (sym c.self.view_is) ∙ (first_names s.rows s.by_session c.self.invariant c.args.session k led).0

pub returns-in-Some-clause-alone : goal.returns-in-Some-clause-alone
returns-in-Some-clause-alone c =
    let s = c.self.inside in
    let k = c.in-Some.key.now in
    let led = ap (λ keys. slice_get keys 0) (sym c.of.ensures) ∙ sym c.first.ensures.value ∙ ap option_copied c.in-Some.is in
    ap (λ rows. list_any (is_not_write_of c.args.session) (filter (is_write k.owner k.id) rows)) (sym c.self.view_is) ∙ (first_names s.rows s.by_session c.self.invariant c.args.session k led).1

-- and with none it has no write
pub returns-in-None-clause-none : goal.returns-in-None-clause-none
returns-in-None-clause-none c = λ _.
    let s = c.self.inside in
    let led = ap (λ keys. slice_get keys 0) (sym c.of.ensures) ∙ sym c.first.ensures.value ∙ ap option_copied c.in-None.is in
    ap (list_any (is_write_of c.args.session)) (sym c.self.view_is) ∙ none_first_of s.rows s.by_session c.self.invariant c.args.session led
