use Rattle.std.proofs.Common.{map, sym, ap, ◌∙◌}
use Rattle.std.specs.List.{find}
use Rattle.std.specs.Option.{option_copied}
use Rattle.row_index.specs.Rows.{row_of}
use Rattle.channel_table.specs.Sessions.{is_numbered, nth_by_number}
use Rattle.channel_table.proofs.ByNumber.{nth_found, nth_unfound}
use Rattle.channel_table.proofs.sessions.Sessions.nth.Goals as goal

-- the session of the nth number has n below it
pub returns : goal.returns
returns c =
    let number = c.in_ok-number.number in
    c.get-2.ensures ∙ ap (find (is_numbered number)) (sym c.self.view_is)
    ∙ nth_found c.self.inside.numbers (map row_of c.self.inside.rows) c.self.invariant.numbered c.args.n number (sym c.in_ok-number.ensures.nth) c.in_ok-number.ensures.lower
    ∙ ap (nth_by_number c.args.n) c.self.view_is

pub returns-in_err-number : goal.returns-in_err-number
returns-in_err-number c =
    ap option_copied c.from_residual.ensures
    ∙ sym (nth_unfound c.self.inside.numbers (map row_of c.self.inside.rows) c.self.invariant.numbered c.args.n (sym c.in_err-number.ensures.nth))
    ∙ ap (nth_by_number c.args.n) c.self.view_is
