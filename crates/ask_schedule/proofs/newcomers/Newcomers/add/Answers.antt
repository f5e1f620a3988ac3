use Rattle.std.proofs.Common.{◌≡◌, ℕ, ◌+◌, sym, arith, nat_eq}
use Rattle.std.specs.HashMap.{get}
use Rattle.std.specs.Option.{unwrap_or}
use Rattle.ask_schedule.proofs.Hosts.{are-lined, long-lined, told-lined}
use Rattle.ask_schedule.proofs.Lines.{from_earlier}
use Rattle.ask_schedule.proofs.newcomers.Newcomers.add.Goals as goal

pub line_up-requires : goal.line_up-requires
line_up-requires c = from_earlier 0 c.self.inside.lap c.self.inside.rows.items (omega arith) c.self.invariant.0.ordered

pub shorten-requires-clause-one : goal.shorten-requires-clause-one
shorten-requires-clause-one c =
    omega (arith, long-lined _ c.self.inside.rows.items c.line_up.new.rows.items c.in_ok-line_up.ensures.rows, c.self.invariant.0.within)

pub shorten-requires-clause-told : goal.shorten-requires-clause-told
shorten-requires-clause-told c = λ host.
    let found = get nat_eq c.self.inside.laps c.args.host in
    let next : c.in-Some.lap ≡ unwrap_or (get nat_eq c.self.inside.laps c.args.host) c.self.inside.lap + 1 = omega (arith, c.last_of-last.ensures) in
    told-lined c.self.inside.limit c.self.inside.lap host _ c.self.inside.rows.items c.line_up.new.rows.items found (get nat_eq c.self.inside.laps host) (get nat_eq c.line_up.new.laps host)
    c.in_ok-line_up.ensures.rows c.self.invariant.0 (sym (c.self.invariant.1 c.args.host)) next (c.self.invariant.1 host) (c.in_ok-line_up.ensures.laps host)

pub invariant_of-self-2 : goal.invariant_of-self-2
invariant_of-self-2 c =
    let found = get nat_eq c.self.inside.laps c.args.host in
    let next : c.in-Some.lap ≡ unwrap_or (get nat_eq c.self.inside.laps c.args.host) c.self.inside.lap + 1 = omega (arith, c.last_of-last.ensures) in (
      are-lined c.self.inside.limit c.self.inside.lap _ c.self.inside.rows.items c.line_up.new.rows.items c.shorten.new.rows.items found
          c.in_ok-line_up.ensures.rows c.shorten.ensures.rows c.self.invariant.0 (sym (c.self.invariant.1 c.args.host)) next,
      c.shorten.ensures.laps,
    )
