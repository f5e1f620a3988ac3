use Rattle.std.proofs.Common.{rules, sym}
use Rattle.row_index.proofs.Once.{only_found}
use Rattle.link_table.specs.Servers.{is_server}
use Rattle.link_table.proofs.servers.ServerRows.find.Goals as goal

-- where numbers are apart, who has the number is the first that has it
pub returns-in-Some : goal.returns-in-Some
returns-in-Some c =
    let once = c.self.invariant c.if-self.true c.args.number in
    rw (← c.self.view_is) (sym (only_found (is_server c.args.number) c.self.inside.rows.items c.get.result c.in-Some.row.now (rw (← c.deref.ensures.value) (sym c.in-Some.ensures)) (search rules) once))
