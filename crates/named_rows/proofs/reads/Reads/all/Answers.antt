use Rattle.std.proofs.Common.{map, ap, ◌∙◌}
use Rattle.named_rows.specs.Indexes.{ReadRows, read_in, reads_in}
use Rattle.named_rows.proofs.Mapped.{map_twice}
use Rattle.named_rows.proofs.reads.Reads.all.Goals as goal

pub returns : goal.returns
returns c =
    let all =
    ap (map (λ row. row.now.read)) c.deref.ensures.value ∙ map_twice read_in (λ row. row.now) c.in_ok-rows.rows.items ∙ ap (map read_in) c.in_ok-rows.ensures
    ∙ ap (λ (reads : ReadRows). reads_in reads) c.self.view_is in
    rw (← all) c.copied.ensures
