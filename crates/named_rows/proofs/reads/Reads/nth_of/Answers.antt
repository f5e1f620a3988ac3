use Rattle.std.proofs.Common.{slice_get, ap, ◌∙◌}
use Rattle.std.specs.List.{filter}
use Rattle.std.specs.Option.{option_map}
use Rattle.named_rows.specs.Indexes.{ReadRows, read_in, reads_in}
use Rattle.named_rows.specs.Reads.{is_read_of}
use Rattle.named_rows.proofs.Waiting.{nth_of_session}
use Rattle.named_rows.proofs.reads.Reads.nth_of.Goals as goal

pub returns-in-Some : goal.returns-in-Some
returns-in-Some c =
    ap (option_map read_in) c.in-Some.ensures ∙ nth_of_session c.args.session c.args.n c.self.inside.rows
    ∙ ap (λ (reads : ReadRows). slice_get (filter (is_read_of c.args.session) (reads_in reads)) c.args.n) c.self.view_is

pub returns-in-None : goal.returns-in-None
returns-in-None c =
    ap (option_map read_in) c.in-None.ensures ∙ nth_of_session c.args.session c.args.n c.self.inside.rows
    ∙ ap (λ (reads : ReadRows). slice_get (filter (is_read_of c.args.session) (reads_in reads)) c.args.n) c.self.view_is
