-- The text and the zero bytes behind it are the STRING.
use Rattle.std.proofs.Common.{length}
use Rattle.std.proofs.lemmas.List.{append_assoc}
use Rattle.dbr_layout.proofs.Converting.{on_ok_items, zeros_behind}
use Rattle.dbr_layout.proofs.conversion.put_text.Goals as goal

pub returns-clause-ok : goal.returns-clause-ok
returns-clause-ok c =
    let items = rw (c.in_ok-extend_from_slice.ensures.items, zeros_behind 40 (length c.args.text.now), append_assoc) at c.extend_from_slice-2.ensures.items in
    on_ok_items _ _ _ _ items
