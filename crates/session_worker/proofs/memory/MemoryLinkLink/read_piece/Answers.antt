use Rattle.std.proofs.Common.{sym}
use Rattle.session_worker.proofs.Pieces.{none_left, piece_and_rest}
use Rattle.session_worker.proofs.memory.MemoryLinkLink.read_piece.Goals as goal

pub returns-clause-bytes : goal.returns-clause-bytes
returns-clause-bytes c =
    let now = c.is_to_fail.new.self in
    let copied = c.copy_from_slice.new.self in (
      rw (sym c.is_to_fail.ensures.at, sym c.is_to_fail.ensures.input)
          (piece_and_rest now.input.items c.deref.result.now copied c.args.buffer.now now.at c.min.result c.min-count.result c.deref.ensures.value c.copy_from_slice.ensures.after c.min-count.ensures),
      (λ none room.
          none_left now.input.items c.deref.result.now copied c.args.buffer.now now.at now.piece c.min.result c.min-count.result c.deref.ensures.value c.copy_from_slice.ensures.after c.min-count.ensures
          c.min.ensures now.some none room),
    )
