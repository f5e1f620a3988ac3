use Rattle.board_moves.proofs.Seats.{noted_stay, seat_is_noted}
use Rattle.board_moves.proofs.news.News.note.Goals as goal

pub returns-clause-notes : goal.returns-clause-notes
returns-clause-notes c =
    seat_is_noted c.args.dest c.args.self.now.words c.set_bit.new.words c.seat_of.result c.seat_of.ensures.seat c.seat_of.ensures.within c.set_bit.array_long c.set_bit.ensures

pub returns-clause-kept : goal.returns-clause-kept
returns-clause-kept c =
    noted_stay c.args.dest c.args.self.now.words c.set_bit.new.words
    (seat_is_noted c.args.dest c.args.self.now.words c.set_bit.new.words c.seat_of.result c.seat_of.ensures.seat c.seat_of.ensures.within c.set_bit.array_long c.set_bit.ensures)
