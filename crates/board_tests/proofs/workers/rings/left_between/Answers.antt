use Rattle.std.proofs.Common.{◌∙◌, ap, sym}
use Rattle.board_rings.specs.Attachments.{attachment_of}
use Rattle.board_rings.specs.Rings.{EndsState}
use Rattle.board_tests.proofs.RingPairs.{paired}
use Rattle.board_tests.proofs.workers.rings.left_between.Goals as goal

pub left_in-inside-requires : goal.left_in-inside-requires
left_in-inside-requires c = record {
  pair = (paired (attachment_of c.args.dest c.args.board.now.attachments) c.args.inlet.now.ring c.args.outlet.now.ring c.in-Some.ends c.requires c.in-Some.ensures.found).0;
}

pub left_out-requires : goal.left_out-requires
left_out-requires c = record {
  pair =
      (paired (attachment_of c.args.dest c.args.board.now.attachments) c.args.inlet.now.ring c.args.outlet.now.ring c.in-Some.ends c.requires c.in-Some.ensures.found).1
      ∙ ap (λ (e : EndsState). e.out_ring) (sym c.left_in-inside.ensures.same.1);
}
