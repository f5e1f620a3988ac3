use Rattle.std.proofs.Common.{◌∙◌, arith}
use Rattle.row_index.proofs.InPieces.{has_within, others_filled, piece_loses, piece_once}
use Rattle.row_index.proofs.pieces.remove_at.Goals as goal

pub index_mut-requires : goal.index_mut-requires
index_mut-requires c =
    let within = has_within c.args.key c.args.n c.args.pieces.now.items c.requires.there in
    let long = c.args.pieces.now.ok.0 in
    omega (arith, within, long)

pub remove_only-requires : goal.remove_only-requires
remove_only-requires c =
    let within = has_within c.args.key c.args.n c.args.pieces.now.items c.requires.there in
    record { once = piece_once c.args.key c.args.n c.args.pieces.now.items c.index_mut.result.now c.index_mut.ensures.value within c.requires.once }

pub returns : goal.returns
returns c =
    let pieces = c.args.pieces.now.items in
    let within = has_within c.args.key c.args.n pieces c.requires.there in
    let gone =
    c.merge-2.ensures.same ∙ c.merge.ensures.same ∙ c.drop_empty.ensures.same
    ∙ piece_loses c.args.key c.args.n pieces c.index_mut.result.now c.remove_only.new.self c.requires.there c.requires.once c.index_mut.ensures.value c.remove_only.ensures in
    record { gone = gone; filled = λ old. c.merge-2.ensures.filled (c.merge.ensures.filled (c.drop_empty.ensures.filled (others_filled pieces c.args.n c.remove_only.new.self within old))) }
