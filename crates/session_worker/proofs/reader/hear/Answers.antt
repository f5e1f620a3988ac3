use Rattle.std.proofs.Common.{◌++◌, [], take, refl, arith}
use Rattle.session_worker.proofs.Hearing.{heard_none, heard_only}
use Rattle.session_worker.proofs.reader.hear.Goals as goal

-- the call failed
pub returns-in-Err-clause-heard : goal.returns-in-Err-clause-heard
returns-in-Err-clause-heard g c = record {
  piece = [];
  left = c.args.intake.now;
  hears = heard_none _ _ c.args.intake.now c.in-Err.ensures.bytes refl;
  why = (c.requires.partial, c.in-Err.ensures.err);
  told = omega arith;
}

pub returns-then-not-hold-clause-heard : goal.returns-then-not-hold-clause-heard
returns-then-not-hold-clause-heard g c =
    let piece = take c.in-Ok.count c.read_piece.new.buffer in
    record {
      piece = piece;
      left = c.args.intake.now ++ piece;
      hears = heard_only _ _ c.args.intake.now piece c.if-not-hold.ensures.fits c.in-Ok.ensures.bytes.0 refl;
      why = tt;
      told = omega arith;
    }
