use Rattle.std.proofs.Common.{refl, ap, ◌∙◌, arith}
use Rattle.std.proofs.lemmas.Bool.Decides.{nat_tests}
use Rattle.access_file.specs.File.{access_of}
use Rattle.access_file.specs.Scanning.{scan_of}
use Rattle.access_file.proofs.FileLemmas.{byte_taken, byte_refused, end_refused}
use Rattle.access_file.proofs.access.Access.read.Goals as goal

pub returns-in-Err-clause-err : goal.returns-in-Err-clause-err
returns-in-Err-clause-err c =
    byte_refused c.loop-byte.line (scan_of c.loop-byte.reading) c.loop-byte.reading.reader c.as_bytes-byte-items.result.now c.loop-byte.byte-index _ c.in-Err.fault _ _
    (omega arith) refl c.in-Err.ensures.err c.at.ensures (c.loop-byte.invariant.read ∙ ap access_of c.as_bytes-byte-items.ensures.value)

pub loop-byte-preserved : goal.loop-byte-preserved
loop-byte-preserved c = record {
  read = byte_taken c.loop-byte.line (scan_of c.loop-byte.reading) c.loop-byte.reading.reader c.as_bytes-byte-items.result.now c.loop-byte.byte-index _ _ _ _ _
      (omega arith) refl c.in_default.ensures.ok c.in_default.ensures.scan c.line_after-line.ensures c.loop-byte.invariant.read;
  counted = grind (arith, nat_tests);
}

pub returns-in-Err-end-clause-err : goal.returns-in-Err-end-clause-err
returns-in-Err-end-clause-err c =
    end_refused c.loop-byte.line (scan_of c.loop-byte.reading) c.loop-byte.reading.reader c.as_bytes-byte-items.result.now c.loop-byte.byte-index c.in-Err-end.fault _ _
    (omega arith) c.in-Err-end.ensures.err c.at-in-Err-end.ensures (c.loop-byte.invariant.read ∙ ap access_of c.as_bytes-byte-items.ensures.value)
