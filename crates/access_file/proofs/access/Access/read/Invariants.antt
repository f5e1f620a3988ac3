use Rattle.std.proofs.Common.{◌≡◌, ◌+◌, ◌≤◌, drop}
use Rattle.access_file.specs.File.{access_of, read_from}
use Rattle.access_file.specs.Scanning.{scan_of}
use Rattle.access_file.proofs.access.Access.read.Given as goal

-- what is left decides
abbrev pub invariant-loop-byte : goal.invariant-loop-byte
invariant-loop-byte l = record {
  read : read_from l.line (scan_of l.reading) l.reading.reader (drop l.byte-index l.byte-items) ≡ access_of l.byte-items;
  counted : l.line ≤ l.byte-index + 1;
}
