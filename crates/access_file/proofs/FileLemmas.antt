-- A text, byte by byte.
use Rattle.std.proofs.Common.{◌≡◌, ℕ, suc, ◌+◌, ◌<◌, ◌≤◌, List, ◌∷◌, length, get_or, drop, Result, Ok, sym, ap, ◌∙◌, add-one, drop-cons}
use Rattle.std.proofs.lemmas.List.{drop_all}
use Rattle.access_file.specs.declared.fault.AccessFault.{AccessFault}
use Rattle.access_file.specs.declared.fault.TokenFault.{TokenFault}
use Rattle.access_file.specs.declared.fault.TokenFault.TheVariants.{Cause, OutOfMemory}
use Rattle.access_file.specs.declared.reader.Reader.{Reader}
use Rattle.access_file.specs.Fault.{IsCauseOf, fault_at}
use Rattle.access_file.specs.File.{line_after, or_fault_at, read_from, IsFaultOf}
use Rattle.access_file.specs.Grammar.{all_taken, groups_of}
use Rattle.access_file.specs.Groups.{AccessGroups}
use Rattle.access_file.specs.Tokens.{Scan, scan_after, ended_by, ended_last}

one_byte : (all : List ℕ) (i b : ℕ) → i < length all → b ≡ get_or all i 0 → drop i all ≡ b ∷ drop (i + 1) all
one_byte all i b short is =
    drop-cons all i 0 short ∙ ap (λ x. x ∷ drop (suc i) all) (sym is) ∙ ap (λ n. b ∷ drop n all) (sym (add-one i))

-- a byte is read, and what is left decides
pub byte_taken : (line : ℕ) (scan : Scan) (s : Reader) (all : List ℕ) (i b : ℕ) (next_line : ℕ) (next_scan : Scan) (next : Reader) (read : Result AccessGroups AccessFault)
    → i < length all → b ≡ get_or all i 0 → all_taken (Ok s) (ended_by scan b) ≡ Ok next → next_scan ≡ scan_after scan b → next_line ≡ line_after line b
    → read_from line scan s (drop i all) ≡ read → read_from next_line next_scan next (drop (i + 1) all) ≡ read
byte_taken line scan s all i b next_line next_scan next read short is taken scanned lined h =
    ap (λ l. read_from l next_scan next (drop (i + 1) all)) lined
    ∙ ap (λ c. read_from (line_after line b) c next (drop (i + 1) all)) scanned
    ∙ sym (ap (λ r. or_fault_at line r (λ more. read_from (line_after line b) (scan_after scan b) more (drop (i + 1) all))) taken)
    ∙ sym (ap (read_from line scan s) (one_byte all i b short is))
    ∙ h

-- a byte that has a fault
pub byte_refused : (line : ℕ) (scan : Scan) (s : Reader) (all : List ℕ) (i b : ℕ) (fault : TokenFault) (told : AccessFault) (read : Result AccessGroups AccessFault)
    → i < length all → b ≡ get_or all i 0 → IsCauseOf (all_taken (Ok s) (ended_by scan b)) fault → told ≡ fault_at line fault
    → read_from line scan s (drop i all) ≡ read → IsFaultOf read told
byte_refused line scan s all i b (Cause cause) told read short is h fault_is left =
    rw fault_is (sym left ∙ ap (read_from line scan s) (one_byte all i b short is)
    ∙ ap (λ r. or_fault_at line r (λ more. read_from (line_after line b) (scan_after scan b) more (drop (i + 1) all))) h)
byte_refused line scan s all i b OutOfMemory told read short is h fault_is left = rw fault_is tt

-- a fault at the end of the text
pub end_refused : (line : ℕ) (scan : Scan) (s : Reader) (all : List ℕ) (i : ℕ) (fault : TokenFault) (told : AccessFault) (read : Result AccessGroups AccessFault)
    → length all ≤ i → IsCauseOf (all_taken (Ok s) (ended_last scan)) fault → told ≡ fault_at line fault → read_from line scan s (drop i all) ≡ read → IsFaultOf read told
end_refused line scan s all i (Cause cause) told read done h fault_is left =
    rw fault_is (sym left ∙ ap (read_from line scan s) (drop_all i all done) ∙ ap (λ r. or_fault_at line r (λ more. Ok (groups_of more))) h)
end_refused line scan s all i OutOfMemory told read done h fault_is left = rw fault_is tt
