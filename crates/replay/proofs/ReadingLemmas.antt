-- Facts on what is taken off the lines that are left of a script.
use Rattle.std.proofs.Common.{◌≡◌, ℕ, zero, suc, ◌+◌, ◌<◌, ◌≤◌, Bool, true, false, List, [], ◌∷◌, ◌++◌, length, take, drop, Option, Some, None, refl, sym, ap, subst, ◌∙◌, add-one, append_assoc, arith}
use Rattle.std.specs.Prelude.{if◌then◌else◌, option_map, option_and_then}
use Rattle.std.specs.Str.{is_utf8}
use Rattle.std.proofs.lemmas.List.{append-nil, drop-drop}
use Rattle.std.proofs.lemmas.Bool.Decides.{nat_tests}
use Rattle.replay_text.specs.declared.line.Line.{Line}
use Rattle.replay_text.specs.Lines.{line_of}
use Rattle.replay.specs.declared.entry.ScriptEntry.{ScriptEntry}
use Rattle.replay.specs.declared.entry.EditFiles.{EditFiles}
use Rattle.replay.specs.declared.sizes.Sizes.{Sizes}
use Rattle.replay.specs.Reading.{AreMissing, IsBadFrom, IsGoodFrom, IsNextBad, LeadsOn, Takes, TakesEntry, TakesLine, TakesText, lines_with}
use Rattle.replay.specs.Script.{IsBadAt, IsGood, all_lines, entry, entry_of, file_in, files, files_in, first_bad, lines_of, own_lines, own_lines_of, sizes_of, text_file, text_of, with_end}
use Rattle.replay.proofs.ScriptLemmas.{first_bad-pending}

-- the first line after so many
drop-first : (lines : List (List ℕ)) (i : ℕ) (line : List ℕ) (left : List (List ℕ)) → drop i lines ≡ line ∷ left
    → (suc i ≤ length lines) × (text_of (take (suc i) lines) ≡ text_of (take i lines) ++ with_end line) × (drop (suc i) lines ≡ left)
drop-first [] zero line left is = absurd (cc)
drop-first [] (suc i) line left is = absurd (cc)
drop-first (first ∷ lines) zero line left is =
    let e : first ≡ line = cc in
    let k : lines ≡ left = cc in
    (omega arith, append-nil (with_end first) ∙ ap with_end e, k)
drop-first (first ∷ lines) (suc i) line left is =
    let h = drop-first lines i line left is in
    (omega (arith, h.0), ap (λ (text : List ℕ). with_end first ++ text) h.1 ∙ sym (append_assoc (with_end first) (text_of (take i lines)) (with_end line)), h.2)

drop-none : (lines : List (List ℕ)) (i : ℕ) → drop i lines ≡ [] → length lines ≤ i
drop-none [] i is = omega arith
drop-none (first ∷ lines) zero is = absurd (cc)
drop-none (first ∷ lines) (suc i) is = let h = drop-none lines i is in omega arith

next-from : (lines : List (List ℕ)) (i : ℕ) (text line : List ℕ) (rest : List (List ℕ)) (new : Option (List (List ℕ)))
    → drop i lines ≡ rest → text ≡ text_of (take i lines) → TakesLine (Some rest) new line true
    → TakesText (Some lines) (suc i) new (text ++ with_end line)
next-from lines i text line [] new is so takes = absurd (cc)
next-from lines i text line (first ∷ left) new is so takes =
    let h = drop-first lines i first left is in
    (h.0, rw (so, takes.1) (sym h.1), takes.2 ∙ ap (λ (l : List (List ℕ)). Some l) (sym h.2))

missing-from : (lines : List (List ℕ)) (i : ℕ) (line : List ℕ) (rest : List (List ℕ)) (new : Option (List (List ℕ)))
    → drop i lines ≡ rest → TakesLine (Some rest) new line false → length lines ≤ i
missing-from lines i line [] new is takes = drop-none lines i is
missing-from lines i line (first ∷ left) new is takes = absurd (cc)

-- one more line
pub TakesText-next : (lines old new : Option (List (List ℕ))) (i : ℕ) (text line : List ℕ) → TakesText lines i old text → TakesLine old new line true
    → TakesText lines (i + 1) new (text ++ with_end line)
TakesText-next None old new i text line took takes = tt
TakesText-next (Some lines) old new i text line took takes =
    rw add-one (next-from lines i text line (drop i lines) new refl took.1 (rw took.2 at takes))

-- a line is missing
pub AreMissing-here : (lines old new : Option (List (List ℕ))) (i count : ℕ) (text line : List ℕ) → i < count → TakesText lines i old text → TakesLine old new line false
    → AreMissing lines count
AreMissing-here None old new i count text line more took takes = tt
AreMissing-here (Some lines) old new i count text line more took takes =
    let h = missing-from lines i line (drop i lines) new refl (rw took.2 at takes) in omega arith

-- a file of no lines, of too few, and of enough
file_in-missing : (count : ℕ) (lines : List (List ℕ)) → ¬ (count ≡ 0) → length lines < count → file_in count lines ≡ None
file_in-missing count lines some missing = grind (arith, nat_tests)

file_in-text : (count : ℕ) (lines : List (List ℕ)) → ¬ (count ≡ 0) → count ≤ length lines → file_in count lines ≡ text_file (text_of (take count lines))
file_in-text count lines some enough = grind (arith, nat_tests)

file-from : (t : Bool) (count : ℕ) (lines : List (List ℕ)) (new : Option (List (List ℕ))) (text : List ℕ)
    → file_in count lines ≡ (if t then Some (Some text) else None) → new ≡ Some (drop count lines)
    → Takes (file_in count) (Some lines) count new (if t then Some (Some text) else None)
file-from true count lines new text is left = (is, left)
file-from false count lines new text is left = is

pub Takes-no_file : (lines : Option (List (List ℕ))) → Takes (file_in 0) lines 0 lines (Some None)
Takes-no_file None = tt
Takes-no_file (Some lines) = (refl, refl)

pub Takes-missing : (old new : Option (List (List ℕ))) (count : ℕ) → ¬ (count ≡ 0) → AreMissing old count → Takes (file_in count) old count new None
Takes-missing None new count some missing = tt
Takes-missing (Some lines) new count some missing = file_in-missing count lines some missing

pub Takes-file : (old new : Option (List (List ℕ))) (count : ℕ) (text : List ℕ) → ¬ (count ≡ 0) → TakesText old count new text
    → Takes (file_in count) old count new (text_file text)
Takes-file None new count text some took = tt
Takes-file (Some lines) new count text some took =
    file-from (is_utf8 text) count lines new text (file_in-text count lines some took.0 ∙ ap text_file (sym took.1)) took.2

drop-all_lines : (sizes : Sizes) (lines : List (List ℕ))
    → drop sizes.access (drop sizes.groups (drop sizes.rules lines)) ≡ drop (all_lines sizes) lines
drop-all_lines sizes lines =
    drop-drop sizes.access sizes.groups (drop sizes.rules lines) ∙ drop-drop (sizes.groups + sizes.access) sizes.rules lines

files-from : (lines : List (List ℕ)) (new : Option (List (List ℕ))) (sizes : Sizes) (rules groups : Option (List ℕ)) (access : Option (Option (List ℕ)))
    → file_in sizes.rules lines ≡ Some rules → file_in sizes.groups (drop sizes.rules lines) ≡ Some groups
    → Takes (file_in sizes.access) (Some (drop sizes.groups (drop sizes.rules lines))) sizes.access new access
    → Takes (files_in sizes) (Some lines) (all_lines sizes) new (option_map (files rules groups) access)
files-from lines new sizes rules groups None first second third = rw (first, second, third) refl
files-from lines new sizes rules groups (Some access) first second third =
    (rw (first, second, third.0) refl, third.1 ∙ ap (λ (l : List (List ℕ)). Some l) (drop-all_lines sizes lines))

pub Takes-files : (old after_rules after_groups new : Option (List (List ℕ))) (sizes : Sizes) (rules groups : Option (List ℕ)) (access : Option (Option (List ℕ)))
    → Takes (file_in sizes.rules) old sizes.rules after_rules (Some rules)
    → Takes (file_in sizes.groups) after_rules sizes.groups after_groups (Some groups)
    → Takes (file_in sizes.access) after_groups sizes.access new access
    → Takes (files_in sizes) old (all_lines sizes) new (option_map (files rules groups) access)
Takes-files None after_rules after_groups new sizes rules groups access first second third = tt
Takes-files (Some lines) after_rules after_groups new sizes rules groups access first second third =
    let next = rw first.1 at second in
    files-from lines new sizes rules groups access first.0 next.0 (rw next.1 at third)

-- files of such sizes
pub Takes-sizes : (old new : Option (List (List ℕ))) (sizes own : Sizes) (had : Option EditFiles) → sizes ≡ own
    → Takes (files_in sizes) old (all_lines sizes) new had → Takes (files_in own) old (all_lines own) new had
Takes-sizes old new sizes own had is takes =
    let P : Sizes → Type 0 = λ s. Takes (files_in s) old (all_lines s) new had in
    subst P is takes

pub TakesEntry-good : (old mid new : Option (List (List ℕ))) (line : List ℕ) (said : Line) (had : EditFiles) → TakesLine old mid line true → line_of line ≡ Some said
    → Takes (files_in (sizes_of said)) mid (own_lines said) new (Some had) → TakesEntry old new (Some (entry said had))
TakesEntry-good None mid new line said had takes is found = tt
TakesEntry-good (Some []) mid new line said had takes is found = absurd (cc)
TakesEntry-good (Some (first ∷ after)) mid new line said had takes is found =
    let here : line_of first ≡ Some said = rw takes.1 at is in
    let got = rw takes.2 at found in
    (refl, rw (here, got.0) refl, rw here got.1)

-- an entry has the own lines of its line
entry-own : (said : Line) (had : Option EditFiles) (next : ScriptEntry) → Some next ≡ option_map (entry said) had → own_lines said ≡ own_lines next.line
entry-own said None next is = absurd (cc)
entry-own said (Some had) next is = let e : next ≡ entry said had = cc in rw e refl

entry_of-own : (said : Option Line) (after : List (List ℕ)) (next : ScriptEntry)
    → Some next ≡ option_and_then (λ said. option_map (entry said) (files_in (sizes_of said) after)) said → own_lines_of said ≡ own_lines next.line
entry_of-own None after next is = absurd (cc)
entry_of-own (Some said) after next is = entry-own said (files_in (sizes_of said) after) next is

first_bad-good : (number : ℕ) (line : List ℕ) (after : List (List ℕ)) (next : ScriptEntry) → Some next ≡ entry_of line after
    → first_bad number 0 (line ∷ after) ≡ first_bad (number + lines_with (Some next)) 0 (drop (own_lines_of (line_of line)) after)
unfolding first_bad
first_bad-good number line after next is =
    let own = entry_of-own (line_of line) after next is in
    rw (← is) (first_bad-pending (number + 1) (own_lines_of (line_of line)) after
    ∙ ap (λ (n : ℕ). first_bad n 0 (drop (own_lines_of (line_of line)) after)) (omega (arith, own)))

pub LeadsOn-next : (lines old new : Option (List (List ℕ))) (start number : ℕ) (next : ScriptEntry) → LeadsOn lines start old number → TakesEntry old new (Some next)
    → LeadsOn lines start new (number + lines_with (Some next))
LeadsOn-next None old new start number next so takes = tt
LeadsOn-next (Some lines) None new start number next so takes = absurd so
LeadsOn-next (Some lines) (Some []) new start number next so takes = absurd (cc)
LeadsOn-next (Some lines) (Some (line ∷ after)) new start number next so takes = rw takes.2 (so ∙ first_bad-good number line after next takes.1)

pub LeadsOn-end : (lines old new : Option (List (List ℕ))) (start number : ℕ) → LeadsOn lines start old number → TakesEntry old new None → IsGoodFrom start lines
unfolding first_bad
LeadsOn-end None old new start number so takes = tt
LeadsOn-end (Some lines) None new start number so takes = absurd so
LeadsOn-end (Some lines) (Some []) new start number so takes = so
LeadsOn-end (Some lines) (Some (line ∷ after)) new start number so takes = absurd (cc)

pub LeadsOn-bad : (lines old : Option (List (List ℕ))) (start number : ℕ) → LeadsOn lines start old number → IsNextBad old → IsBadFrom start lines number
unfolding first_bad
LeadsOn-bad None old start number so bad = tt
LeadsOn-bad (Some lines) None start number so bad = absurd so
LeadsOn-bad (Some lines) (Some []) start number so bad = absurd bad
LeadsOn-bad (Some lines) (Some (line ∷ after)) start number so bad = rw bad at so

-- what is said of the lines of a script is said of its bytes
pub IsGood-from : (script : Option (List ℕ)) (number : ℕ) (lines : Option (List (List ℕ))) → number ≡ 0 → lines ≡ option_map lines_of script
    → IsGoodFrom (number + 1) lines → IsGood script
IsGood-from None number lines start all good = tt
IsGood-from (Some script) number lines start all good = rw (start, all) at good

pub IsBadAt-from : (script : Option (List ℕ)) (number : ℕ) (lines : Option (List (List ℕ))) → number ≡ 0 → lines ≡ option_map lines_of script
    → (n : ℕ) → IsBadFrom (number + 1) lines n → IsBadAt script n
IsBadAt-from None number lines start all n bad = tt
IsBadAt-from (Some script) number lines start all n bad = rw (start, all) at bad
