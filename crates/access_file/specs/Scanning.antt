-- How what is begun is kept.
use Rattle.std.specs.Prelude.{ℕ, List}
use Rattle.access_file.specs.declared.reading.Mode.{Mode}
use Rattle.access_file.specs.declared.reading.Mode.TheVariants as mode
use Rattle.access_file.specs.declared.reading.TextReading.{TextReading}
use Rattle.access_file.specs.Tokens.{Scan, Between, InWord, InQuotes, InComment}

abbrev pub scan_in : Mode → List ℕ → Scan
scan_in mode.Between begun = Between
scan_in mode.Word begun = InWord begun
scan_in mode.Quotes begun = InQuotes begun
scan_in mode.Comment begun = InComment

abbrev pub scan_of : TextReading → Scan
scan_of reading = scan_in reading.mode reading.begun.items
