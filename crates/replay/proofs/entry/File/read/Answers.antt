use Rattle.std.proofs.lemmas.Str.{IsUtf8-string_bytes}
use Rattle.replay.proofs.EntryLemmas.{text_file-none, text_file-some}
use Rattle.replay.proofs.entry.File.read.Goals as goal

pub returns-in-Ok : goal.returns-in-Ok
returns-in-Ok c = rw (← c.in-Ok.ensures.ok) (text_file-some _ (IsUtf8-string_bytes c.in-Ok.text))

pub returns : goal.returns
returns c = text_file-none c.args.bytes.items (λ is. let no = c.in-Err.ensures.succeeds is in cc)
