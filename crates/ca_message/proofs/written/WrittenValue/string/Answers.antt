-- The text is the payload's front.
use Rattle.std.proofs.Common.{◌≡◌, subst, lit<, length, take}
use Rattle.std.specs.Option.{IfSome}
use Rattle.std.specs.List.{position_or_len}
use Rattle.dbr_layout.specs.Layout.{filled_to}
use Rattle.ca_message.specs.Padding.{padded}
use Rattle.ca_message.specs.Text.{is_nul}
use Rattle.ca_message.proofs.Filled.{front-of-front, length-front-of-front}
use Rattle.ca_message.proofs.written.WrittenValue.string.Goals as goal

pub handed_on-requires-clause-there : goal.handed_on-requires-clause-there
handed_on-requires-clause-there c =
    rw (c.text_of-text.ensures.text, c.as_slice-bytes.ensures)
    (length-front-of-front (position_or_len is_nul (take 40 c.args.payload.now)) 40 c.args.payload.now)

pub invariant_of-result : goal.invariant_of-result
invariant_of-result c =
    let text = c.text_of-text.result.now in
    let front : take (length text) c.args.payload.now ≡ text =
    rw (c.text_of-text.ensures.text, c.as_slice-bytes.ensures)
    (front-of-front (position_or_len is_nul (take 40 c.args.payload.now)) 40 c.args.payload.now) in (
      c.text_of-text.ensures.short,
      lit< tt,
      lit< tt,
      subst (λ xs. IfSome c.handed_on.result (λ payload. payload.now ≡ padded (filled_to 40 xs))) front c.handed_on.ensures,
    )
