use Rattle.std.proofs.Common.{◌∙◌}
use Rattle.ca_message.proofs.Filled.{handed_on_cut}
use Rattle.ca_message.proofs.value.is_handed_on.Goals as goal

pub returns-then-payload-padded_len : goal.returns-then-payload-padded_len
returns-then-payload-padded_len c = λ zero.
    handed_on_cut c.args.size c.args.len c.args.payload.now c.requires.within c.requires.there
    (c.if-payload-padded_len.true ∙ c.padded_len.ensures) (c.is_zero.ensures zero)
