use Rattle.std.proofs.Common.{Option, refl, sym, subst}
use Rattle.std.specs.Prelude.{IfSome}
use Rattle.named_rows.specs.declared.channels.Channel.{Channel}
use Rattle.gateway_state.specs.Rights.{channel_of}
use Rattle.gateway_state.specs.Told.{KnowsRights}
use Rattle.gateway_rows.proofs.Readers.{found_if_told}
use Rattle.gateway_rows.proofs.state.Known.told_channel.Goals as goal

-- what is found is one of those that stand
pub returns-clause-told : goal.returns-clause-told
returns-clause-told c =
    subst (λ (found : Option Channel). IfSome found (KnowsRights c.args.self.now.state)) (sym c.channel_of.ensures.found)
    (found_if_told c.args.self.now.state c.args.session c.args.sid (channel_of c.args.self.now.state c.args.session c.args.sid) c.requires.told refl)
