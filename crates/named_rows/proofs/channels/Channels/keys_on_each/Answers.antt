use Rattle.std.proofs.Common.{◌≡◌, List, length, map, ap, ◌∙◌}
use Rattle.std.specs.List.{flat_map}
use Rattle.std.proofs.lemmas.Result.{IfOk-weaker}
use Rattle.row_index.specs.declared.key.Key.{Key}
use Rattle.row_index.specs.Lists.{of}
use Rattle.named_rows.specs.Channels.{count_on_each}
use Rattle.named_rows.specs.Indexes.{channel_keys_on}
use Rattle.named_rows.proofs.OnAny.{keys_counted}
use Rattle.named_rows.proofs.channels.Channels.keys_on_each.Goals as goal

-- each name has the keys of the channels on it
pub returns-clause-keys : goal.returns-clause-keys
returns-clause-keys c =
    IfOk-weaker c.keys_on_each.result
    (λ keys. keys.items ≡ flat_map (of c.self.inside.rows.on) c.args.names.now)
    (λ keys. keys.items ≡ channel_keys_on c.args.names.now c.args.self.now)
    (λ keys is. is ∙ (λ i. flat_map (λ name. c.self.invariant name i) c.args.names.now) ∙ ap (channel_keys_on c.args.names.now) c.self.view_is)
    c.keys_on_each.ensures

pub returns-clause-count : goal.returns-clause-count
returns-clause-count c =
    IfOk-weaker c.keys_on_each.result
    (λ keys. keys.items ≡ flat_map (of c.self.inside.rows.on) c.args.names.now)
    (λ keys. length keys.items ≡ count_on_each c.args.names.now c.args.self.now)
    (λ keys is.
    ap length (is ∙ (λ i. flat_map (λ name. c.self.invariant name i) c.args.names.now) ∙ ap (channel_keys_on c.args.names.now) c.self.view_is)
    ∙ keys_counted c.args.names.now c.args.self.now)
    c.keys_on_each.ensures
