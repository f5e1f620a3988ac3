use Rattle.std.proofs.Common.{ap, ◌∙◌}
use Rattle.mask_merge.specs.Counts.{props_wanted, wanted_of}
use Rattle.mask_merge.proofs.CountLemmas.{props_are_asked, wanted_is_merged}
use Rattle.named_rows.specs.Demand.{asks_on, props_on, want_on}
use Rattle.channel_table.specs.Looks.{BrandedRows}
use Rattle.channel_table.proofs.table.Table.demand_on.Goals as goal

-- counts are enough
pub returns : goal.returns
returns c =
    let asks = asks_on c.self.inside.channels c.self.inside.subs.rows c.args.name.now in
    let counted = c.self.invariant.demand c.args.name.now in
    record {
      want =
          c.of.ensures.want ∙ ap (wanted_of c.args.native) counted ∙ wanted_is_merged c.args.native asks
          ∙ ap (λ (t : BrandedRows). want_on t.rows.channels t.rows.subs c.args.native c.args.name.now) c.self.view_is;
      props =
          c.of.ensures.props ∙ ap (props_wanted c.args.states) counted ∙ props_are_asked c.args.states asks
          ∙ ap (λ (t : BrandedRows). props_on t.rows.channels t.rows.subs c.args.states c.args.name.now) c.self.view_is;
    }
