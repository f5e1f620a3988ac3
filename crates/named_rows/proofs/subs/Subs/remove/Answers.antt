use Rattle.named_rows.specs.Indexes.{sub_home, sub_key}
use Rattle.named_rows.proofs.BySid.{by_sid_less}
use Rattle.named_rows.proofs.subs.Subs.remove.Goals as goal

pub invariant_of-self : goal.invariant_of-self
invariant_of-self c =
    by_sid_less sub_key sub_home c.self.inside.rows.rows _ c.key_of-key.result _ _ c.are_apart.ensures c.remove.ensures.rows c.unlist.ensures c.self.invariant
