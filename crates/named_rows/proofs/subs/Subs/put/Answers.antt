use Rattle.std.proofs.Common.{nat_eq, refl}
use Rattle.named_rows.specs.Indexes.{has_sid, is_at, sub_home, sub_key}
use Rattle.named_rows.specs.Subs.{with_owed}
use Rattle.named_rows.proofs.Listed.{listed_changed}
use Rattle.named_rows.proofs.subs.Subs.put.Goals as goal

pub invariant_of-self : goal.invariant_of-self
invariant_of-self c =
    rw c.put.ensures.rows (listed_changed nat_eq sub_key (has_sid sub_home) (is_at sub_key c.key_of.result) (with_owed c.args.owed) _ _ (λ n row. refl) (λ row. refl) c.self.invariant)
