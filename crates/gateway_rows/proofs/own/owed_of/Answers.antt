use Rattle.std.proofs.Common.{◌≡◌, arith}
use Rattle.std.specs.Prelude.{count_by}
use Rattle.named_rows.specs.Subs.{is_sub_of}
use Rattle.gateway_rows.specs.Own.{is_owed}
use Rattle.gateway_rows.proofs.Counted.{all_kept}
use Rattle.gateway_rows.proofs.own.owed_of.Goals as goal

-- the loop goes as far as the session has subscriptions
pub returns : goal.returns
returns c =
    let counted : c.sub_count-n-end.result ≡ count_by (is_sub_of c.args.session) c.args.clients.now.rows.subs = c.sub_count-n-end.ensures in
    record {
      found = all_kept is_owed (is_sub_of c.args.session) c.args.clients.now.rows.subs c.loop-n.subs.items c.loop-n.n
          (omega (arith, c.loop-n-test.false, counted)) c.loop-n.invariant.0;
      looked = c.loop-n.invariant.1;
    }
