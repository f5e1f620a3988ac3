use Rattle.std.proofs.Common.{◌≡◌, ℕ, List, ap, ◌∙◌}
use Rattle.std.specs.Prelude.{length, bytes_eq}
use Rattle.std.specs.Map.{lookup}
use Rattle.pv_name.specs.Host.{lowercase}
use Rattle.access_file.specs.HostNames.{first_of}
use Rattle.access_file.specs.declared.host_names.HostName.{HostName}
use Rattle.access_file.proofs.HostLemmas.{one_span_more}
use Rattle.access_file.proofs.host_names.HostNames.add.Goals as goal

-- the address has a span up to the row
pub invariant_of-self-in_default : goal.invariant_of-self-in_default
invariant_of-self-in_default c =
    let row : HostName = record { address = c.args.address; name = c.args.name } in
    let text = c.in_ok-text.ensures.ok ∙ ap lowercase c.text.ensures.text in
    let first : c.first_of-first.result ≡ first_of (length c.self.inside.rows.items) (lookup (bytes_eq (lowercase c.args.address)) c.self.inside.spans) =
    c.first_of-first.ensures
    ∙ ap (λ (n : ℕ). first_of n (lookup (bytes_eq c.deref.result.now) c.self.inside.spans)) (c.len.ensures ∙ c.self.inside.rows.ok.0)
    ∙ ap (λ (t : List ℕ). first_of (length c.self.inside.rows.items) (lookup (bytes_eq t) c.self.inside.spans)) (c.deref.ensures ∙ text) in
    let end = c.len-end.ensures ∙ c.push.new.self.ok.0 ∙ ap length c.in_ok-push.ensures.items in
    rw (c.in_default.ensures.ok, end, c.in_ok-push.ensures.items, c.deref-2.ensures, text) (one_span_more c.self.inside.rows.items c.self.inside.spans row c.first_of-first.result c.self.invariant first)
