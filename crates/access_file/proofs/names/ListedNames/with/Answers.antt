use Rattle.access_file.proofs.NamedLemmas.{finds_one_more, finds_one_host_more}
use Rattle.access_file.proofs.names.ListedNames.with.Goals as goal

pub invariant_of-result : goal.invariant_of-result
invariant_of-result c = (
  rw (c.in_ok-push.ensures.items, c.in_ok-put.ensures.ok, c.text.ensures.text)
      (finds_one_more c.self.inside.names.items c.self.inside.found c.args.name tt c.self.invariant.0),
  rw (c.in_ok-push.ensures.items, c.in_ok-put-2.ensures.ok, c.deref.ensures, c.in_ok-folded.ensures.ok, c.text-2.ensures.text)
      (finds_one_host_more c.self.inside.names.items c.self.inside.found_hosts c.args.name tt c.self.invariant.1),
)
