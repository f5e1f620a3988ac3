-- Links that are counted.
use Rattle.std.proofs.Common.{◌≡◌, ℕ, List, length, sym}
use Rattle.std.specs.Prelude.{count_by, filter}
use Rattle.std.proofs.lemmas.List.Sums.{length-filter}
use Rattle.link_table.specs.declared.links.LinkRow.{LinkRow}
use Rattle.link_table.specs.Links.{is_of}

-- as many are counted as pass
pub counted_links : (server : ℕ) (links : List LinkRow) → count_by (is_of server) links ≡ length (filter (is_of server) links)
counted_links server links = sym (length-filter (is_of server) links)
