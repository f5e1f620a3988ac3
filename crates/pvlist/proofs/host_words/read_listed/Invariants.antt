use Rattle.std.proofs.Common.{◌≡◌, ◌∷◌, ◌++◌, true, length}
use Rattle.std.specs.List.{list_all}
use Rattle.pv_name.specs.Host.{is_host}
use Rattle.pvlist.proofs.host_words.read_listed.Given as goal

-- those that were read are hosts, and come before the words that are left
abbrev pub invariant-loop-word : goal.invariant-loop-word
invariant-loop-word l = record {
  all : l.hosts.items ++ l.words ≡ l.first ∷ l.fn.words;
  good : list_all is_host l.hosts.items ≡ true;
}

abbrev pub decreases-loop-word : goal.decreases-loop-word
decreases-loop-word l = length l.words
