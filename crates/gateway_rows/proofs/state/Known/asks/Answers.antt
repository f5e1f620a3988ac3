use Rattle.std.proofs.Common.{◌≡◌, List, ℕ, sym, subst, ◌∙◌}
use Rattle.std.specs.Prelude.{bytes_eq}
use Rattle.std.specs.List.Sorted.{IsPermutation}
use Rattle.std.proofs.lemmas.List.Filters.{dedup_is}
use Rattle.gateway_rows.proofs.Asked.{asks_of_searches}
use Rattle.gateway_rows.proofs.Sorted.{put_in_order}
use Rattle.gateway_state.specs.Variables.{search_names}
use Rattle.gateway_rows.proofs.state.Known.asks.Goals as goal

-- what is put in order, each once, are the names that are put where they go
pub returns : goal.returns
returns c =
    let w = c.args.self.now.state in
    let moved = subst (λ (names : List (List ℕ)). IsPermutation names c.sort.new.names.items) c.in_ok-names.ensures c.sort.ensures.moved in
    dedup_is bytes_eq c.sort.new.names.items _ c.dedup.ensures.filtered
    ∙ put_in_order w (search_names w.policy w.searches) c.sort.new.names.items moved c.sort.ensures.sorted
    ∙ sym (asks_of_searches w c.requires.served)
