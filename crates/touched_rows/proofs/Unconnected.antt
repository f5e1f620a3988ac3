-- No channel of a client is on a link that isn't connected.
use Rattle.std.proofs.Common.{◌≡◌, ℕ, ◌≤◌, List, [], ◌∷◌, length, Bool, true, false, cond, eqb, Option, Some, None, refl, sym, ap, ◌∙◌, arith}
use Rattle.std.specs.Prelude.{filter}
use Rattle.std.specs.List.{All, find}
use Rattle.std.proofs.lemmas.Bool.{and_parts, eqb-true, true≢false}
use Rattle.std.proofs.lemmas.List.Elements.{All-weaker}
use Rattle.named_rows.specs.declared.channels.Channel.{Channel}
use Rattle.link_table.specs.declared.links.LinkRow.{LinkRow}
use Rattle.link_table.specs.Links.{is_link, is_named}
use Rattle.gateway_state.specs.Gateway.{Gateway}
use Rattle.gateway_state.specs.Resolution.{is_real}
use Rattle.gateway_state.specs.Rights.{lead_in, link_connected}
use Rattle.gateway_state.specs.Settled.{AreNumbersApart, HasLinksApart, IsSettled, IsUpToDate}
use Rattle.gateway_state.specs.Variables.{is_connected, link_of}
use Rattle.gateway_state.proofs.SettledMeaning.{all_up_to_date}
use Rattle.touched_rows.proofs.Numbered.{one_of_cid}
use Rattle.touched_rows.proofs.TouchedAlone.{found_passes}

-- ---- one row alone passes

none_there : {A : Type 0} (test other : A → Bool) (rows : List A) (b : A) → length (filter test rows) ≤ 0 → find other rows ≡ Some b → test b ≡ true → ⊥
none_there test other [] b none is passes = cc
none_there {A = A} test other (row ∷ rows) b none is passes = by (test row) (other row) refl none is (λ later rest. none_there test other rows b later rest passes)
  where
    by : (first second : Bool) → test row ≡ first → length (cond first (row ∷ filter test rows) (filter test rows)) ≤ 0 → cond second (Some row) (find other rows) ≡ Some b
        → (length (filter test rows) ≤ 0 → find other rows ≡ Some b → ⊥) → ⊥
    by true second e none is rest = omega arith
    by false true e none is rest = let same : row ≡ b = cc in true≢false (sym passes ∙ ap test (sym same) ∙ e)
    by false false e none is rest = rest none is

only_one : {A : Type 0} (test other : A → Bool) (rows : List A) (a b : A) → length (filter test rows) ≤ 1 → find test rows ≡ Some a → find other rows ≡ Some b → test b ≡ true → a ≡ b
only_one test other [] a b one is_a is_b passes = absurd cc
only_one {A = A} test other (row ∷ rows) a b one is_a is_b passes =
    by (test row) (other row) refl one is_a is_b (λ later later_a later_b. only_one test other rows a b later later_a later_b passes) (λ none later_b. none_there test other rows b none later_b passes)
  where
    by : (first second : Bool) → test row ≡ first → length (cond first (row ∷ filter test rows) (filter test rows)) ≤ 1 → cond first (Some row) (find test rows) ≡ Some a
        → cond second (Some row) (find other rows) ≡ Some b
        → (length (filter test rows) ≤ 1 → find test rows ≡ Some a → find other rows ≡ Some b → a ≡ b) → (length (filter test rows) ≤ 0 → find other rows ≡ Some b → ⊥) → a ≡ b
    by true true e one is_a is_b rest none = cc
    by true false e one is_a is_b rest none = absurd (none (omega arith) is_b)
    by false true e one is_a is_b rest none = let same : row ≡ b = cc in absurd (true≢false (sym passes ∙ ap test (sym same) ∙ e))
    by false false e one is_a is_b rest none = rest one is_a is_b

-- ---- the link of a channel that a server was asked for

module _ (w : Gateway) (order : AreNumbersApart w) (server cid : ℕ) (link : LinkRow) (found : find (is_link server cid) w.upstream.links ≡ Some link) where
  pub the_link : All (λ (row : LinkRow). is_link server cid row ≡ true → row ≡ link) w.upstream.links
  the_link =
      All-weaker (λ (row : LinkRow). row.cid ≡ link.cid → row ≡ link) (λ (row : LinkRow). is_link server cid row ≡ true → row ≡ link)
      (λ row one is.
      let here = and_parts (eqb row.server server) (eqb row.cid cid) is in
      let there = and_parts (eqb link.server server) (eqb link.cid cid) (found_passes (is_link server cid) w.upstream.links link found) in
      one (eqb-true row.cid cid here.1 ∙ sym (eqb-true link.cid cid there.1)))
      w.upstream.links (one_of_cid (is_link server cid) w.upstream.links link order.links.apart found)

  module _ (settled : IsSettled w) (links_apart : HasLinksApart w) (unconnected : is_connected link.state ≡ false) where
    unnamed : (c : Channel) → link_connected (link_of w c.real) ≡ true → is_named c.real link ≡ false
    unnamed c connected =
        elim (is_named c.real link) as (λ t. is_named c.real link ≡ t → t ≡ false) [ true ↦ λ named. by (link_of w c.real) refl connected named | false ↦ λ named. refl ] refl
      where
        by : (over : Option LinkRow) → link_of w c.real ≡ over → link_connected over ≡ true → is_named c.real link ≡ true → true ≡ false
        by None is connected named = sym connected
        by (Some l) is connected named =
            let same : l ≡ link = only_one (is_named c.real) (is_link server cid) w.upstream.links l link (links_apart c.real) is found named in
            sym connected ∙ ap (λ (k : LinkRow). is_connected k.state) same ∙ unconnected

    pub no_channel : All (λ (c : Channel). is_named c.real link ≡ false) w.clients.channels
    no_channel =
        All-weaker (IsUpToDate w) (λ (c : Channel). is_named c.real link ≡ false)
        (λ c up. unnamed c (and_parts (is_real (lead_in w c.session c.asked) c.real) (link_connected (link_of w c.real)) up.served).1)
        w.clients.channels (all_up_to_date w settled)
