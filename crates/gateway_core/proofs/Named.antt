-- The names of rows that are taken one by one, by their number.
use Rattle.std.proofs.Common.{◌≡◌, ℕ, ◌+◌, ◌≤◌, List, [], ◌∷◌, ◌++◌, Bool, Some, None, drop, filter, length, map, sym, ap, ◌∙◌, arith}
use Rattle.std.specs.Prelude.{count_by, option_map, slice_get}
use Rattle.std.proofs.lemmas.List.{append-nil, drop_all, length-map}
use Rattle.std.proofs.lemmas.List.Sums.{length-filter}
use Rattle.std.proofs.lemmas.Option.{slice_get-map}
use Rattle.named_rows.specs.declared.channels.Channel.{Channel}
use Rattle.gateway_rows.proofs.Counted.{taken_none, taken_one_more}
use Rattle.gateway_state.specs.Variables.{channel_names}
use Rattle.link_table.specs.declared.links.LinkRow.{LinkRow}
use Rattle.touched_rows.specs.Touches.{link_names}

abbrev real_of : Channel → List ℕ
real_of c = c.real

abbrev link_name : LinkRow → List ℕ
link_name link = link.name

-- one more is taken
next_named : {A : Type 0} (name : A → List ℕ) (own : List A) (names : List (List ℕ)) (n : ℕ) (row : A) → names ++ drop n (map name own) ≡ map name own → slice_get own n ≡ Some row
    → (names ++ name row ∷ []) ++ drop (n + 1) (map name own) ≡ map name own
next_named {A = A} name own names n row so_far is =
    taken_one_more (map name own) names n (name row) so_far (slice_get-map name own n ∙ ap (option_map name) is)

-- none is left
past_named : {A : Type 0} (name : A → List ℕ) (own : List A) (names : List (List ℕ)) (n : ℕ) → names ++ drop n (map name own) ≡ map name own → slice_get own n ≡ None
    → names ++ drop (n + 1) (map name own) ≡ map name own
past_named {A = A} name own names n so_far is =
    taken_none (map name own) names n so_far (slice_get-map name own n ∙ ap (option_map name) is)

-- all are taken once as many are as there are
whole_named : {A : Type 0} (name : A → List ℕ) (own : List A) (names : List (List ℕ)) (n : ℕ) → length own ≤ n → names ++ drop n (map name own) ≡ map name own → names ≡ map name own
whole_named {A = A} name own names n enough so_far =
    sym (append-nil names)
    ∙ ap (λ (left : List (List ℕ)). names ++ left) (sym (drop_all n (map name own) (omega (arith, enough, length-map own name))))
    ∙ so_far

pub named_next : (own : List Channel) (names : List (List ℕ)) (n : ℕ) (c : Channel) → names ++ drop n (channel_names own) ≡ channel_names own → slice_get own n ≡ Some c
    → (names ++ c.real ∷ []) ++ drop (n + 1) (channel_names own) ≡ channel_names own
named_next own names n c so_far is = next_named real_of own names n c so_far is

pub named_past : (own : List Channel) (names : List (List ℕ)) (n : ℕ) → names ++ drop n (channel_names own) ≡ channel_names own → slice_get own n ≡ None
    → names ++ drop (n + 1) (channel_names own) ≡ channel_names own
named_past own names n so_far is = past_named real_of own names n so_far is

pub all_named : (test : Channel → Bool) (rows : List Channel) (names : List (List ℕ)) (n : ℕ) → count_by test rows ≤ n
    → names ++ drop n (channel_names (filter test rows)) ≡ channel_names (filter test rows) → names ≡ channel_names (filter test rows)
all_named test rows names n enough so_far =
    whole_named real_of (filter test rows) names n (omega (arith, enough, length-filter test rows)) so_far

pub linked_next : (own : List LinkRow) (names : List (List ℕ)) (n : ℕ) (link : LinkRow) → names ++ drop n (link_names own) ≡ link_names own → slice_get own n ≡ Some link
    → (names ++ link.name ∷ []) ++ drop (n + 1) (link_names own) ≡ link_names own
linked_next own names n link so_far is = next_named link_name own names n link so_far is

pub linked_past : (own : List LinkRow) (names : List (List ℕ)) (n : ℕ) → names ++ drop n (link_names own) ≡ link_names own → slice_get own n ≡ None
    → names ++ drop (n + 1) (link_names own) ≡ link_names own
linked_past own names n so_far is = past_named link_name own names n so_far is

pub all_linked : (own : List LinkRow) (names : List (List ℕ)) (n : ℕ) → length own ≤ n → names ++ drop n (link_names own) ≡ link_names own → names ≡ link_names own
all_linked own names n enough so_far = whole_named link_name own names n enough so_far
