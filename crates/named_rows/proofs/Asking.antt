-- What is counted under each name follows the rows.
use Rattle.std.proofs.Common.{◌≡◌, ℕ, List, [], ◌∷◌, ◌++◌, Bool, true, false, cond, not, ◌&&◌, ◌==◌, Option, Some, None, map, append-nil, bytes_eq, subst, refl, sym, ap, ◌∙◌, true≢false}
use Rattle.std.specs.List.{filter, find, list_any, list_all}
use Rattle.std.proofs.lemmas.Bool.{eqb-true}
use Rattle.std.specs.Cmp.Lexicographic.{nat_list_eq_equiv}
use Rattle.mask_merge.specs.declared.want.Ask.{Ask}
use Rattle.mask_merge.specs.Counts.{Counts, counted, counted_with, counted_without, exchanged, nothing_counted}
use Rattle.rows.specs.Rows.{change_first}
use Rattle.rows.proofs.RowLemmas.{change_first_unfound}
use Rattle.row_index.specs.declared.key.Key.{Key}
use Rattle.named_rows.specs.declared.channels.Channel.{Channel}
use Rattle.named_rows.specs.declared.channels.Reach.{Reach}
use Rattle.named_rows.specs.declared.subs.ClientSub.{ClientSub}
use Rattle.named_rows.specs.Channels.{is_channel, is_not_channel, is_on, is_channel_on, with_reach_and_rights}
use Rattle.named_rows.specs.Subs.{is_sub, is_not_sub, is_sub_on, with_owed}
use Rattle.named_rows.specs.Indexes.{IsApart, channel_key, sub_key, is_standing, is_to}
use Rattle.named_rows.specs.Demand.{IsRecounted, IsDemand, IsUncounted, ChangesDemand, SameDemand, all_exchanged, recounted, ask_of_reach, ask_of_sub, asks_on, channel_ask, differs, may_read, rights_exchanged, reads_over, sub_ask, demand_of}
use Rattle.named_rows.proofs.Counting.{Between, between, asks_agree, asks_beside, counted_changed, counted_less, counted_more, exchanged_among, subs_exchanged}
use Rattle.row_index.proofs.Named.{same_bytes}
use Rattle.named_rows.proofs.Following.{ids_agree, on_ids}
use Rattle.named_rows.proofs.Lists.{found_passes, none_dropped, unfound_is_absent, found_before, found_changed, find_among, none_is_all}

-- no row
pub demand_none : (channels : List Channel) (subs : List ClientSub) (tallies : List (List ℕ × Counts)) → channels ≡ [] → subs ≡ [] → ((name : List ℕ) → demand_of tallies name ≡ nothing_counted) → IsDemand channels subs tallies
demand_none channels subs tallies no_channel no_sub empty = rw (no_channel, no_sub) empty

-- the same rows, and the same counts
pub demand_same : (channels : List Channel) (subs after : List ClientSub) (old new : List (List ℕ × Counts)) → after ≡ subs → SameDemand old new → IsDemand channels subs old → IsDemand channels after new
demand_same channels subs after old new is same demand name = same name ∙ demand name ∙ ap (λ rows. counted (asks_on channels rows name)) (sym is)

pub demand_same_channels : (channels after : List Channel) (subs : List ClientSub) (old new : List (List ℕ × Counts)) → after ≡ channels → SameDemand old new → IsDemand channels subs old → IsDemand after subs new
demand_same_channels channels after subs old new is same demand name = same name ∙ demand name ∙ ap (λ (rows : List Channel). counted (asks_on rows subs name)) (sym is)

-- counts that are changed under one name, where what is asked for of it is
demand_changed : (name n : List ℕ) (f : Counts → Counts) (old new : List (List ℕ × Counts)) (before after : Counts) → ChangesDemand name f old new → demand_of old n ≡ before
    → (bytes_eq name n ≡ true → f before ≡ after) → (bytes_eq name n ≡ false → before ≡ after) → demand_of new n ≡ after
demand_changed name n f old new before after changes was on beside =
    changes n ∙ rw was
    (elim (bytes_eq name n) as (λ t. bytes_eq name n ≡ t → cond t (f before) before ≡ after) [ true ↦ on | false ↦ beside ] refl)

-- ---- subscriptions

-- a subscription more
pub demand_more_sub : (channels : List Channel) (subs : List ClientSub) (sub : ClientSub) (name : List ℕ) (old new : List (List ℕ × Counts))
    → ((n : List ℕ) → is_to channels n sub ≡ bytes_eq name n) → ChangesDemand name (counted_with (sub_ask channels sub)) old new → IsDemand channels subs old → IsDemand channels (subs ++ sub ∷ []) new
demand_more_sub channels subs sub name old new leads changes demand n =
    let own = map channel_ask (filter (is_on n) channels) in
    let all : subs ++ [] ≡ subs = append-nil subs in
    demand_changed name n (counted_with (sub_ask channels sub)) old new (counted (asks_on channels subs n)) (counted (asks_on channels (subs ++ sub ∷ []) n)) changes (demand n)
    (λ here. sym (counted_more (sub_ask channels) (is_to channels n) [] own subs sub [] (leads n ∙ here) ∙ ap (λ rows. counted_with (sub_ask channels sub) (counted (asks_on channels rows n))) all))
    (λ other. sym (ap counted (asks_beside (sub_ask channels) (is_to channels n) [] own subs sub [] (leads n ∙ other)) ∙ ap (λ rows. counted (asks_on channels rows n)) all))

-- a subscription less
pub demand_less_sub : (channels : List Channel) (subs left : List ClientSub) (k : Key) (sub : ClientSub) (name : List ℕ) (old new : List (List ℕ × Counts))
    → Between sub_key k subs sub → left ≡ filter (is_not_sub k.owner k.id) subs → ((n : List ℕ) → is_to channels n sub ≡ bytes_eq name n)
    → ChangesDemand name (counted_without (sub_ask channels sub)) old new → IsDemand channels subs old → IsDemand channels left new
demand_less_sub channels subs left k sub name old new b is leads changes demand n =
    let own = map channel_ask (filter (is_on n) channels) in
    let count : List ClientSub → Counts = λ rows. counted (asks_on channels rows n) in
    let others : count left ≡ count (b.before ++ b.behind) = ap count (is ∙ b.others) in
    demand_changed name n (counted_without (sub_ask channels sub)) old new (count subs) (count left) changes (demand n)
    (λ here. ap (λ rows. counted_without (sub_ask channels sub) (count rows)) b.all ∙ counted_less (sub_ask channels) (is_to channels n) [] own b.before sub b.behind (leads n ∙ here) ∙ sym others)
    (λ other. ap count b.all ∙ ap counted (asks_beside (sub_ask channels) (is_to channels n) [] own b.before sub b.behind (leads n ∙ other)) ∙ sym others)

asks_owed : (channels : List Channel) (n : List ℕ) (p : ClientSub → Bool) (owed : Bool) (subs : List ClientSub) → map (sub_ask channels) (filter (is_to channels n) (change_first p (with_owed owed) subs)) ≡ map (sub_ask channels) (filter (is_to channels n) subs)
asks_owed channels n p owed [] = refl
asks_owed channels n p owed (sub ∷ subs) =
    elim (p sub) as (λ t. map (sub_ask channels) (filter (is_to channels n) (cond t (with_owed owed sub ∷ subs) (sub ∷ change_first p (with_owed owed) subs))) ≡ map (sub_ask channels) (filter (is_to channels n) (sub ∷ subs))) [
      | true ↦ elim (is_to channels n sub) as (λ t. map (sub_ask channels) (cond t (with_owed owed sub ∷ filter (is_to channels n) subs) (filter (is_to channels n) subs)) ≡ map (sub_ask channels) (cond t (sub ∷ filter (is_to channels n) subs) (filter (is_to channels n) subs))) [ true ↦ refl | false ↦ refl ]
      | false ↦ elim (is_to channels n sub) as (λ t. map (sub_ask channels) (cond t (sub ∷ filter (is_to channels n) (change_first p (with_owed owed) subs)) (filter (is_to channels n) (change_first p (with_owed owed) subs))) ≡ map (sub_ask channels) (cond t (sub ∷ filter (is_to channels n) subs) (filter (is_to channels n) subs)))
          [ true ↦ ap (λ rest. sub_ask channels sub ∷ rest) (asks_owed channels n p owed subs) | false ↦ asks_owed channels n p owed subs ]
    ]

-- a subscription that is owed an update, or none
pub demand_owed : (channels : List Channel) (subs after : List ClientSub) (tallies : List (List ℕ × Counts)) (session id : ℕ) (owed : Bool) → after ≡ change_first (is_sub session id) (with_owed owed) subs → IsDemand channels subs tallies → IsDemand channels after tallies
demand_owed channels subs after tallies session id owed is demand n =
    demand n ∙ ap (λ asks. counted (asks ++ map channel_ask (filter (is_on n) channels))) (sym (asks_owed channels n (is_sub session id) owed subs)) ∙ ap (λ rows. counted (asks_on channels rows n)) (sym is)

-- a subscription more, on a channel that stands
pub demand_added : (channels : List Channel) (subs after : List ClientSub) (sub : ClientSub) (channel : Channel) (old new : List (List ℕ × Counts))
    → find (is_channel sub.session sub.sid) channels ≡ Some channel → after ≡ subs ++ sub ∷ [] → ChangesDemand channel.real (counted_with (ask_of_sub (may_read channel.rights_told) sub)) old new → IsDemand channels subs old → IsDemand channels after new
demand_added channels subs after sub channel old new on is changes demand n =
    let ask : sub_ask channels sub ≡ ask_of_sub (may_read channel.rights_told) sub = ap (λ o. ask_of_sub (reads_over o) sub) on in
    demand_more_sub channels subs sub channel.real old new (λ name. ap (is_channel_on name) on) (subst (λ (a : Option Ask). ChangesDemand channel.real (counted_with a) old new) (sym ask) changes) demand n
    ∙ ap (λ rows. counted (asks_on channels rows n)) (sym is)

-- a subscription less, found by its IDs
pub demand_less_row : (channels : List Channel) (subs left : List ClientSub) (session id : ℕ) (sub : ClientSub) (channel : Channel) (old new : List (List ℕ × Counts))
    → IsApart sub_key subs → find (is_sub session id) subs ≡ Some sub → find (is_channel sub.session sub.sid) channels ≡ Some channel → left ≡ filter (is_not_sub session id) subs
    → ChangesDemand channel.real (counted_without (ask_of_sub (may_read channel.rights_told) sub)) old new → IsDemand channels subs old → IsDemand channels left new
demand_less_row channels subs left session id sub channel old new apart found on is changes demand =
    let ask : sub_ask channels sub ≡ ask_of_sub (may_read channel.rights_told) sub = ap (λ o. ask_of_sub (reads_over o) sub) on in
    let k : Key = record { owner = session; id = id } in
    demand_less_sub channels subs left k sub channel.real old new (between sub_key k subs sub apart found) is (λ name. ap (is_channel_on name) on)
    (subst (λ (a : Option Ask). ChangesDemand channel.real (counted_without a) old new) (sym ask) changes) demand

-- ---- channels

-- what is asked for of a name, where other channels tell the same of each subscription that stands
asks_kept : (channels after : List Channel) (subs : List ClientSub) (n : List ℕ) (s : ClientSub → Bool) → ((sub : ClientSub) → s sub ≡ true → find (is_channel sub.session sub.sid) after ≡ find (is_channel sub.session sub.sid) channels) → list_all s subs ≡ true
    → map (sub_ask after) (filter (is_to after n) subs) ≡ map (sub_ask channels) (filter (is_to channels n) subs)
asks_kept channels after [] n s same all = refl
asks_kept channels after (sub ∷ subs) n s same all =
    elim (s sub) as (λ t. s sub ≡ t → (t && list_all s subs) ≡ true → map (sub_ask after) (filter (is_to after n) (sub ∷ subs)) ≡ map (sub_ask channels) (filter (is_to channels n) (sub ∷ subs))) [
      | true ↦ λ here rest.
          let found = same sub here in
          let left = asks_kept channels after subs n s same rest in
          rw found (elim (is_to channels n sub) as (λ t. map (sub_ask after) (cond t (sub ∷ filter (is_to after n) subs) (filter (is_to after n) subs)) ≡ map (sub_ask channels) (cond t (sub ∷ filter (is_to channels n) subs) (filter (is_to channels n) subs)))
          [ true ↦ (λ i. ask_of_sub (reads_over (found i)) sub ∷ left i) | false ↦ left ])
      | false ↦ λ _ rest. cc
    ] refl all

-- a channel more
pub demand_more_channel : (channels : List Channel) (subs : List ClientSub) (channel : Channel) (old new : List (List ℕ × Counts)) → list_all (is_standing channels) subs ≡ true
    → ChangesDemand channel.real (counted_with (channel_ask channel)) old new → IsDemand channels subs old → IsDemand (channels ++ channel ∷ []) subs new
demand_more_channel channels subs channel old new standing changes demand n =
    let more : List Channel = channels ++ channel ∷ [] in
    let through = map (sub_ask channels) (filter (is_to channels n) subs) in
    let kept = asks_kept channels more subs n (is_standing channels) (λ sub h. found_before (is_channel sub.session sub.sid) channels (channel ∷ []) h) standing in
    let own : List Channel → List (Option Ask) = λ rows. map channel_ask (filter (is_on n) rows) in
    let plain : (rows : List Channel) → through ++ (own rows ++ []) ≡ through ++ own rows = λ rows. ap (λ asks. through ++ asks) (append-nil (own rows)) in
    let after : counted (asks_on more subs n) ≡ counted (through ++ (own more ++ [])) = ap (λ asks. counted (asks ++ own more)) kept ∙ ap counted (sym (plain more)) in
    let before : counted (through ++ (own (channels ++ []) ++ [])) ≡ counted (asks_on channels subs n) = ap counted (plain (channels ++ [])) ∙ ap (λ rows. counted (through ++ own rows)) (append-nil channels) in
    demand_changed channel.real n (counted_with (channel_ask channel)) old new (counted (asks_on channels subs n)) (counted (asks_on more subs n)) changes (demand n)
    (λ here. sym (after ∙ counted_more channel_ask (is_on n) through [] channels channel [] here ∙ ap (counted_with (channel_ask channel)) before))
    (λ other. sym (after ∙ ap counted (asks_beside channel_ask (is_on n) through [] channels channel [] other) ∙ before))

-- a channel less, to which there is no subscription
pub demand_less_channel : (channels left : List Channel) (subs : List ClientSub) (k : Key) (channel : Channel) (old new : List (List ℕ × Counts))
    → Between channel_key k channels channel → left ≡ filter (is_not_channel k.owner k.id) channels → list_any (is_sub_on k.owner k.id) subs ≡ false
    → ChangesDemand channel.real (counted_without (channel_ask channel)) old new → IsDemand channels subs old → IsDemand left subs new
demand_less_channel channels left subs k channel old new b is bare changes demand n =
    let stays : (sub : ClientSub) → not (is_sub_on k.owner k.id sub) ≡ true → (row : Channel) → is_channel sub.session sub.sid row ≡ true → is_not_channel k.owner k.id row ≡ true = λ sub h row e. ap not (ids_agree sub.session sub.sid k.owner k.id row e) ∙ h in
    let kept = asks_kept channels left subs n (λ sub. not (is_sub_on k.owner k.id sub)) (λ sub other. ap (find (is_channel sub.session sub.sid)) is ∙ find_among (is_channel sub.session sub.sid) (is_not_channel k.owner k.id) (stays sub other) channels) (none_is_all (is_sub_on k.owner k.id) subs bare) in
    let through = map (sub_ask channels) (filter (is_to channels n) subs) in
    let own : List Channel → List (Option Ask) = λ rows. map channel_ask (filter (is_on n) rows) in
    let plain : (rows : List Channel) → counted (through ++ (own rows ++ [])) ≡ counted (through ++ own rows) = λ rows. ap (λ asks. counted (through ++ asks)) (append-nil (own rows)) in
    let after : counted (asks_on left subs n) ≡ counted (through ++ (own (b.before ++ b.behind) ++ [])) = ap (λ asks. counted (asks ++ own left)) kept ∙ ap (λ rows. counted (through ++ own rows)) (is ∙ b.others) ∙ sym (plain (b.before ++ b.behind)) in
    let before : counted (asks_on channels subs n) ≡ counted (through ++ (own (b.before ++ channel ∷ b.behind) ++ [])) = ap (λ rows. counted (through ++ own rows)) b.all ∙ sym (plain (b.before ++ channel ∷ b.behind)) in
    demand_changed channel.real n (counted_without (channel_ask channel)) old new (counted (asks_on channels subs n)) (counted (asks_on left subs n)) changes (demand n)
    (λ here. ap (counted_without (channel_ask channel)) before ∙ counted_less channel_ask (is_on n) through [] b.before channel b.behind here ∙ sym after)
    (λ other. before ∙ ap counted (asks_beside channel_ask (is_on n) through [] b.before channel b.behind other) ∙ sym after)

-- ---- a channel with another reach and other rights

changed_is_found : {A : Type 0} (p : A → Bool) (f : A → A) → ((x : A) → p (f x) ≡ p x) → (xs : List A) (x : A) → find p xs ≡ Some x → find p (change_first p f xs) ≡ Some (f x)
changed_is_found p f keeps [] x found = cc
changed_is_found p f keeps (y ∷ ys) x found =
    elim (p y) as (λ t. p y ≡ t → cond t (Some y) (find p ys) ≡ Some x → find p (cond t (f y ∷ ys) (y ∷ change_first p f ys)) ≡ Some (f x)) [
      | true ↦ λ here h. let is : y ≡ x = cc in rw (keeps y) rw here (ap (λ r. Some (f r)) is)
      | false ↦ λ other h. rw other (changed_is_found p f keeps ys x h)
    ] refl found

others_are_found : {A : Type 0} (p q : A → Bool) (f : A → A) → ((x : A) → p x ≡ true → q x ≡ false) → ((x : A) → q (f x) ≡ q x) → (xs : List A) → find q (change_first p f xs) ≡ find q xs
others_are_found p q f apart keeps [] = refl
others_are_found p q f apart keeps (x ∷ xs) =
    elim (p x) as (λ t. p x ≡ t → find q (cond t (f x ∷ xs) (x ∷ change_first p f xs)) ≡ find q (x ∷ xs)) [
      | true ↦ λ here. rw (keeps x) rw (apart x here) refl
      | false ↦ λ _. elim (q x) as (λ t. cond t (Some x) (find q (change_first p f xs)) ≡ cond t (Some x) (find q xs)) [ true ↦ refl | false ↦ others_are_found p q f apart keeps xs ]
    ] refl

-- a channel that passes for a pair of IDs has these
ids_of_row : {B : Type 0} (w : ℕ → ℕ → B) (session sid : ℕ) (channel : Channel) → is_channel session sid channel ≡ true → w channel.session channel.sid ≡ w session sid
ids_of_row {B = B} w session sid channel e =
    elim (channel.session == session) as (λ t. channel.session == session ≡ t → (t && channel.sid == sid) ≡ true → w channel.session channel.sid ≡ w session sid) [
      | true ↦ λ first second. let x = eqb-true channel.session session first in let y = eqb-true channel.sid sid second in (λ i. w (x i) (y i))
      | false ↦ λ _ h. absurd (true≢false (sym h))
    ] refl e

same_where_alike : (before after : Bool) (sub : ClientSub) → differs before after ≡ false → ask_of_sub before sub ≡ ask_of_sub after sub
same_where_alike true true sub e = refl
same_where_alike true false sub e = cc
same_where_alike false true sub e = cc
same_where_alike false false sub e = refl

module _ (channels : List Channel) (subs : List ClientSub) (k : Key) (channel : Channel) (reach : Reach) (rights : ℕ)
    (found : find (is_channel k.owner k.id) channels ≡ Some channel) where
  abbrev pub with_change : List Channel
  with_change = change_first (is_channel k.owner k.id) (with_reach_and_rights reach rights) channels

  -- subscriptions on the channel ask for it by its rights
  on_before : (sub : ClientSub) → is_sub_on k.owner k.id sub ≡ true → sub_ask channels sub ≡ ask_of_sub (may_read channel.rights_told) sub
  on_before sub on = ap (λ o. ask_of_sub (reads_over o) sub) (on_ids (λ a b. find (is_channel a b) channels) k.owner k.id sub.session sub.sid on ∙ found)

  on_after : (sub : ClientSub) → is_sub_on k.owner k.id sub ≡ true → sub_ask with_change sub ≡ ask_of_sub (may_read rights) sub
  on_after sub on =
      ap (λ o. ask_of_sub (reads_over o) sub)
      (on_ids (λ a b. find (is_channel a b) with_change) k.owner k.id sub.session sub.sid on ∙ changed_is_found (is_channel k.owner k.id) (with_reach_and_rights reach rights) (λ row. refl) channels channel found)

  -- others ask as before
  other_ids : (sub : ClientSub) → is_sub_on k.owner k.id sub ≡ false → (row : Channel) → is_channel k.owner k.id row ≡ true → is_channel sub.session sub.sid row ≡ false
  other_ids sub other row here =
      elim (is_channel sub.session sub.sid row) as (λ t. is_channel sub.session sub.sid row ≡ t → t ≡ false)
      [ true ↦ λ e. absurd (true≢false (sym here ∙ ids_agree sub.session sub.sid k.owner k.id row e ∙ other)) | false ↦ λ _. refl ] refl

  beside : (sub : ClientSub) → is_sub_on k.owner k.id sub ≡ false → sub_ask channels sub ≡ sub_ask with_change sub
  beside sub other =
      ap (λ o. ask_of_sub (reads_over o) sub) (sym (others_are_found (is_channel k.owner k.id) (is_channel sub.session sub.sid) (with_reach_and_rights reach rights) (other_ids sub other) (λ row. refl) channels))

  same_to : (n : List ℕ) (sub : ClientSub) → is_to channels n sub ≡ is_to with_change n sub
  same_to n sub = sym (found_changed (is_channel k.owner k.id) (with_reach_and_rights reach rights) (is_channel sub.session sub.sid) (is_channel_on n) (λ row. refl) (λ row. refl) channels)

  filter_same : {A : Type 0} (p q : A → Bool) → ((x : A) → p x ≡ q x) → (xs : List A) → filter p xs ≡ filter q xs
  filter_same p q same [] = refl
  filter_same p q same (x ∷ xs) = let rest = filter_same p q same xs in (λ i. cond (same x i) (x ∷ rest i) (rest i))

  abbrev pub through : List Channel → List ℕ → List (Option Ask)
  through rows n = map (sub_ask rows) (filter (is_to channels n) subs)

  abbrev pub own : List ℕ → List Channel → List (Option Ask)
  own n rows = map channel_ask (filter (is_on n) rows)

  to_change : (n : List ℕ) → counted (asks_on with_change subs n) ≡ counted (through with_change n ++ own n with_change)
  to_change n = ap (λ rows. counted (map (sub_ask with_change) rows ++ own n with_change)) (sym (filter_same (is_to channels n) (is_to with_change n) (same_to n) subs))

  -- what subscriptions to the channel's name ask for
  subs_change : (n : List ℕ) → rights_exchanged (may_read channel.rights_told) (may_read rights) k.owner k.id (filter (is_to channels n) subs) (counted (asks_on channels subs n)) ≡ counted (through with_change n ++ own n channels)
  subs_change n =
      elim (differs (may_read channel.rights_told) (may_read rights)) as (λ t. differs (may_read channel.rights_told) (may_read rights) ≡ t → cond t (all_exchanged (may_read channel.rights_told) (may_read rights) k.owner k.id (filter (is_to channels n) subs) (counted (asks_on channels subs n))) (counted (asks_on channels subs n)) ≡ counted (through with_change n ++ own n channels)) [
        | true ↦ λ _. subs_exchanged (sub_ask channels) (sub_ask with_change) (may_read channel.rights_told) (may_read rights) k.owner k.id (λ sub on. (on_before sub on, on_after sub on)) [] (filter (is_to channels n) subs) (own n channels) beside
        | false ↦ λ alike. ap (λ asks. counted (asks ++ own n channels)) (asks_agree (sub_ask channels) (sub_ask with_change) (is_to channels n) subs (λ sub _. agree alike sub))
      ] refl
    where
      agree : differs (may_read channel.rights_told) (may_read rights) ≡ false → (sub : ClientSub) → sub_ask channels sub ≡ sub_ask with_change sub
      agree alike sub =
          elim (is_sub_on k.owner k.id sub) as (λ t. is_sub_on k.owner k.id sub ≡ t → sub_ask channels sub ≡ sub_ask with_change sub) [
            | true ↦ λ on. on_before sub on ∙ same_where_alike (may_read channel.rights_told) (may_read rights) sub alike ∙ sym (on_after sub on)
            | false ↦ λ other. beside sub other
          ] refl

  -- those to other names ask as before
  elsewhere : (n : List ℕ) → bytes_eq channel.real n ≡ false → through channels n ≡ through with_change n
  elsewhere n other = asks_agree (sub_ask channels) (sub_ask with_change) (is_to channels n) subs (λ sub to. by sub to)
    where
      by : (sub : ClientSub) → is_to channels n sub ≡ true → sub_ask channels sub ≡ sub_ask with_change sub
      by sub to =
          elim (is_sub_on k.owner k.id sub) as (λ t. is_sub_on k.owner k.id sub ≡ t → sub_ask channels sub ≡ sub_ask with_change sub) [
            | true ↦ λ on. absurd (true≢false (sym to ∙ ap (is_channel_on n) (on_ids (λ a b. find (is_channel a b) channels) k.owner k.id sub.session sub.sid on ∙ found) ∙ other))
            | false ↦ λ aside. beside sub aside
          ] refl

  -- the channel among the others, and changed among them
  module _ (b : Between channel_key k channels channel) where
    plain : (some : List (Option Ask)) (n : List ℕ) (rows : List Channel) → counted (some ++ (own n rows ++ [])) ≡ counted (some ++ own n rows)
    plain some n rows = ap (λ asks. counted (some ++ asks)) (append-nil (own n rows))

    own_change : (n : List ℕ) → bytes_eq channel.real n ≡ true → exchanged (channel_ask channel) (ask_of_reach reach rights) (counted (through with_change n ++ own n channels)) ≡ counted (through with_change n ++ own n with_change)
    own_change n here =
        ap (exchanged (channel_ask channel) (ask_of_reach reach rights)) (ap (λ rows. counted (through with_change n ++ own n rows)) b.all ∙ sym (plain (through with_change n) n (b.before ++ channel ∷ b.behind)))
        ∙ counted_changed channel_ask (is_on n) (through with_change n) [] b.before channel (with_reach_and_rights reach rights channel) b.behind here here
        ∙ plain (through with_change n) n (b.before ++ with_reach_and_rights reach rights channel ∷ b.behind)
        ∙ ap (λ rows. counted (through with_change n ++ own n rows)) (sym (b.changed (with_reach_and_rights reach rights)))

    own_elsewhere : (n : List ℕ) → bytes_eq channel.real n ≡ false → own n channels ≡ own n with_change
    own_elsewhere n other =
        ap (own n) b.all ∙ sym (append-nil (own n (b.before ++ channel ∷ b.behind)))
        ∙ asks_beside channel_ask (is_on n) [] [] b.before channel b.behind other
        ∙ sym (asks_beside channel_ask (is_on n) [] [] b.before (with_reach_and_rights reach rights channel) b.behind other)
        ∙ append-nil (own n (b.before ++ with_reach_and_rights reach rights channel ∷ b.behind))
        ∙ ap (own n) (sym (b.changed (with_reach_and_rights reach rights)))

    -- a channel that is found, with another reach and other rights
    pub demand_put_on : (rows : List ClientSub) (after : List Channel) (old new : List (List ℕ × Counts)) → rows ≡ filter (is_to channels channel.real) subs → after ≡ with_change
        → ChangesDemand channel.real (recounted channel reach rights rows) old new → IsDemand channels subs old → IsDemand after subs new
    demand_put_on rows after old new listed is changes demand n =
        demand_changed channel.real n (recounted channel reach rights rows) old new (counted (asks_on channels subs n)) (counted (asks_on with_change subs n)) changes (demand n)
        (λ here.
        ap (λ r. recounted channel reach rights r (counted (asks_on channels subs n))) (listed ∙ ap (λ name. filter (is_to channels name) subs) (same_bytes channel.real n here))
        ∙ ap (exchanged (channel_ask channel) (ask_of_reach reach rights)) (by_key n ∙ subs_change n)
        ∙ own_change n here ∙ sym (to_change n))
        (λ other. (let subs_same = elsewhere n other in let own_same = own_elsewhere n other in (λ i. counted (subs_same i ++ own_same i))) ∙ sym (to_change n))
        ∙ ap (λ (cs : List Channel). counted (asks_on cs subs n)) (sym is)
      where
        own_ids : is_channel k.owner k.id channel ≡ true
        own_ids = found_passes (is_channel k.owner k.id) channels channel found

        by_key : (n : List ℕ) → rights_exchanged (may_read channel.rights_told) (may_read rights) channel.session channel.sid (filter (is_to channels n) subs) (counted (asks_on channels subs n)) ≡ rights_exchanged (may_read channel.rights_told) (may_read rights) k.owner k.id (filter (is_to channels n) subs) (counted (asks_on channels subs n))
        by_key n = ids_of_row (λ session sid. rights_exchanged (may_read channel.rights_told) (may_read rights) session sid (filter (is_to channels n) subs) (counted (asks_on channels subs n))) k.owner k.id channel own_ids

-- of all subscriptions those to the channel's name are the ones that count
recounted_among : (channels : List Channel) (subs : List ClientSub) (k : Key) (channel : Channel) (reach : Reach) (rights : ℕ) → find (is_channel k.owner k.id) channels ≡ Some channel → (counts : Counts)
    → recounted channel reach rights subs counts ≡ recounted channel reach rights (filter (is_to channels channel.real) subs) counts
recounted_among channels subs k channel reach rights found counts =
    ap (λ c. exchanged (channel_ask channel) (ask_of_reach reach rights) (cond (differs (may_read channel.rights_told) (may_read rights)) c counts))
    (sym (exchanged_among (may_read channel.rights_told) (may_read rights) channel.session channel.sid (is_to channels channel.real) leads subs counts))
  where
    stands : find (is_channel channel.session channel.sid) channels ≡ Some channel
    stands = ids_of_row (λ session sid. find (is_channel session sid) channels) k.owner k.id channel (found_passes (is_channel k.owner k.id) channels channel found) ∙ found

    leads : (sub : ClientSub) → is_sub_on channel.session channel.sid sub ≡ true → is_to channels channel.real sub ≡ true
    leads sub on =
        ap (is_channel_on channel.real) (on_ids (λ a b. find (is_channel a b) channels) channel.session channel.sid sub.session sub.sid on ∙ stands) ∙ nat_list_eq_equiv.refl channel.real

-- a channel with another reach and other rights, where it stands
pub demand_put : (channels after : List Channel) (subs : List ClientSub) (k : Key) (reach : Reach) (rights : ℕ) (old new : List (List ℕ × Counts)) → IsApart channel_key channels
    → after ≡ change_first (is_channel k.owner k.id) (with_reach_and_rights reach rights) channels → IsRecounted (find (is_channel k.owner k.id) channels) reach rights subs old new → IsDemand channels subs old → IsDemand after subs new
demand_put channels after subs k reach rights old new apart is changes demand =
    elim (find (is_channel k.owner k.id) channels) as (λ o. find (is_channel k.owner k.id) channels ≡ o → IsRecounted o reach rights subs old new → IsDemand after subs new) [
      | None ↦ λ none same. demand_same_channels channels after subs old new (is ∙ change_first_unfound (is_channel k.owner k.id) (with_reach_and_rights reach rights) channels none) same demand
      | Some channel ↦ λ found by_channel.
          demand_put_on channels subs k channel reach rights found (between channel_key k channels channel apart found) (filter (is_to channels channel.real) subs) after old new refl is
          (λ n. by_channel n ∙ ap (λ c. cond (bytes_eq channel.real n) c (demand_of old n)) (recounted_among channels subs k channel reach rights found (demand_of old n))) demand
    ] refl changes

-- a channel removed, where it stands
pub demand_removed : (channels left : List Channel) (subs : List ClientSub) (k : Key) (old new : List (List ℕ × Counts)) → IsApart channel_key channels → left ≡ filter (is_not_channel k.owner k.id) channels
    → list_any (is_sub_on k.owner k.id) subs ≡ false → IsUncounted (find (is_channel k.owner k.id) channels) old new → IsDemand channels subs old → IsDemand left subs new
demand_removed channels left subs k old new apart is bare uncounted demand =
    elim (find (is_channel k.owner k.id) channels) as (λ o. find (is_channel k.owner k.id) channels ≡ o → IsUncounted o old new → IsDemand left subs new) [
      | None ↦ λ none same. demand_same_channels channels left subs old new (is ∙ none_dropped (is_channel k.owner k.id) channels (unfound_is_absent (is_channel k.owner k.id) channels none)) same demand
      | Some channel ↦ λ found by_channel. demand_less_channel channels left subs k channel old new (between channel_key k channels channel apart found) is bare by_channel demand
    ] refl uncounted
