-- What the readers of a variable ask for, by the rights that their clients were last told.
use Rattle.std.proofs.Common.{◌≡◌, ℕ, ◌==◌, ◌∙◌, true≢false, if◌then◌else◌, List, [], ◌∷◌, ◌++◌, Bool, true, false, cond, ◌&&◌, ◌||◌, Option, Some, None, refl, sym, ap}
use Rattle.std.specs.Prelude.{IfSome, filter, map, nat_lt}
use Rattle.std.specs.List.{All, find, list_any}
use Rattle.std.proofs.lemmas.Bool.{eqb-true}
use Rattle.std.proofs.lemmas.List.{map-append}
use Rattle.std.proofs.lemmas.List.Elements.{All-head, All-tail}
use Rattle.dbr_layout.specs.Needs.{is_state_by}
use Rattle.named_rows.specs.declared.channels.Channel.{Channel}
use Rattle.named_rows.specs.declared.subs.ClientSub.{ClientSub}
use Rattle.named_rows.specs.Channels.{is_channel, is_channel_on, is_on}
use Rattle.named_rows.specs.Indexes.{is_to}
use Rattle.named_rows.specs.Demand.{ask_of_sub, asks_on, channel_ask, own_ask, props_on, reach_ask, reads_over, sub_ask, want_on}
use Rattle.link_table.specs.declared.links.Subject.TheVariants.{Values}
use Rattle.mask_merge.specs.declared.want.Ask.{Ask}
use Rattle.mask_merge.specs.Counts.{asks_in, asks_props}
use Rattle.gateway_state.specs.Gateway.{Gateway}
use Rattle.gateway_state.specs.Interest.{ask_props, interest_of, is_read_through, is_reader, is_subscriber, reader_ask, readers, wanted_by}
use Rattle.gateway_state.specs.Rights.{channel_of, may_read, rights_of}
use Rattle.gateway_state.specs.Told.{KnowRights, KnowsRights}
use Rattle.gateway_state.proofs.ToldRights.{found_told}
use Rattle.gateway_rows.specs.ToldReaders.{is_told_reader, is_told_subscriber, is_told_through}
use Rattle.gateway_state.specs.Updates.{is_sub_to}

-- rows that pass two tests
pub passing_both : {A : Type 0} (test wider : A → Bool) (rows : List A) → filter (λ row. wider row && test row) rows ≡ filter test (filter wider rows)
passing_both test wider [] = refl
passing_both {A = A} test wider (row ∷ rows) =
    let rest = passing_both test wider rows in
    elim (wider row) as (λ t. cond (t && test row) (row ∷ filter (λ x. wider x && test x) rows) (filter (λ x. wider x && test x) rows) ≡ filter test (cond t (row ∷ filter wider rows) (filter wider rows))) [
      | true ↦ ap (λ (left : List A). cond (test row) (row ∷ left) left) rest
      | false ↦ rest
    ]

-- ---- where clients know their rights, those that they were told of say who reads

told_through : (w : Gateway) (name : List ℕ) (session sid : ℕ) (found : Option Channel) → KnowRights w → channel_of w session sid ≡ found
    → is_read_through w name found ≡ is_told_through name found
told_through w name session sid None told is = refl
told_through w name session sid (Some c) told is = ap (λ (rights : ℕ). is_on name c && may_read rights) (sym (found_told w session sid c told is))

subscribers_as_told : (w : Gateway) (name : List ℕ) (subs : List ClientSub) → KnowRights w → filter (is_subscriber w name) subs ≡ filter (is_told_subscriber w name) subs
subscribers_as_told w name [] told = refl
subscribers_as_told w name (sub ∷ subs) told =
    let first = told_through w name sub.session sub.sid (channel_of w sub.session sub.sid) told refl in
    let rest = subscribers_as_told w name subs told in
    λ i. cond (first i) (sub ∷ rest i) (rest i)

channels_as_told : (w : Gateway) (name : List ℕ) (channels : List Channel) → All (KnowsRights w) channels → filter (is_reader w name) channels ≡ filter (is_told_reader name) channels
channels_as_told w name [] told = refl
channels_as_told w name (c ∷ channels) told =
    let first : c.rights_told ≡ rights_of w c = All-head (KnowsRights w) c channels told in
    let rest = channels_as_told w name channels (All-tail (KnowsRights w) c channels told) in
    λ i. cond (is_on name c && nat_lt 0 c.reach.count && may_read (sym first i)) (c ∷ rest i) (rest i)

readers_as_told : (w : Gateway) (name : List ℕ) → KnowRights w
    → readers w name ≡ map own_ask (filter (is_told_subscriber w name) w.clients.subs) ++ map reader_ask (filter (is_told_reader name) w.clients.channels)
readers_as_told w name told =
    let subs = subscribers_as_told w name w.clients.subs told in
    let channels = channels_as_told w name w.clients.channels told in
    λ i. map own_ask (subs i) ++ map reader_ask (channels i)

-- ---- what the table of clients counts is what they ask for

asks_apart : (xs ys : List (Option Ask)) → asks_in (xs ++ ys) ≡ asks_in xs ++ asks_in ys
asks_apart [] ys = refl
asks_apart (None ∷ xs) ys = asks_apart xs ys
asks_apart (Some ask ∷ xs) ys = ap (λ (rest : List Ask). ask ∷ rest) (asks_apart xs ys)

mapped : {A B : Type 0} (f : A → B) (t : Bool) (x : A) (xs : List A) → map f (cond t (x ∷ xs) xs) ≡ cond t (f x ∷ map f xs) (map f xs)
mapped f true x xs = refl
mapped f false x xs = refl

sub_counted : (name : List ℕ) (sub : ClientSub) (found : Option Channel) (counted : List (Option Ask)) (asks : List Ask) → asks_in counted ≡ asks
    → asks_in (cond (is_channel_on name found) (ask_of_sub (reads_over found) sub ∷ counted) counted) ≡ cond (is_told_through name found) (own_ask sub ∷ asks) asks
sub_counted name sub None counted asks rest = rest
sub_counted name sub (Some c) counted asks rest =
    elim (is_on name c) as (λ t. asks_in (cond t (ask_of_sub (may_read c.rights_told) sub ∷ counted) counted) ≡ cond (t && may_read c.rights_told) (own_ask sub ∷ asks) asks) [
      | true ↦
          elim (may_read c.rights_told) as (λ t. asks_in (ask_of_sub t sub ∷ counted) ≡ cond t (own_ask sub ∷ asks) asks)
          [ true ↦ ap (λ (left : List Ask). own_ask sub ∷ left) rest | false ↦ rest ]
      | false ↦ rest
    ]

subs_counted : (name : List ℕ) (w : Gateway) (subs : List ClientSub)
    → asks_in (map (sub_ask w.clients.channels) (filter (is_to w.clients.channels name) subs)) ≡ map own_ask (filter (is_told_subscriber w name) subs)
subs_counted name w [] = refl
subs_counted name w (sub ∷ subs) =
    let found = find (is_channel sub.session sub.sid) w.clients.channels in
    let counted = map (sub_ask w.clients.channels) (filter (is_to w.clients.channels name) subs) in
    let asks = map own_ask (filter (is_told_subscriber w name) subs) in
    ap asks_in (mapped (sub_ask w.clients.channels) (is_channel_on name found) sub (filter (is_to w.clients.channels name) subs))
    ∙ sub_counted name sub found counted asks (subs_counted name w subs)
    ∙ sym (mapped own_ask (is_told_through name found) sub (filter (is_told_subscriber w name) subs))

channel_counted : (c : Channel) (counted : List (Option Ask)) (asks : List Ask) → asks_in counted ≡ asks
    → asks_in (channel_ask c ∷ counted) ≡ cond (nat_lt 0 c.reach.count && may_read c.rights_told) (reader_ask c ∷ asks) asks
channel_counted c counted asks rest =
    elim (nat_lt 0 c.reach.count && may_read c.rights_told)
    as (λ t. asks_in ((if t then Some (reach_ask c.reach) else None) ∷ counted) ≡ cond t (reader_ask c ∷ asks) asks)
    [ true ↦ ap (λ (left : List Ask). reader_ask c ∷ left) rest | false ↦ rest ]

channels_counted : (name : List ℕ) (channels : List Channel) → asks_in (map channel_ask (filter (is_on name) channels)) ≡ map reader_ask (filter (is_told_reader name) channels)
channels_counted name [] = refl
channels_counted name (c ∷ channels) =
    elim (is_on name c) as (λ t. asks_in (map channel_ask (cond t (c ∷ filter (is_on name) channels) (filter (is_on name) channels)))
    ≡ map reader_ask (cond (t && nat_lt 0 c.reach.count && may_read c.rights_told) (c ∷ filter (is_told_reader name) channels) (filter (is_told_reader name) channels))) [
      | true ↦
          channel_counted c (map channel_ask (filter (is_on name) channels)) (map reader_ask (filter (is_told_reader name) channels)) (channels_counted name channels)
          ∙ sym (mapped reader_ask (nat_lt 0 c.reach.count && may_read c.rights_told) c (filter (is_told_reader name) channels))
      | false ↦ channels_counted name channels
    ]

-- what is counted of a variable is what its readers ask for
readers_as_counted : (w : Gateway) (name : List ℕ) → KnowRights w → asks_in (asks_on w.clients.channels w.clients.subs name) ≡ readers w name
readers_as_counted w name told =
    let subs = subs_counted name w w.clients.subs in
    let channels = channels_counted name w.clients.channels in
    asks_apart (map (sub_ask w.clients.channels) (filter (is_to w.clients.channels name) w.clients.subs)) (map channel_ask (filter (is_on name) w.clients.channels))
    ∙ (λ i. subs i ++ channels i) ∙ sym (readers_as_told w name told)

-- what those need who are counted is what those need who ask
needed_by_asks : (states : Bool) (counted : List (Option Ask)) → list_any (asks_props states) counted ≡ list_any (λ ask. asks_props states (Some ask)) (asks_in counted)
needed_by_asks states [] = refl
needed_by_asks states (None ∷ counted) = needed_by_asks states counted
needed_by_asks states (Some ask ∷ counted) = ap (λ t. asks_props states (Some ask) || t) (needed_by_asks states counted)

pub properties_as_counted : (w : Gateway) (name : List ℕ) (dtype : ℕ) → KnowRights w → props_on w.clients.channels w.clients.subs (is_state_by dtype) name ≡ ask_props dtype (readers w name)
properties_as_counted w name dtype told =
    needed_by_asks (is_state_by dtype) (asks_on w.clients.channels w.clients.subs name) ∙ ap (ask_props dtype) (readers_as_counted w name told)

pub interest_as_counted : (w : Gateway) (name : List ℕ) (native : ℕ) → KnowRights w → want_on w.clients.channels w.clients.subs native name ≡ interest_of w name native
interest_as_counted w name native told = ap (wanted_by Values 0 native) (readers_as_counted w name told)

-- a channel that is found is one of those that stand
pub found_if_told : (w : Gateway) (session sid : ℕ) (found : Option Channel) → KnowRights w → channel_of w session sid ≡ found → IfSome found (KnowsRights w)
found_if_told w session sid None told is = record {}
found_if_told w session sid (Some c) told is = found_told w session sid c told is
