-- The numbers that rows have are those that are listed, and not many more than there are rows.
use Rattle.std.proofs.Common.{◌≡◌, ℕ, ◌*◌, ◌≤◌, List, [], ◌∷◌, length, map, Bool, true, false, ◌&&◌, ◌||◌, ◌==◌, cond, eqb, refl, sym, ap, ◌∙◌, arith}
use Rattle.std.specs.List.{count_by, filter, flat_map, list_any}
use Rattle.std.proofs.lemmas.List.{length-map}
use Rattle.std.proofs.lemmas.List.Sums.{length-filter}
use Rattle.named_rows.specs.declared.channels.Channel.{Channel}
use Rattle.named_rows.specs.Channels.{is_channel, is_channel_of}
use Rattle.link_table.specs.declared.counter.Counter.{Counter}
use Rattle.link_table.specs.declared.counter.Counter.TheVariants.{Sid, Cid, Subscription, Write}
use Rattle.link_table.specs.declared.links.LinkRow.{LinkRow}
use Rattle.link_table.specs.declared.writes.WaitingWrite.{WaitingWrite}
use Rattle.link_table.specs.Links.{is_of}
use Rattle.link_table.specs.Numbers.{cid_of, id_of, sub_ids}
use Rattle.link_table.specs.Writes.{is_write_to}
use Rattle.link_table.proofs.HadLemmas.{cids_counted, had_is_there, subs_counted, writes_counted}
use Rattle.gateway_state.specs.Clients.{sid_of}
use Rattle.gateway_state.specs.Gateway.{Gateway}
use Rattle.plain_rows.specs.Numbers.{is_taken, taken}

sids_taken : (session n : ℕ) (channels : List Channel) → list_any (is_channel session n) channels ≡ list_any (λ m. eqb m n) (map sid_of (filter (is_channel_of session) channels))
sids_taken session n [] = refl
sids_taken session n (c ∷ channels) =
    let rest = sids_taken session n channels in
    elim (c.session == session) as (λ t. ((t && c.sid == n) || list_any (is_channel session n) channels) ≡ list_any (λ m. eqb m n) (map sid_of (cond t (c ∷ filter (is_channel_of session) channels) (filter (is_channel_of session) channels))))
    [ true ↦ ap (λ t. eqb c.sid n || t) rest | false ↦ rest ]

pub taken_is_there : (counter : Counter) (owner : ℕ) (w : Gateway) (n : ℕ) → is_taken counter owner w n ≡ true → list_any (λ m. eqb m n) (taken counter owner w) ≡ true
taken_is_there Sid owner w n had = sym (sids_taken owner n w.clients.channels) ∙ had
taken_is_there Cid owner w n had = had_is_there Cid owner w.upstream n had
taken_is_there Subscription owner w n had = had_is_there Subscription owner w.upstream n had
taken_is_there Write owner w n had = had_is_there Write owner w.upstream n had

pub sids_counted : (session : ℕ) (channels : List Channel) (count : ℕ) → count ≡ count_by (is_channel_of session) channels
    → length (map sid_of (filter (is_channel_of session) channels)) ≤ 2 * count
sids_counted session channels count is =
    let as_many = length-map (filter (is_channel_of session) channels) sid_of in
    let counted = length-filter (is_channel_of session) channels in
    omega (arith, is, as_many, counted)

pub links_counted : (links : List LinkRow) (count : ℕ) → count ≡ length links → length (map cid_of links) ≤ 2 * count
links_counted links count is = cids_counted links count is

pub subs_counted_on : (server : ℕ) (links : List LinkRow) (count : ℕ) → count ≡ count_by (is_of server) links → length (flat_map sub_ids (filter (is_of server) links)) ≤ 2 * count
subs_counted_on server links count is = subs_counted server links count (is ∙ sym (length-filter (is_of server) links))

pub writes_counted_to : (server : ℕ) (writes : List WaitingWrite) (count : ℕ) → count ≡ count_by (is_write_to server) writes → length (map id_of (filter (is_write_to server) writes)) ≤ 2 * count
writes_counted_to server writes count is = writes_counted server writes count (is ∙ sym (length-filter (is_write_to server) writes))
