-- Attachments that were changed.
use Rattle.std.proofs.Common.{◌≡◌, ℕ, ◌≤◌, List, [], ◌∷◌, Bool, true, false, Option, Some, None, length, take, ◌||◌, if◌then◌else◌, refl, sym, ap, ◌∙◌, arith}
use Rattle.std.specs.Option.{option_map}
use Rattle.std.proofs.lemmas.List.{length-take}
use Rattle.rows.specs.Rows.{change_first}
use Rattle.fanout.specs.declared.outbox.Out.{Out}
use Rattle.gateway_state.specs.Connections.{same_dest}
use Rattle.gateway_state.specs.Gateway.{Gateway}
use Rattle.gateway_state.specs.Step.{taken}
use Rattle.gateway_state.specs.declared.event.Dest.{Dest}
use Rattle.gateway_state.specs.declared.event.Event.TheVariants.{Drain}
use Rattle.board_rings.proofs.AttachmentChanges.{rings_changed, rings_with_free, rings_with_pushed, rings_with_received}
use Rattle.board_rings.specs.Attachments.{have_full, is_attached, is_attachment_of, rings_of, with_free, with_full, with_look_in, with_pushed, with_received}
use Rattle.board_rings.specs.Rings.{AttachmentState}
use Rattle.board_rings.specs.declared.inbound.Inbound.{Inbound}
use Rattle.board_rings.specs.Calls.{with_sent}
use Rattle.board_moves.specs.Answers.{KeepsRings}
use Rattle.board_moves.specs.Rounds.{dests_of}

-- a change that keeps an attachment's connection keeps them all
dests_kept : (p : AttachmentState → Bool) (f : AttachmentState → AttachmentState) → ((attachment : AttachmentState) → (f attachment).dest ≡ attachment.dest) → (attachments : List AttachmentState) → dests_of (change_first p f attachments) ≡ dests_of attachments
dests_kept p f keeps [] = refl
dests_kept p f keeps (attachment ∷ attachments) =
    elim (p attachment) as (λ b. dests_of (if b then f attachment ∷ attachments else attachment ∷ change_first p f attachments) ≡ dests_of (attachment ∷ attachments))
    [ true ↦ ap (λ (d : Dest). d ∷ dests_of attachments) (keeps attachment) | false ↦ ap (λ (ds : List Dest). attachment.dest ∷ ds) (dests_kept p f keeps attachments) ]

pub received_dests : (dest : Dest) (item : Inbound) (seen : ℕ) (attachments left : List AttachmentState) → left ≡ change_first (is_attachment_of dest) (with_received item seen) attachments → dests_of left ≡ dests_of attachments
received_dests dest item seen attachments left is = ap dests_of is ∙ dests_kept (is_attachment_of dest) (with_received item seen) (λ attachment. refl) attachments

-- a change that keeps whether too much waits for an attachment keeps whether it does for one
full_kept : (p : AttachmentState → Bool) (f : AttachmentState → AttachmentState) → ((attachment : AttachmentState) → (f attachment).full ≡ attachment.full) → (attachments : List AttachmentState) → have_full (change_first p f attachments) ≡ have_full attachments
full_kept p f keeps [] = refl
full_kept p f keeps (attachment ∷ attachments) =
    elim (p attachment) as (λ b. have_full (if b then f attachment ∷ attachments else attachment ∷ change_first p f attachments) ≡ have_full (attachment ∷ attachments))
    [ true ↦ ap (λ (b : Bool). b || have_full attachments) (keeps attachment) | false ↦ ap (λ (b : Bool). attachment.full || b) (full_kept p f keeps attachments) ]

pub received_full : (dest : Dest) (item : Inbound) (seen : ℕ) (attachments left : List AttachmentState) → left ≡ change_first (is_attachment_of dest) (with_received item seen) attachments → have_full left ≡ have_full attachments
received_full dest item seen attachments left is = ap have_full is ∙ full_kept (is_attachment_of dest) (with_received item seen) (λ attachment. refl) attachments

pub weighed_dests : (dest : Dest) (full : Bool) (attachments left : List AttachmentState) → left ≡ change_first (is_attachment_of dest) (with_full full) attachments → dests_of left ≡ dests_of attachments
weighed_dests dest full attachments left is = ap dests_of is ∙ dests_kept (is_attachment_of dest) (with_full full) (λ attachment. refl) attachments

pub looked_dests : (dest : Dest) (found : ℕ) (attachments left : List AttachmentState) → left ≡ change_first (is_attachment_of dest) (with_free found) attachments → dests_of left ≡ dests_of attachments
looked_dests dest found attachments left is = ap dests_of is ∙ dests_kept (is_attachment_of dest) (with_free found) (λ attachment. refl) attachments

pub pushed_dests : (dest : Dest) (outs : List Out) (attachments left : List AttachmentState) → left ≡ change_first (is_attachment_of dest) (with_pushed outs) attachments → dests_of left ≡ dests_of attachments
pushed_dests dest outs attachments left is = ap dests_of is ∙ dests_kept (is_attachment_of dest) (with_pushed outs) (λ attachment. refl) attachments

-- a ring in that was looked into
pub peeked_dests : (dest : Dest) (attachments left : List AttachmentState) → left ≡ change_first (is_attachment_of dest) with_look_in attachments → dests_of left ≡ dests_of attachments
peeked_dests dest attachments left is = ap dests_of is ∙ dests_kept (is_attachment_of dest) with_look_in (λ attachment. refl) attachments

pub peeked_full : (dest : Dest) (attachments left : List AttachmentState) → left ≡ change_first (is_attachment_of dest) with_look_in attachments → have_full left ≡ have_full attachments
peeked_full dest attachments left is = ap have_full is ∙ full_kept (is_attachment_of dest) with_look_in (λ attachment. refl) attachments

-- where a connection isn't attached none is changed
pub none_changed : (dest : Dest) (f : AttachmentState → AttachmentState) (attachments : List AttachmentState) → is_attached dest attachments ≡ false → change_first (is_attachment_of dest) f attachments ≡ attachments
none_changed dest f [] none = refl
none_changed dest f (attachment ∷ attachments) none =
    elim (is_attachment_of dest attachment) as
    (λ b. (b || is_attached dest attachments) ≡ false → (if b then f attachment ∷ attachments else attachment ∷ change_first (is_attachment_of dest) f attachments) ≡ attachment ∷ attachments)
    [ true ↦ λ h. absurd cc | false ↦ λ h. ap (λ (ls : List AttachmentState). attachment ∷ ls) (none_changed dest f attachments h) ] none

-- places that were found, and messages that were pushed
pub found_and_pushed : (dest : Dest) (found : ℕ) (outs : List Out) (attachments : List AttachmentState)
    → change_first (is_attachment_of dest) (with_pushed outs) (change_first (is_attachment_of dest) (with_free found) attachments) ≡ change_first (is_attachment_of dest) (with_sent found outs) attachments
found_and_pushed dest found outs [] = refl
found_and_pushed dest found outs (attachment ∷ attachments) =
    let P : Bool → Type 0 = λ b. b ≡ is_attachment_of dest attachment → change_first (is_attachment_of dest) (with_pushed outs) (if b then with_free found attachment ∷ attachments else attachment ∷ change_first (is_attachment_of dest) (with_free found) attachments)
    ≡ (if b then with_sent found outs attachment ∷ attachments else attachment ∷ change_first (is_attachment_of dest) (with_sent found outs) attachments) in
    elim (is_attachment_of dest attachment) as P [
      | true ↦ λ e. rw (sym e) refl
      | false ↦ λ e. rw (sym e) (ap (λ (ls : List AttachmentState). attachment ∷ ls) (found_and_pushed dest found outs attachments))
    ] refl

short_if : (b : Bool) (count : ℕ) (outs : List Out) → length (if b then take count outs else []) ≤ count
short_if true count outs = omega (arith, length-take count outs)
short_if false count outs = omega arith

taken_length : (w : Gateway) (dest : Dest) (count : ℕ) → length (taken w (Drain dest count) dest) ≤ count
taken_length w dest count = short_if (same_dest dest dest) count _

-- no more messages are taken than are asked for
pub no_more_taken : (dest : Dest) (count : ℕ) (rows : Option Gateway) (outs : List Out) → Some outs ≡ option_map (λ w. taken w (Drain dest count) dest) rows → length outs ≤ count
no_more_taken dest count None outs is = absurd cc
no_more_taken dest count (Some w) outs is =
    let same : outs ≡ taken w (Drain dest count) dest = cc in
    omega (arith, ap length same, taken_length w dest count)

-- RINGS

pub received_rings : (dest : Dest) (item : Inbound) (seen : ℕ) (attachments left : List AttachmentState) → left ≡ change_first (is_attachment_of dest) (with_received item seen) attachments → KeepsRings attachments left
received_rings dest item seen attachments left is other = rings_with_received dest other attachments left (Some (item, seen)) is (λ none. absurd cc)

pub peeked_rings : (dest : Dest) (attachments left : List AttachmentState) → left ≡ change_first (is_attachment_of dest) with_look_in attachments → KeepsRings attachments left
peeked_rings dest attachments left is other = ap (rings_of other) is ∙ rings_changed dest other with_look_in (λ _. refl) (λ _. refl) attachments

pub looked_rings : (dest : Dest) (found : ℕ) (attachments left : List AttachmentState) → left ≡ change_first (is_attachment_of dest) (with_free found) attachments → KeepsRings attachments left
looked_rings dest found attachments left is other = ap (rings_of other) is ∙ rings_with_free dest other found attachments

pub pushed_rings : (dest : Dest) (outs : List Out) (attachments left : List AttachmentState) → left ≡ change_first (is_attachment_of dest) (with_pushed outs) attachments → KeepsRings attachments left
pushed_rings dest outs attachments left is other = ap (rings_of other) is ∙ rings_with_pushed dest other outs attachments

pub weighed_rings : (dest : Dest) (full : Bool) (attachments left : List AttachmentState) → left ≡ change_first (is_attachment_of dest) (with_full full) attachments → KeepsRings attachments left
weighed_rings dest full attachments left is other = ap (rings_of other) is ∙ rings_changed dest other (with_full full) (λ _. refl) (λ _. refl) attachments

pub rings_stay : (attachments between left : List AttachmentState) → KeepsRings attachments between → KeepsRings between left → KeepsRings attachments left
rings_stay attachments between left a b other = b other ∙ a other
