-- What moves items, as calls of the board answer it.
use Rattle.std.proofs.Common.{◌≡◌, ℕ, ◌<◌, ◌≤◌, List, length, min, true, false, Some, None, Option, is_some, Ok, Err, inl, inr, refl, sym, ap, subst, ◌∙◌, arith}
use Rattle.std.specs.Prelude.{◌↔◌, ◌+◌, ◌^◌, ◌-◌, ◌*◌, ◌/◌, max, nat_le, if◌then◌else◌, Bool, IsNone, IsSome, IsTrue}
use Rattle.std.specs.Option.{option_map}
use Rattle.rows.specs.Rows.{change_first}
use Rattle.fanout.specs.declared.outbox.Out.{Out}
use Rattle.gateway_calls.specs.declared.fault.StepFault.{StepFault}
use Rattle.gateway_calls.specs.declared.fault.StepFault.TheVariants as steps
use Rattle.gateway_state.specs.Asked.{queued, queued_bytes}
use Rattle.gateway_state.specs.Gateway.{Gateway}
use Rattle.gateway_state.specs.Step.{step, taken}
use Rattle.gateway_state.specs.declared.event.Dest.{Dest}
use Rattle.gateway_state.specs.declared.event.Event.TheVariants.{Drain}
use Rattle.board_rings.specs.Attachments.{is_attached, is_attachment_of, attachment_of, with_free, with_look_in, with_pushed, with_received}
use Rattle.board_rings.proofs.AttachmentChanges.{attachment_of_changed}
use Rattle.board_rings.specs.OnTheWay.{bytes_known_to, bytes_on_the_way, bytes_or_none, bytes_to}
use Rattle.board_rings.specs.Rings.{AttachmentState}
use Rattle.board_rings.specs.declared.inbound.Inbound.{Inbound}
use Rattle.board_rings.specs.Calls.{uses_up}
use Rattle.board_rings.specs.History.{item_event}
use Rattle.board_rings.specs.declared.entry.TheConstants.{MOST_SENT}
use Rattle.board_moves.proofs.Changed.{found_and_pushed, none_changed}
use Rattle.board_moves.specs.Answers.{board_of, IsPump, IsSendOut, IsWaiting}
use Rattle.board_moves.specs.Share.{sent_at_once, share}
use Rattle.board_moves.specs.declared.share.TheConstants.{RING_BYTES}
use Rattle.board_rings.specs.Board.{BoardState}
use Rattle.board_moves.specs.declared.fault.BoardFault.TheVariants.{Step}

pub pumped : (dest : Dest) (item : Inbound) (seen : ℕ) (rows after : Option Gateway) (attachments left : List AttachmentState) → IsSome rows → is_attached dest attachments ≡ true
    → after ≡ option_map (λ w. step w (item_event dest item)) rows → left ≡ change_first (is_attachment_of dest) (with_received item seen) attachments
    → uses_up (item_event dest item) rows ≡ Some false
    → IsPump dest (board_of rows attachments) (Ok true) (board_of after left)
pumped dest item seen rows after attachments left stands on more moved fine =
    (item, record { stands = stands; attached = on; in_range = fine; rows = more; seen = seen; attachments = moved })

pub pump_refused : (dest : Dest) (item : Inbound) (seen : ℕ) (rows after : Option Gateway) (attachments left : List AttachmentState) → IsSome rows → is_attached dest attachments ≡ true
    → after ≡ None → left ≡ change_first (is_attachment_of dest) (with_received item seen) attachments
    → IsPump dest (board_of rows attachments) (Err (Step steps.OutOfMemory)) (board_of after left)
pump_refused dest item seen rows after attachments left stands on none moved =
    (item, record { stands = stands; attached = on; rows = none; seen = seen; attachments = moved })

pub pump_used_up : (dest : Dest) (item : Inbound) (seen : ℕ) (rows after : Option Gateway) (attachments left : List AttachmentState) → IsSome rows → is_attached dest attachments ≡ true
    → after ≡ None → left ≡ change_first (is_attachment_of dest) (with_received item seen) attachments
    → uses_up (item_event dest item) rows ≡ Some true
    → IsPump dest (board_of rows attachments) (Err (Step steps.NumbersUsedUp)) (board_of after left)
pump_used_up dest item seen rows after attachments left stands on none moved past =
    (item, (record { stands = stands; attached = on; rows = none; seen = seen; attachments = moved }, past))

-- who isn't attached has no ring
pub pumped_nobody : (dest : Dest) (rows : Option Gateway) (attachments : List AttachmentState) → is_attached dest attachments ≡ false
    → IsPump dest (board_of rows attachments) (Ok false) (board_of rows attachments)
pumped_nobody dest rows attachments none =
    (refl, (sym (none_changed dest with_look_in attachments none), λ on. absurd (let wrong : true ≡ false = sym on ∙ none in cc)))

pub send_refused : (dest : Dest) (found : ℕ) (rows after : Option Gateway) (attachments left : List AttachmentState) → IsSome rows → is_attached dest attachments ≡ true
    → after ≡ None → left ≡ change_first (is_attachment_of dest) (with_free found) attachments
    → IsSendOut dest (board_of rows attachments) (Err (Step steps.OutOfMemory)) (board_of after left)
send_refused dest found rows after attachments left stands on none moved =
    (found, record { stands = stands; attached = on; rows = none; attachments = moved })

pub send_used_up : (dest : Dest) (found asked : ℕ) (rows after : Option Gateway) (attachments left : List AttachmentState) → IsSome rows → is_attached dest attachments ≡ true
    → after ≡ None → left ≡ change_first (is_attachment_of dest) (with_free found) attachments
    → share dest found (board_of rows attachments) ≡ Some asked → uses_up (Drain dest asked) rows ≡ Some true
    → IsSendOut dest (board_of rows attachments) (Err (Step steps.NumbersUsedUp)) (board_of after left)
send_used_up dest found asked rows after attachments left stands on none moved is past =
    (found, (asked, (record { stands = stands; attached = on; rows = none; attachments = moved }, (is, past))))

-- a refusal of either kind; a gateway that has rows hasn't failed
pub send_faults : (dest : Dest) (found asked : ℕ) (fault : StepFault) (rows after : Option Gateway) (attachments left : List AttachmentState) → IsSome rows → is_attached dest attachments ≡ true
    → after ≡ None → left ≡ change_first (is_attachment_of dest) (with_free found) attachments
    → share dest found (board_of rows attachments) ≡ Some asked → (fault ≡ steps.NumbersUsedUp → uses_up (Drain dest asked) rows ≡ Some true) → (fault ≡ steps.Failed → IsNone rows)
    → IsSendOut dest (board_of rows attachments) (Err (Step fault)) (board_of after left)
send_faults dest found asked steps.OutOfMemory rows after attachments left stands on none moved is past failed = send_refused dest found rows after attachments left stands on none moved
send_faults dest found asked steps.NumbersUsedUp rows after attachments left stands on none moved is past failed = send_used_up dest found asked rows after attachments left stands on none moved is (past refl)
send_faults dest found asked steps.Failed rows after attachments left stands on none moved is past failed = absurd (let nothing : rows ≡ None = none_of rows (failed refl) in let wrong : false ≡ true = sym (ap is_some nothing) ∙ stands in cc)
  where
    none_of : (r : Option Gateway) → IsNone r → r ≡ None
    none_of None none = refl
    none_of (Some w) none = absurd cc

-- what is on its way to a connection, once places were looked for
pub way_as_found : (dest : Dest) (found : ℕ) (attachments looked : List AttachmentState) → looked ≡ change_first (is_attachment_of dest) (with_free found) attachments → bytes_known_to dest looked ≡ bytes_to dest found attachments
way_as_found dest found attachments looked is =
    ap (bytes_known_to dest) is
    ∙ ap (λ (o : Option AttachmentState). bytes_or_none (option_map (λ (attachment : AttachmentState). bytes_on_the_way attachment.free attachment) o)) (attachment_of_changed dest (with_free found) (λ attachment. refl) attachments)
    ∙ by (attachment_of dest attachments)
  where
    by : (o : Option AttachmentState) → bytes_or_none (option_map (λ (attachment : AttachmentState). bytes_on_the_way attachment.free attachment) (option_map (with_free found) o)) ≡ bytes_or_none (option_map (bytes_on_the_way found) o)
    by None = refl
    by (Some attachment) = refl

-- the share, by what was found to be on the way
pub share_of_way : (dest : Dest) (found way asked : ℕ) (rows : Option Gateway) (attachments looked : List AttachmentState) → looked ≡ change_first (is_attachment_of dest) (with_free found) attachments → way ≡ bytes_known_to dest looked
    → option_map (λ w. sent_at_once found (queued w dest) (queued_bytes w dest) way) rows ≡ Some asked → share dest found (board_of rows attachments) ≡ Some asked
share_of_way dest found way asked rows attachments looked room on_way is =
    ap (λ (n : ℕ). option_map (λ w. sent_at_once found (queued w dest) (queued_bytes w dest) n) rows) (sym (on_way ∙ way_as_found dest found attachments looked room)) ∙ is

-- so much is on its way that nothing is sent
pub held_back : (dest : Dest) (found asked : ℕ) (rows asked_rows : Option Gateway) (attachments left : List AttachmentState) → IsSome rows → is_attached dest attachments ≡ true → 0 < found
    → asked_rows ≡ rows → left ≡ change_first (is_attachment_of dest) (with_free found) attachments → share dest found (board_of rows attachments) ≡ Some asked → asked ≡ 0
    → IsSendOut dest (board_of rows attachments) (Ok 0) (board_of asked_rows left)
held_back dest found asked rows asked_rows attachments left stands on some_free same looked is none =
    inr (inr (inl (
      refl,
      (
        found,
        record {
          stands = stands;
          attached = on;
          some_free = some_free;
          none_asked = is ∙ ap Some none;
          rows = same;
          attachments = looked;
        },
      ),
    )))

-- at least one, and at most so many
at_most : (most fitting : ℕ) → 0 < most → max 1 (min most fitting) ≤ most
at_most most fitting some = omega (arith, some)

-- no more are asked for than places are free, and than 64
pub no_more_asked : (places waiting bytes way : ℕ) → 0 < places → sent_at_once places waiting bytes way ≤ min MOST_SENT places
no_more_asked places waiting bytes way some = by (nat_le RING_BYTES way) (nat_le bytes (RING_BYTES - way))
  where
    by : (reached fits : Bool) → (if reached then 0 else (if fits then min waiting (min MOST_SENT places) else max 1 (min (min MOST_SENT places) ((RING_BYTES - way) * waiting / bytes)))) ≤ min MOST_SENT places
    by true fits = omega arith
    by false true = omega arith
    by false false = at_most (min MOST_SENT places) ((RING_BYTES - way) * waiting / bytes) (omega (arith, some))

pub share_is_few : (dest : Dest) (places asked : ℕ) (board : BoardState) → 0 < places → share dest places board ≡ Some asked → asked ≤ min MOST_SENT places
share_is_few dest places asked board some is = by board.rows is
  where
    by : (rows : Option Gateway) → option_map (λ w. sent_at_once places (queued w dest) (queued_bytes w dest) (bytes_to dest places board.attachments)) rows ≡ Some asked → asked ≤ min MOST_SENT places
    by None is = absurd cc
    by (Some w) is =
        let same : sent_at_once places (queued w dest) (queued_bytes w dest) (bytes_to dest places board.attachments) ≡ asked = cc in
        subst (λ (k : ℕ). k ≤ min MOST_SENT places) same (no_more_asked places (queued w dest) (queued_bytes w dest) (bytes_to dest places board.attachments) some)

-- a gateway that hasn't failed has rows
pub has_rows : (failed : Bool) (rows : Option Gateway) → (IsTrue failed ↔ IsNone rows) → failed ≡ false → IsSome rows
has_rows failed None answer is = sym is ∙ answer.1 refl
has_rows failed (Some w) answer is = refl

-- only an attached connection has places
pub places_of_attached : (dest : Dest) (found : ℕ) (attachments : List AttachmentState) → (is_attached dest attachments ≡ false → found ≡ 0) → 0 < found → is_attached dest attachments ≡ true
places_of_attached dest found attachments none some = by (is_attached dest attachments) refl
  where
    by : (b : Bool) → is_attached dest attachments ≡ b → is_attached dest attachments ≡ true
    by true is = is
    by false is = absurd (let zero_found = none is in omega arith)

-- a look found no place
pub sent_nothing : (dest : Dest) (found : ℕ) (rows : Option Gateway) (attachments left : List AttachmentState) → IsSome rows → found ≡ 0
    → left ≡ change_first (is_attachment_of dest) (with_free found) attachments → ((attachment : AttachmentState) → attachment_of dest attachments ≡ Some attachment → attachment.free ≤ found)
    → IsSendOut dest (board_of rows attachments) (Ok 0) (board_of rows left)
sent_nothing dest found rows attachments left stands none looked more =
    inr (inl (
      refl,
      record {
        stands = stands;
        none_known = λ attachment there. omega (arith, more attachment there, none);
        rows = refl;
        attachments = looked ∙ ap (λ (n : ℕ). change_first (is_attachment_of dest) (with_free n) attachments) none;
      },
    ))

-- places were found, and messages pushed
pub sent_out : (dest : Dest) (found asked count : ℕ) (outs : List Out) (rows after : Option Gateway) (attachments looked left : List AttachmentState) → IsSome rows
    → is_attached dest attachments ≡ true → 0 < found → 0 < asked → share dest found (board_of rows attachments) ≡ Some asked
    → uses_up (Drain dest asked) rows ≡ Some false
    → Some outs ≡ option_map (λ w. taken w (Drain dest asked) dest) rows
    → after ≡ option_map (λ w. step w (Drain dest asked)) rows
    → looked ≡ change_first (is_attachment_of dest) (with_free found) attachments → left ≡ change_first (is_attachment_of dest) (with_pushed outs) looked → count ≡ length outs
    → IsSendOut dest (board_of rows attachments) (Ok count) (board_of after left)
sent_out dest found asked count outs rows after attachments looked left stands on some_free some_asked is fine took more room pushed counted =
    inr (inr (inr (
      found,
      (
        asked,
        (
          outs,
          (
            counted,
            (
              is,
              record {
                stands = stands;
                attached = on;
                some_free = some_free;
                some_asked = some_asked;
                no_more = share_is_few dest found asked (board_of rows attachments) some_free is;
                in_range = fine;
                taken = took;
                rows = more;
                attachments = pushed ∙ ap (change_first (is_attachment_of dest) (with_pushed outs)) room ∙ found_and_pushed dest found outs attachments;
              },
            ),
          ),
        ),
      ),
    )))

-- what waits, once places were looked for
pub waits_so : (dest : Dest) (places queued_now way bytes : ℕ) (rows asked : Option Gateway) (attachments left : List AttachmentState) → asked ≡ rows → Some queued_now ≡ option_map (λ w. queued_bytes w dest) rows
    → left ≡ change_first (is_attachment_of dest) (with_free places) attachments → way ≡ bytes_known_to dest left → bytes ≡ min (queued_now + way) (2 ^ 64 - 1)
    → IsWaiting dest (board_of rows attachments) (Ok bytes) (board_of asked left)
waits_so dest places queued_now way bytes rows asked attachments left same waits looked on_way is =
    (places, (all rows waits, (same, looked)))
  where
    way_is : way ≡ bytes_to dest places attachments
    way_is = on_way ∙ way_as_found dest places attachments left looked

    all : (r : Option Gateway) → Some queued_now ≡ option_map (λ w. queued_bytes w dest) r → Some bytes ≡ option_map (λ w. min (queued_bytes w dest + bytes_to dest places attachments) (2 ^ 64 - 1)) r
    all None here = absurd cc
    all (Some w) here =
        let queued_is : queued_now ≡ queued_bytes w dest = cc in
        ap Some (is ∙ ap (λ (n : ℕ). min (n + way) (2 ^ 64 - 1)) queued_is ∙ ap (λ (n : ℕ). min (queued_bytes w dest + n) (2 ^ 64 - 1)) way_is)
