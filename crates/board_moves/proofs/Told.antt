-- What moves note in news.
use Rattle.std.proofs.Common.{◌≡◌, ℕ, zero, suc, ◌+◌, ◌-◌, ◌^◌, ◌≤◌, ◌&&◌, ◌||◌, List, Bool, min, true, false, Option, Some, None, Result, Ok, Err, refl, sym, ap, ap₂, subst, ◌∙◌, arith}
use Rattle.std.proofs.Math.Bool.{or-false}
use Rattle.std.specs.Prelude.{◌⊎◌, nat_lt, unwrap_or, IfOk}
use Rattle.std.specs.Option.{option_map}
use Rattle.rows.specs.Rows.{change_first}
use Rattle.gateway_state.specs.Asked.{queued}
use Rattle.gateway_state.specs.Gateway.{Gateway}
use Rattle.gateway_state.specs.declared.event.Dest.{Dest}
use Rattle.board_rings.specs.Attachments.{is_attachment_of, with_received}
use Rattle.board_rings.specs.Rings.{AttachmentState}
use Rattle.board_rings.specs.Board.{BoardState}
use Rattle.board_rings.specs.declared.inbound.Inbound.{Inbound}
use Rattle.board_rings.specs.declared.inbound.Inbound.TheVariants.{Gone}
use Rattle.board_moves.specs.Held.{has_grown}
use Rattle.board_moves.specs.Noted.{counted_if, counted_on, is_message, seat_bit, seat_of, waiting_for, IsAsLeft, IsEnding, IsNoted, SendTells, StayNoted, TellsPump, TellsPushed, TellsSent}
use Rattle.board_moves.specs.declared.fault.BoardFault.{BoardFault}
use Rattle.board_moves.specs.declared.news.News.{News}

-- who was noted first still is
pub noted_through : (old between new : News) → StayNoted old between → StayNoted between new → StayNoted old new
noted_through old between new a b seat was = b seat (a seat was)

-- more messages are counted
pub counted_many : (count more : ℕ) → count ≤ 2 ^ 64 - 1 → min (count + more) (2 ^ 64 - 1) ≡ counted_on count more
counted_many count zero few = omega (arith, few)
counted_many count (suc more) few = refl

-- an end is no message
pub no_message : (item : Inbound) → item ≡ Gone → is_message item ≡ false
no_message item is = ap is_message is

pub pump_told : (dest : Dest) (item : Inbound) (seen : ℕ) (attachments left : List AttachmentState) (rows : Option Gateway) (old between new : News) → left ≡ change_first (is_attachment_of dest) (with_received item seen) attachments
    → (item ≡ Gone → IsNoted dest new) → (IsEnding dest rows → IsNoted dest new) → ((seen ≡ 0) ⊎ (seen ≡ 128) → IsNoted dest between) → StayNoted between new
    → between.traffic.received ≡ counted_if (is_message item) old.traffic.received → between.traffic.sent ≡ old.traffic.sent
    → (between.left ≡ (old.left || nat_lt 0 seen)) × ((between.unsent ≡ old.unsent) × (between.grown ≡ old.grown)) → (new.traffic ≡ between.traffic) × IsAsLeft between new
    → TellsPump dest attachments left rows old new
pump_told dest item seen attachments left rows old between new moved gone ending places kept received sent (seen_left, (unsent, grown)) (same, (as_left, (as_unsent, as_grown))) = record {
  item = item;
  seen = seen;
  moved = moved;
  gone = gone;
  ending = ending;
  places = λ down. kept (seat_of dest) (places down);
  received = ap (λ t. t.received) same ∙ received;
  sent = ap (λ t. t.sent) same ∙ sent;
  left_in = as_left ∙ seen_left;
  unsent = as_unsent ∙ unsent;
  grown = as_grown ∙ grown;
}

pub sent_told : (dest : Dest) (count : ℕ) (old new : News) → IsNoted dest new → new.traffic.sent ≡ counted_on old.traffic.sent count → new.traffic.received ≡ old.traffic.received → IsAsLeft old new
    → TellsPushed dest count old new
sent_told dest count old new noted sent received (left, (unsent, grown)) =
    record { some = λ some. noted; sent = sent; received = received; left_in = left; unsent = unsent; grown = grown }

pub none_sent : (dest : Dest) (news : News) → TellsPushed dest 0 news news
none_sent dest news = record { some = λ some. absurd (omega arith); sent = refl; received = refl; left_in = refl; unsent = refl; grown = refl }

-- where all were sent nothing is left
pub all_sent : (waiting sent : ℕ) (grows : Bool) (news : News) → nat_lt sent waiting ≡ false
    → news ≡ record news { unsent = news.unsent || (nat_lt 0 sent && nat_lt sent waiting); grown = news.grown || (nat_lt sent waiting && grows) }
all_sent waiting sent grows news all =
    ap₂ (λ (unsent grown : Bool). record news { unsent = unsent; grown = grown })
    (sym (ap (λ (b : Bool). news.unsent || b) (ap (λ (b : Bool). nat_lt 0 sent && b) all ∙ none_of (nat_lt 0 sent)) ∙ or-false news.unsent))
    (sym (ap (λ (b : Bool). news.grown || (b && grows)) all ∙ or-false news.grown))
  where
    none_of : (b : Bool) → (b && false) ≡ false
    none_of true = refl
    none_of false = refl

-- of messages that wait some were pushed, and then it was noted what is left
pub told_of_left : (dest : Dest) (waiting : ℕ) (answer : Result ℕ BoardFault) (rows : Option Gateway) (left : BoardState) (old between new : News) → Some waiting ≡ option_map (λ w. queued w dest) rows
    → IfOk answer (λ count. TellsPushed dest count old between)
    → IfOk answer (λ count. new ≡ record between { unsent = between.unsent || (nat_lt 0 count && nat_lt count waiting); grown = between.grown || (nat_lt count waiting && has_grown dest left) })
    → SendTells dest answer rows left old new
told_of_left dest waiting (Ok count) (Some w) left old between new is told noted =
    subst (λ (n : ℕ). TellsSent dest n count left old new) (ap (λ (o : Option ℕ). unwrap_or o 0) is)
    (subst (λ (n : News). TellsSent dest waiting count left old n) (sym noted)
    (record {
      some = told.some;
      sent = told.sent;
      received = told.received;
      left_in = told.left_in;
      unsent = ap (λ (b : Bool). b || (nat_lt 0 count && nat_lt count waiting)) told.unsent;
      grown = ap (λ (b : Bool). b || (nat_lt count waiting && has_grown dest left)) told.grown;
    }))
told_of_left dest waiting (Ok count) None left old between new is told noted = absurd (let wrong : Some waiting ≡ None = is in cc)
told_of_left dest waiting (Err fault) rows left old between new is told noted = tt

-- for whom nothing waits nothing is sent, and nothing left
pub none_waiting : (dest : Dest) (rows : Option Gateway) (left : BoardState) (news : News) → waiting_for dest rows ≡ 0 → SendTells dest (Ok 0) rows left news news
none_waiting dest rows left news none =
    subst (λ (n : ℕ). TellsSent dest n 0 left news news) (sym none)
    (record { some = λ some. absurd (omega arith); sent = refl; received = refl; left_in = refl; unsent = sym (or-false news.unsent); grown = sym (or-false news.grown) })

-- what is noted of messages that are left tells nobody
pub noted_still : (old between new : News) (unsent grown : Bool) → StayNoted old between → new ≡ record between { unsent = unsent; grown = grown } → StayNoted old new
noted_still old between new unsent grown kept is seat was = ap (λ (n : News). seat_bit seat n.words) is ∙ kept seat was
