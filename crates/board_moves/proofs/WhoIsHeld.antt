-- Connections that are held, and those that aren't.
use Rattle.std.proofs.Common.{◌≡◌, ◌∙◌, ℕ, List, [], ◌∷◌, Bool, true, false, cond, Option, Some, None, Result, Ok, refl, sym, ap, subst, length, arith}
use Rattle.std.specs.Prelude.{◌||◌, nat_lt, unwrap_or}
use Rattle.std.specs.Option.{option_map}
use Rattle.std.proofs.lemmas.Bool.{or_parts}
use Rattle.fanout.specs.declared.outbox.Out.{Out}
use Rattle.fanout.specs.Waiting.{waiting_bytes, Waiting}
use Rattle.gateway_state.specs.Asked.{queued}
use Rattle.gateway_state.specs.Connections.{outbox_of}
use Rattle.gateway_state.specs.Gateway.{Gateway}
use Rattle.gateway_state.specs.declared.event.Dest.{Dest}
use Rattle.gateway_state.specs.declared.event.Dest.TheVariants.{Session, Upstream}
use Rattle.board_rings.specs.Attachments.{attachment_of, full_or_not, have_full, is_attachment_of, is_full, last_sid_of, with_full}
use Rattle.board_rings.specs.Rings.{AttachmentState}
use Rattle.board_moves.specs.Answers.{board_of}
use Rattle.board_moves.specs.Held.{has_too_much, is_full_server, is_held, is_weighed, server_for}
use Rattle.board_moves.specs.Noted.{bare, NotedBoard}
use Rattle.board_moves.specs.Rounds.{PumpsFree, PumpsOne, Weighs}
use Rattle.board_rings.specs.Board.{BoardState}
use Rattle.rows.specs.Rows.{change_first}
use Rattle.board_moves.specs.declared.fault.BoardFault.{BoardFault}
use Rattle.board_moves.specs.declared.share.TheConstants.{HELD_BYTES, HELD_MESSAGES}

-- where too much waits for nobody, it does for no connection
none_full : (dest : Dest) (attachments : List AttachmentState) → have_full attachments ≡ false → is_full dest attachments ≡ false
none_full dest [] none = refl
none_full dest (attachment ∷ attachments) none =
    let parts = or_parts attachment.full (have_full attachments) none in
    elim (is_attachment_of dest attachment) as (λ b. full_or_not (cond b (Some attachment) (attachment_of dest attachments)) ≡ false)
    [ true ↦ parts.0 | false ↦ none_full dest attachments parts.1 ]

pub none_held : (dest : Dest) (rows : Option Gateway) (attachments : List AttachmentState) → have_full attachments ≡ false → is_held dest (board_of rows attachments) ≡ false
none_held (Upstream number) rows attachments none = refl
none_held (Session number) rows attachments none =
    ap (λ (b : Bool). b || is_full_server (server_for rows number (last_sid_of (Session number) attachments)) attachments) (none_full (Session number) attachments none)
    ∙ by (server_for rows number (last_sid_of (Session number) attachments))
  where
    by : (server : Option ℕ) → is_full_server server attachments ≡ false
    by None = refl
    by (Some server) = none_full (Upstream server) attachments none

-- where no message waits no byte does
none_is_short : (messages : List Out) (marked : Bool) → length messages ≡ 0 → waiting_bytes (record { messages = messages; marked = marked }) ≡ 0
none_is_short [] marked none = refl
none_is_short (out ∷ messages) marked none = omega (arith, none)

-- too much doesn't wait for a server for which nothing does
pub none_over : (number : ℕ) (rows : Option Gateway) → Some 0 ≡ option_map (λ w. queued w (Upstream number)) rows → has_too_much (Upstream number) rows ≡ false
none_over number None none = refl
none_over number (Some w) none =
    let box : Waiting = outbox_of (Upstream number) w.connections in
    let empty : length box.messages ≡ 0 = sym (ap (λ (o : Option ℕ). unwrap_or o 1) none) in
    ap (λ (n : ℕ). nat_lt HELD_MESSAGES n || nat_lt HELD_BYTES (waiting_bytes box)) empty
    ∙ ap (λ (n : ℕ). nat_lt HELD_MESSAGES 0 || nat_lt HELD_BYTES n) (none_is_short box.messages box.marked empty)

-- what was noted of a connection that is weighed, and of one that isn't
pub weighed_so : (clients : Bool) (dest : Dest) (old new : BoardState) → is_weighed clients dest ≡ true → new.rows ≡ old.rows
    → new.attachments ≡ change_first (is_attachment_of dest) (with_full (has_too_much dest old.rows)) old.attachments → Weighs (is_weighed clients dest) dest old new
weighed_so clients dest old new is rows attachments = subst (λ (b : Bool). Weighs b dest old new) (sym is) (rows, attachments)

pub not_weighed : (clients : Bool) (dest : Dest) (old new : BoardState) → is_weighed clients dest ≡ false → new ≡ old → Weighs (is_weighed clients dest) dest old new
not_weighed clients dest old new is same = subst (λ (b : Bool). Weighs b dest old new) (sym is) same

pub held_stays : (dest : Dest) (old new : NotedBoard) → is_held dest (bare old) ≡ true → new ≡ old → PumpsFree (is_held dest (bare old)) dest old (Ok 0) new
held_stays dest old new is same = subst (λ (b : Bool). PumpsFree b dest old (Ok 0) new) (sym is) (refl, same)

pub free_pumped : (dest : Dest) (old new : NotedBoard) (answer : Result ℕ BoardFault) → is_held dest (bare old) ≡ false → PumpsOne dest old answer new → PumpsFree (is_held dest (bare old)) dest old answer new
free_pumped dest old new answer is pump = subst (λ (b : Bool). PumpsFree b dest old answer new) (sym is) pump
