-- Values that are told are laid out of what is held.
use Rattle.std.proofs.Common.{◌≡◌, ℕ, List, [], ◌∷◌, Bool, true, false, cond, ◌&&◌, Option, Some, None, refl}
use Rattle.std.specs.Prelude.{filter_map}
use Rattle.std.specs.List.{All, cons_option, find}
use Rattle.std.proofs.lemmas.List.Elements.{All-cons, All-nil}
use Rattle.ca_message.specs.declared.codes.TheConstants.{ECA_NORDACCESS}
use Rattle.named_rows.specs.declared.channels.Channel.{Channel}
use Rattle.named_rows.specs.declared.reads.WaitingRead.{WaitingRead}
use Rattle.named_rows.specs.declared.subs.ClientSub.{ClientSub}
use Rattle.value_cache.specs.Held.{answer, covers}
use Rattle.gateway_state.specs.declared.cached.LastMessage.{LastMessage}
use Rattle.gateway_state.specs.declared.notice.ReadNotice.{ReadNotice}
use Rattle.gateway_state.specs.declared.notice.ReadNotice.TheVariants.{Refused, Answered}
use Rattle.gateway_state.specs.declared.notice.UpdateNotice.{UpdateNotice}
use Rattle.gateway_state.specs.declared.reading.Given.{Given}
use Rattle.gateway_state.specs.Answer.{cached_as, cached_value, given_in, meant_count}
use Rattle.gateway_state.specs.CachedRows.{is_cached_of}
use Rattle.gateway_state.specs.Delivered.{IsLaidOut}
use Rattle.gateway_state.specs.Gateway.{Gateway}
use Rattle.gateway_state.specs.Notices.{answered_by, answered_over, notice_on, read_notice, read_notices}
use Rattle.gateway_state.specs.Rights.{channel_of, may_read, rights_of}
use Rattle.gateway_state.specs.Updates.{is_open_to, update_by, update_notice, update_notices, update_on, update_over}
use Rattle.gateway_state.specs.Variables.{ConnectedVariable, connected}

-- of an option's value, where it has one
abbrev OfSome : {A : Type 0} → (A → Type 0) → Option A → Type 0
OfSome Q None = Unit {0}
OfSome Q (Some x) = Q x

each_of : {A B : Type 0} (notice : A → Option B) (Q : B → Type 0) → ((row : A) → OfSome Q (notice row)) → (rows : List A) → All Q (filter_map notice rows)
each_of notice Q holds [] = All-nil Q
each_of {B = B} notice Q holds (row ∷ rows) = by (notice row) (holds row) (each_of notice Q holds rows)
  where
    by : (found : Option B) → OfSome Q found → All Q (filter_map notice rows) → All Q (cons_option found (filter_map notice rows))
    by None first rest = rest
    by (Some told) first rest = All-cons Q told (filter_map notice rows) first rest

-- what is given of what was told last
abbrev IsGiven : ℕ → Given → Type 0
IsGiven dtype given = IsLaidOut dtype given.count given.payload

cached_laid : (native dtype count : ℕ) (row : Option LastMessage) → OfSome (IsGiven dtype) (cached_as native dtype count row)
cached_laid native dtype count None = record {}
cached_laid native dtype count (Some last) = by (covers dtype (meant_count native count) last.held)
  where
    answered : (found : Option (ℕ × List ℕ)) → answer dtype count last.held ≡ found → OfSome (IsGiven dtype) (given_in found)
    answered None is = record {}
    answered (Some (given, payload)) is = (last.held, (count, is))

    by : (covered : Bool) → OfSome (IsGiven dtype) (cond covered (given_in (answer dtype count last.held)) None)
    by true = answered (answer dtype count last.held) refl
    by false = record {}

value_laid : (w : Gateway) (cid native dtype count : ℕ) → OfSome (IsGiven dtype) (cached_value w cid native dtype count)
value_laid w cid native dtype count = cached_laid native dtype count (find (is_cached_of cid) w.cache)

-- READS

-- the value of an answer is
abbrev pub IsAnswer : ReadNotice → Type 0
IsAnswer (Refused read code) = Unit {0}
IsAnswer (Answered read count payload) = IsLaidOut read.dtype count payload

answer_laid : (read : WaitingRead) (given : Option Given) → OfSome (IsGiven read.dtype) given → OfSome IsAnswer (answered_by read given)
answer_laid read None laid = record {}
answer_laid read (Some given) laid = laid

read_laid_over : (w : Gateway) (read : WaitingRead) (over : Option ConnectedVariable) → OfSome IsAnswer (answered_over w read over)
read_laid_over w read None = record {}
read_laid_over w read (Some v) =
    answer_laid read (cached_value w v.link.cid v.native.count read.dtype read.count) (value_laid w v.link.cid v.native.count read.dtype read.count)

read_laid_on : (w : Gateway) (read : WaitingRead) (found : Option Channel) → OfSome IsAnswer (notice_on w read found)
read_laid_on w read None = record {}
read_laid_on w read (Some c) = by (may_read (rights_of w c))
  where
    by : (may : Bool) → OfSome IsAnswer (cond may (answered_over w read (connected w c.real)) (Some (Refused read ECA_NORDACCESS)))
    by true = read_laid_over w read (connected w c.real)
    by false = record {}

pub reads_laid : (w : Gateway) → All IsAnswer (read_notices w)
reads_laid w = each_of (read_notice w) IsAnswer (λ read. read_laid_on w read (channel_of w read.session read.sid)) w.clients.reads

-- UPDATES

-- so is the value of an update
abbrev pub IsUpdate : UpdateNotice → Type 0
IsUpdate notice = IsLaidOut notice.dtype notice.count notice.payload

update_laid : (sub : ClientSub) (given : Option Given) → OfSome (IsGiven sub.dtype) given → OfSome IsUpdate (update_by sub given)
update_laid sub None laid = record {}
update_laid sub (Some given) laid = laid

update_laid_over : (w : Gateway) (sub : ClientSub) (over : Option ConnectedVariable) → OfSome IsUpdate (update_over w sub over)
update_laid_over w sub None = record {}
update_laid_over w sub (Some v) =
    update_laid sub (cached_value w v.link.cid v.native.count sub.dtype sub.count) (value_laid w v.link.cid v.native.count sub.dtype sub.count)

update_laid_on : (w : Gateway) (sub : ClientSub) (found : Option Channel) → OfSome IsUpdate (update_on w sub found)
update_laid_on w sub None = record {}
update_laid_on w sub (Some c) = by (may_read (rights_of w c))
  where
    by : (may : Bool) → OfSome IsUpdate (cond may (update_over w sub (connected w c.real)) None)
    by true = update_laid_over w sub (connected w c.real)
    by false = record {}

notice_laid : (w : Gateway) (sub : ClientSub) → OfSome IsUpdate (update_notice w sub)
unfolding update_notice
notice_laid w sub = by (sub.owed && is_open_to w sub)
  where
    by : (due : Bool) → OfSome IsUpdate (cond due (update_on w sub (channel_of w sub.session sub.sid)) None)
    by true = update_laid_on w sub (channel_of w sub.session sub.sid)
    by false = record {}

pub updates_laid : (w : Gateway) → All IsUpdate (update_notices w)
updates_laid w = each_of (update_notice w) IsUpdate (notice_laid w) w.clients.subs
