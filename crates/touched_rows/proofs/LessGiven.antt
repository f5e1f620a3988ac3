-- States that give reads and updates no more than others: what isn't owed in the one isn't owed in the
-- other.
use Rattle.std.proofs.Common.{◌≡◌, ℕ, List, Bool, true, false, cond, not, ◌&&◌, Option, Some, None, refl, sym, ap, ◌∙◌}
use Rattle.std.specs.Prelude.{option_map}
use Rattle.std.proofs.lemmas.Bool.{true≢false}
use Rattle.ca_message.specs.declared.codes.TheConstants.{ECA_NORDACCESS}
use Rattle.named_rows.specs.declared.channels.Channel.{Channel}
use Rattle.named_rows.specs.declared.reads.WaitingRead.{WaitingRead}
use Rattle.named_rows.specs.declared.subs.ClientSub.{ClientSub}
use Rattle.named_rows.specs.Channels.{with_reach_and_rights}
use Rattle.link_table.specs.declared.links.LinkRow.{LinkRow}
use Rattle.link_table.specs.declared.links.LinkState.{LinkState}
use Rattle.link_table.specs.declared.links.LinkState.TheVariants.{Creating, Connected, Unusable}
use Rattle.link_table.specs.Links.{none_yet}
use Rattle.gateway_state.specs.declared.reading.Given.{Given}
use Rattle.gateway_state.specs.declared.notice.ReadNotice.TheVariants.{Refused}
use Rattle.gateway_state.specs.Answer.{cached_value}
use Rattle.gateway_state.specs.Clients.{no_reach}
use Rattle.gateway_state.specs.Gateway.{Gateway}
use Rattle.gateway_state.specs.Notices.{answered_by, answered_over, notice_on, read_notice}
use Rattle.gateway_state.specs.Rights.{channel_of, may_read, rights_of}
use Rattle.gateway_state.specs.Updates.{is_open_to, is_paused, takes_updates, update_by, update_notice, update_on, update_over}
use Rattle.gateway_state.specs.Variables.{ConnectedVariable, connected, connected_in, connected_over, link_of}

-- a link but for its subscriptions, and a channel but for what was read and told
abbrev pub bare : LinkRow → LinkRow
bare link = record link { subscriptions = none_yet }

abbrev pub plain : Channel → Channel
plain c = with_reach_and_rights no_reach 0 c

-- a session takes updates now
abbrev pub is_given_to : Gateway → ℕ → Bool
is_given_to w number = not (is_paused w number) && takes_updates w number

-- x gives reads and updates no more than w
pub record GivesNoMore (w x : Gateway) : Type 0 where
  pub channels : (session sid : ℕ) → option_map plain (channel_of x session sid) ≡ option_map plain (channel_of w session sid)
  pub rights : (c : Channel) → rights_of x c ≡ rights_of w c
  pub links : (name : List ℕ) → option_map bare (link_of x name) ≡ option_map bare (link_of w name)
  pub values : (cid native dtype count : ℕ) → cached_value w cid native dtype count ≡ None → cached_value x cid native dtype count ≡ None
  pub sessions : (number : ℕ) → is_given_to x number ≡ true → is_given_to w number ≡ true

pub gives_the_same : (w : Gateway) → GivesNoMore w w
gives_the_same w = record {
  channels = λ session sid. refl;
  rights = λ c. refl;
  links = λ name. refl;
  values = λ cid native dtype count none. none;
  sessions = λ number open_to. open_to;
}

pub gives_no_more : (w x y : Gateway) → GivesNoMore w x → GivesNoMore x y → GivesNoMore w y
gives_no_more w x y first second = record {
  channels = λ session sid. second.channels session sid ∙ first.channels session sid;
  rights = λ c. second.rights c ∙ first.rights c;
  links = λ name. second.links name ∙ first.links name;
  values = λ cid native dtype count none. second.values cid native dtype count (first.values cid native dtype count none);
  sessions = λ number open_to. first.sessions number (second.sessions number open_to);
}

-- ---- what isn't owed stays so

unanswered : (read : WaitingRead) (given : Option Given) → answered_by read given ≡ None → given ≡ None
unanswered read None none = refl
unanswered read (Some given) none = absurd cc

not_updated : (sub : ClientSub) (given : Option Given) → update_by sub given ≡ None → given ≡ None
not_updated sub None none = refl
not_updated sub (Some given) none = absurd cc

answered_over-bare : (x : Gateway) (read : WaitingRead) (link : Option LinkRow) → answered_over x read (connected_over link) ≡ answered_over x read (connected_over (option_map bare link))
answered_over-bare x read None = refl
answered_over-bare x read (Some link) = by link.state
  where
    by : (state : LinkState) → answered_over x read (connected_in link state) ≡ answered_over x read (connected_in (bare link) state)
    by Creating = refl
    by (Connected sid dtype count) = refl
    by Unusable = refl

notice_on-plain : (x : Gateway) (read : WaitingRead) (c : Option Channel) → notice_on x read c ≡ notice_on x read (option_map plain c)
notice_on-plain x read None = refl
notice_on-plain x read (Some c) = refl

update_over-bare : (x : Gateway) (sub : ClientSub) (link : Option LinkRow) → update_over x sub (connected_over link) ≡ update_over x sub (connected_over (option_map bare link))
update_over-bare x sub None = refl
update_over-bare x sub (Some link) = by link.state
  where
    by : (state : LinkState) → update_over x sub (connected_in link state) ≡ update_over x sub (connected_in (bare link) state)
    by Creating = refl
    by (Connected sid dtype count) = refl
    by Unusable = refl

update_on-plain : (x : Gateway) (sub : ClientSub) (c : Option Channel) → update_on x sub c ≡ update_on x sub (option_map plain c)
update_on-plain x sub None = refl
update_on-plain x sub (Some c) = refl

-- over one channel, where its rights and its link are the same, and no more values are had
module _ (w x : Gateway) (values : (cid native dtype count : ℕ) → cached_value w cid native dtype count ≡ None → cached_value x cid native dtype count ≡ None) where
  answered_over-stays : (read : WaitingRead) (over : Option ConnectedVariable) → answered_over w read over ≡ None → answered_over x read over ≡ None
  answered_over-stays read None none = refl
  answered_over-stays read (Some v) none =
      ap (answered_by read) (values v.link.cid v.native.count read.dtype read.count (unanswered read (cached_value w v.link.cid v.native.count read.dtype read.count) none))

  update_over-stays : (sub : ClientSub) (over : Option ConnectedVariable) → update_over w sub over ≡ None → update_over x sub over ≡ None
  update_over-stays sub None none = refl
  update_over-stays sub (Some v) none =
      ap (update_by sub) (values v.link.cid v.native.count sub.dtype sub.count (not_updated sub (cached_value w v.link.cid v.native.count sub.dtype sub.count) none))

  module _ (c : Channel) (rights : rights_of x c ≡ rights_of w c) (links : option_map bare (link_of x c.real) ≡ option_map bare (link_of w c.real)) where
    answered_there-stays : (read : WaitingRead) → answered_over w read (connected w c.real) ≡ None → answered_over x read (connected x c.real) ≡ None
    answered_there-stays read none =
        answered_over-bare x read (link_of x c.real) ∙ ap (λ (link : Option LinkRow). answered_over x read (connected_over link)) links ∙ sym (answered_over-bare x read (link_of w c.real))
        ∙ answered_over-stays read (connected w c.real) none

    pub read_on-stays : (read : WaitingRead) → notice_on w read (Some c) ≡ None → notice_on x read (Some c) ≡ None
    read_on-stays read none =
        ap (λ (may : ℕ). cond (may_read may) (answered_over x read (connected x c.real)) (Some (Refused read ECA_NORDACCESS))) rights ∙ by (may_read (rights_of w c)) none
      where
        by : (may : Bool) → cond may (answered_over w read (connected w c.real)) (Some (Refused read ECA_NORDACCESS)) ≡ None
            → cond may (answered_over x read (connected x c.real)) (Some (Refused read ECA_NORDACCESS)) ≡ None
        by true none = answered_there-stays read none
        by false none = absurd cc

    update_there-stays : (sub : ClientSub) → update_over w sub (connected w c.real) ≡ None → update_over x sub (connected x c.real) ≡ None
    update_there-stays sub none =
        update_over-bare x sub (link_of x c.real) ∙ ap (λ (link : Option LinkRow). update_over x sub (connected_over link)) links ∙ sym (update_over-bare x sub (link_of w c.real))
        ∙ update_over-stays sub (connected w c.real) none

    pub update_on-stays : (sub : ClientSub) → update_on w sub (Some c) ≡ None → update_on x sub (Some c) ≡ None
    update_on-stays sub none =
        ap (λ (may : ℕ). cond (may_read may) (update_over x sub (connected x c.real)) None) rights ∙ by (may_read (rights_of w c)) none
      where
        by : (may : Bool) → cond may (update_over w sub (connected w c.real)) None ≡ None → cond may (update_over x sub (connected x c.real)) None ≡ None
        by true none = update_there-stays sub none
        by false none = refl

-- where a session takes no more updates
pub update_if_open : (w x : Gateway) (sub : ClientSub) → (is_given_to x sub.session ≡ true → is_given_to w sub.session ≡ true)
    → (update_on w sub (channel_of w sub.session sub.sid) ≡ None → update_on x sub (channel_of x sub.session sub.sid) ≡ None)
    → update_notice w sub ≡ None → update_notice x sub ≡ None
unfolding update_notice
update_if_open w x sub fewer stays none = by sub.owed (is_open_to w sub) (is_open_to x sub) fewer stays none
  where
    by : (owed before after : Bool) → (after ≡ true → before ≡ true)
        → (update_on w sub (channel_of w sub.session sub.sid) ≡ None → update_on x sub (channel_of x sub.session sub.sid) ≡ None)
        → cond (owed && before) (update_on w sub (channel_of w sub.session sub.sid)) None ≡ None
        → cond (owed && after) (update_on x sub (channel_of x sub.session sub.sid)) None ≡ None
    by false before after fewer stays none = refl
    by true true true fewer stays none = stays none
    by true true false fewer stays none = refl
    by true false true fewer stays none = absurd (true≢false (sym (fewer refl)))
    by true false false fewer stays none = refl

-- the same of two states of which the one gives no more than the other
module _ (w x : Gateway) (less : GivesNoMore w x) where
  notice_on-stays : (read : WaitingRead) (c : Option Channel) → notice_on w read c ≡ None → notice_on x read c ≡ None
  notice_on-stays read None none = refl
  notice_on-stays read (Some c) none = read_on-stays w x less.values c (less.rights c) (less.links c.real) read none

  -- a read that isn't owed an answer
  pub read_stays : (read : WaitingRead) → read_notice w read ≡ None → read_notice x read ≡ None
  read_stays read none =
      notice_on-plain x read (channel_of x read.session read.sid) ∙ ap (notice_on x read) (less.channels read.session read.sid)
      ∙ sym (notice_on-plain x read (channel_of w read.session read.sid)) ∙ notice_on-stays read (channel_of w read.session read.sid) none

  update_on_some-stays : (sub : ClientSub) (c : Option Channel) → update_on w sub c ≡ None → update_on x sub c ≡ None
  update_on_some-stays sub None none = refl
  update_on_some-stays sub (Some c) none = update_on-stays w x less.values c (less.rights c) (less.links c.real) sub none

  update_on_found-stays : (sub : ClientSub) → update_on w sub (channel_of w sub.session sub.sid) ≡ None → update_on x sub (channel_of x sub.session sub.sid) ≡ None
  update_on_found-stays sub none =
      update_on-plain x sub (channel_of x sub.session sub.sid) ∙ ap (update_on x sub) (less.channels sub.session sub.sid)
      ∙ sym (update_on-plain x sub (channel_of w sub.session sub.sid)) ∙ update_on_some-stays sub (channel_of w sub.session sub.sid) none

  -- a subscription that no update is due to
  pub update_stays : (sub : ClientSub) → update_notice w sub ≡ None → update_notice x sub ≡ None
  update_stays sub none = update_if_open w x sub (less.sessions sub.session) (update_on_found-stays sub) none
