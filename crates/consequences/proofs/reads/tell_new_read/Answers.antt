use Rattle.std.proofs.Common.{◌≡◌, true, ap, subst, sym, ◌∙◌, arith}
use Rattle.std.proofs.lemmas.Result.{err_from_is_err_and}
use Rattle.channel_table.specs.ClientRows.{read_count}
use Rattle.gateway_rows.specs.CountedState.{CountedState}
use Rattle.gateway_state.specs.Notices.{read_notice}
use Rattle.gateway_state.specs.Numbers.{is_past_numbers}
use Rattle.gateway_state.specs.Told.{KnowRights}
use Rattle.consequences.specs.LateReads.{read_said}
use Rattle.touched_rows.proofs.Ready.{told_after_interest}
use Rattle.touched_rows.specs.Touched.{interest_told}
use Rattle.touched_rows.specs.Touches.{with_read}
use Rattle.consequences.proofs.KeptLate.{kept_late, late_past, said_at_once}
use Rattle.consequences.proofs.reads.tell_new_read.Goals as goal

-- what was refused is that the server is told
pub returns-in_err-tell_interest-clause-used_up : goal.returns-in_err-tell_interest-clause-used_up
returns-in_err-tell_interest-clause-used_up c = λ e.
    let refused = err_from_is_err_and c.from_residual.result c.from_residual.ensures.1 in
    let returned = refused.1 in
    let converted = refused.2 in
    let was = c.in_err-tell_interest.was in
    late_past c.args.name.now c.args.read c.args.rows.now.state
    (subst (λ (s : CountedState). is_past_numbers (interest_told c.args.name.now s.state) ≡ true) c.rows.view_is (c.tell_interest.ensures.used_up cc))

-- what a server is told leaves the rights that clients know
pub read_notice-requires : goal.read_notice-requires
read_notice-requires c =
    let told = c.in_ok-tell_interest.ensures.ok ∙ ap (λ (s : CountedState). interest_told c.args.name.now s.state) c.rows.view_is in
    record { told = subst KnowRights (sym told) (told_after_interest c.args.name.now c.args.rows.now.state c.requires.told) }

-- none of the session waits, so it is told as if it had been kept
pub returns-in_ok-say_read-in-Some-clause-ok : goal.returns-in_ok-say_read-in-Some-clause-ok
returns-in_ok-say_read-in-Some-clause-ok c =
    let count = c.read_count.ensures ∙ ap (λ (s : CountedState). read_count c.args.read.session s.state.clients) c.rows.view_is in
    let alone : read_count c.args.read.session c.args.rows.now.state.clients ≡ 0 = omega (arith, c.if-read_count-gt0.false, count) in
    let told = c.in_ok-tell_interest.ensures.ok ∙ ap (λ (s : CountedState). interest_told c.args.name.now s.state) c.rows.view_is in
    let notice = sym c.in-Some.is ∙ c.in_ok-notice.ensures.found ∙ ap (λ w. read_notice w c.args.read) told in
    let here = ap (λ (s : CountedState). s.state) c.rows-2.view_is ∙ c.in_ok-notice.ensures.looked.0 ∙ told in
    c.in_ok-say_read-in-Some.ensures.ok ∙ ap (read_said c.in-Some.notice) here
    ∙ said_at_once c.args.name.now c.args.read c.args.rows.now.state c.in-Some.notice alone notice

-- or it is kept, with nothing to tell
pub returns-in_ok-keep_read-in-None-clause-ok : goal.returns-in_ok-keep_read-in-None-clause-ok
returns-in_ok-keep_read-in-None-clause-ok c =
    let count = c.read_count.ensures ∙ ap (λ (s : CountedState). read_count c.args.read.session s.state.clients) c.rows.view_is in
    let alone : read_count c.args.read.session c.args.rows.now.state.clients ≡ 0 = omega (arith, c.if-read_count-gt0.false, count) in
    let told = c.in_ok-tell_interest.ensures.ok ∙ ap (λ (s : CountedState). interest_told c.args.name.now s.state) c.rows.view_is in
    let notice = sym c.in-None.is ∙ c.in_ok-notice.ensures.found ∙ ap (λ w. read_notice w c.args.read) told in
    let here = ap (λ (s : CountedState). s.state) c.rows-2.view_is ∙ c.in_ok-notice.ensures.looked.0 ∙ told in
    c.in_ok-keep_read-in-None.ensures.ok ∙ ap (with_read c.args.read) here ∙ kept_late c.args.name.now c.args.read c.args.rows.now.state alone notice
