use Rattle.std.proofs.Common.{sym, ◌∙◌}
use Rattle.decimal_text.proofs.NumberLemmas.{number_of-no_text, number_of-parsed}
use Rattle.decimal_text.proofs.number.read_u64.Goals as goal

pub returns-in-Err : goal.returns-in-Err
returns-in-Err c = number_of-no_text 64 c.args.digits.now c.in-Err.ensures.cases.0

pub returns-in-Ok : goal.returns-in-Ok
returns-in-Ok c =
    let read = rw c.in-Ok.ensures.cases.0 at c.parse.ensures.value.0 in
    c.ok.ensures.value ∙ number_of-parsed 64 c.args.digits.now c.parse.result (sym c.starts_with.ensures.value ∙ c.if-starts_with.false) read
