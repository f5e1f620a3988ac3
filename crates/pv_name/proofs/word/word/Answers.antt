use Rattle.std.proofs.Common.{Ok, refl, sym, ap, ◌∙◌, arith}
use Rattle.pv_name.proofs.WordLemmas.{IsWord-from_no_bad, IsUtf8-from_word, no_word-from_bad, reading-bad_byte, reading-word}
use Rattle.pv_name.proofs.word.word.Goals as goal

pub returns-in-Some-clause-word : goal.returns-in-Some-clause-word
returns-in-Some-clause-word c =
    (λ h. cc, λ word. absurd (no_word-from_bad _ _ _ (sym c.bad_place.ensures ∙ c.in-Some.is) word))

pub returns-in-Some-clause-err : goal.returns-in-Some-clause-err
returns-in-Some-clause-err c =
    reading-bad_byte _ _ _ (sym c.is_empty.ensures ∙ c.if-is_empty.false) c.if-bytes-limit.false (sym c.bad_place.ensures ∙ c.in-Some.is)

pub unwrap-requires : goal.unwrap-requires
unwrap-requires c =
    let word = IsWord-from_no_bad c.args.limit c.args.bytes.now (sym c.is_empty.ensures ∙ c.if-is_empty.false) c.if-bytes-limit.false (sym c.bad_place.ensures ∙ c.in_default.is) in
    let utf8 = IsUtf8-from_word _ _ word in
    grind (arith, utf8)

pub returns-clause-word : goal.returns-clause-word
returns-clause-word c =
    (λ _. IsWord-from_no_bad _ _ (sym c.is_empty.ensures ∙ c.if-is_empty.false) c.if-bytes-limit.false (sym c.bad_place.ensures ∙ c.in_default.is), λ _. refl)

pub returns-clause-ok : goal.returns-clause-ok
returns-clause-ok c =
    let word = IsWord-from_no_bad c.args.limit c.args.bytes.now (sym c.is_empty.ensures ∙ c.if-is_empty.false) c.if-bytes-limit.false (sym c.bad_place.ensures ∙ c.in_default.is) in
    let text = (rw c.unwrap.ensures at c.from_utf8.ensures.cases).0 in
    reading-word _ _ word ∙ ap Ok (sym text)
