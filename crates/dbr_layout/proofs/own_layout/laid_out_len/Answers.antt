-- What is looked at is what is zero in bytes that are laid out already.
use Rattle.std.proofs.Common.{◌≡◌, false}
use Rattle.dbr_layout.specs.Needs.{is_described}
use Rattle.dbr_layout.proofs.OwnLayouts.{IsPadded, layout-in, padded-of_laid_out}
use Rattle.dbr_layout.proofs.own_layout.laid_out_len.Goals as goal
use Rattle.dbr_layout.proofs.own_layout.laid_out_len.Goals.{else-is_zero-via-then-is_zero+else-is_zero-2, else-is_zero-via-else-is_zero}

pub returns-then-is_zero-2 : goal.returns-then-is_zero-2
returns-then-is_zero-2 c =
    let sized = rw (c.offset-start.ensures, c.element.ensures) at c.in_ok-len.ensures in
    let undescribed : is_described c.args.dbr.form ≡ false = c.in_ok-fields.ensures.0 in
    let before = rw (c.offset-start.ensures, c.in_ok-fields.ensures.1) at c.is_zero.ensures.0 c.if-is_zero.true in
    let behind = rw (c.offset-start.ensures, c.element.ensures, sized.1) at c.is_zero-then-is_zero.ensures.0 c.if-is_zero-2.true in
    let padded : IsPadded c.args.dbr c.args.count c.args.bytes.now = record { there = sized.0.0; before = before; behind = behind } in
    let laid = layout-in c.args.dbr c.args.count c.args.bytes.now (λ k. (c.type_inv.bytes k).fits) undescribed padded in
    (record { undescribed = undescribed; there = sized.0.0; fits = sized.0.1; whole = laid }, sized.1)

pub returns-else-is_zero : goal.returns-else-is_zero
returns-else-is_zero c =
    λ laid.
    let padded = padded-of_laid_out c.args.dbr c.args.count c.args.bytes.now laid in
    let sized = rw (c.offset-start.ensures, c.element.ensures) at c.in_ok-len.ensures in
    elim c.else-is_zero.branch [
      | else-is_zero-via-then-is_zero+else-is_zero-2 w ↦
          let behind = rw (c.offset-start.ensures, c.element.ensures, sized.1) at w.is_zero-then-is_zero.ensures in
          let zero = behind.1 padded.behind in
          let other = w.if-is_zero-2.false in
          absurd cc
      | else-is_zero-via-else-is_zero w ↦
          let before = rw (c.offset-start.ensures, c.in_ok-fields.ensures.1) at c.is_zero.ensures in
          let zero = before.1 padded.before in
          let other = w.if-is_zero.false in
          absurd cc
    ]
