use Rattle.std.proofs.Common.{◌≡◌, ◌∙◌, ◌++◌, [], List, ℕ, ap, subst, sym, false, true, is_ok, take}
use Rattle.session_worker.specs.Writing.{BufferState, IsWritten, Progress}
use Rattle.session_worker.proofs.Writings.{written_both, written_part}
use Rattle.session_worker.proofs.out_buffer.OutBuffer.put.Goals as goal

-- what was held was written, and then the bytes themselves
pub returns-clause-written : goal.returns-clause-written
returns-clause-written g c =
    let start : Progress = record { written = g.L.Link.written c.args.link.now; failed = g.L.Link.failed c.args.link.now; count = c.args.self.now.count } in
    let between : Progress = record { written = g.L.Link.written c.flush.new.link; failed = g.L.Link.failed c.flush.new.link; count = c.flush.new.self.count } in
    let now : Progress = record { written = g.L.Link.written c.write_all.new.link; failed = g.L.Link.failed c.write_all.new.link; count = c.write_all.new.written } in
    let none : c.flush.new.self.held ≡ [] = c.in-Ok.ensures.none in
    let kept : c.hold.new.self ≡ c.args.self.now = c.if-hold.ensures.none search in
    let first : IsWritten true c.args.self.now.held c.flush.new.self.held start between =
    subst
    (λ (b : BufferState). IsWritten true b.held c.flush.new.self.held (record start { count = b.count }) between) kept c.in-Ok.ensures.written
    in
    let is : record { held = take c.self.inside.held c.self.inside.bytes; count = c.self.inside.written } ≡ c.flush.new.self = c.self.view_is ∙ c.if-hold-2.ensures.none search in
    let same = ap (λ (b : BufferState). b.count) is in
    let left = ap (λ (b : BufferState). b.held) is ∙ none in
    let direct : IsWritten (is_ok c.write_all.result) c.args.bytes.now [] (record between { count = c.self.inside.written }) now = c.write_all.ensures.written in
    written_both (is_ok c.write_all.result) c.args.self.now.held c.flush.new.self.held c.args.bytes.now _ start between now first
    (subst (λ (xs : List ℕ). IsWritten (is_ok c.write_all.result) (xs ++ c.args.bytes.now) (take c.self.inside.held c.self.inside.bytes) between now) (sym none)
    (subst (λ (xs : List ℕ). IsWritten (is_ok c.write_all.result) c.args.bytes.now xs between now) (sym left)
    (subst (λ (n : ℕ). IsWritten (is_ok c.write_all.result) c.args.bytes.now [] (record between { count = n }) now) same direct)))

-- the link failed at what was held
pub returns-in-Err-clause-written : goal.returns-in-Err-clause-written
returns-in-Err-clause-written g c =
    subst
    (λ (b : BufferState). IsWritten false (b.held ++ c.args.bytes.now) c.flush.new.self.held
    (record { written = g.L.Link.written c.args.link.now; failed = g.L.Link.failed c.args.link.now; count = b.count })
    (record { written = g.L.Link.written c.flush.new.link; failed = g.L.Link.failed c.flush.new.link; count = c.flush.new.self.count }))
    (c.if-hold.ensures.none search)
    (written_part c.hold.new.self.held c.args.bytes.now c.flush.new.self.held c.flush.new.self.held _ _ c.in-Err.ensures.written)
