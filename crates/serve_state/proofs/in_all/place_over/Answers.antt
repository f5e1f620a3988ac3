use Rattle.std.proofs.Common.{◌≡◌, ◌+◌, ◌-◌, ◌<◌, ℕ, length, drop, subst, arith}
use Rattle.serve_state.specs.InAll.{bytes_of}
use Rattle.serve_state.proofs.InAllLemmas.{front_from, stay}
use Rattle.serve_state.proofs.in_all.place_over.Goals as goal

-- the last one that isn't counted has no room
pub returns-then-client-room-clause-front : goal.returns-then-client-room-clause-front
returns-then-client-room-clause-front c =
    let clients = c.args.clients.now in
    let last : ℕ = length clients - c.loop-count.count - 1 in
    let within : last < length clients = omega (arith, c.loop-count-test.true) in
    let place : length clients - c.loop-count.count ≡ last + 1 = omega (arith, c.loop-count-test.true) in
    front_from c.args.most last c.loop-count.room clients _ within
    (subst (λ (n : ℕ). bytes_of (drop n clients) + c.loop-count.room ≡ c.args.most) place c.loop-count.invariant.1) c.if-client-room.true

-- all are counted
pub returns-clause-front : goal.returns-clause-front
returns-clause-front c =
    let clients = c.args.clients.now in
    let place : length clients - c.loop-count.count ≡ 0 = omega (arith, c.loop-count.invariant.0, c.loop-count-test.false) in
    let all : bytes_of clients + c.loop-count.room ≡ c.args.most =
    subst (λ (n : ℕ). bytes_of (drop n clients) + c.loop-count.room ≡ c.args.most) place c.loop-count.invariant.1 in
    stay c.args.most clients (omega (arith, all))
