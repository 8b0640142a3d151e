use Rattle.std.proofs.Common.{◌+◌, ◌-◌, ◌≡◌, arith, subst, suc, sym}
use Rattle.web.proofs.OrderLists.{IsListed, no_room, none_more, one_more}
use Rattle.web.proofs.orders.open_numbers.Goals as goal

pub loop-preserved : goal.loop-preserved
loop-preserved c =
    let A = c.args.book.now.ledger in
    let room : 50 - c.loop.counter ≡ suc (50 - (c.loop.counter + 1)) = omega (arith, c.loop-test.true) in
    let before = subst (λ n. IsListed A c.args.floor c.loop.last n c.loop.numbers.items) room c.loop.invariant in
    subst (λ n. IsListed A c.args.floor n (50 - (c.loop.counter + 1)) c.push.new.self.items) (sym c.get-last.ensures.value)
    (one_more A c.args.floor c.loop.last c.in-Some.next (50 - (c.loop.counter + 1)) c.loop.numbers.items
    c.push.new.self.items c.in-Some.ensures
    c.in_ok-push.ensures.items before)

pub returns : goal.returns
returns c =
    let room : 50 - c.loop.counter ≡ 0 = omega (arith, c.loop-test.false) in
    no_room c.args.book.now.ledger c.args.floor c.loop.last (50 - c.loop.counter) c.loop.numbers.items room c.loop.invariant

pub returns-in_default : goal.returns-in_default
returns-in_default c =
    none_more c.args.book.now.ledger c.args.floor c.loop.last (50 - c.loop.counter) c.loop.numbers.items
    c.in_default.ensures c.loop.invariant
