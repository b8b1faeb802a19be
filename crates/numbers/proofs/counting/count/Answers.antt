use Rattle.std.proofs.Common.{◌≡◌, true, false, sym, arith}
use Rattle.std.proofs.lemmas.Fn.{says_at}
use Rattle.numbers.proofs.Counted.{count_yes, count_no}
use Rattle.numbers.proofs.counting.count.Goals as goal
use Rattle.numbers.proofs.counting.count.Goals.{then-test, else-test}

pub loop-x-preserved : goal.loop-x-preserved
loop-x-preserved g c =
    elim c.if-test.branch [
      | then-test w ↦ (
        omega arith,
        λ passes answers.
            let said : true ≡ passes c.x-item.result = answers c.x-item.result true (says_at g.F.Fn c.test.ensures w.if-test.true) in
            omega (arith, w.n-is, count_yes passes c.args.xs.now c.loop-x.x-index c.x-item.result c.loop-x-test.true c.x-item.is (sym said), c.loop-x.invariant.1 passes answers),
      )
      | else-test w ↦ (
        omega arith,
        λ passes answers.
            let said : false ≡ passes c.x-item.result = answers c.x-item.result false (says_at g.F.Fn c.test.ensures w.if-test.false) in
            omega (arith, w.n-is, count_no passes c.args.xs.now c.loop-x.x-index c.x-item.result c.loop-x-test.true c.x-item.is (sym said), c.loop-x.invariant.1 passes answers),
      )
    ]
