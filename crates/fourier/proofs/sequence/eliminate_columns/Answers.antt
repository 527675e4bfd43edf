use Rattle.std.proofs.Common.{◌≡◌, ◌+◌, ◌<◌, ◌≤◌, true, false, arith, refl, sym, subst, Err}
use Rattle.linear_rows.specs.Blown.{numbers_fit, blown_step}
use Rattle.linear_rows.specs.Step.{columns}
use Rattle.fourier.specs.History.{StepsSay}
use Rattle.fourier.specs.declared.fault.ElimFault.{ElimFault}
use Rattle.fourier.proofs.Chains.{blown_said, steps_fault, going_start, going_on, going_blown, going_end, not_fit}
use Rattle.fourier.proofs.sequence.eliminate_columns.Goals as goal

pub returns-then-not-fit : goal.returns-then-not-fit
returns-then-not-fit c =
    let e : numbers_fit c.args.rows ≡ false = cc (c.fit.ensures.value, c.if-not-fit.true) in
    blown_said c.args.brief 0 true (blown_step c.args.last (columns 1 c.args.count) c.args.rows) (not_fit c.args.last c.args.count c.args.rows e)

pub loop-i-init : goal.loop-i-init
loop-i-init c =
    let t : c.fit.result ≡ true = c.if-not-fit.false in
    let e : numbers_fit c.args.rows ≡ true = cc (c.fit.ensures.value, t) in
    (c.requires.long.0, rw c.new-before.ensures (going_start c.requires.long.0 c.args.last c.args.count c.args.rows (c.fit.ensures.fit t) c.requires.long.1 e))

pub returns-in-Err : goal.returns-in-Err
returns-in-Err c =
    let lt : c.loop-i.i < c.args.count = omega arith in
    subst (λ (f : ElimFault). StepsSay c.args.brief c.args.last (columns 1 c.args.count) c.args.rows (Err f)) (sym c.at.ensures)
    (steps_fault c.args.brief c.args.last (c.loop-i.i + 1) (c.loop-i.i + 1) (columns 1 c.args.count) c.loop-i.current c.args.rows c.in-Err.fault c.in-Err.ensures
    (λ wide e. going_blown c.loop-i.invariant.0 c.args.last c.args.count c.loop-i.i (c.loop-i.i + 1) (c.loop-i.i + 1) wide c.args.rows c.loop-i.current c.loop-i.before refl refl lt c.loop-i.invariant.1 e))

pub loop-i-preserved : goal.loop-i-preserved
loop-i-preserved c =
    let lt : c.loop-i.i < c.args.count = omega arith in
    let low : c.loop-i.i + 1 ≤ c.args.last = let h = c.requires.count in omega arith in
    (c.loop-i.invariant.0, going_on c.loop-i.invariant.0 c.args.last c.args.count c.loop-i.i (c.loop-i.i + 1) c.args.rows c.loop-i.current c.in-Ok.next c.loop-i.before c.push.new.self refl low lt c.loop-i.invariant.1 c.in_ok-push-in-Ok.ensures c.in-Ok.ensures.0 c.in-Ok.ensures.1)

pub returns : goal.returns
returns c = going_end c.loop-i.invariant.0 c.args.last c.args.count c.loop-i.i c.args.rows c.loop-i.current c.loop-i.before (omega arith) c.loop-i.invariant.1

pub step-requires-clause-long : goal.step-requires-clause-long
step-requires-clause-long c = (c.loop-i.invariant.0, c.loop-i.invariant.1.long)
