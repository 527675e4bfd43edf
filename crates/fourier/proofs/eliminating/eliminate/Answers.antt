use Rattle.std.proofs.Common.{◌≡◌, ◌+◌, ◌∷◌, [], true, false, Err, arith, sym, subst, ap, ◌∙◌}
use Rattle.linear_rows.specs.Plain.{plain_rows}
use Rattle.linear_rows.specs.Step.{eliminated}
use Rattle.linear_rows.specs.Blown.{numbers_fit, step_fault}
use Rattle.sparse_rows.specs.Adding.{AllLong}
use Rattle.fourier.specs.Saying.{Eliminates, fault_at}
use Rattle.fourier.specs.declared.fault.ElimFault.{ElimFault}
use Rattle.fourier.proofs.Sequences.{fault_said}
use Rattle.fourier.proofs.Stays.{long_stays}
use Rattle.fourier.proofs.EliminateLemmas.{one_not_fit, one_blown, said_once, one_whole, long_of, all_vanish, all_hold_on, same_points}
use Rattle.fourier.proofs.eliminating.eliminate.Goals as goal

pub returns-then-not-fit-clause-exact : goal.returns-then-not-fit-clause-exact
returns-then-not-fit-clause-exact c =
    let e : numbers_fit (plain_rows c.args.rows.now.list) ≡ false = cc (c.fit.ensures.value, c.if-not-fit.true, ap numbers_fit c.in_ok-lines.ensures) in
    one_not_fit c.args.rows.now.width (c.args.var + 1) (plain_rows c.args.rows.now.list) e

pub step-requires-clause-long : goal.step-requires-clause-long
step-requires-clause-long c = (c.args.rows.now.width + 1, rw c.in_ok-lines.ensures (long_of c.args.rows.now.width c.args.rows.now.list c.requires.width))

pub rows_of-requires : goal.rows_of-requires
rows_of-requires c =
    let long : AllLong (c.args.rows.now.width + 1) c.in_ok-lines.lines = rw c.in_ok-lines.ensures (long_of c.args.rows.now.width c.args.rows.now.list c.requires.width) in
    subst (AllLong (c.args.rows.now.width + 1)) (sym c.in-Ok.ensures.0) (long_stays (c.args.rows.now.width + 1) c.args.rows.now.width (c.args.var + 1) c.in_ok-lines.lines (omega (arith, c.requires.column)) long)

pub returns-in-Ok-clause-exact : goal.returns-in-Ok-clause-exact
returns-in-Ok-clause-exact c =
    let e : numbers_fit (plain_rows c.args.rows.now.list) ≡ true = cc (c.fit.ensures.value, c.if-not-fit.false, ap numbers_fit c.in_ok-lines.ensures) in (
      c.in_ok-rows_of-in-Ok.ensures.rows ∙ c.in-Ok.ensures.0 ∙ ap (eliminated c.args.rows.now.width (c.args.var + 1)) c.in_ok-lines.ensures,
      one_whole c.args.rows.now.width (c.args.var + 1) (plain_rows c.args.rows.now.list) e (sym (ap (step_fault c.args.rows.now.width (c.args.var + 1)) c.in_ok-lines.ensures) ∙ c.in-Ok.ensures.1),
    )

pub returns-in-Ok-clause-vanishes : goal.returns-in-Ok-clause-vanishes
returns-in-Ok-clause-vanishes c =
    all_vanish c.args.rows.now.width (c.args.var + 1) (plain_rows c.args.rows.now.list) (plain_rows c.in_ok-rows_of-in-Ok.field-0.list) (omega (arith, c.requires.column))
    (c.in_ok-rows_of-in-Ok.ensures.rows ∙ c.in-Ok.ensures.0 ∙ ap (eliminated c.args.rows.now.width (c.args.var + 1)) c.in_ok-lines.ensures)

pub returns-in-Ok-clause-sound : goal.returns-in-Ok-clause-sound
returns-in-Ok-clause-sound c =
    all_hold_on c.args.rows.now.width (c.args.var + 1) (plain_rows c.args.rows.now.list) (plain_rows c.in_ok-rows_of-in-Ok.field-0.list) (omega (arith, c.requires.column))
    (c.in_ok-rows_of-in-Ok.ensures.rows ∙ c.in-Ok.ensures.0 ∙ ap (eliminated c.args.rows.now.width (c.args.var + 1)) c.in_ok-lines.ensures)

pub returns-in-Ok-clause-complete : goal.returns-in-Ok-clause-complete
returns-in-Ok-clause-complete c =
    same_points c.args.rows.now.width (c.args.var + 1) (plain_rows c.args.rows.now.list) (plain_rows c.in_ok-rows_of-in-Ok.field-0.list) (omega arith) (omega (arith, c.requires.column))
    (c.in_ok-rows_of-in-Ok.ensures.rows ∙ c.in-Ok.ensures.0 ∙ ap (eliminated c.args.rows.now.width (c.args.var + 1)) c.in_ok-lines.ensures)

pub returns-clause-exact : goal.returns-clause-exact
returns-clause-exact c =
    let m = c.args.rows.now.width in
    let k = c.args.var + 1 in
    let rows = plain_rows c.args.rows.now.list in
    let e : numbers_fit rows ≡ true = cc (c.fit.ensures.value, c.if-not-fit.false, ap numbers_fit c.in_ok-lines.ensures) in
    subst (λ (f : ElimFault). Eliminates m k rows (Err f)) (sym c.at.ensures)
    (said_once m k rows (fault_at 1 c.in-Err.fault)
    (fault_said m k 1 (k ∷ []) c.in_ok-lines.lines rows c.in-Err.fault c.in-Err.ensures (λ wide f. one_blown m k rows wide e (sym (ap (step_fault m k) c.in_ok-lines.ensures) ∙ f))))
