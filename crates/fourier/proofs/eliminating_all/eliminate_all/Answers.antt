use Rattle.std.proofs.Common.{◌≡◌, ℤ, List, ◌+◌, ◌<◌, ◌≤◌, suc, false, true, Err, arith, refl, sym, subst, ap, ◌∙◌}
use Rattle.linear_rows.specs.Plain.{plain_rows}
use Rattle.linear_rows.specs.Blown.{numbers_fit}
use Rattle.linear_rows.specs.Step.{columns}
use Rattle.sparse_rows.specs.Adding.{AllFit}
use Rattle.fourier.specs.Saying.{EliminatesAll}
use Rattle.fourier.specs.declared.fault.ElimFault.{ElimFault}
use Rattle.fourier.proofs.EliminateLemmas.{long_of}
use Rattle.fourier.proofs.Sequences.{Left, left_start, left_on, left_blown, left_end, left_wide, fault_said}
use Rattle.fourier.proofs.eliminating_all.eliminate_all.Goals as goal

pub returns-then-not-fit-clause-exact : goal.returns-then-not-fit-clause-exact
returns-then-not-fit-clause-exact c =
    let e : numbers_fit (plain_rows c.args.rows.now.list) ≡ false = cc (c.fit.ensures.value, c.if-not-fit.true, ap numbers_fit c.in_ok-current.ensures) in
    left_wide c.args.rows.now.width c.args.from c.args.count (plain_rows c.args.rows.now.list) e

pub loop-i-init : goal.loop-i-init
loop-i-init c =
    let w = c.args.rows.now.width in
    let rows : List (List ℤ) = plain_rows c.args.rows.now.list in
    let now : List (List ℤ) = c.in_ok-current.current in
    let t : c.fit.result ≡ true = c.if-not-fit.false in
    let e : numbers_fit rows ≡ true = cc (c.fit.ensures.value, t, ap numbers_fit c.in_ok-current.ensures) in
    let same : now ≡ rows = c.in_ok-current.ensures in
    subst (λ (xs : List (List ℤ)). Left (w + 1) w c.args.from c.args.count 0 rows xs) (sym same)
    (left_start (w + 1) w c.args.from c.args.count rows (rw (sym same) (c.fit.ensures.fit t)) (long_of w c.args.rows.now.list c.requires.width) e)

pub returns-in-Err-clause-exact : goal.returns-in-Err-clause-exact
returns-in-Err-clause-exact c =
    let w = c.args.rows.now.width in
    let rows = plain_rows c.args.rows.now.list in
    let lt : c.loop-i.i < c.args.count = omega arith in
    subst (λ (f : ElimFault). EliminatesAll w (columns (suc c.args.from) c.args.count) rows (Err f)) (sym c.at.ensures)
    (fault_said w (c.args.from + c.loop-i.i + 1) (c.loop-i.i + 1) (columns (suc c.args.from) c.args.count) c.loop-i.current rows c.in-Err.fault c.in-Err.ensures
    (λ wide e. left_blown (w + 1) w c.args.from c.args.count c.loop-i.i (c.args.from + c.loop-i.i + 1) (c.loop-i.i + 1) wide rows c.loop-i.current refl refl lt c.loop-i.invariant e))

pub loop-i-preserved : goal.loop-i-preserved
loop-i-preserved c =
    let w = c.args.rows.now.width in
    let lt : c.loop-i.i < c.args.count = omega arith in
    let low : c.args.from + c.loop-i.i + 1 ≤ w = let h = c.requires.columns in omega arith in
    left_on (w + 1) w c.args.from c.args.count c.loop-i.i (c.args.from + c.loop-i.i + 1) (plain_rows c.args.rows.now.list) c.loop-i.current c.in-Ok.next refl low lt c.loop-i.invariant c.in-Ok.ensures.0 c.in-Ok.ensures.1

pub returns-clause-exact : goal.returns-clause-exact
returns-clause-exact c =
    let w = c.args.rows.now.width in
    let end = left_end (w + 1) w c.args.from c.args.count c.loop-i.i (plain_rows c.args.rows.now.list) c.loop-i.current (omega arith) c.loop-i.invariant in
    (c.in_ok-rows_of.ensures.rows ∙ end.0, end.1)

pub returns-clause-fit : goal.returns-clause-fit
returns-clause-fit c = subst AllFit (sym c.in_ok-rows_of.ensures.rows) c.loop-i.invariant.fit
