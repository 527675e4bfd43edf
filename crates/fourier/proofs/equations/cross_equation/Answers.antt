use Rattle.std.proofs.Common.{◌≡◌, ◌<◌, length, true, false, arith, get_or, [], not, nat_eq, ◌||◌}
use Rattle.std.proofs.lemmas.Result.{err_from_is_err_and}
use Rattle.fourier.specs.SolvedRows.{add_solved, add_solved_fits}
use Rattle.sparse_rows.proofs.Added.{take_all}
use Rattle.fourier.proofs.Solveds.{solved_kept, solved_fit, place_yes, place_no, place_wide}
use Rattle.fourier.proofs.equations.cross_equation.Goals as goal
use Rattle.fourier.proofs.equations.cross_equation.Goals.{then-elsewhere+in_ok-cross_solved, else-elsewhere}

pub loop-p-preserved : goal.loop-p-preserved
loop-p-preserved c =
    let lt : c.loop-p.p < length c.args.rows.now = omega arith in
    elim c.if-elsewhere.branch [
      | then-elsewhere+in_ok-cross_solved w ↦
          let t : not (nat_eq c.loop-p.p c.args.i || nat_eq c.loop-p.p c.args.j) ≡ true = cc (c.elsewhere.ensures, w.if-elsewhere.true) in
          let n : c.if-elsewhere.kept ≡ add_solved c.args.column.last c.args.column.k (get_or c.args.rows.now c.args.i []) (get_or c.args.rows.now c.args.j []) c.loop-p.kept w.get-then-elsewhere-2.result.now = cc (w.kept-is, w.in_ok-cross_solved.ensures.kept, w.get.ensures, w.get-then-elsewhere.ensures) in
          let f : add_solved_fits c.args.column.k (get_or c.args.rows.now c.args.i []) (get_or c.args.rows.now c.args.j []) w.get-then-elsewhere-2.result.now ≡ true = cc (w.in_ok-cross_solved.ensures.fits, w.get.ensures, w.get-then-elsewhere.ensures) in
          place_yes c.args.column.last c.args.column.k c.args.i c.args.j c.loop-p.p (get_or c.args.rows.now c.args.i []) (get_or c.args.rows.now c.args.j []) w.get-then-elsewhere-2.result.now c.args.kept.now c.loop-p.kept c.if-elsewhere.kept c.args.rows.now lt t w.get-then-elsewhere-2.ensures c.loop-p.invariant n f
      | else-elsewhere w ↦
          let t : not (nat_eq c.loop-p.p c.args.i || nat_eq c.loop-p.p c.args.j) ≡ false = cc (c.elsewhere.ensures, w.if-elsewhere.false) in
          rw w.kept-is (place_no c.args.column.last c.args.column.k c.args.i c.args.j c.loop-p.p (get_or c.args.rows.now c.args.i []) (get_or c.args.rows.now c.args.j []) c.args.kept.now c.loop-p.kept c.args.rows.now lt t c.loop-p.invariant)
    ]

pub returns-in_err-cross_solved-clause-wide : goal.returns-in_err-cross_solved-clause-wide
returns-in_err-cross_solved-clause-wide c =
    let lt : c.loop-p.p < length c.args.rows.now = omega arith in
    let t : not (nat_eq c.loop-p.p c.args.i || nat_eq c.loop-p.p c.args.j) ≡ true = cc (c.elsewhere.ensures, c.if-elsewhere.true) in
    let p = err_from_is_err_and c.from_residual.result c.from_residual.ensures.1 in
    λ is.
    let wide = c.in_err-cross_solved.ensures.wide (cc (p.1, p.2, is)) in
    let f : add_solved_fits c.args.column.k (get_or c.args.rows.now c.args.i []) (get_or c.args.rows.now c.args.j []) c.get-then-elsewhere-2.result.now ≡ false = cc (wide, c.get.ensures, c.get-then-elsewhere.ensures) in
    solved_fit c.args.column.k c.args.i c.args.j c.args.rows.now false
    (place_wide c.args.column.k c.args.i c.args.j c.loop-p.p (get_or c.args.rows.now c.args.i []) (get_or c.args.rows.now c.args.j []) c.get-then-elsewhere-2.result.now c.args.rows.now lt t c.get-then-elsewhere-2.ensures f)

pub returns-clause-kept : goal.returns-clause-kept
returns-clause-kept c =
    let all = take_all c.args.rows.now c.loop-p.p (omega arith) in
    solved_kept c.args.column.last c.args.column.k c.args.i c.args.j c.args.kept.now c.args.rows.now c.loop-p.kept (rw all at c.loop-p.invariant.kept_is)

pub returns-clause-fits : goal.returns-clause-fits
returns-clause-fits c =
    let all = take_all c.args.rows.now c.loop-p.p (omega arith) in
    solved_fit c.args.column.k c.args.i c.args.j c.args.rows.now true (rw all at c.loop-p.invariant.pass)
