use Rattle.std.proofs.Common.{◌≡◌, ◌<◌, length, true, false, Bool, List, ℤ, arith, sym, ap, ◌∙◌, get_or, []}
use Rattle.std.proofs.lemmas.List.{length-map}
use Rattle.std.proofs.lemmas.Result.{err_from_is_err_and}
use Rattle.exact128.specs.Sums.{entry}
use Rattle.linear_rows.specs.Elimination.{is_negative, crossed, falling}
use Rattle.linear_rows.specs.Blown.{crossed_fits}
use Rattle.sparse_rows.specs.Adding.{add_row}
use Rattle.sparse_rows.proofs.MarkLemmas.{got-map}
use Rattle.fourier.proofs.Loops.{done_none, done_yes, done_no, done_all, not_all, fold-map}
use Rattle.fourier.proofs.crossing.cross_falling.Goals as goal
use Rattle.fourier.proofs.crossing.cross_falling.Goals.{then-falls-j+in_ok-cross_add, else-falls-j}

pub loop-j-init : goal.loop-j-init
loop-j-init c = done_none _ _ _

pub loop-j-preserved : goal.loop-j-preserved
loop-j-preserved c =
    let falls : List ℤ → Bool = λ s. is_negative (entry s c.args.column.k) in
    let long : length c.args.falls.now ≡ length c.args.rows.now = ap length c.requires.falls ∙ length-map c.args.rows.now falls in
    let lt : c.loop-j.j < length c.args.rows.now = omega (arith, long) in
    let here : get_or c.args.falls.now c.loop-j.j false ≡ falls (get_or c.args.rows.now c.loop-j.j []) = ap (λ l. get_or l c.loop-j.j false) c.requires.falls ∙ got-map falls c.args.rows.now c.loop-j.j false [] lt in
    elim c.if-falls-j.branch [
      | then-falls-j+in_ok-cross_add w ↦
          let t : falls (get_or c.args.rows.now c.loop-j.j []) ≡ true = sym here ∙ w.if-falls-j.true in
          done_yes _ (crossed_fits c.args.column.k c.args.r.now) falls c.args.kept.now c.loop-j.kept c.if-falls-j.kept c.args.rows.now c.loop-j.j [] w.get.result.now lt c.loop-j.invariant t w.get.ensures (w.kept-is ∙ w.in_ok-cross_add.ensures.kept) w.in_ok-cross_add.ensures.fits
      | else-falls-j w ↦
          let t : falls (get_or c.args.rows.now c.loop-j.j []) ≡ false = sym here ∙ w.if-falls-j.false in
          rw w.kept-is (done_no _ (crossed_fits c.args.column.k c.args.r.now) falls c.args.kept.now c.loop-j.kept c.args.rows.now c.loop-j.j [] lt c.loop-j.invariant t)
    ]

pub returns-in_err-cross_add-clause-wide : goal.returns-in_err-cross_add-clause-wide
returns-in_err-cross_add-clause-wide c =
    let falls : List ℤ → Bool = λ s. is_negative (entry s c.args.column.k) in
    let long : length c.args.falls.now ≡ length c.args.rows.now = ap length c.requires.falls ∙ length-map c.args.rows.now falls in
    let lt : c.loop-j.j < length c.args.rows.now = omega (arith, long) in
    let here : get_or c.args.falls.now c.loop-j.j false ≡ falls (get_or c.args.rows.now c.loop-j.j []) = ap (λ l. get_or l c.loop-j.j false) c.requires.falls ∙ got-map falls c.args.rows.now c.loop-j.j false [] lt in
    let t : falls (get_or c.args.rows.now c.loop-j.j []) ≡ true = sym here ∙ c.if-falls-j.true in
    let p = err_from_is_err_and c.from_residual.result c.from_residual.ensures.1 in
    λ is. not_all falls (crossed_fits c.args.column.k c.args.r.now) c.args.rows.now c.loop-j.j [] lt t (sym (ap (crossed_fits c.args.column.k c.args.r.now) c.get.ensures) ∙ c.in_err-cross_add.ensures.wide (cc (p.1, p.2, is)))

pub returns : goal.returns
returns c =
    let long : length c.args.falls.now ≡ length c.args.rows.now = ap length c.requires.falls ∙ length-map c.args.rows.now (λ s. is_negative (entry s c.args.column.k)) in
    let d = done_all _ (crossed_fits c.args.column.k c.args.r.now) (λ r. is_negative (entry r c.args.column.k)) c.args.kept.now c.loop-j.kept c.args.rows.now c.loop-j.j (omega (arith, long)) c.loop-j.invariant in
    record {
      kept = d.kept_is ∙ fold-map (add_row c.args.column.last) (λ s. crossed c.args.column.k c.args.r.now s) c.args.kept.now (falling c.args.column.k c.args.rows.now);
      fits = d.pass;
      wide = λ is. cc;
    }
