use Rattle.std.proofs.Common.{rules, ◌≡◌, ◌<◌, length, true, false, arith, sym, ap, ◌∙◌, get_or, [], map, pos, subst}
use Rattle.std.specs.Int.{w128}
use Rattle.std.specs.Prelude.{FitsSigned, ◌≤ℤ◌}
use Rattle.std.proofs.lemmas.Int.{to_z-of_z}
use Rattle.std.proofs.lemmas.Result.{err_from_is_err_and}
use Rattle.exact128.specs.Sums.{entry}
use Rattle.linear_rows.specs.Elimination.{is_positive, crossed, falling, crossings, rising}
use Rattle.linear_rows.specs.Blown.{crossed_fits, crossings_fit, all_of}
use Rattle.sparse_rows.specs.Adding.{add_row, AllLong}
use Rattle.linear_rows.proofs.Steps.{positive_is}
use Rattle.std.specs.Prelude.{nat_lt}
use Rattle.std.proofs.lemmas.Bool.{ltb-true}
use Rattle.exact128.proofs.FitsLemmas.{both}
use Rattle.fourier.proofs.Crowds.{full_all}
use Rattle.fourier.proofs.StepLemmas.{fits_unless}
use Rattle.fourier.proofs.SmallLemmas.{stopped}
use Rattle.fourier.proofs.Loops.{done_none, done_yes, done_no, done_all, not_all, at_long, fold-flat_map}
use Rattle.fourier.proofs.crossing.cross_rising.Goals as goal
use Rattle.fourier.proofs.crossing.cross_rising.Goals.{then-is_positive+in_ok-cross_falling, else-is_positive}

pub loop-i-init : goal.loop-i-init
loop-i-init c = done_none _ _ _

pub loop-i-preserved : goal.loop-i-preserved
loop-i-preserved c =
    let f : FitsSigned w128 c.entry.result = search rules in
    let e = (simp to_z-of_z at c.is_positive.ensures) ∙ ap is_positive (c.entry.ensures ∙ ap (λ r. entry r c.args.column.k) c.get.ensures) in
    let lt : c.loop-i.i < length c.args.rows.now = omega arith in
    elim c.if-is_positive.branch [
      | then-is_positive+in_ok-cross_falling w ↦
          let t : is_positive (entry (get_or c.args.rows.now c.loop-i.i []) c.args.column.k) ≡ true = cc (e, w.if-is_positive.true) in
          done_yes _ (λ r. all_of (crossed_fits c.args.column.k r) (falling c.args.column.k c.args.rows.now)) (λ r. is_positive (entry r c.args.column.k)) c.args.kept.now c.loop-i.kept c.if-is_positive.kept c.args.rows.now c.loop-i.i [] w.get-then-is_positive.result.now lt c.loop-i.invariant t w.get-then-is_positive.ensures
          (w.kept-is ∙ w.in_ok-cross_falling.ensures.kept) w.in_ok-cross_falling.ensures.fits
      | else-is_positive w ↦
          let t : is_positive (entry (get_or c.args.rows.now c.loop-i.i []) c.args.column.k) ≡ false = cc (e, w.if-is_positive.false) in
          rw w.kept-is (done_no _ (λ r. all_of (crossed_fits c.args.column.k r) (falling c.args.column.k c.args.rows.now)) (λ r. is_positive (entry r c.args.column.k)) c.args.kept.now c.loop-i.kept c.args.rows.now c.loop-i.i [] lt c.loop-i.invariant t)
    ]

pub cross_falling-requires : goal.cross_falling-requires
cross_falling-requires c =
    let f : FitsSigned w128 c.entry.result = search rules in
    let e = (simp to_z-of_z at c.is_positive.ensures) ∙ ap is_positive (c.entry.ensures ∙ ap (λ r. entry r c.args.column.k) c.get.ensures) in
    let lt : c.loop-i.i < length c.args.rows.now = omega arith in
    let t : is_positive (entry (get_or c.args.rows.now c.loop-i.i []) c.args.column.k) ≡ true = cc (e, c.if-is_positive.true) in
    let up = positive_is (entry (get_or c.args.rows.now c.loop-i.i []) c.args.column.k) t in
    let long : c.requires.long.0 ≡ length c.get-then-is_positive.result.now = at_long c.requires.long.0 c.args.rows.now c.loop-i.i lt c.requires.long.1 ∙ ap length (sym c.get-then-is_positive.ensures) in
    record {
      fit = c.requires.fit;
      long = subst (λ n. AllLong n c.args.rows.now) long c.requires.long.1;
      falls = c.as_slice.ensures.value ∙ c.in_ok-falls.ensures;
      rises = subst (λ r. pos 1 ≤ℤ entry r c.args.column.k) (sym c.get-then-is_positive.ensures) up;
    }

pub returns-in_err-cross_falling-clause-wide : goal.returns-in_err-cross_falling-clause-wide
unfolding crossings_fit
returns-in_err-cross_falling-clause-wide c =
    let f : FitsSigned w128 c.entry.result = search rules in
    let e = (simp to_z-of_z at c.is_positive.ensures) ∙ ap is_positive (c.entry.ensures ∙ ap (λ r. entry r c.args.column.k) c.get.ensures) in
    let lt : c.loop-i.i < length c.args.rows.now = omega arith in
    let t : is_positive (entry (get_or c.args.rows.now c.loop-i.i []) c.args.column.k) ≡ true = cc (e, c.if-is_positive.true) in
    let p = err_from_is_err_and c.from_residual-in_err-cross_falling.result c.from_residual-in_err-cross_falling.ensures.1 in
    λ is. not_all (λ r. is_positive (entry r c.args.column.k)) (λ r. all_of (crossed_fits c.args.column.k r) (falling c.args.column.k c.args.rows.now)) c.args.rows.now c.loop-i.i [] lt t
    (sym (ap (λ r. all_of (crossed_fits c.args.column.k r) (falling c.args.column.k c.args.rows.now)) c.get-then-is_positive.ensures) ∙ c.in_err-cross_falling.ensures.wide (cc (p.1, p.2, is)))

pub returns-then-is_crowded : goal.returns-then-is_crowded
unfolding crossings
returns-then-is_crowded c =
    let two = both c.may_stop-stops.result (nat_lt 4096 (length c.loop-i.kept)) (sym c.is_crowded.ensures ∙ c.if-is_crowded.true) in
    let many : 4096 < length c.loop-i.kept = ltb-true 4096 (length c.loop-i.kept) two.1 in
    let all = full_all c.args.column.last (λ r. map (λ s. crossed c.args.column.k r s) (falling c.args.column.k c.args.rows.now)) (λ r. is_positive (entry r c.args.column.k)) c.args.kept.now c.loop-i.kept c.args.rows.now c.loop-i.i c.loop-i.invariant.kept_is many in
    record {
      kept = all ∙ fold-flat_map (add_row c.args.column.last) (λ r. map (λ s. crossed c.args.column.k r s) (falling c.args.column.k c.args.rows.now)) c.args.kept.now (rising c.args.column.k c.args.rows.now);
      fits = stopped c.args.brief c.args.column.k c.args.rows.now c.loop-i.kept (sym c.may_stop-stops.ensures ∙ two.0) many;
      wide = λ is. cc;
    }

pub returns : goal.returns
unfolding crossings crossings_fit
returns c =
    let d = done_all _ (λ r. all_of (crossed_fits c.args.column.k r) (falling c.args.column.k c.args.rows.now)) (λ r. is_positive (entry r c.args.column.k)) c.args.kept.now c.loop-i.kept c.args.rows.now c.loop-i.i (omega arith) c.loop-i.invariant in
    record {
      kept = d.kept_is ∙ fold-flat_map (add_row c.args.column.last) (λ r. map (λ s. crossed c.args.column.k r s) (falling c.args.column.k c.args.rows.now)) c.args.kept.now (rising c.args.column.k c.args.rows.now);
      fits = fits_unless c.args.brief c.loop-i.kept (crossings_fit c.args.column.k c.args.rows.now) d.pass;
      wide = λ is. cc;
    }
