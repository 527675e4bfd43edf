use Rattle.std.proofs.Common.{rules, ◌≡◌, ◌++◌, ◌∷◌, [], ◌≤◌, ◌*ℤ◌, ◌+ℤ◌, ◌&&◌, length, arith, sym, ap, ◌∙◌}
use Rattle.std.specs.Int.{w128}
use Rattle.std.specs.Prelude.{FitsSigned}
use Rattle.std.proofs.lemmas.Int.{to_z-of_z}
use Rattle.linear_rows.specs.Blown.{blend_fits}
use Rattle.linear_rows.specs.Solving.{zeros}
use Rattle.sparse_rows.specs.Blending.{blended}
use Rattle.sparse_rows.specs.Sparse.{spread, rest_at}
use Rattle.sparse_rows.proofs.SparseLemmas.{more_left, nothing_left, blend_goes_on, blend_here, not_all, all_three, same_length, blend_ends, fits_end}
use Rattle.linear_rows.proofs.Refutes.{length-zeros}
use Rattle.sparse_rows.proofs.line.merge.Goals as goal
use Rattle.sparse_rows.proofs.line.merge.Goals.{then-p-r, else-p-r+then-q-s}

pub walk-x-requires-clause-more : goal.walk-x-requires-clause-more
walk-x-requires-clause-more c =
    let low : c.min-over.result ≤ c.loop-p.p.before = search rules in
    let low-q : c.min-over.result ≤ c.loop-p.q.before = search rules in
    let same = c.loop-p.invariant.same in
    elim c.if-p-r.branch [
      | then-p-r w ↦ omega (arith, more_left c.args.r.now c.args.r_tail c.loop-p.p w.if-p-r.true, low)
      | else-p-r+then-q-s w ↦ omega (arith, more_left c.args.s.now c.args.s_tail c.loop-p.q w.if-q-s.true, low-q, same)
    ]

pub walk-y-requires-clause-more : goal.walk-y-requires-clause-more
walk-y-requires-clause-more c =
    let low : c.min-over.result ≤ c.loop-p.p.before = search rules in
    let low-q : c.min-over.result ≤ c.loop-p.q.before = search rules in
    let same = c.loop-p.invariant.same in
    elim c.if-p-r.branch [
      | then-p-r w ↦ omega (arith, more_left c.args.r.now c.args.r_tail c.loop-p.p w.if-p-r.true, low, same)
      | else-p-r+then-q-s w ↦ omega (arith, more_left c.args.s.now c.args.s_tail c.loop-p.q w.if-q-s.true, low-q)
    ]

pub returns-in_default-clause-wide : goal.returns-in_default-clause-wide
returns-in_default-clause-wide c =
    let fa : FitsSigned w128 c.args.a = c.ranges.a in
    let fb : FitsSigned w128 c.args.b = c.ranges.b in
    let fx : FitsSigned w128 c.walk-x.result.0 = search rules in
    let fy : FitsSigned w128 c.walk-y.result.0 = search rules in
    let none = simp to_z-of_z at c.in_default.ensures in
    let before = simp to_z-of_z at c.loop-p.invariant.fits in
    λ same.
    sym before
    ∙ blend_here c.args.a c.args.b c.walk-x.result.0 c.walk-y.result.0 c.min-over.result (rest_at c.args.r.now c.args.r_tail c.loop-p.p) (rest_at c.args.s.now c.args.s_tail c.loop-p.q) (rest_at c.args.r.now c.args.r_tail c.walk-x.result.1) (rest_at c.args.s.now c.args.s_tail c.walk-y.result.1) c.walk-x.ensures c.walk-y.ensures
    ∙ ap (λ t. t && blend_fits c.args.a c.args.b (rest_at c.args.r.now c.args.r_tail c.walk-x.result.1) (rest_at c.args.s.now c.args.s_tail c.walk-y.result.1))
    (not_all (c.args.a *ℤ c.walk-x.result.0) (c.args.b *ℤ c.walk-y.result.0) (c.args.a *ℤ c.walk-x.result.0 +ℤ c.args.b *ℤ c.walk-y.result.0) none)

pub loop-p-preserved : goal.loop-p-preserved
loop-p-preserved c =
    let fa : FitsSigned w128 c.args.a = c.ranges.a in
    let fb : FitsSigned w128 c.args.b = c.ranges.b in
    let fx : FitsSigned w128 c.walk-x.result.0 = search rules in
    let fy : FitsSigned w128 c.walk-y.result.0 = search rules in
    let fs : FitsSigned w128 c.in-Some.sum = search rules in
    let is = simp to_z-of_z at c.in-Some.ensures in
    let so_far = simp to_z-of_z at c.loop-p.invariant.sum in
    let before = simp to_z-of_z at c.loop-p.invariant.fits in
    let padded = c.in_ok-push_zeros.ensures in
    let pushed = simp to_z-of_z at c.in_ok-push.ensures in
    let all = blended c.args.a c.args.b (spread c.args.r.now c.args.r_tail) (spread c.args.s.now c.args.s_tail) in
    simp to_z-of_z (record {
      same = same_length c.walk-x.result.0 c.walk-y.result.0 c.min-over.result (rest_at c.args.r.now c.args.r_tail c.loop-p.p) (rest_at c.args.s.now c.args.s_tail c.loop-p.q) (rest_at c.args.r.now c.args.r_tail c.walk-x.result.1) (rest_at c.args.s.now c.args.s_tail c.walk-y.result.1) c.walk-x.ensures c.walk-y.ensures c.loop-p.invariant.same;
      sum =
          blend_goes_on c.args.a c.args.b c.walk-x.result.0 c.walk-y.result.0 c.min-over.result (rest_at c.args.r.now c.args.r_tail c.loop-p.p) (rest_at c.args.s.now c.args.s_tail c.loop-p.q) (rest_at c.args.r.now c.args.r_tail c.walk-x.result.1) (rest_at c.args.s.now c.args.s_tail c.walk-y.result.1)
          c.loop-p.out c.push_zeros.new.self c.push.new.self all c.walk-x.ensures c.walk-y.ensures so_far padded (pushed ∙ ap (λ n. c.push_zeros.new.self ++ n ∷ []) is.1);
      fits =
          sym (
          blend_here c.args.a c.args.b c.walk-x.result.0 c.walk-y.result.0 c.min-over.result (rest_at c.args.r.now c.args.r_tail c.loop-p.p) (rest_at c.args.s.now c.args.s_tail c.loop-p.q) (rest_at c.args.r.now c.args.r_tail c.walk-x.result.1) (rest_at c.args.s.now c.args.s_tail c.walk-y.result.1) c.walk-x.ensures c.walk-y.ensures
          ∙ ap (λ t. t && blend_fits c.args.a c.args.b (rest_at c.args.r.now c.args.r_tail c.walk-x.result.1) (rest_at c.args.s.now c.args.s_tail c.walk-y.result.1))
          (all_three (c.args.a *ℤ c.walk-x.result.0) (c.args.b *ℤ c.walk-y.result.0) (c.args.a *ℤ c.walk-x.result.0 +ℤ c.args.b *ℤ c.walk-y.result.0) is.0))
          ∙ before;
    })

pub returns-clause-sum : goal.returns-clause-sum
returns-clause-sum c =
    let fa : FitsSigned w128 c.args.a = c.ranges.a in
    let fb : FitsSigned w128 c.args.b = c.ranges.b in
    let so_far = simp to_z-of_z at c.loop-p.invariant.sum in
    let er : rest_at c.args.r.now c.args.r_tail c.loop-p.p ≡ zeros c.loop-p.p.before = nothing_left c.args.r.now c.args.r_tail c.loop-p.p (omega arith) in
    let es : rest_at c.args.s.now c.args.s_tail c.loop-p.q ≡ zeros c.loop-p.q.before = nothing_left c.args.s.now c.args.s_tail c.loop-p.q (omega arith) in
    let one : c.loop-p.q.before ≡ c.loop-p.p.before = omega (arith, c.loop-p.invariant.same, ap length er, ap length es, length-zeros c.loop-p.p.before, length-zeros c.loop-p.q.before) in
    blend_ends c.args.a c.args.b c.loop-p.p.before (rest_at c.args.r.now c.args.r_tail c.loop-p.p) (rest_at c.args.s.now c.args.s_tail c.loop-p.q) c.loop-p.out c.push_zeros-2.new.self (blended c.args.a c.args.b (spread c.args.r.now c.args.r_tail) (spread c.args.s.now c.args.s_tail))
    er (es ∙ ap zeros one) so_far c.in_ok-push_zeros-2.ensures

pub returns-clause-fits : goal.returns-clause-fits
returns-clause-fits c =
    let fa : FitsSigned w128 c.args.a = c.ranges.a in
    let fb : FitsSigned w128 c.args.b = c.ranges.b in
    let before = simp to_z-of_z at c.loop-p.invariant.fits in
    let er : rest_at c.args.r.now c.args.r_tail c.loop-p.p ≡ zeros c.loop-p.p.before = nothing_left c.args.r.now c.args.r_tail c.loop-p.p (omega arith) in
    let es : rest_at c.args.s.now c.args.s_tail c.loop-p.q ≡ zeros c.loop-p.q.before = nothing_left c.args.s.now c.args.s_tail c.loop-p.q (omega arith) in
    let one : c.loop-p.q.before ≡ c.loop-p.p.before = omega (arith, c.loop-p.invariant.same, ap length er, ap length es, length-zeros c.loop-p.p.before, length-zeros c.loop-p.q.before) in
    fits_end c.args.a c.args.b c.loop-p.p.before (rest_at c.args.r.now c.args.r_tail c.loop-p.p) (rest_at c.args.s.now c.args.s_tail c.loop-p.q) (blend_fits c.args.a c.args.b (spread c.args.r.now c.args.r_tail) (spread c.args.s.now c.args.s_tail)) er (es ∙ ap zeros one) before
