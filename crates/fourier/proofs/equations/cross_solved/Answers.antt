use Rattle.std.proofs.Common.{rules, ◌≡◌, true, false, sym, ap, ◌∙◌, subst, OnOk}
use Rattle.std.specs.Int.{w128}
use Rattle.std.specs.Prelude.{FitsSigned}
use Rattle.std.proofs.lemmas.Int.{to_z-of_z}
use Rattle.exact128.specs.Sums.{entry}
use Rattle.linear_rows.specs.Elimination.{is_positive, is_negative}
use Rattle.fourier.proofs.Solveds.{solved_falls, solved_falls_fits, solved_rises, solved_rises_fits, solved_rests, solved_rests_fits}
use Rattle.fourier.proofs.equations.cross_solved.Goals as goal

pub returns-then-is_negative-clause-kept : goal.returns-then-is_negative-clause-kept
returns-then-is_negative-clause-kept c =
    let f : FitsSigned w128 c.entry.result = search rules in
    let n : is_negative (entry c.args.q.now c.args.column.k) ≡ true = cc ((simp to_z-of_z at c.is_negative.ensures), c.if-is_negative.true, ap is_negative c.entry.ensures) in
    subst (λ l. OnOk c.cross_add.result (c.cross_add.new.kept ≡ l)) (solved_falls c.args.column.last c.args.column.k c.args.r.now c.args.s.now c.args.kept.now c.args.q.now n) c.cross_add.ensures.kept

pub returns-then-is_negative-clause-fits : goal.returns-then-is_negative-clause-fits
returns-then-is_negative-clause-fits c =
    let f : FitsSigned w128 c.entry.result = search rules in
    let n : is_negative (entry c.args.q.now c.args.column.k) ≡ true = cc ((simp to_z-of_z at c.is_negative.ensures), c.if-is_negative.true, ap is_negative c.entry.ensures) in
    subst (λ b. OnOk c.cross_add.result (b ≡ true)) (solved_falls_fits c.args.column.k c.args.r.now c.args.s.now c.args.q.now n) c.cross_add.ensures.fits

pub returns-then-is_negative-clause-wide : goal.returns-then-is_negative-clause-wide
returns-then-is_negative-clause-wide c =
    let f : FitsSigned w128 c.entry.result = search rules in
    let n : is_negative (entry c.args.q.now c.args.column.k) ≡ true = cc ((simp to_z-of_z at c.is_negative.ensures), c.if-is_negative.true, ap is_negative c.entry.ensures) in
    λ is. sym (solved_falls_fits c.args.column.k c.args.r.now c.args.s.now c.args.q.now n) ∙ c.cross_add.ensures.wide is

pub returns-then-is_positive-clause-kept : goal.returns-then-is_positive-clause-kept
returns-then-is_positive-clause-kept c =
    let f : FitsSigned w128 c.entry.result = search rules in
    let n : is_negative (entry c.args.q.now c.args.column.k) ≡ false = cc ((simp to_z-of_z at c.is_negative.ensures), c.if-is_negative.false, ap is_negative c.entry.ensures) in
    let g : FitsSigned w128 c.entry-2.result = search rules in
    let p : is_positive (entry c.args.q.now c.args.column.k) ≡ true = cc ((simp to_z-of_z at c.is_positive.ensures), c.if-is_positive.true, ap is_positive c.entry-2.ensures) in
    subst (λ l. OnOk c.cross_add-then-is_positive.result (c.cross_add-then-is_positive.new.kept ≡ l)) (solved_rises c.args.column.last c.args.column.k c.args.r.now c.args.s.now c.args.kept.now c.args.q.now n p) c.cross_add-then-is_positive.ensures.kept

pub returns-then-is_positive-clause-fits : goal.returns-then-is_positive-clause-fits
returns-then-is_positive-clause-fits c =
    let f : FitsSigned w128 c.entry.result = search rules in
    let n : is_negative (entry c.args.q.now c.args.column.k) ≡ false = cc ((simp to_z-of_z at c.is_negative.ensures), c.if-is_negative.false, ap is_negative c.entry.ensures) in
    let g : FitsSigned w128 c.entry-2.result = search rules in
    let p : is_positive (entry c.args.q.now c.args.column.k) ≡ true = cc ((simp to_z-of_z at c.is_positive.ensures), c.if-is_positive.true, ap is_positive c.entry-2.ensures) in
    subst (λ b. OnOk c.cross_add-then-is_positive.result (b ≡ true)) (solved_rises_fits c.args.column.k c.args.r.now c.args.s.now c.args.q.now n p) c.cross_add-then-is_positive.ensures.fits

pub returns-then-is_positive-clause-wide : goal.returns-then-is_positive-clause-wide
returns-then-is_positive-clause-wide c =
    let f : FitsSigned w128 c.entry.result = search rules in
    let n : is_negative (entry c.args.q.now c.args.column.k) ≡ false = cc ((simp to_z-of_z at c.is_negative.ensures), c.if-is_negative.false, ap is_negative c.entry.ensures) in
    let g : FitsSigned w128 c.entry-2.result = search rules in
    let p : is_positive (entry c.args.q.now c.args.column.k) ≡ true = cc ((simp to_z-of_z at c.is_positive.ensures), c.if-is_positive.true, ap is_positive c.entry-2.ensures) in
    λ is. sym (solved_rises_fits c.args.column.k c.args.r.now c.args.s.now c.args.q.now n p) ∙ c.cross_add-then-is_positive.ensures.wide is

pub returns-clause-kept : goal.returns-clause-kept
returns-clause-kept c =
    let f : FitsSigned w128 c.entry.result = search rules in
    let n : is_negative (entry c.args.q.now c.args.column.k) ≡ false = cc ((simp to_z-of_z at c.is_negative.ensures), c.if-is_negative.false, ap is_negative c.entry.ensures) in
    let g : FitsSigned w128 c.entry-2.result = search rules in
    let p : is_positive (entry c.args.q.now c.args.column.k) ≡ false = cc ((simp to_z-of_z at c.is_positive.ensures), c.if-is_positive.false, ap is_positive c.entry-2.ensures) in
    solved_rests c.args.column.last c.args.column.k c.args.r.now c.args.s.now c.args.kept.now c.args.q.now n p

pub returns-clause-fits : goal.returns-clause-fits
returns-clause-fits c =
    let f : FitsSigned w128 c.entry.result = search rules in
    let n : is_negative (entry c.args.q.now c.args.column.k) ≡ false = cc ((simp to_z-of_z at c.is_negative.ensures), c.if-is_negative.false, ap is_negative c.entry.ensures) in
    let g : FitsSigned w128 c.entry-2.result = search rules in
    let p : is_positive (entry c.args.q.now c.args.column.k) ≡ false = cc ((simp to_z-of_z at c.is_positive.ensures), c.if-is_positive.false, ap is_positive c.entry-2.ensures) in
    solved_rests_fits c.args.column.k c.args.r.now c.args.s.now c.args.q.now n p
