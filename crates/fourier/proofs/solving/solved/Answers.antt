use Rattle.std.proofs.Common.{◌≡◌, ◌+◌, ◌<◌, ◌≤◌, length, drop, get_or, [], arith, ap, sym, subst, ◌∙◌, true, cond, Ok, Err}
use Rattle.std.proofs.lemmas.Result.{err_from_is_err_and}
use Rattle.linear_rows.specs.Plain.{plain_rows}
use Rattle.linear_rows.specs.Proves.{Refutes}
use Rattle.linear_rows.specs.Step.{columns}
use Rattle.linear_rows.specs.Solving.{start_rows, refutes_in, solution}
use Rattle.linear_rows.specs.Solving.Solution.{Blown, Refuted}
use Rattle.sparse_rows.specs.Adding.{AllLong}
use Rattle.fourier.specs.History.{StepsSay}
use Rattle.fourier.specs.Solves.{Spells}
use Rattle.fourier.proofs.EliminateLemmas.{long_of}
use Rattle.fourier.proofs.SolveLemmas.{start_long, SolveHistory, solve_history, fault_spells, end_left, row_refutes, end_found, spells_unless}
use Rattle.fourier.proofs.solving.solved.Goals as goal

pub eliminate_columns-requires-clause-long : goal.eliminate_columns-requires-clause-long
eliminate_columns-requires-clause-long c =
    let n = c.args.rows.now.width in
    let given = plain_rows c.args.rows.now.list in
    (n + 2 + length given, subst (AllLong (n + 2 + length given)) (sym c.in_ok-start.ensures) (start_long n given (long_of n c.args.rows.now.list c.requires)))

pub returns-in_err-steps : goal.returns-in_err-steps
returns-in_err-steps c =
    let n = c.args.rows.now.width in
    let given = plain_rows c.args.rows.now.list in
    let wide : AllLong (n + 1) given = long_of n c.args.rows.now.list c.requires in
    let el : c.in-Some.last ≡ n + 1 = c.in-Some.ensures.1 in
    let p = err_from_is_err_and c.from_residual-in_err-steps.result c.from_residual-in_err-steps.ensures.1 in
    rw (p.1, p.2) (fault_spells c.args.brief n given c.in_err-steps.field-0.0 (subst (λ r. StepsSay c.args.brief (n + 1) (columns 1 (n + 1)) r (Err c.in_err-steps.field-0.0)) c.in_ok-start.ensures (subst (λ k. StepsSay c.args.brief k (columns 1 k) c.in_ok-start.start (Err c.in_err-steps.field-0.0)) el c.in_err-steps.ensures)))

pub refuted-requires-clause-refutes : goal.refuted-requires-clause-refutes
refuted-requires-clause-refutes c =
    let n = c.args.rows.now.width in
    let given = plain_rows c.args.rows.now.list in
    let wide : AllLong (n + 1) given = long_of n c.args.rows.now.list c.requires in
    let el : c.in-Some.last ≡ n + 1 = c.in-Some.ensures.1 in
    let told : StepsSay c.args.brief (n + 1) (columns 1 (n + 1)) (start_rows n given) (Ok c.in_ok-steps.steps) =
    subst (λ r. StepsSay c.args.brief (n + 1) (columns 1 (n + 1)) r (Ok c.in_ok-steps.steps)) c.in_ok-start.ensures (subst (λ k. StepsSay c.args.brief k (columns 1 k) c.in_ok-start.start (Ok c.in_ok-steps.steps)) el c.in_ok-steps.ensures) in
    let er : c.get.result.now ≡ get_or c.in_ok-steps.steps.left 0 [] = c.get.ensures in
    let some : 0 < length c.in_ok-steps.steps.left = omega arith in
    let two : n + 2 ≡ c.in-Some.last + 1 = omega (arith, el) in
    subst (λ k. Refutes n given (drop k c.get.result.now)) two (row_refutes n given c.in_ok-steps.steps.left c.get.result.now wide told.0 some er)

pub returns-then-len-gt0 : goal.returns-then-len-gt0
returns-then-len-gt0 c =
    let n = c.args.rows.now.width in
    let given = plain_rows c.args.rows.now.list in
    let wide : AllLong (n + 1) given = long_of n c.args.rows.now.list c.requires in
    let el : c.in-Some.last ≡ n + 1 = c.in-Some.ensures.1 in
    let told : StepsSay c.args.brief (n + 1) (columns 1 (n + 1)) (start_rows n given) (Ok c.in_ok-steps.steps) =
    subst (λ r. StepsSay c.args.brief (n + 1) (columns 1 (n + 1)) r (Ok c.in_ok-steps.steps)) c.in_ok-start.ensures (subst (λ k. StepsSay c.args.brief k (columns 1 k) c.in_ok-start.start (Ok c.in_ok-steps.steps)) el c.in_ok-steps.ensures) in
    let er : c.get.result.now ≡ get_or c.in_ok-steps.steps.left 0 [] = c.get.ensures in
    let some : 0 < length c.in_ok-steps.steps.left = omega arith in
    let two : n + 2 ≡ c.in-Some.last + 1 = omega (arith, el) in
    let is : solution n given ≡ cond (refutes_in given (drop (c.in-Some.last + 1) c.get.result.now) 0 (n + 1)) (Refuted (drop (c.in-Some.last + 1) c.get.result.now)) (Blown c.in-Some.last true) =
    end_left n given c.in_ok-steps.steps.left c.get.result.now told.2 told.0 some er
    ∙ ap (λ k. cond (refutes_in given (drop k c.get.result.now) 0 (n + 1)) (Refuted (drop k c.get.result.now)) (Blown (n + 1) true)) two
    ∙ ap (λ k. cond (refutes_in given (drop (c.in-Some.last + 1) c.get.result.now) 0 (n + 1)) (Refuted (drop (c.in-Some.last + 1) c.get.result.now)) (Blown k true)) (sym el) in
    spells_unless c.args.brief (solution n given) c.refuted.result (subst (λ s. Spells s c.refuted.result) (sym is) c.refuted.ensures)

pub found-requires-clause-steps : goal.found-requires-clause-steps
found-requires-clause-steps c =
    let n = c.args.rows.now.width in
    let given = plain_rows c.args.rows.now.list in
    let wide : AllLong (n + 1) given = long_of n c.args.rows.now.list c.requires in
    let el : c.in-Some.last ≡ n + 1 = c.in-Some.ensures.1 in
    let told : StepsSay c.args.brief (n + 1) (columns 1 (n + 1)) (start_rows n given) (Ok c.in_ok-steps.steps) =
    subst (λ r. StepsSay c.args.brief (n + 1) (columns 1 (n + 1)) r (Ok c.in_ok-steps.steps)) c.in_ok-start.ensures (subst (λ k. StepsSay c.args.brief k (columns 1 k) c.in_ok-start.start (Ok c.in_ok-steps.steps)) el c.in_ok-steps.ensures) in
    let h : SolveHistory n c.in_ok-steps.steps.before = solve_history n given c.in_ok-steps.steps.before wide told.1 told.2 in
    h.steps

pub found-requires-clause-fit : goal.found-requires-clause-fit
found-requires-clause-fit c =
    let n = c.args.rows.now.width in
    let given = plain_rows c.args.rows.now.list in
    let wide : AllLong (n + 1) given = long_of n c.args.rows.now.list c.requires in
    let el : c.in-Some.last ≡ n + 1 = c.in-Some.ensures.1 in
    let told : StepsSay c.args.brief (n + 1) (columns 1 (n + 1)) (start_rows n given) (Ok c.in_ok-steps.steps) =
    subst (λ r. StepsSay c.args.brief (n + 1) (columns 1 (n + 1)) r (Ok c.in_ok-steps.steps)) c.in_ok-start.ensures (subst (λ k. StepsSay c.args.brief k (columns 1 k) c.in_ok-start.start (Ok c.in_ok-steps.steps)) el c.in_ok-steps.ensures) in
    let h : SolveHistory n c.in_ok-steps.steps.before = solve_history n given c.in_ok-steps.steps.before wide told.1 told.2 in
    h.fit

pub found-requires-clause-long : goal.found-requires-clause-long
found-requires-clause-long c =
    let n = c.args.rows.now.width in
    let given = plain_rows c.args.rows.now.list in
    let wide : AllLong (n + 1) given = long_of n c.args.rows.now.list c.requires in
    let el : c.in-Some.last ≡ n + 1 = c.in-Some.ensures.1 in
    let told : StepsSay c.args.brief (n + 1) (columns 1 (n + 1)) (start_rows n given) (Ok c.in_ok-steps.steps) =
    subst (λ r. StepsSay c.args.brief (n + 1) (columns 1 (n + 1)) r (Ok c.in_ok-steps.steps)) c.in_ok-start.ensures (subst (λ k. StepsSay c.args.brief k (columns 1 k) c.in_ok-start.start (Ok c.in_ok-steps.steps)) el c.in_ok-steps.ensures) in
    let h : SolveHistory n c.in_ok-steps.steps.before = solve_history n given c.in_ok-steps.steps.before wide told.1 told.2 in
    h.long

pub returns : goal.returns
returns c =
    let n = c.args.rows.now.width in
    let given = plain_rows c.args.rows.now.list in
    let wide : AllLong (n + 1) given = long_of n c.args.rows.now.list c.requires in
    let el : c.in-Some.last ≡ n + 1 = c.in-Some.ensures.1 in
    let told : StepsSay c.args.brief (n + 1) (columns 1 (n + 1)) (start_rows n given) (Ok c.in_ok-steps.steps) =
    subst (λ r. StepsSay c.args.brief (n + 1) (columns 1 (n + 1)) r (Ok c.in_ok-steps.steps)) c.in_ok-start.ensures (subst (λ k. StepsSay c.args.brief k (columns 1 k) c.in_ok-start.start (Ok c.in_ok-steps.steps)) el c.in_ok-steps.ensures) in
    let none : length c.in_ok-steps.steps.left ≤ 0 = omega arith in
    spells_unless c.args.brief (solution n given) c.found.result (subst (λ s. Spells s c.found.result) (end_found n given c.in_ok-steps.steps.left c.in_ok-steps.steps.before told.2 told.0 none told.1) c.found.ensures)
