use Rattle.std.proofs.Common.{◌≡◌, ◌+◌, length, drop, arith, refl, ap, sym, subst, ◌∙◌, pos, true, cond}
use Rattle.linear_rows.specs.Plain.{plain_row, plain_rows}
use Rattle.linear_rows.specs.Verdict.{Says}
use Rattle.linear_rows.specs.Solving.Solution.{Blown, Refuted}
use Rattle.linear_rows.specs.declared.multipliers.Proof.TheVariants.{Holds, Fails, Wide}
use Rattle.fourier.proofs.CheckLemmas.{holds_tells, wide_tells, fails_not}
use Rattle.fourier.proofs.ValueLemmas.{minus_one_long}
use Rattle.fourier.proofs.solving.refuted.Goals as goal

pub proves-requires-clause-target : goal.proves-requires-clause-target
proves-requires-clause-target c = omega (arith, minus_one_long c.args.rows.now.width c.in_ok-target.target c.in_ok-target.ensures)

pub returns-in-Holds : goal.returns-in-Holds
returns-in-Holds c =
    let n = c.args.rows.now.width in
    let given = plain_rows c.args.rows.now.list in
    let ms = drop (c.args.last + 1) c.args.line.now in
    let target = plain_row c.in_ok-target.target in
    let et : length target ≡ n + 1 = minus_one_long n c.in_ok-target.target c.in_ok-target.ensures in
    let same : c.as_slice.result.now ≡ ms = c.as_slice.ensures ∙ c.in_ok-list.ensures in
    let says : Says given c.as_slice.result.now target (pos 0) Holds = c.in-Holds.ensures.says in
    let t = holds_tells n given ms target et c.requires.refutes.long (subst (λ l. Says given l target (pos 0) Holds) same says) in
    (refl, ap (λ b. cond b (Refuted ms) (Blown c.args.last true)) t ∙ ap Refuted (sym c.in_ok-list.ensures))

pub returns-in-Fails : goal.returns-in-Fails
returns-in-Fails c =
    let n = c.args.rows.now.width in
    let given = plain_rows c.args.rows.now.list in
    let ms = drop (c.args.last + 1) c.args.line.now in
    let target = plain_row c.in_ok-target.target in
    let et : length target ≡ n + 1 = minus_one_long n c.in_ok-target.target c.in_ok-target.ensures in
    let same : c.as_slice.result.now ≡ ms = c.as_slice.ensures ∙ c.in_ok-list.ensures in
    let says : Says given c.as_slice.result.now target (pos 0) Fails = c.in-Fails.ensures.says in
    absurd (fails_not n given ms target et c.requires.refutes (subst (λ l. Says given l target (pos 0) Fails) same says))

pub returns-in-Wide : goal.returns-in-Wide
returns-in-Wide c =
    let n = c.args.rows.now.width in
    let given = plain_rows c.args.rows.now.list in
    let ms = drop (c.args.last + 1) c.args.line.now in
    let target = plain_row c.in_ok-target.target in
    let et : length target ≡ n + 1 = minus_one_long n c.in_ok-target.target c.in_ok-target.ensures in
    let same : c.as_slice.result.now ≡ ms = c.as_slice.ensures ∙ c.in_ok-list.ensures in
    let says : Says given c.as_slice.result.now target (pos 0) Wide = c.in-Wide.ensures.says in
    let t = wide_tells n given ms target et c.requires.refutes.long (subst (λ l. Says given l target (pos 0) Wide) same says) in
    ap (λ b. cond b (Refuted ms) (Blown c.args.last true)) t
