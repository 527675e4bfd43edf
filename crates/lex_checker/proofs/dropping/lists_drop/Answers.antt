use Rattle.std.proofs.Common.{◌↔◌, ℕ, IsTrue, inl, inr, List, length, refl, sym, subst, ◌∙◌, arith, below_more}
use Rattle.std.proofs.lemmas.Bool.{cases_lt}
use Rattle.linear_rows.specs.Plain.{plain_rows}
use Rattle.linear_rows.specs.declared.multipliers.Multipliers.{Multipliers}
use Rattle.number_tests.specs.Shape.{list_at}
use Rattle.number_tests.specs.declared.level_part.LevelPart.{LevelPart}
use Rattle.lex_checker.specs.Shape.{AreShown}
use Rattle.lex_checker.proofs.DropLists.{shown_past}
use Rattle.lex_checker.proofs.dropping.lists_drop.Goals as goal

pub returns-then-not-branch : goal.returns-then-not-branch
returns-then-not-branch c =
    let n = c.loop-m.m in
    let rows = plain_rows c.args.rows.now.list in
    let columns = c.args.columns.now in
    let decided : IsTrue c.in_ok-measures_drop.field-0 ↔ AreShown rows columns (list_at c.args.heads.now n) (list_at c.args.calls.now n) (list_at c.args.proofs.now n) =
    subst (λ (hs : List LevelPart). IsTrue c.in_ok-measures_drop.field-0 ↔ AreShown rows columns hs (list_at c.args.calls.now n) (list_at c.args.proofs.now n)) c.items_at-own.ensures
    (subst (λ (cs : List LevelPart). IsTrue c.in_ok-measures_drop.field-0 ↔ AreShown rows columns c.items_at-own.result.now cs (list_at c.args.proofs.now n)) c.items_at-other.ensures
    (subst (λ (ms : List Multipliers). IsTrue c.in_ok-measures_drop.field-0 ↔ AreShown rows columns c.items_at-own.result.now c.items_at-other.result.now ms) c.items_at.ensures c.in_ok-measures_drop.ensures)) in
    (λ no. cc, λ all. sym c.if-not-branch.true ∙ decided.1 (all n))

pub loop-m-preserved : goal.loop-m-preserved
loop-m-preserved c =
    let n = c.loop-m.m in
    let rows = plain_rows c.args.rows.now.list in
    let columns = c.args.columns.now in
    let decided : IsTrue c.in_ok-measures_drop.field-0 ↔ AreShown rows columns (list_at c.args.heads.now n) (list_at c.args.calls.now n) (list_at c.args.proofs.now n) =
    subst (λ (hs : List LevelPart). IsTrue c.in_ok-measures_drop.field-0 ↔ AreShown rows columns hs (list_at c.args.calls.now n) (list_at c.args.proofs.now n)) c.items_at-own.ensures
    (subst (λ (cs : List LevelPart). IsTrue c.in_ok-measures_drop.field-0 ↔ AreShown rows columns c.items_at-own.result.now cs (list_at c.args.proofs.now n)) c.items_at-other.ensures
    (subst (λ (ms : List Multipliers). IsTrue c.in_ok-measures_drop.field-0 ↔ AreShown rows columns c.items_at-own.result.now c.items_at-other.result.now ms) c.items_at.ensures c.in_ok-measures_drop.ensures)) in
    below_more (λ (m : ℕ). AreShown rows columns (list_at c.args.heads.now m) (list_at c.args.calls.now m) (list_at c.args.proofs.now m)) n c.loop-m.invariant (decided.0 c.if-not-branch.false)

pub returns : goal.returns
returns c = (
  λ yes m. elim (cases_lt m (length c.args.proofs.now)) [
    | inl lt ↦ c.loop-m.invariant m (omega (arith, lt))
    | inr le ↦ shown_past (plain_rows c.args.rows.now.list) c.args.columns.now (list_at c.args.heads.now m) (list_at c.args.calls.now m) c.args.proofs.now m (omega (arith, le))
  ],
  λ all. refl,
)
