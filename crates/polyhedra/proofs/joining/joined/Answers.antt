use Rattle.std.proofs.Common.{◌≡◌, ℕ, ℤ, List, subst, ◌∙◌}
use Rattle.linear_rows.specs.Plain.{plain_rows, HaveWidth}
use Rattle.polyhedra.specs.declared.emptiness.Emptiness.{Emptiness}
use Rattle.polyhedra.specs.Filling.{IsEmptiness}
use Rattle.polyhedra.specs.PolyLaws.{law_of_spoken}
use Rattle.polyhedra.proofs.Cores.{first_empty, second_empty, said_join}
use Rattle.polyhedra.proofs.joining.joined.Goals as goal

at_width : (n m : ℕ) (rows : List (List ℤ)) (e : Emptiness) → m ≡ n → IsEmptiness m rows e → IsEmptiness n rows e
at_width n m rows e same h = subst (λ (k : ℕ). IsEmptiness k rows e) same h

pub returns-in_ok-copy-in-Empty-clause-rows : goal.returns-in_ok-copy-in-Empty-clause-rows
returns-in_ok-copy-in-Empty-clause-rows c =
    let first = c.args.first.now in
    let second = c.args.second.now in
    let n = first.rows.width in
    let empty = subst (IsEmptiness n (plain_rows first.rows.list)) c.in-Empty.is c.in_ok-own.ensures in
    said_join n (plain_rows first.rows.list) (plain_rows second.rows.list) c.strong.result.value.rows second.rows c.strong.result.weak
    (c.strong.ensures.rows ∙ c.in_ok-copy-in-Empty.ensures) c.strong.ensures.weak
    (first_empty n (plain_rows first.rows.list) (plain_rows second.rows.list) empty (law_of_spoken n second.rows.list (subst (λ (k : ℕ). HaveWidth k second.rows.list) c.requires second.widths) second.fit))

pub returns-in_ok-copy-in-Empty-others-clause-rows : goal.returns-in_ok-copy-in-Empty-others-clause-rows
returns-in_ok-copy-in-Empty-others-clause-rows c =
    let first = c.args.first.now in
    let second = c.args.second.now in
    let n = first.rows.width in
    let empty = subst (IsEmptiness n (plain_rows second.rows.list)) c.in-Empty-others.is (at_width n second.rows.width (plain_rows second.rows.list) c.in_ok-others.others c.requires c.in_ok-others.ensures) in
    said_join n (plain_rows first.rows.list) (plain_rows second.rows.list) c.strong-in-Empty-others.result.value.rows first.rows c.strong-in-Empty-others.result.weak
    (c.strong-in-Empty-others.ensures.rows ∙ c.in_ok-copy-in-Empty-others.ensures) c.strong-in-Empty-others.ensures.weak
    (second_empty n (plain_rows first.rows.list) (plain_rows second.rows.list) empty (law_of_spoken n first.rows.list first.widths first.fit))

pub returns-in_ok-copy-in-Empty-others-2-clause-rows : goal.returns-in_ok-copy-in-Empty-others-2-clause-rows
returns-in_ok-copy-in-Empty-others-2-clause-rows c =
    let first = c.args.first.now in
    let second = c.args.second.now in
    let n = first.rows.width in
    let empty = subst (IsEmptiness n (plain_rows second.rows.list)) c.in-Empty-others-2.is (at_width n second.rows.width (plain_rows second.rows.list) c.in_ok-others.others c.requires c.in_ok-others.ensures) in
    said_join n (plain_rows first.rows.list) (plain_rows second.rows.list) c.strong-in-Empty-others-2.result.value.rows first.rows c.strong-in-Empty-others-2.result.weak
    (c.strong-in-Empty-others-2.ensures.rows ∙ c.in_ok-copy-in-Empty-others-2.ensures) c.strong-in-Empty-others-2.ensures.weak
    (second_empty n (plain_rows first.rows.list) (plain_rows second.rows.list) empty (law_of_spoken n first.rows.list first.widths first.fit))
