use Rattle.std.proofs.Common.{◌≡◌, ◌++◌, ◌||◌, ℕ, List, ℤ, map, sym, subst, ap, ◌∙◌, OnOk}
use Rattle.linear_rows.specs.Plain.{plain_rows}
use Rattle.linear_rows.specs.declared.row.Row.{Row}
use Rattle.termination_model.specs.sizes.Replacing.{AreColumns, over_columns}
use Rattle.termination_model.specs.sizes.Sizes.{plain_or_none, rows_of, wide_rows}
use Rattle.termination_model.specs.sizes.Systems.{row_over}
use Rattle.termination_model.specs.sizes.ShortSystems.{short_row}
use Rattle.termination_model.proofs.SystemLaws.{rows_over}
use Rattle.termination_model.proofs.systems.add_atom.Goals as goal

pub returns-clause-rows : goal.returns-clause-rows
returns-clause-rows g c =
    let n = c.args.system.now.variables in
    let args = c.args.atom.now.args in
    let e = g.N.Norm.expression c.args.norm.now in
    let made = c.new-expressions.ensures in
    let es : plain_rows c.add_expressions.new.rows.list ≡ map (e n) args =
    c.in_ok-add_expressions.ensures.each
    ∙ ap (λ (rs : List Row). plain_rows rs ++ map (e c.new-expressions.result.width) args) made.list
    ∙ ap (λ (k : ℕ). map (e k) args) made.width in
    let are : AreColumns (map (e n) args) n c.in_ok-columns.columns.items =
    subst (λ (k : ℕ). AreColumns (map (e n) args) k c.in_ok-columns.columns.items) (c.add_expressions.ensures.width ∙ made.width)
    (subst (λ (xs : List (List ℤ)). AreColumns xs c.add_expressions.new.rows.width c.in_ok-columns.columns.items) es c.in_ok-columns.ensures) in
    let own : plain_rows c.get-own.result.now.list ≡ rows_of c.args.sizes.now c.args.atom.now.pred.0 = ap plain_or_none (sym c.get-own.ensures) in
    let same : map (over_columns c.as_slice.result.now) (plain_rows c.get-own.result.now.list) ≡ map (row_over e n args) (rows_of c.args.sizes.now c.args.atom.now.pred.0) =
    ap (λ (cs : List (List ℤ)). map (over_columns cs) (plain_rows c.get-own.result.now.list)) c.as_slice.ensures.value
    ∙ rows_over (g.N.Norm.size c.args.norm.now) (g.N.Norm.truth c.args.norm.now) e (g.met.N.Norm.laws c.args.norm.now) n args c.in_ok-columns.columns.items are (plain_rows c.get-own.result.now.list)
    ∙ ap (map (row_over e n args)) own in
    subst (λ (s : List (List ℤ)). OnOk c.add_rows.result (plain_rows c.add_rows.new.system.rows.list ≡ plain_rows c.args.system.now.rows.list ++ map short_row s)) same c.add_rows.ensures.rows

pub returns-clause-wide : goal.returns-clause-wide
returns-clause-wide g c =
    let n = c.args.system.now.variables in
    let args = c.args.atom.now.args in
    let e = g.N.Norm.expression c.args.norm.now in
    let made = c.new-expressions.ensures in
    let es : plain_rows c.add_expressions.new.rows.list ≡ map (e n) args =
    c.in_ok-add_expressions.ensures.each
    ∙ ap (λ (rs : List Row). plain_rows rs ++ map (e c.new-expressions.result.width) args) made.list
    ∙ ap (λ (k : ℕ). map (e k) args) made.width in
    let are : AreColumns (map (e n) args) n c.in_ok-columns.columns.items =
    subst (λ (k : ℕ). AreColumns (map (e n) args) k c.in_ok-columns.columns.items) (c.add_expressions.ensures.width ∙ made.width)
    (subst (λ (xs : List (List ℤ)). AreColumns xs c.add_expressions.new.rows.width c.in_ok-columns.columns.items) es c.in_ok-columns.ensures) in
    let own : plain_rows c.get-own.result.now.list ≡ rows_of c.args.sizes.now c.args.atom.now.pred.0 = ap plain_or_none (sym c.get-own.ensures) in
    let same : map (over_columns c.as_slice.result.now) (plain_rows c.get-own.result.now.list) ≡ map (row_over e n args) (rows_of c.args.sizes.now c.args.atom.now.pred.0) =
    ap (λ (cs : List (List ℤ)). map (over_columns cs) (plain_rows c.get-own.result.now.list)) c.as_slice.ensures.value
    ∙ rows_over (g.N.Norm.size c.args.norm.now) (g.N.Norm.truth c.args.norm.now) e (g.met.N.Norm.laws c.args.norm.now) n args c.in_ok-columns.columns.items are (plain_rows c.get-own.result.now.list)
    ∙ ap (map (row_over e n args)) own in
    subst (λ (s : List (List ℤ)). OnOk c.add_rows.result (c.add_rows.new.system.wide ≡ (c.args.system.now.wide || wide_rows s))) same c.add_rows.ensures.wide
