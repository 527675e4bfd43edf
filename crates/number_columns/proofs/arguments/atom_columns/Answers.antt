use Rattle.std.proofs.Common.{◌≡◌, ◌∙◌, ◌∷◌, ◌++◌, ◌+◌, ◌*◌, ℕ, suc, [], ℤ, List, Option, map, take, length, slice_get, get_or, sum, Some, IsTrue, sym, subst, ap, arith}
use Rattle.std.proofs.lemmas.List.{length-map}
use Rattle.cti_terms.specs.Spell.{tree_of}
use Rattle.cti_terms.specs.Tree.{Tree, is_below, nodes_of}
use Rattle.termination_model.specs.columns.Columns.{columns_of, counted}
use Rattle.termination_model.proofs.Lists.{at_place, by_places, indexed, mapped_place, sum_part}
use Rattle.number_columns.specs.ColumnLists.{HaveLength, counts_at, kinds_at, plain_column, plain_columns}
use Rattle.number_columns.specs.declared.kind.Kind.{Kind}
use Rattle.number_columns.specs.declared.kind.Kind.TheVariants.{Size}
use Rattle.number_columns.proofs.ArgumentLaws.{columns_length, columns_more, length_columns, place_or, take_all}
use Rattle.number_columns.proofs.arguments.atom_columns.Goals as goal

pub add_columns-requires-clause-below : goal.add_columns-requires-clause-below
add_columns-requires-clause-below g c =
    let i = c.loop-i.i in
    let items = c.as_slice-args.result.now in
    let t = tree_of c.index-args-i.result in
    let at : slice_get c.args.atom.now.args i ≡ Some t = ap (λ (ts : List Tree). slice_get ts i) (sym c.as_slice-args.ensures) ∙ mapped_place tree_of items i c.index-args-i.result (at_place items i c.index-args-i.result (omega arith) c.index-args-i.is) in
    by_places (λ t. IsTrue (is_below c.args.vars t)) c.args.atom.now.args c.requires.below i t at

pub add_columns-requires-clause-small : goal.add_columns-requires-clause-small
add_columns-requires-clause-small g c =
    let i = c.loop-i.i in
    let items = c.as_slice-args.result.now in
    let t = tree_of c.index-args-i.result in
    let at : slice_get c.args.atom.now.args i ≡ Some t = ap (λ (ts : List Tree). slice_get ts i) (sym c.as_slice-args.ensures) ∙ mapped_place tree_of items i c.index-args-i.result (at_place items i c.index-args-i.result (omega arith) c.index-args-i.is) in
    omega (arith, c.requires.small, sum_part nodes_of c.args.atom.now.args i t at)

pub loop-i-preserved : goal.loop-i-preserved
loop-i-preserved g c =
    let i = c.loop-i.i in
    let items = c.as_slice-args.result.now in
    let t = tree_of c.index-args-i.result in
    let q = c.args.atom.now.pred.0 in
    let count = g.C.Columns.count c.args.columns.now in
    let kinds = g.C.Columns.listed c.args.columns.now in
    let expression = (g.C.Columns.columns c.args.columns.now).expression c.args.vars in
    let at : slice_get c.args.atom.now.args i ≡ Some t = ap (λ (ts : List Tree). slice_get ts i) (sym c.as_slice-args.ensures) ∙ mapped_place tree_of items i c.index-args-i.result (at_place items i c.index-args-i.result (omega arith) c.index-args-i.is) in
    let ensured = c.in_ok-add_columns.ensures in
    let own = c.as_slice-kinds.result.now in
    let kind = get_or own i Size in
    let list : kinds_at kinds q ≡ own = indexed kinds q c.get.result.now [] (ap (λ (ks : List (List Kind)). slice_get ks q) (sym c.kinds.ensures) ∙ c.get.ensures) ∙ sym c.as_slice-kinds.ensures in
    let there : slice_get (counts_at count kinds q) i ≡ Some (count kind) =
    ap (λ (ks : List Kind). slice_get (map count ks) i) list ∙ mapped_place count own i kind (place_or own i Size (omega (arith, c.requires.arity, ap length list, ap length c.as_slice-args.ensures, length-map items tree_of))) in
    ensured ∙ ap (λ s. s ++ counted 0 (count kind) (expression t)) c.loop-i.invariant
    ∙ columns_more (counts_at count kinds q) (map expression c.args.atom.now.args) i (count kind) (expression t) there (mapped_place expression c.args.atom.now.args i t at)

pub returns-clause-columns : goal.returns-clause-columns
returns-clause-columns g c =
    let m = g.C.Columns.columns c.args.columns.now in
    let q = c.args.atom.now.pred.0 in
    let count = g.C.Columns.count c.args.columns.now in
    let kinds = g.C.Columns.listed c.args.columns.now in
    let args = c.args.atom.now.args in
    let items = c.as_slice-args.result.now in
    let i = c.loop-i.i in
    let long : length args ≡ length items = sym (ap length c.as_slice-args.ensures) ∙ length-map items tree_of in
    let counts = take_all (counts_at count kinds q) i (omega (arith, long, c.requires.arity, length-map (kinds_at kinds q) count)) in
    let us = take_all (map (m.expression c.args.vars) args) i (omega (arith, long, length-map args (m.expression c.args.vars))) in
    c.loop-i.invariant ∙ (λ j. columns_of (counts j) (us j))

pub returns-clause-lengths : goal.returns-clause-lengths
returns-clause-lengths g c =
    let m = g.C.Columns.columns c.args.columns.now in
    let n = c.args.vars * m.width in
    let q = c.args.atom.now.pred.0 in
    let all = returns-clause-columns g c in
    subst (HaveLength n) (sym all) (columns_length n (m.expression c.args.vars) (g.met.C.Columns.lengths c.args.columns.now c.args.vars) (counts_at (g.C.Columns.count c.args.columns.now) (g.C.Columns.listed c.args.columns.now) q) c.args.atom.now.args)

pub returns-clause-count : goal.returns-clause-count
returns-clause-count g c =
    let m = g.C.Columns.columns c.args.columns.now in
    let q = c.args.atom.now.pred.0 in
    let count = g.C.Columns.count c.args.columns.now in
    let kinds = g.C.Columns.listed c.args.columns.now in
    let args = c.args.atom.now.args in
    let all = returns-clause-columns g c in
    sym (length-map c.loop-i.list plain_column) ∙ ap length all
    ∙ length_columns (counts_at count kinds q) (map (m.expression c.args.vars) args) (omega (arith, c.requires.arity, length-map (kinds_at kinds q) count, length-map args (m.expression c.args.vars)))
