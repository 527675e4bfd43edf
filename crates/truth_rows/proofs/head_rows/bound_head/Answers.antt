use Rattle.std.proofs.Common.{◌≡◌, ◌+◌, ◌&&◌, ℕ, Bool, IsTrue, List, length, slice_get, Some, refl, sym, ap, ◌∙◌, arith}
use Rattle.std.proofs.lemmas.List.{length-map}
use Rattle.bool_diagrams.specs.Rows.{holds, iff}
use Rattle.bool_diagrams.proofs.CallerLemmas.{keeps_same, keeps_twice}
use Rattle.cti_terms.specs.Spell.{tree_of}
use Rattle.cti_terms.specs.Tree.{Tree, is_below, nodes_of}
use Rattle.truth_rows.specs.Ready.{HasTruths}
use Rattle.truth_rows.proofs.ArgumentLaws.{number_at}
use Rattle.truth_rows.proofs.EndLaws.{asked_past, says_both, says_itself, says_later, says_same}
use Rattle.truth_rows.proofs.ListLaws.{up_to_more}
use Rattle.termination_model.proofs.Lists.{at_place, by_places, mapped_place, place_below, sum_part}
use Rattle.truth_rows.proofs.RowLaws.{iff_same, iff_true}
use Rattle.truth_rows.proofs.head_rows.bound_head.Goals as goal

pub loop-place-init : goal.loop-place-init
loop-place-init g c = record {
  keeps = keeps_same _;
  known = c.requires.known;
  rows = says_itself _ _ _ _ (λ v. (λ t. (t, λ j u lt e. absurd (omega arith)), λ h. h.0));
}

pub bound_rows-requires-clause-below : goal.bound_rows-requires-clause-below
bound_rows-requires-clause-below g c =
    let items = c.as_slice-argument-items.result.now in
    let at : slice_get c.args.arguments.now c.loop-place.place ≡ Some (tree_of c.argument-item.result) =
    ap (λ (ts : List Tree). slice_get ts c.loop-place.place) (sym c.as_slice-argument-items.ensures) ∙ mapped_place tree_of items c.loop-place.place c.argument-item.result (at_place items c.loop-place.place c.argument-item.result c.loop-place-test.true c.argument-item.is) in
    by_places (λ t. IsTrue (is_below c.args.vars t)) c.args.arguments.now c.requires.below c.loop-place.place (tree_of c.argument-item.result) at

pub bound_rows-requires-clause-small : goal.bound_rows-requires-clause-small
bound_rows-requires-clause-small g c =
    let items = c.as_slice-argument-items.result.now in
    let at : slice_get c.args.arguments.now c.loop-place.place ≡ Some (tree_of c.argument-item.result) =
    ap (λ (ts : List Tree). slice_get ts c.loop-place.place) (sym c.as_slice-argument-items.ensures) ∙ mapped_place tree_of items c.loop-place.place c.argument-item.result (at_place items c.loop-place.place c.argument-item.result c.loop-place-test.true c.argument-item.is) in
    omega (arith, c.requires.small, sum_part nodes_of c.args.arguments.now c.loop-place.place (tree_of c.argument-item.result) at)

pub loop-place-preserved : goal.loop-place-preserved
loop-place-preserved g c =
    let items = c.as_slice-argument-items.result.now in
    let t = tree_of c.argument-item.result in
    let n = c.loop-place.place in
    let truth = g.N.Norm.truth c.args.norm.now in
    let ts = c.args.arguments.now in
    let ends = c.put_arguments_off.new.ends in
    let at : slice_get ts n ≡ Some t =
    ap (λ (ts : List Tree). slice_get ts n) (sym c.as_slice-argument-items.ensures) ∙ mapped_place tree_of items n c.argument-item.result (at_place items n c.argument-item.result c.loop-place-test.true c.argument-item.is) in
    let i = c.loop-place.invariant in
    let lt = place_below ts n t at in
    let p = number_at 48 12 n (omega (arith, c.requires.narrow)) in
    let told = c.put_arguments_off.ensures.told n t at in
    let long : length ends ≡ 48 = c.put_arguments_off.ensures.each ∙ refl in
    let joined = says_both ends n (λ (v : ℕ → Bool). IsTrue (holds c.args.table.now c.args.body v) × HasTruths truth v (λ j. v (48 + j)) ts n) (λ (v : ℕ → Bool). v (48 + n) ≡ truth v t)
    (holds c.loop-place.table c.loop-place.rows) (λ (v : ℕ → Bool). iff (v (48 + n)) (truth v t)) (holds c.bound_rows.new.table c.in_ok-bound.bound)
    i.rows
    (λ v. (iff_same (v (48 + n)) (truth v t), iff_true (v (48 + n)) (truth v t)))
    (λ v w agree same. sym (agree (48 + n) (asked_past ends n (48 + n) (omega arith))) ∙ same ∙ told v w agree)
    (λ v. c.in_ok-bound.ensures.rows v ∙ (λ k. holds c.loop-place.table c.loop-place.rows v && iff (v (p k)) (truth v t))) in
    record {
      keeps = keeps_twice _ _ _ i.keeps (keeps_twice _ _ _ c.bound_rows.ensures.keeps c.without_ended.ensures.keeps);
      known = c.in_ok-rows.ensures.known;
      rows = says_later ends n (n + 1) (λ (v : ℕ → Bool). IsTrue (holds c.args.table.now c.args.body v) × HasTruths truth v (λ j. v (48 + j)) ts (n + 1)) (holds c.bound_rows.new.table c.in_ok-bound.bound) (holds c.without_ended.new.table c.in_ok-rows.rows) (omega arith)
          (says_same ends n _ (λ (v : ℕ → Bool). IsTrue (holds c.args.table.now c.args.body v) × HasTruths truth v (λ j. v (48 + j)) ts (n + 1)) (holds c.bound_rows.new.table c.in_ok-bound.bound)
          (λ v. (
            λ h. (h.0.0, up_to_more (λ (j : ℕ) (u : Tree). v (48 + j) ≡ truth v u) ts n t at h.0.1 h.1),
            λ h. ((h.0, λ j u l f. h.1 j u (omega arith) f), h.1 n t (omega arith) at),
          ))
          joined)
          c.in_ok-rows.ensures.rows;
    }

pub returns-clause-all : goal.returns-clause-all
returns-clause-all g c = λ row body truths.
    c.loop-place.invariant.rows.all row (body, λ j u lt e. truths j u (place_below c.args.arguments.now j u e) e)

pub returns-clause-some : goal.returns-clause-some
returns-clause-some g c = λ row t.
    let s = c.loop-place.invariant.rows.some row t in
    let ends = c.put_arguments_off.new.ends in
    let long : length ends ≡ 48 = c.put_arguments_off.ensures.each ∙ refl in (
      s.0,
      λ x le. s.1 x (asked_past ends c.loop-place.place x (omega arith)),
      s.2.0,
      λ j u lt e. s.2.1 j u (omega (arith, lt, c.loop-place-test.false, length-map c.as_slice-argument-items.result.now tree_of, ap length c.as_slice-argument-items.ensures)) e,
    )
