use Rattle.std.proofs.Common.{◌≡◌, ◌+◌, ◌-◌, ◌++◌, ◌∷◌, [], ℕ, List, drop, length, map, slice_get, IfSome, Option, Some, ap, sym, subst, ◌∙◌, arith}
use Rattle.std.specs.List.{AllByRecursion}
use Rattle.call_components.specs.Partition.{IsIn}
use Rattle.call_components.proofs.Lists.{all_append}
use Rattle.cti_terms.specs.declared.atom_list.Atom.{Atom}
use Rattle.cti_terms.specs.declared.clauses.Clause.{Clause}
use Rattle.linear_rows.specs.Members.{In}
use Rattle.number_tests.specs.Refuting.{atom_or_none, clause_or_none}
use Rattle.termination_model.specs.sizes.Sizes.{rows_of}
use Rattle.termination_model.proofs.Lists.{append_assoc, at_place, map_push}
use Rattle.component_transitions.specs.OwnTransitions.{IsHeldAs, IsHeldIn, numbers_of_call}
use Rattle.level_systems.specs.Pairs.{call_at, calls_from, clause_at}
use Rattle.transitions.specs.Transitions.{Transition}
use Rattle.component_transitions.specs.declared.own_transition.OwnTransition.{OwnTransition}
use Rattle.number_columns.specs.ColumnLists.{counts_at}
use Rattle.level_systems.proofs.PairLists.{call_skipped, call_taken, call_there, drop_at, is_other, is_own}
use Rattle.component_transitions.proofs.collecting.add_calls.Goals as goal

pub loop-j-preserved-then-of-c : goal.loop-j-preserved-then-of-c
loop-j-preserved-then-of-c g c =
    let comps = c.args.setting.now.comps.now in
    let k = c.args.k in
    let j = c.loop-j.j in
    let b : Atom = c.index-as_slice-j.result in
    let same : clause_at c.args.setting.now.program.now k ≡ c.clause-clause.result.now = ap clause_or_none c.clause-clause.ensures.there in
    let body = (clause_at c.args.setting.now.program.now k).body in
    let whole : c.as_slice.result.now ≡ body = c.as_slice.ensures ∙ ap (λ (x : Clause). x.body) (sym same) in
    let count : length c.as_slice.result.now ≡ c.len-j-end.result = ap length c.as_slice.ensures ∙ sym c.len-j-end.ensures in
    let at : slice_get body j ≡ Some b = subst (λ (bs : List Atom). slice_get bs j ≡ Some b) whole (at_place c.as_slice.result.now j b (omega (arith, count, c.loop-j-test.true)) c.index-as_slice-j.is) in
    let step : calls_from comps c.args.c k j (drop j body) ≡ calls_from comps c.args.c k (j + 1) (drop (j + 1) body) =
    ap (calls_from comps c.args.c k j) (drop_at body j b at) ∙ call_skipped comps c.args.c k j b (drop (j + 1) body) (is_other comps c.args.c b.pred.0 c.of.result c.of.ensures c.if-of-c.true) in
    record {
      pairs = ap (λ (s : List (ℕ × ℕ)). map numbers_of_call c.loop-j.calls.items ++ s) (sym step) ∙ c.loop-j.invariant.pairs;
      held = c.loop-j.invariant.held;
    }

pub returns-in_default-clause-given_up : goal.returns-in_default-clause-given_up
returns-in_default-clause-given_up g c = λ _.
    let comps = c.args.setting.now.comps.now in
    let k = c.args.k in
    let j = c.loop-j.j in
    let b : Atom = c.index-as_slice-j.result in
    let same : clause_at c.args.setting.now.program.now k ≡ c.clause-clause.result.now = ap clause_or_none c.clause-clause.ensures.there in
    let body = (clause_at c.args.setting.now.program.now k).body in
    let whole : c.as_slice.result.now ≡ body = c.as_slice.ensures ∙ ap (λ (x : Clause). x.body) (sym same) in
    let count : length c.as_slice.result.now ≡ c.len-j-end.result = ap length c.as_slice.ensures ∙ sym c.len-j-end.ensures in
    let at : slice_get body j ≡ Some b = subst (λ (bs : List Atom). slice_get bs j ≡ Some b) whole (at_place c.as_slice.result.now j b (omega (arith, count, c.loop-j-test.true)) c.index-as_slice-j.is) in
    let zero_more : 0 + j + 1 ≡ j + 1 = omega arith in (
      (k, j + 1),
      subst (λ (n : ℕ). In {X = ℕ × ℕ} (k, n) (calls_from comps c.args.c k 0 body)) zero_more (call_there comps c.args.c k 0 j b body at (is_own comps c.args.c b.pred.0 c.of.result c.of.ensures c.if-of-c.false)),
      c.in_ok-own.ensures.none c.in_default.is,
    )

pub loop-j-preserved : goal.loop-j-preserved
loop-j-preserved g c =
    let comps = c.args.setting.now.comps.now in
    let p = c.args.setting.now.program.now in
    let k = c.args.k in
    let j = c.loop-j.j in
    let m = g.C.Columns.columns c.args.setting.now.columns.now in
    let kinds = counts_at (g.C.Columns.count c.args.setting.now.columns.now) (g.C.Columns.listed c.args.setting.now.columns.now) in
    let rows = rows_of c.args.setting.now.sizes.now in
    let b : Atom = c.index-as_slice-j.result in
    let own : OwnTransition = c.in-Some.own in
    let same : clause_at p k ≡ c.clause-clause.result.now = ap clause_or_none c.clause-clause.ensures.there in
    let body = (clause_at p k).body in
    let whole : c.as_slice.result.now ≡ body = c.as_slice.ensures ∙ ap (λ (x : Clause). x.body) (sym same) in
    let count : length c.as_slice.result.now ≡ c.len-j-end.result = ap length c.as_slice.ensures ∙ sym c.len-j-end.ensures in
    let at : slice_get body j ≡ Some b = subst (λ (bs : List Atom). slice_get bs j ≡ Some b) whole (at_place c.as_slice.result.now j b (omega (arith, count, c.loop-j-test.true)) c.index-as_slice-j.is) in
    let told : IsHeldAs m kinds rows p k (j + 1) own = subst (λ (o : Option OwnTransition). IfSome o (IsHeldAs m kinds rows p k (j + 1))) c.in-Some.is c.in_ok-own.ensures.held in
    let held = told.2 in
    let before = map numbers_of_call c.loop-j.calls.items in
    let rest = drop (j + 1) body in
    let pair : numbers_of_call own ≡ (k, j + 1) = λ i. (told.0 i, told.1 i) in
    let step : calls_from comps c.args.c k j (drop j body) ≡ (k, j + 1) ∷ calls_from comps c.args.c k (j + 1) rest =
    ap (calls_from comps c.args.c k j) (drop_at body j b at) ∙ call_taken comps c.args.c k j b rest (is_own comps c.args.c b.pred.0 c.of.result c.of.ensures c.if-of-c.false) in
    let one : j + 1 - 1 ≡ j = omega arith in
    let called : call_at p k (j + 1) ≡ b = ap (λ (n : ℕ). atom_or_none (slice_get body n)) one ∙ ap atom_or_none at in
    let caller : own.transition.head.member ≡ (clause_at p k).head.pred.0 = ap (λ (τ : Transition). τ.head) held.is ∙ ap (λ (n : ℕ). (clause_at p n).head.pred.0) told.0 in
    let callee : own.transition.call.member ≡ b.pred.0 = ap (λ (τ : Transition). τ.call) held.is ∙ (λ i. (call_at p (told.0 i) (told.1 i)).pred.0) ∙ ap (λ (x : Atom). x.pred.0) called in
    let inside : IsIn comps c.args.c b.pred.0 = c.of.ensures ∙ ap (λ (n : ℕ). Some n) c.if-of-c.false in
    record {
      pairs =
          ap (λ (os : List OwnTransition). map numbers_of_call os ++ calls_from comps c.args.c k (j + 1) rest) c.in_ok-push.ensures.items
          ∙ ap (λ (s : List (ℕ × ℕ)). s ++ calls_from comps c.args.c k (j + 1) rest) (map_push numbers_of_call c.loop-j.calls.items own)
          ∙ append_assoc before (numbers_of_call own ∷ []) (calls_from comps c.args.c k (j + 1) rest)
          ∙ ap (λ (x : ℕ × ℕ). before ++ (x ∷ calls_from comps c.args.c k (j + 1) rest)) pair
          ∙ ap (λ (s : List (ℕ × ℕ)). before ++ s) (sym step)
          ∙ c.loop-j.invariant.pairs;
      held = subst (AllByRecursion (IsHeldIn m kinds rows p comps c.args.c)) (sym c.in_ok-push.ensures.items)
          (all_append (IsHeldIn m kinds rows p comps c.args.c) c.loop-j.calls.items (own ∷ []) c.loop-j.invariant.held
          ((held, subst (IsIn comps c.args.c) (sym caller) c.requires.inside, subst (IsIn comps c.args.c) (sym callee) inside), tt));
    }
