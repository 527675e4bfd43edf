-- What is carried over, predicate by predicate and clause by clause.
use Rattle.std.proofs.Common.{◌≡◌, ℕ, ◌-◌, inl, inr, List, [], ◌∷◌, ◌++◌, length, slice_get, Contains, Option, Some, Result, Ok, Err, IfOk, IsSomeAnd, ap, sym, subst, ◌∙◌}
use Rattle.std.proofs.lemmas.List.Elements.{All-nil}
use Rattle.cti_terms.specs.Listing.{Listing, IsProgram}
use Rattle.cti_terms.specs.declared.predicates.Pred.{Pred}
use Rattle.linear_rows.specs.Plain.{HaveWidth}
use Rattle.linear_rows.specs.declared.multipliers.Multipliers.{Multipliers}
use Rattle.linear_rows.specs.declared.row.Row.{Row}
use Rattle.linear_rows.specs.declared.row.Rows.{Rows}
use Rattle.termination_model.specs.grounds.Grounds.{HasArity}
use Rattle.termination_model.specs.sizes.Sizes.{AreSizes, plain_or_none, rows_of}
use Rattle.termination_model.proofs.Lists.{indexed, place_below}
use Rattle.component_laws.proofs.UntouchedLaws.{one_number}
use Rattle.solved_program.specs.Carried.{AreCarriedProofs, AreCarriedRows, IsCarriedRow}
use Rattle.solved_program.proofs.Resolved.{each_more, last_or_before}

pub if_ok_is : {X E : Type 0} (r : Result X E) (P Q : X → Type 0) → ((x : X) → P x → Q x) → IfOk r P → IfOk r Q
if_ok_is (Ok x) P Q h i = h x i
if_ok_is (Err e) P Q h i = i

some_arity : (preds : List Pred) (q n : ℕ) (x : Pred) → slice_get preds q ≡ Some x → HasArity preds q n → x.arity ≡ n
some_arity preds q n x at h = subst (λ (o : Option Pred). IsSomeAnd o (λ (y : Pred). y.arity ≡ n)) at h

pub carried_some : (p : Listing) (new_preds : List Pred) → IsProgram p → (rows : List Rows) → AreSizes p.preds rows → (r q : ℕ) (x : Pred) (own : Rows) → slice_get new_preds r ≡ Some x → slice_get p.preds q ≡ Some x → slice_get rows q ≡ Some own
    → IsCarriedRow p.preds new_preds rows r own
carried_some p new_preds prog rows sizes r q x own there_x here_x at = record {
  arity = subst (λ (o : Option Pred). IsSomeAnd o (λ (y : Pred). y.arity ≡ own.width)) (sym there_x) (some_arity p.preds q own.width x here_x (sizes.width q own at).0);
  wide = (sizes.width q own at).1;
  same = λ z y e f.
      let is : x ≡ y = (let g = there_x in cc) in
      let number : z ≡ q = one_number p.preds prog.distinct z q x (e ∙ ap Some (sym is)) here_x in
      sym (ap (rows_of rows) number ∙ ap plain_or_none at);
}

pub contained : (xs : List Pred) (i : ℕ) (x : Pred) → slice_get xs i ≡ Some x → Contains xs x
contained xs i x e = (i, place_below xs i x e, indexed xs i x x e)

pub carried_none : (preds new_preds : List Pred) (rows : List Rows) (r : ℕ) (x : Pred) (own : Rows) → slice_get new_preds r ≡ Some x → own.width ≡ x.arity → own.list ≡ [] → (Contains preds x → ⊥)
    → IsCarriedRow preds new_preds rows r own
carried_none preds new_preds rows r x own there_x width none absent = record {
  arity = subst (λ (o : Option Pred). IsSomeAnd o (λ (y : Pred). y.arity ≡ own.width)) (sym there_x) (sym width);
  wide = subst (λ (list : List Row). HaveWidth own.width list) (sym none) (All-nil (λ (r : Row). length r.coeffs ≡ own.width));
  same = λ z y e f. let is : x ≡ y = (let g = there_x in cc) in absurd (absent (subst (λ (w : Pred). Contains preds w) (sym is) (contained preds z y e)));
}

-- ---- one more at the end
pub rows_more : (preds new_preds : List Pred) (rows carried : List Rows) (own : Rows) → AreCarriedRows preds new_preds rows carried → IsCarriedRow preds new_preds rows (length carried) own → AreCarriedRows preds new_preds rows (carried ++ own ∷ [])
rows_more preds new_preds rows carried own h one = each_more (IsCarriedRow preds new_preds rows) carried own h one

pub proofs_more : (kept : List (Option ℕ)) (proofs carried : List (List Multipliers)) (by : List Multipliers) (o : Option ℕ) → slice_get kept (length carried) ≡ Some o
    → AreCarriedProofs kept proofs carried → ((j : ℕ) → o ≡ Some j → slice_get proofs (j - 1) ≡ Some by) → AreCarriedProofs kept proofs (carried ++ by ∷ [])
proofs_more kept proofs carried by o here h one i j x is at = elim (last_or_before carried by i x at) [
  | inl before ↦ h i j x is before.1
  | inr last ↦
      let there' : slice_get kept (length carried) ≡ Some (Some j) = ap (slice_get kept) (sym last.0) ∙ is in
      let same : o ≡ Some j = cc in
      one j same ∙ ap Some last.1
]

pub sizes_carried : (preds new_preds : List Pred) (rows carried : List Rows) → length carried ≡ length new_preds → AreCarriedRows preds new_preds rows carried → AreSizes new_preds carried
sizes_carried preds new_preds rows carried each h = record { each = each; width = λ q r at. let is = h q r at in (is.arity, is.wide) }
