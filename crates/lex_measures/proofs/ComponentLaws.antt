-- The predicates, clauses and calls of a component.
use Rattle.std.proofs.Common.{◌≡◌, ℕ, ◌<◌, ◌==◌, Bool, true, false, List, [], ◌∷◌, length, slice_get, Any, Some, Option, refl, ap, sym, ◌∙◌, arith, eq-eqb}
use Rattle.std.specs.Prelude.{option_and_then, option_map, unwrap_or}
use Rattle.std.proofs.lemmas.List.Sums.{sum_by-cons}
use Rattle.call_components.proofs.Lists.{some_within}
use Rattle.call_components.specs.Partition.{AreComponents, IsIn, Partition}
use Rattle.cert_assembly.proofs.ChainParts.{row_count_is}
use Rattle.cert_assembly.proofs.ModeLaws.{there}
use Rattle.cert_checker.proofs.Claims.{any_at}
use Rattle.cert_structure.specs.Shape as shape
use Rattle.cert_structure.specs.Shape.{arity_in, body_of, first_of, head_of, is_recursive, rows_of_atoms}
use Rattle.cti_terms.specs.Listing.{IsAtom, IsClause, IsProgram, Listing}
use Rattle.cti_terms.specs.declared.atom_list.Atom.{Atom}
use Rattle.cti_terms.specs.declared.clauses.Clause.{Clause}
use Rattle.cti_terms.specs.declared.predicates.Pred.{Pred}
use Rattle.linear_rows.specs.declared.row.Rows.{Rows}
use Rattle.number_tests.specs.Shape.{row_count}
use Rattle.termination_model.proofs.Lists.{by_places, indexed, place_below}
use Rattle.termination_model.specs.mappings.ComponentViews.{rank_in}
use Rattle.termination_model.specs.sizes.Sizes.{rows_of}

pub atom_counts : (rows : List Rows) (bs : List Atom) → row_count (rows_of rows) bs ≡ rows_of_atoms rows bs
atom_counts rows [] = refl
atom_counts rows (b ∷ bs) = omega (arith, sum_by-cons (λ (a : Atom). shape.rows_of rows a.pred.0) b bs, row_count_is rows b.pred.0, atom_counts rows bs)

module _ (p : Listing) (comps : Partition) (program : IsProgram p) (components : AreComponents p comps) where
  pub recursive_at : (c q : ℕ) (b : Bool) → IsIn comps c q → slice_get comps.recursive c ≡ Some b → is_recursive comps q ≡ b
  recursive_at c q b inside e = ap (λ (o : Option ℕ). unwrap_or (option_and_then (slice_get comps.recursive) o) false) inside ∙ ap (λ (o : Option Bool). unwrap_or o false) e

  pub answer_at : (c q : ℕ) (b : Bool) → IsIn comps c q → is_recursive comps q ≡ b → slice_get comps.recursive c ≡ Some b
  answer_at c q b inside e =
      let below = components.within c q inside in
      let answers = components.answers in
      let (d, at) = there comps.recursive c (omega arith) in
      at ∙ ap Some (sym (recursive_at c q d inside at) ∙ e)

  pub member_below : (c q : ℕ) → IsIn comps c q → q < length p.preds
  member_below c q inside = let l = place_below comps.of q c inside in let each = components.each in omega arith

  pub in_some : (q : ℕ) → q < length p.preds → (c : ℕ) × IsIn comps c q
  in_some q less = let each = components.each in there comps.of q (omega arith)

  pub first_in : (c q : ℕ) → IsIn comps c q → (m : ℕ) × (first_of comps q ≡ m) × IsIn comps c m
  first_in c q inside =
      let (ms, row) = there comps.members c (components.within c q inside) in
      let some = (components.ascending c ms row).1 in
      let (m, front) = there ms 0 some in (
        m,
        ap (λ (o : Option ℕ). unwrap_or (option_and_then (λ (xs : List ℕ). slice_get xs 0) (option_and_then (slice_get comps.members) o)) q) inside
            ∙ ap (λ (o : Option (List ℕ)). unwrap_or (option_and_then (λ (xs : List ℕ). slice_get xs 0) o) q) row
            ∙ ap (λ (o : Option ℕ). unwrap_or o q) front,
        (components.members c ms row m).0 (0, some, indexed ms 0 m m front),
      )

  pub rank_is : (c q : ℕ) → IsIn comps c q → (rank_in comps q == c) ≡ true
  rank_is c q inside = eq-eqb (rank_in comps q) c (indexed comps.of q c (length comps.members) inside)

  pub arity_there : (q : ℕ) (x : Pred) → slice_get p.preds q ≡ Some x → arity_in p q ≡ x.arity
  arity_there q x e = ap (λ (o : Option Pred). unwrap_or (option_map (λ (d : Pred). d.arity) o) 0) e

  pub clause_is : (k : ℕ) (x : Clause) → slice_get p.clauses k ≡ Some x → IsClause p.preds x
  clause_is = by_places (IsClause p.preds) p.clauses program.clauses

  pub atom_in : (vars : ℕ) (a : Atom) → IsAtom p.preds vars a → (c : ℕ) × IsIn comps c a.pred.0
  atom_in vars a is = in_some a.pred.0 (some_within (λ (d : Pred). d.arity ≡ length a.args) p.preds a.pred.0 is.arity)

  pub head_is : (k : ℕ) (x : Clause) → slice_get p.clauses k ≡ Some x → head_of p k ≡ x.head.pred.0
  head_is k x e = ap (λ (o : Option Clause). unwrap_or (option_map (λ (c : Clause). c.head.pred.0) o) 0) e

  pub body_is : (k : ℕ) (x : Clause) → slice_get p.clauses k ≡ Some x → body_of p k ≡ x.body
  body_is k x e = ap (λ (o : Option Clause). unwrap_or (option_map (λ (c : Clause). c.body) o) []) e

  -- a component with such a call is recursive
  pub recursive_here : (c k j : ℕ) (x : Clause) (b : Atom) → slice_get p.clauses k ≡ Some x → slice_get x.body j ≡ Some b → IsIn comps c x.head.pred.0 → IsIn comps c b.pred.0 → slice_get comps.recursive c ≡ Some true
  recursive_here c k j x b ek ej ih ib =
      let below = components.within c x.head.pred.0 ih in
      let answers = components.answers in
      let (d, at) = there comps.recursive c (omega arith) in
      let yes = (components.recursive c d at).1 (x.head.pred.0, b.pred.0, ih, ib, any_at (λ (y : Clause). (y.head.pred.0 ≡ x.head.pred.0) × Any (λ (a : Atom). a.pred.0 ≡ b.pred.0) y.body) p.clauses k x ek (refl, any_at (λ (a : Atom). a.pred.0 ≡ b.pred.0) x.body j b ej refl)) in
      at ∙ ap Some yes
