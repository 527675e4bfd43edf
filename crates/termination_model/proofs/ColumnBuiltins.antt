-- What a built-in atom that succeeds says of its arguments, over columns.
use Rattle.std.proofs.Common.{◌≡◌, ℕ, ℤ, Bool, true, inl, inr, List, [], ◌∷◌, map, Option, None, Some, refl, ap, sym, subst, ◌∙◌}
use Rattle.std.specs.List.{AllByRecursion}
use Rattle.cti_terms.specs.Tree.{Tree, Variable, Integer, is_rigid}
use Rattle.cti_terms.specs.Arithmetic.{value, tested, succeeds, at_two, kind_of}
use Rattle.cti_terms.specs.Unify.{Binding, applied}
use Rattle.cti_terms.specs.ResolutionStep.{Passes}
use Rattle.cti_terms.specs.declared.atom_list.Atom.{Atom}
use Rattle.cti_terms.specs.declared.builtins.Arith.{Arith}
use Rattle.cti_terms.specs.declared.builtins.Builtin.{Builtin}
use Rattle.cti_terms.specs.declared.builtins.Builtin.TheVariants.{Is, Equal, NotEqual, Less, AtMost, Greater, AtLeast}
use Rattle.cti_terms.specs.declared.derivation.Goal.{Goal}
use Rattle.cti_terms.specs.Listing.{Listing}
use Rattle.cti_terms.proofs.Unifier.{applied_instance}
use Rattle.linear_rows.specs.Members.{In}
use Rattle.linear_rows.specs.Rows.{Holds}
use Rattle.termination_model.specs.columns.Columns.{Valuation, columns_of, before, AreColumns}
use Rattle.termination_model.specs.columns.ColumnClaims.{Claims, IsSized, AreStated, Shows}
use Rattle.termination_model.specs.grounds.Grounds.{truth_row, IsGround}
use Rattle.termination_model.proofs.BuiltinLaws.{value_rigid, assigned_integer, tested_values, two_arguments, kind_there}
use Rattle.termination_model.proofs.Facts.{each}

module _ (o : Option Arith) (c : Claims) (are : AreColumns o c.truth c.columns) where
  truth_after : (v : ℕ → Bool) (bs : List Binding) (t : Tree) → c.truth (λ x. c.truth v (applied bs (Variable x))) t ≡ c.truth v (applied bs t)
  truth_after v bs t = sym (are.truth_of_instance v (λ x. applied bs (Variable x)) t) ∙ ap (c.truth v) (sym (applied_instance bs t))

  closed_true : (v : ℕ → Bool) (t : Tree) → is_rigid t ≡ true → c.truth v t ≡ true
  closed_true v t h = are.rigid_truth v t (are.closed_truth t h)

  -- both arguments are true
  abbrev pub BothTrue : List Binding → Tree → Tree → Type 0
  BothTrue bs x y = ((v : ℕ → Bool) → c.truth (λ z. c.truth v (applied bs (Variable z))) x ≡ true) × ((v : ℕ → Bool) → c.truth v y ≡ true)

  test_true : (b : Builtin) (bs : List Binding) (x y : Tree) → tested b (value o x) (value o y) ≡ Some bs → BothTrue bs x y
  test_true b bs x y e =
      let i = tested_values b (value o x) (value o y) bs e in
      (λ v. closed_true (λ z. c.truth v (applied bs (Variable z))) x (value_rigid o x i.0 i.2), λ v. closed_true v y (value_rigid o y i.1 i.3))

  pub both_true : (b : Builtin) (bs : List Binding) (x y : Tree) → succeeds o b x y ≡ Some bs → BothTrue bs x y
  both_true Is bs x y e =
      let i = assigned_integer x (value o y) bs e in (
        λ v. truth_after v bs x ∙ ap (c.truth v) i.2 ∙ closed_true v (Integer i.0) refl,
        λ v. closed_true v y (value_rigid o y i.0 i.1),
      )
  both_true Equal bs x y e = test_true Equal bs x y e
  both_true NotEqual bs x y e = test_true NotEqual bs x y e
  both_true Less bs x y e = test_true Less bs x y e
  both_true AtMost bs x y e = test_true AtMost bs x y e
  both_true Greater bs x y e = test_true Greater bs x y e
  both_true AtLeast bs x y e = test_true AtLeast bs x y e

pub member_of : {X : Type 0} (P : X → Type 0) (xs : List X) (x : X) → AllByRecursion P xs → In x xs → P x
member_of P [] x all i = absurd i
member_of P (y ∷ ys) x all (inl same) = subst P same all.0
member_of P (y ∷ ys) x all (inr i) = member_of P ys x all.1 i

module _ (p : Listing) (c : Claims) (shows : Shows p c) where
  -- a built-in atom that succeeds has its ground row and its size rows
  pub builtin_says : (a : Atom) (rest : List Atom) (n : ℕ) (bs : List Binding) (h : Goal) → Passes p.arithmetic a rest n bs h
      → ((v : ℕ → Bool) → IsGround c.truth c.grounds (λ x. c.truth v (applied bs (Variable x))) a) × ((s : Valuation) → IsSized c (before c.columns bs s) a)
  builtin_says a rest n bs h l = (grounded, sized)
    where
      known : (b : Builtin) × (kind_of p.arithmetic a.pred.0 ≡ Some b) × (at_two (succeeds p.arithmetic.names b) None a.args ≡ Some bs)
      known = kind_there p.arithmetic.names (kind_of p.arithmetic a.pred.0) a.args bs l.passes

      two : (x : Tree) × (y : Tree) × (a.args ≡ x ∷ (y ∷ [])) × (succeeds p.arithmetic.names known.0 x y ≡ Some bs)
      two = two_arguments (succeeds p.arithmetic.names known.0) a.args bs known.2

      here : BothTrue p.arithmetic.names c shows.columns bs two.0 two.1
      here = both_true p.arithmetic.names c shows.columns known.0 bs two.0 two.1 two.3

      grounded : (v : ℕ → Bool) → IsGround c.truth c.grounds (λ x. c.truth v (applied bs (Variable x))) a
      grounded v =
          let v1 : ℕ → Bool = λ x. c.truth v (applied bs (Variable x)) in
          let row : truth_row c.truth v1 a ≡ true ∷ (true ∷ []) = ap (map (c.truth v1)) two.2 ∙ (λ i. here.0 v i ∷ (here.1 v1 i ∷ [])) in
          ap (c.grounds a.pred.0) row ∙ shows.closed.builtins a.pred.0 known.0 known.1

      stated : AreStated p.arithmetic c a.pred.0 known.0
      stated = shows.stated a.pred.0 known.0 known.1

      sized : (s : Valuation) → IsSized c (before c.columns bs s) a
      sized s =
          let s1 : Valuation = before c.columns bs s in
          let rows = shows.columns.stated known.0 two.0 two.1 bs two.3 s in
          each (λ (r : List ℤ). In r (c.columns.stated known.0)) (λ (r : List ℤ). Holds r 1 (columns_of (c.kinds a.pred.0) (map (c.columns.measure s1) a.args)))
          (λ r i.
          subst (λ (ks : List ℕ). Holds r 1 (columns_of ks (map (c.columns.measure s1) a.args))) (sym stated.kinds)
          (subst (λ (ts : List Tree). Holds r 1 (columns_of c.columns.evaluated (map (c.columns.measure s1) ts))) (sym two.2)
          (member_of (λ (z : List ℤ). Holds z 1 (columns_of c.columns.evaluated (map (c.columns.measure s1) (two.0 ∷ (two.1 ∷ []))))) (c.columns.stated known.0) r rows i)))
          (c.rows a.pred.0) stated.rows
