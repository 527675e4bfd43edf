-- What a built-in atom that succeeds says of its arguments.
use Rattle.std.proofs.Common.{◌≡◌, ℕ, ◌&&◌, ℤ, pos, negsuc, Bool, true, false, inl, inr, List, [], ◌∷◌, map, Option, None, Some, option_and_then, refl, ap, sym, subst, ◌∙◌, arith}
use Rattle.std.proofs.lemmas.Int.{ints}
use Rattle.std.specs.List.{AllByRecursion}
use Rattle.exact128.specs.Sums.{dot}
use Rattle.cti_terms.specs.Tree.{Tree, Trees, Variable, Integer, Compound, End, More, is_rigid, all_truths}
use Rattle.cti_terms.specs.Arithmetic.{operation, both, value, all_values, tested, assigned, succeeds, at_two, passes_as, kind_of}
use Rattle.cti_terms.specs.Unify.{Binding, applied}
use Rattle.cti_terms.specs.ResolutionStep.{Passes}
use Rattle.cti_terms.specs.declared.atom_list.Atom.{Atom}
use Rattle.cti_terms.specs.declared.builtins.Arith.{Arith}
use Rattle.cti_terms.specs.declared.builtins.Builtin.{Builtin}
use Rattle.cti_terms.specs.declared.builtins.Builtin.TheVariants.{Is, Equal, NotEqual, Less, AtMost, Greater, AtLeast}
use Rattle.cti_terms.specs.declared.derivation.Goal.{Goal}
use Rattle.cti_terms.specs.Listing.{Listing}
use Rattle.cti_terms.proofs.Unifier.{unifier_unifies, applied_instance}
use Rattle.cti_terms.proofs.UnifyLaws.{unify_finds}
use Rattle.linear_rows.specs.Members.{In}
use Rattle.linear_rows.specs.Rows.{Holds}
use Rattle.term_size.specs.Norm.{IsNorm}
use Rattle.termination_model.specs.claims.Claims.{Claims, sizes, IsSized, Shows}
use Rattle.termination_model.specs.grounds.Grounds.{truth_row, IsGround}
use Rattle.termination_model.specs.sizes.Stated.{stated_rows}
use Rattle.cti_terms.specs.Resolve.{over}

pub some_inside : {X Y : Type 0} (f : X → Option Y) (o : Option X) (y : Y) → option_and_then f o ≡ Some y → (x : X) × (o ≡ Some x)
some_inside f None y e = absurd (cc)
some_inside f (Some x) y e = (x, refl)

pub both_inside : (o : Option ℤ) (q : Option (List ℤ)) (zs : List ℤ) → both o q ≡ Some zs → (z : ℤ) × (xs : List ℤ) × (o ≡ Some z) × (q ≡ Some xs)
both_inside None q zs e = absurd (cc)
both_inside (Some z) None zs e = absurd (cc)
both_inside (Some z) (Some xs) zs e = (z, xs, refl, refl)

mutual
  -- a term with a value has no variable
  pub value_rigid : (o : Option Arith) (t : Tree) (n : ℤ) → value o t ≡ Some n → is_rigid t ≡ true
  value_rigid o (Variable x) n e = absurd (cc)
  value_rigid o (Integer m) n e = refl
  value_rigid o (Compound f ts) n e =
      let i = some_inside (operation o f) (all_values o ts) n e in
      all_values_rigid o ts i.0 i.1

  pub all_values_rigid : (o : Option Arith) (ts : Trees) (ns : List ℤ) → all_values o ts ≡ Some ns → all_truths (λ _. false) ts ≡ true
  all_values_rigid o End ns e = refl
  all_values_rigid o (More t ts) ns e =
      let i = both_inside (value o t) (all_values o ts) ns e in
      let l = value_rigid o t i.0 i.2 in
      let r = all_values_rigid o ts i.1 i.3 in
      λ i. l i && r i

applied_integer : (bs : List Binding) (n : ℤ) → applied bs (Integer n) ≡ Integer n
applied_integer [] n = refl
applied_integer (b ∷ bs) n = applied_integer bs n

-- an argument that is an integer after the bindings
pub assigned_integer : (x : Tree) (o : Option ℤ) (bs : List Binding) → assigned x o ≡ Some bs → (n : ℤ) × (o ≡ Some n) × (applied bs x ≡ Integer n)
assigned_integer x None bs e = absurd (cc)
assigned_integer x (Some n) bs e = (n, refl, (unifier_unifies (unify_finds ((x, Integer n) ∷ []) bs e)).0 ∙ applied_integer bs n)

pub tested_values : (b : Builtin) (o q : Option ℤ) (bs : List Binding) → tested b o q ≡ Some bs → (m : ℤ) × (n : ℤ) × (o ≡ Some m) × (q ≡ Some n)
tested_values b None q bs e = absurd (cc)
tested_values b (Some m) None bs e = absurd (cc)
tested_values b (Some m) (Some n) bs e = (m, n, refl, refl)

module _ (size : (ℕ → ℕ) → Tree → ℕ) (truth : (ℕ → Bool) → Tree → Bool) (expression : ℕ → Tree → List ℤ) (norm : IsNorm size truth expression) where
  -- sizes and truth after the bindings are those at what the bindings give
  truth_after : (v : ℕ → Bool) (bs : List Binding) (t : Tree) → truth (λ x. truth v (applied bs (Variable x))) t ≡ truth v (applied bs t)
  truth_after v bs t = sym (norm.truth_of_instance v (λ x. applied bs (Variable x)) t) ∙ ap (truth v) (sym (applied_instance bs t))

  size_after : (s : ℕ → ℕ) (bs : List Binding) (t : Tree) → size (λ x. size s (applied bs (Variable x))) t ≡ size s (applied bs t)
  size_after s bs t = sym (norm.size_of_instance s (λ x. applied bs (Variable x)) t) ∙ ap (size s) (sym (applied_instance bs t))

  closed_true : (v : ℕ → Bool) (t : Tree) → is_rigid t ≡ true → truth v t ≡ true
  closed_true v t h = norm.rigid_truth v t (norm.closed_truth t h)

  -- both arguments are true, and the first of `is` has size 0
  abbrev pub Said : Builtin → List Binding → Tree → Tree → Type 0
  Said b bs x y = ((v : ℕ → Bool) → truth (λ z. truth v (applied bs (Variable z))) x ≡ true) × ((v : ℕ → Bool) → truth v y ≡ true)
      × ((s : ℕ → ℕ) → b ≡ Is → size (λ z. size s (applied bs (Variable z))) x ≡ 0)

  test_said : (o : Option Arith) (b : Builtin) (bs : List Binding) (x y : Tree) → (b ≡ Is → ⊥) → tested b (value o x) (value o y) ≡ Some bs → Said b bs x y
  test_said o b bs x y other e =
      let i = tested_values b (value o x) (value o y) bs e in
      (λ v. closed_true (λ z. truth v (applied bs (Variable z))) x (value_rigid o x i.0 i.2), λ v. closed_true v y (value_rigid o y i.1 i.3), λ s is. absurd (other is))

  pub said : (o : Option Arith) (b : Builtin) (bs : List Binding) (x y : Tree) → succeeds o b x y ≡ Some bs → Said b bs x y
  said o Is bs x y e =
      let i = assigned_integer x (value o y) bs e in (
        λ v. truth_after v bs x ∙ ap (truth v) i.2 ∙ closed_true v (Integer i.0) refl,
        λ v. closed_true v y (value_rigid o y i.0 i.1),
        λ s is. size_after s bs x ∙ ap (size s) i.2 ∙ norm.integer_size s i.0,
      )
  said o Equal bs x y e = test_said o Equal bs x y (λ h. cc) e
  said o NotEqual bs x y e = test_said o NotEqual bs x y (λ h. cc) e
  said o Less bs x y e = test_said o Less bs x y (λ h. cc) e
  said o AtMost bs x y e = test_said o AtMost bs x y (λ h. cc) e
  said o Greater bs x y e = test_said o Greater bs x y (λ h. cc) e
  said o AtLeast bs x y e = test_said o AtLeast bs x y (λ h. cc) e

-- the stated rows hold
is_row : (w u : ℕ) (r : List ℤ) → w ≡ 0 → In r ((pos 0 ∷ (negsuc 0 ∷ (pos 0 ∷ []))) ∷ []) → Holds r 1 (w ∷ u ∷ [])
unfolding dot
is_row w u r e (inl same) = subst (λ (x : List ℤ). Holds x 1 (w ∷ u ∷ [])) same (rw e (omega (arith, ints)))
is_row w u r e (inr none) = absurd none

pub stated_row : (b : Builtin) (w u : ℕ) (r : List ℤ) → (b ≡ Is → w ≡ 0) → In r (stated_rows b) → Holds r 1 (w ∷ u ∷ [])
stated_row Is w u r h i = is_row w u r (h refl) i
stated_row Equal w u r h i = absurd i
stated_row NotEqual w u r h i = absurd i
stated_row Less w u r h i = absurd i
stated_row AtMost w u r h i = absurd i
stated_row Greater w u r h i = absurd i
stated_row AtLeast w u r h i = absurd i

pub two_arguments : (f : Tree → Tree → Option (List Binding)) (xs : List Tree) (bs : List Binding) → at_two f None xs ≡ Some bs → (x : Tree) × (y : Tree) × (xs ≡ x ∷ (y ∷ [])) × (f x y ≡ Some bs)
two_arguments f [] bs e = absurd (cc)
two_arguments f (x ∷ []) bs e = absurd (cc)
two_arguments f (x ∷ (y ∷ [])) bs e = (x, y, refl, e)
two_arguments f (x ∷ (y ∷ (z ∷ zs))) bs e = absurd (cc)

pub kind_there : (o : Option Arith) (k : Option Builtin) (xs : List Tree) (bs : List Binding) → passes_as o k xs ≡ Some bs → (b : Builtin) × (k ≡ Some b) × (at_two (succeeds o b) None xs ≡ Some bs)
kind_there o None xs bs e = absurd (cc)
kind_there o (Some b) xs bs e = (b, refl, e)

each : {X : Type 0} (P Q : X → Type 0) → ((x : X) → P x → Q x) → (xs : List X) → AllByRecursion P xs → AllByRecursion Q xs
each P Q f [] h = tt
each P Q f (x ∷ xs) h = (f x h.0, each P Q f xs h.1)

-- an atom keeps its ground rows and size rows under bindings
abbrev pub KeptBy : Claims → Atom → List Binding → Type 0
KeptBy c a bs =
    ((v : ℕ → Bool) → IsGround c.truth c.grounds (λ x. c.truth v (applied bs (Variable x))) a) × ((s : ℕ → ℕ) → IsSized c (λ x. c.size s (applied bs (Variable x))) a)

module _ (p : Listing) (c : Claims) (shows : Shows p c) where
  -- a built-in atom that succeeds keeps its rows
  pub builtin_keeps : (a : Atom) (rest : List Atom) (n : ℕ) (bs : List Binding) (h : Goal) → Passes p.arithmetic a rest n bs h → KeptBy c a bs
  builtin_keeps a rest n bs h l = (grounded, sized)
    where
      known : (b : Builtin) × (kind_of p.arithmetic a.pred.0 ≡ Some b) × (at_two (succeeds p.arithmetic.names b) None a.args ≡ Some bs)
      known = kind_there p.arithmetic.names (kind_of p.arithmetic a.pred.0) a.args bs l.passes

      two : (x : Tree) × (y : Tree) × (a.args ≡ x ∷ (y ∷ [])) × (succeeds p.arithmetic.names known.0 x y ≡ Some bs)
      two = two_arguments (succeeds p.arithmetic.names known.0) a.args bs known.2

      here : Said c.size c.truth c.expression shows.norm known.0 bs two.0 two.1
      here = said c.size c.truth c.expression shows.norm p.arithmetic.names known.0 bs two.0 two.1 two.3

      grounded : (v : ℕ → Bool) → IsGround c.truth c.grounds (λ x. c.truth v (applied bs (Variable x))) a
      grounded v =
          let v1 : ℕ → Bool = λ x. c.truth v (applied bs (Variable x)) in
          let row : truth_row c.truth v1 a ≡ true ∷ (true ∷ []) = ap (map (c.truth v1)) two.2 ∙ (λ i. here.0 v i ∷ (here.1 v1 i ∷ [])) in
          ap (c.grounds a.pred.0) row ∙ shows.closed.builtins a.pred.0 known.0 known.1

      sized : (s : ℕ → ℕ) → IsSized c (λ x. c.size s (applied bs (Variable x))) a
      sized s =
          let s1 : ℕ → ℕ = λ x. c.size s (applied bs (Variable x)) in
          each (λ (r : List ℤ). In r (stated_rows known.0)) (λ (r : List ℤ). Holds r 1 (sizes c s1 a))
          (λ r i. subst (λ (ts : List Tree). Holds r 1 (map (c.size s1) ts)) (sym two.2) (stated_row known.0 (c.size s1 two.0) (c.size s1 two.1) r (here.2 s) i)) (c.rows a.pred.0) (shows.stated a.pred.0 known.0 known.1)

  -- and goes away by itself
  pub builtin_goes : (a : Atom) (rest : List Atom) (n : ℕ) (bs : List Binding) (h : Goal) → Passes p.arithmetic a rest n bs h
      → (cs : List Binding) × (h.atoms ≡ map (over (applied cs)) rest)
      × ((v : ℕ → Bool) → IsGround c.truth c.grounds (λ x. c.truth v (applied cs (Variable x))) a) × ((s : ℕ → ℕ) → IsSized c (λ x. c.size s (applied cs (Variable x))) a)
  builtin_goes a rest n bs h l = let k = builtin_keeps a rest n bs h l in (bs, l.atoms, k.0, k.1)
