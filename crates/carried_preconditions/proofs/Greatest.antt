-- One component has the greatest preconditions that the old one had for which it stands.
use Rattle.std.proofs.Common.{◌≡◌, ℕ, zero, suc, ℤ, Bool, true, false, if◌then◌else◌, List, [], ◌∷◌, map, length, slice_get, Option, Some, IsSomeAnd, unwrap_or, refl, ap, sym, subst, ◌∙◌, arith}
use Rattle.std.specs.List.{list_any}
use Rattle.std.proofs.lemmas.List.{length-map}
use Rattle.bool_diagrams.specs.declared.diagram.Diagram.{Diagram}
use Rattle.bool_diagrams.specs.Tree.{Tree as Rows}
use Rattle.call_components.specs.Partition.{Partition, IsIn}
use Rattle.cti_terms.specs.Listing.{Listing, IsProgram}
use Rattle.cti_terms.specs.Tree.{Tree}
use Rattle.cti_terms.specs.declared.predicates.Pred.{Pred}
use Rattle.number_tests.specs.Levels.{coefficients_of, items_of, natural, naturals}
use Rattle.number_tests.specs.declared.level_part.LevelPart.{LevelPart}
use Rattle.precond_fixpoint.specs.Greatest.{IsGreatestIn}
use Rattle.precond_fixpoint.specs.Solving.{IsSolved, allowed_family, is_member, pre_family}
use Rattle.precond_fixpoint.proofs.AllowedLaws.{greatest_depends_on_members}
use Rattle.precond_fixpoint.proofs.PlaceLaws.{at_is, is_at_of}
use Rattle.termination_model.specs.grounds.Grounds.{Family, HasArity}
use Rattle.termination_model.specs.sizes.Rows.{Covers}
use Rattle.termination_model.specs.mappings.View.{all_upper}
use Rattle.truth_rows.specs.Sets.{has_row}
use Rattle.component_laws.specs.Carried.{KeepsArities}
use Rattle.component_laws.specs.Renaming.{AgreeOn, StandIn}
use Rattle.component_laws.proofs.CarriedLaws.{carried}
use Rattle.solved_program.specs.Kept.{IsEdit}
use Rattle.solved_program.specs.Standing.{StandsFor}
use Rattle.solved_program.specs.declared.edit.Edit.{Edit}
use Rattle.solved_program.proofs.StandsIn.{IsShared, agree, f, stand_in}
use Rattle.carried_preconditions.specs.Carries.{SolvedCarriesOver}
use Rattle.carried_preconditions.specs.Same.{coefficient_lists, coefficients_in, paired}

-- ---- what is said of members alone
module _ (truth : (ℕ → Bool) → Tree → Bool) (p : Listing) (m : ℕ → Bool) (allowed grounds : Family) (cs ds : ℕ → List ℕ) (same : (q : ℕ) → m q ≡ true → cs q ≡ ds q) where
  pub other_coefficients : (pre : Family) → IsGreatestIn truth p m allowed grounds cs pre → IsGreatestIn truth p m allowed grounds ds pre
  other_coefficients pre g = record {
    keeps = record { covered = λ q row is t. subst (λ (ns : List ℕ). Covers ns row) (same q is) (g.keeps.covered q row is t); rule = g.keeps.rule };
    greatest = λ other k. g.greatest other (record { covered = λ q row is t. subst (λ (ns : List ℕ). Covers ns row) (sym (same q is)) (k.covered q row is t); rule = k.rule });
  }

-- a value for members, and nothing for other predicates
abbrev among : {X : Type 0} → (ℕ → Bool) → X → (ℕ → X) → ℕ → X
among m z g q = if m q then g q else z

among_member : {X : Type 0} (m : ℕ → Bool) (z : X) (g : ℕ → X) (q : ℕ) → m q ≡ true → among m z g q ≡ g q
among_member m z g q is = λ i. if is i then g q else z

-- the same values under new numbers
among_agree : {X : Type 0} (m n : ℕ → Bool) (z : X) (g h : ℕ → X) (q r : ℕ) → n r ≡ m q → (m q ≡ true → h r ≡ g q) → among n z h r ≡ among m z g q
among_agree m n z g h q r alike same = (λ i. if alike i then h r else z) ∙ go (m q) same
  where
    go : (b : Bool) → (b ≡ true → h r ≡ g q) → (if b then h r else z) ≡ (if b then g q else z)
    go true s = s refl
    go false s = refl

-- ---- coefficients by their lists
naturals_at : (ps : List LevelPart) (m : ℕ) → naturals (slice_get ps m) ≡ map natural (unwrap_or (slice_get (map coefficients_in ps) m) [])
naturals_at [] m = refl
naturals_at (x ∷ ps) zero = refl
naturals_at (x ∷ ps) (suc m) = naturals_at ps m

pub same_coefficients : (old levels : List (List LevelPart)) (q r m : ℕ) → coefficient_lists levels r ≡ coefficient_lists old q → coefficients_of levels m r ≡ coefficients_of old m q
same_coefficients old levels q r m same =
    naturals_at (items_of levels r) m ∙ ap (λ (xs : List (List ℤ)). map natural (unwrap_or (slice_get xs m) [])) same ∙ sym (naturals_at (items_of old q) m)

pub same_count : (old levels : List (List LevelPart)) (q r : ℕ) → coefficient_lists levels r ≡ coefficient_lists old q → length (items_of levels r) ≡ length (items_of old q)
same_count old levels q r same = sym (length-map (items_of levels r) coefficients_in) ∙ ap length same ∙ length-map (items_of old q) coefficients_in

-- ---- one component
module _ (truth : (ℕ → Bool) → Tree → Bool) (e : Edit) (prog : IsProgram e.before.now) (new_prog : IsProgram e.after.now) (is : IsEdit e) (b c : ℕ) (T : List Rows)
    (G0 A0 G A : Family) (old_levels levels : List (List LevelPart)) (old_sets sets : List (List Diagram))
    (stands : StandsFor e.components_before.now e.components.now b c (paired G0 A0) (paired G A) e.before.now e.after.now e.kept.now)
    (members : (q r : ℕ) (x : Pred) → slice_get e.before.now.preds q ≡ Some x → slice_get e.after.now.preds r ≡ Some x → IsIn e.components.now c r → paired G A r ≡ paired G0 A0 q)
    (lists : (q r : ℕ) (x : Pred) → slice_get e.before.now.preds q ≡ Some x → slice_get e.after.now.preds r ≡ Some x → IsIn e.components.now c r → coefficient_lists levels r ≡ coefficient_lists old_levels q)
    (put : (q r : ℕ) (x : Pred) → slice_get e.before.now.preds q ≡ Some x → slice_get e.after.now.preds r ≡ Some x → IsIn e.components.now c r → slice_get sets r ≡ slice_get old_sets q)
    (A0_is : A0 ≡ allowed_family e.before.now.preds T old_sets) (A_is : A ≡ allowed_family e.after.now.preds T sets)
    (solved : IsSolved truth e.before.now e.components_before.now G0 old_levels T old_sets b) where
  abbrev p : Listing
  p = e.before.now

  abbrev new : Listing
  new = e.after.now

  abbrev comps : Partition
  comps = e.components_before.now

  abbrev new_comps : Partition
  new_comps = e.components.now

  abbrev Known : ℕ → Type 0
  Known = IsShared p new comps new_comps prog new_prog is.components_before is.components e.kept.now is.kept b c (paired G0 A0) (paired G A) stands members

  abbrev g : ℕ → ℕ
  g = f p new comps new_comps prog new_prog is.components_before is.components e.kept.now is.kept b c (paired G0 A0) (paired G A) stands members

  agreeing : AgreeOn Known g (paired G0 A0) (paired G A)
  agreeing = agree p new comps new_comps prog new_prog is.components_before is.components e.kept.now is.kept b c (paired G0 A0) (paired G A) stands members

  standing : StandIn Known g p new (is_member comps b) (is_member new_comps c)
  standing = stand_in p new comps new_comps prog new_prog is.components_before is.components e.kept.now is.kept b c (paired G0 A0) (paired G A) stands members

  arities : KeepsArities Known g p new
  arities q n k = (
    λ (h : HasArity p.preds q n). subst (λ (o : Option Pred). IsSomeAnd o (λ (y : Pred). y.arity ≡ n)) (k.here ∙ sym k.there) h,
    λ (h : HasArity new.preds (g q) n). subst (λ (o : Option Pred). IsSomeAnd o (λ (y : Pred). y.arity ≡ n)) (k.there ∙ sym k.here) h,
  )

  member_there : (q : ℕ) → Known q → is_member comps b q ≡ true → IsIn new_comps c (g q)
  member_there q k on_ = at_is (slice_get new_comps.of (g q)) c (k.alike ∙ on_)

  pre_same : (m q : ℕ) (k : Known q) → is_member comps b q ≡ true → pre_family new.preds T sets m (g q) ≡ pre_family p.preds T old_sets m q
  pre_same m q k on_ = (let same = put q (g q) k.pred k.here k.there (member_there q k on_) in λ i row. has_row ((k.there ∙ sym k.here) i) T (slice_get (unwrap_or (same i) []) m) row)

  no_row : List Bool → Bool
  no_row row = false

  pub carried_solved : IsSolved truth new new_comps G levels T sets c
  carried_solved = record {
    counts = λ r in_it.
        let from = standing.from r (is_at_of (slice_get new_comps.of r) c in_it) in
        let q = from.0 in
        let k = from.1 in
        let in_b = at_is (slice_get comps.of q) b from.2 in
        let there : slice_get new.preds r ≡ Some k.pred = ap (slice_get new.preds) (sym from.3) ∙ k.there in
        ap (λ (o : Option (List Diagram)). length (unwrap_or o [])) (put q r k.pred k.here there in_it) ∙ solved.counts q in_b ∙ sym (same_count old_levels levels q r (lists q r k.pred k.here there in_it));
    greatest = λ r m in_it lt.
        let from = standing.from r (is_at_of (slice_get new_comps.of r) c in_it) in
        let q = from.0 in
        let k = from.1 in
        let in_b = at_is (slice_get comps.of q) b from.2 in
        let there : slice_get new.preds r ≡ Some k.pred = ap (slice_get new.preds) (sym from.3) ∙ k.there in
        let count = same_count old_levels levels q r (lists q r k.pred k.here there in_it) in
        one m (solved.greatest q m in_b (omega (arith, count, lt)));
  }
    where
      one : (m : ℕ) → IsGreatestIn truth p (is_member comps b) (allowed_family p.preds T old_sets) G0 (coefficients_of old_levels m) (pre_family p.preds T old_sets m)
          → IsGreatestIn truth new (is_member new_comps c) (allowed_family new.preds T sets) G (coefficients_of levels m) (pre_family new.preds T sets m)
      one m old =
          let cs = coefficients_of old_levels m in
          let ds = coefficients_of levels m in
          let pre = pre_family p.preds T old_sets m in
          let new_pre = pre_family new.preds T sets m in
          let M = is_member comps b in
          let N = is_member new_comps c in
          let a = subst (λ (h : Family). IsGreatestIn truth p M h G0 cs pre) (sym A0_is) old in
          let b1 = greatest_depends_on_members truth p M A0 G0 cs pre (among M no_row pre) (λ q on_. sym (among_member M no_row pre q on_)) a in
          let b2 = other_coefficients truth p M A0 G0 cs (among M [] cs) (λ q on_. sym (among_member M [] cs q on_)) (among M no_row pre) b1 in
          let c1 = carried truth Known g p new M N standing A0 G0 A G (λ q k. ap (λ (v : (List Bool → Bool) × (List Bool → Bool)). v.1) (agreeing q k)) (λ q k. ap (λ (v : (List Bool → Bool) × (List Bool → Bool)). v.0) (agreeing q k))
          (among M [] cs) (among N [] ds)
          (λ q k. among_agree M N [] cs ds q (g q) k.alike (λ on_. same_coefficients old_levels levels q (g q) m (lists q (g q) k.pred k.here k.there (member_there q k on_))))
          (among M no_row pre) (among N no_row new_pre) arities (λ q k. among_agree M N no_row pre new_pre q (g q) k.alike (pre_same m q k)) b2 in
          let d1 = other_coefficients truth new N A G (among N [] ds) ds (λ r on_. among_member N [] ds r on_) (among N no_row new_pre) c1 in
          let d2 = greatest_depends_on_members truth new N A G ds (among N no_row new_pre) new_pre (λ r on_. among_member N no_row new_pre r on_) d1 in
          subst (λ (h : Family). IsGreatestIn truth new N h G ds new_pre) A_is d2

-- one predicate of two programs, with the same sets, allows the same rows
pub allowed_same : (preds new_preds : List Pred) (T : List Rows) (old sets : List (List Diagram)) (q r : ℕ) (x : Pred) → slice_get preds q ≡ Some x → slice_get new_preds r ≡ Some x → slice_get sets r ≡ slice_get old q
    → allowed_family new_preds T sets r ≡ allowed_family preds T old q
allowed_same preds new_preds T old sets q r x here there same = λ i row. list_any (λ (d : Diagram). all_upper (has_row ((there ∙ sym here) i) T (Some d)) row) (unwrap_or (same i) [])

pub solved_carries_over : SolvedCarriesOver
solved_carries_over truth e b c T G0 G old_levels levels old_sets sets prog new_prog is stands grounds lists put solved =
    let A0 = allowed_family e.before.now.preds T old_sets in
    let A = allowed_family e.after.now.preds T sets in
    carried_solved truth e prog new_prog is b c T G0 A0 G A old_levels levels old_sets sets stands
    (λ q r x here there in_it. (let g = grounds q r x here there in_it in let a = allowed_same e.before.now.preds e.after.now.preds T old_sets sets q r x here there (put q r x here there in_it) in λ i. (g i, a i)))
    lists put refl refl solved
