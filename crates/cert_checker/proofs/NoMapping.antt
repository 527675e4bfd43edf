-- Where a certificate is valid, no mapping of a component with a refutation decreases.
use Rattle.std.proofs.Common.{◌≡◌, ℕ, zero, suc, ◌-◌, ◌<◌, ◌≤ℤ◌, ◌==◌, ◌⊎◌, inl, inr, ℤ, pos, negsuc, Bool, true, false, IsTrue, cond, if◌then◌else◌, List, [], ◌∷◌, All, map, take, length, slice_get, Option, None, Some, refl, sym, ap, subst, ◌∙◌, arith, eqb-true}
use Rattle.std.specs.Prelude.{filter}
use Rattle.std.specs.List.{AllByRecursion}
use Rattle.std.proofs.lemmas.Int.{ints}
use Rattle.std.proofs.lemmas.Bool.{and_parts}
use Rattle.cti_terms.specs.Tree.{Tree}
use Rattle.cti_terms.specs.Listing.{IsProgram, Listing, numbered}
use Rattle.cti_terms.specs.declared.atom_list.Atom.{Atom}
use Rattle.cti_terms.specs.declared.clauses.Clause.{Clause}
use Rattle.call_components.proofs.Lists.{all_map}
use Rattle.call_components.specs.Partition.{AreComponents, IsIn, Partition}
use Rattle.certificate.specs.Range.{AreAmounts}
use Rattle.certificate.specs.declared.fact.Fact.{Fact}
use Rattle.cert_structure.specs.Shape as shape
use Rattle.cert_structure.specs.Structure.{IsStructured}
use Rattle.number_tests.specs.declared.pair_point.PairPoint.{PairPoint}
use Rattle.cert_structure.specs.declared.parts.Parts.{Parts}
use Rattle.number_tests.specs.declared.refutation.Refutation.{Refutation}
use Rattle.linear_rows.specs.declared.point.Point.{Point}
use Rattle.linear_rows.specs.Rows.{HoldsOn}
use Rattle.term_size.specs.AnyNorm.{any_row, any_size, any_truth}
use Rattle.termination_model.specs.claims.Claims.{Claims, Mapping}
use Rattle.termination_model.specs.grounds.Grounds.{Family}
use Rattle.termination_model.specs.mappings.Refutation.{Decreases}
use Rattle.termination_model.specs.sizes.Sizes.{rows_of}
use Rattle.termination_model.specs.sizes.Systems.{system}
use Rattle.termination_model.specs.mappings.View.{Call, Lower, Member, Place, Rule, fall_over, rule_of, system_of, upward_union, view_of}
use Rattle.termination_model.specs.mappings.View as view
use Rattle.termination_model.proofs.Refuted.{none_decreases}
use Rattle.cert_checker.specs.Claimed.{claims_of}
use Rattle.cert_checker.specs.Excluded.{IsNatural, IsPairIn, itself, pair_of}
use Rattle.cert_checker.proofs.AnyPartition.{parts_hold}
use Rattle.cert_checker.proofs.Validity.{OneStructure}
use Rattle.cert_checker.specs.Refutes.{MappingDecreases, RefutedHaveNoMapping}
use Rattle.number_tests.specs.Refuting.{atom_or_none, call_of, clause_of, clause_or_none}
use Rattle.cert_checker.specs.Norms.{norm_in}
use Rattle.cert_checker.specs.Valid.{ClaimsHold, PartsHold}
use Rattle.cert_checker.proofs.Excludes.{excluded, in_range, system_same, take_mapped}
use Rattle.cert_checker.proofs.Partitions.{together_is}
use Rattle.cert_checker.proofs.ShapeLaws.{have_refutations, numbered_is, one_of}
use Rattle.termination_model.specs.mappings.ComponentViews.{rank_in}

amounts_are : (xs : List ℤ) → AreAmounts xs → All (λ x. pos 0 ≤ℤ x) xs
amounts_are [] h k d lt = absurd (omega (arith, lt))
amounts_are (x ∷ xs) h zero d lt = h.0.0
amounts_are (x ∷ xs) h (suc k) d lt = amounts_are xs h.1 k d (omega (arith, lt))

natural : (n : ℕ) (x : Point) → shape.IsPoint n x → IsNatural x
natural n x is = record { t = is.1.0; w = amounts_are x.w is.2 }

-- some t is positive
pub positive : (z : ℤ) → pos 0 ≤ℤ z → (z ≡ pos 0 → ⊥) → pos 1 ≤ℤ z
positive (pos zero) h other = absurd (other refl)
positive (pos (suc n)) h other = omega (arith, ints)
positive (negsuc n) h other = absurd (omega (arith, ints, h))

module _ (p : Listing) (comps : Partition) where
  pub call_in : (a : ℕ) (o : Option Atom) → IsTrue (shape.is_own_call comps a o) → (b : Atom) × (o ≡ Some b) × IsTrue (shape.is_together comps a b.pred.0)
  call_in a None h = cc
  call_in a (Some b) h = (b, refl, h)

  pub clause_in : (a call : ℕ) (o : Option Clause) → IsTrue (shape.is_own_clause comps a call o)
      → (c : Clause) × (o ≡ Some c) × IsTrue (shape.is_together comps a c.head.pred.0) × IsTrue (shape.is_own_call comps a (numbered c.body call))
  clause_in a call None h = cc
  clause_in a call (Some c) h =
      let (x, y) = and_parts (shape.is_together comps a c.head.pred.0) (shape.is_own_call comps a (numbered c.body call)) h in (c, refl, x, y)

  pub same_component : (r q x : ℕ) → IsIn comps r q → IsTrue (shape.is_together comps q x) → IsIn comps r x
  same_component r q x isin h =
      let (c, hq, hx) = together_is comps q x h in
      let same : Some c ≡ Some r = sym hq ∙ isin in hx ∙ same

  at_second : (n : ℕ) (x : PairPoint) → shape.IsPoint n x.point → shape.HasSecond n x.point.t x.at
      → (pos 1 ≤ℤ x.point.t) ⊎ ((y : Point) × (x.at ≡ Some y) × IsNatural y × (pos 1 ≤ℤ y.t))
  at_second n x is h = go x.at refl h
    where
      go : (o : Option Point) → x.at ≡ o → shape.HasSecond n x.point.t o → (pos 1 ≤ℤ x.point.t) ⊎ ((y : Point) × (x.at ≡ Some y) × IsNatural y × (pos 1 ≤ℤ y.t))
      go None e other = inl (positive x.point.t is.1.0 other)
      go (Some y) e (zero_t, second, other) = inr (y, e, natural n y second, positive y.t second.1.0 other)

  pair_in : (r q : ℕ) → IsIn comps r q → (x : PairPoint) → shape.IsPairPoint p comps q x → IsPairIn comps r p x
  pair_in r q isin x is =
      let (c, ec, head, own) = clause_in q x.call (numbered p.clauses x.clause) is.pair in
      let (b, eb, call) = call_in q (numbered c.body x.call) own in
      let (one, at) = numbered_is p.clauses x.clause c ec in
      let (two, place) = numbered_is c.body x.call b eb in
      let same_clause : clause_of p x ≡ c = ap clause_or_none at in
      let same_call : call_of p x ≡ b = ap (λ (d : Clause). atom_or_none (slice_get d.body (x.call - 1))) same_clause ∙ ap atom_or_none place in
      record {
        head = subst (λ (d : Clause). IsIn comps r d.head.pred.0) (sym same_clause) (same_component r q c.head.pred.0 isin head);
        call = subst (λ (d : Atom). IsIn comps r d.pred.0) (sym same_call) (same_component r q b.pred.0 isin call);
        natural = natural (shape.vars_of (numbered p.clauses x.clause)) x.point is.point;
        positive = at_second (shape.vars_of (numbered p.clauses x.clause)) x is.point is.second;
      }

-- what each element that passes a test has, the mapped ones have
pub kept_all : {X Y : Type 0} → (t : X → Bool) (g : X → Y) (Q : Y → Type 0) (xs : List X) → ((i : ℕ) (x : X) → slice_get xs i ≡ Some x → t x ≡ true → Q (g x)) → AllByRecursion Q (map g (filter t xs))
kept_all t g Q [] h = tt
kept_all t g Q (x ∷ xs) h = go (t x) refl (kept_all t g Q xs (λ i y e. h (suc i) y e))
  where
    go : (b : Bool) → t x ≡ b → AllByRecursion Q (map g (filter t xs)) → AllByRecursion Q (map g (cond b (x ∷ filter t xs) (filter t xs)))
    go true e rest = (h 0 x refl e, rest)
    go false e rest = rest

pub unmapped : {X Y : Type 0} → (g : X → Y) (xs : List X) (j : ℕ) (y : Y) → slice_get (map g xs) j ≡ Some y → (x : X) × (slice_get xs j ≡ Some x) × (g x ≡ y)
unmapped g [] j y e = cc
unmapped g (x ∷ xs) zero y e = (x, refl, let same : g x ≡ y = cc in same)
unmapped g (x ∷ xs) (suc j) y e = unmapped g xs j y e

pub place_is : (b : Bool) (q n : ℕ) (f : List Bool → Bool) → (if b then Member q else Lower f) ≡ Member n → (b ≡ true) × (q ≡ n)
place_is true q n f e = (refl, let same : q ≡ n = cc in same)
place_is false q n f e = cc

module _ (size : (ℕ → ℕ) → Tree → ℕ) (truth : (ℕ → Bool) → Tree → Bool) (expression : ℕ → Tree → List ℤ) (p : Listing) (comps : Partition) (parts : Parts)
    (grounds : Family) (pre : ℕ → Family) (r : ℕ) (inner : r < length comps.members) (l : Mapping) where
  abbrev claims : Claims
  claims = claims_of size truth expression comps parts grounds pre

  decreases : MappingDecreases expression p comps (rows_of parts.rows) r l → Decreases expression (view_of p claims r itself) l
  decreases d =
      kept_all (λ (k : Clause). rank_in comps k.head.pred.0 == r) (rule_of claims r itself)
      (λ (k : Rule). (j : ℕ) (b : Call) (q : ℕ) → slice_get k.body j ≡ Some b → b.place ≡ Member q
      → HoldsOn (suc k.vars) (system_of expression k.vars (take j k.body)) (fall_over expression k q b.args 1 l)) p.clauses (λ i k at passes j b q ej place.
      let (a, ea, same) = unmapped (view.call_of claims r itself) k.body j b ej in
      let head : IsIn comps r k.head.pred.0 = in_range comps.of k.head.pred.0 (length comps.members) r (eqb-true (rank_in comps k.head.pred.0) r passes) inner in
      let (own, number) = place_is (rank_in comps a.pred.0 == r) a.pred.0 q (upward_union claims a.pred.0) (ap (λ (x : Call). x.place) same ∙ place) in
      let call : IsIn comps r a.pred.0 = in_range comps.of a.pred.0 (length comps.members) r (eqb-true (rank_in comps a.pred.0) r own) inner in
      let rows : system expression (rows_of parts.rows) k.vars (take j k.body) ≡ system_of expression k.vars (take j (map (view.call_of claims r itself) k.body)) =
      sym (ap (system_of expression k.vars) (take_mapped (view.call_of claims r itself) j k.body) ∙ system_same size truth expression p comps parts grounds pre r k.vars (take j k.body)) in
      subst (λ (rs : List (List ℤ)). HoldsOn (suc k.vars) rs (fall_over expression (rule_of claims r itself k) q b.args 1 l)) rows
      (subst (λ (x : Call). HoldsOn (suc k.vars) (system expression (rows_of parts.rows) k.vars (take j k.body)) (fall_over expression (rule_of claims r itself k) q x.args 1 l)) same
      (subst (λ (n : ℕ). HoldsOn (suc k.vars) (system expression (rows_of parts.rows) k.vars (take j k.body)) (fall_over expression (rule_of claims r itself k) n a.args 1 l)) number
      (d i k at head j a ea call))))

pub nothing : Family
nothing q row = false

-- no mapping of a component of parts that hold decreases, where it has a refutation
pub none_of_parts : (size : (ℕ → ℕ) → Tree → ℕ) (truth : (ℕ → Bool) → Tree → Bool) (expression : ℕ → Tree → List ℤ) (p : Listing) (comps : Partition) (parts : Parts) → IsProgram p → AreComponents p comps → shape.HaveShape p comps parts → PartsHold truth expression p comps parts
    → (q r : ℕ) (f : Refutation) → slice_get parts.refutations q ≡ Some (Some f) → IsIn comps r q → (l : Mapping) → MappingDecreases expression p comps (rows_of parts.rows) r l → ⊥
none_of_parts size truth expression p comps parts prog are have hold q r f slot isin l d =
    let (opens, some, ascend, all) = one_of parts.refutations have.refutations q (Some f) slot in
    let inside = all_map (shape.IsPairPoint p comps q) (IsPairIn comps r p) (pair_in p comps r q isin) f.points all in
    none_decreases expression (view_of p (claims_of size truth expression comps parts nothing (λ _. nothing)) r itself)
    (map (pair_of p (claims_of size truth expression comps parts nothing (λ _. nothing)) r) f.points) l
    (excluded size truth expression p comps parts nothing (λ _. nothing) prog are (have_refutations p comps parts have) hold.refutations q r f slot isin inside)
    (decreases size truth expression p comps parts nothing (λ _. nothing) r (are.within r q isin) l d)

-- whatever partition is taken: a certificate has no other parts than those that hold
pub refuted_have_none : OneStructure → (p : Listing) (names : List (List ℕ)) (comps : Partition) → IsProgram p → AreComponents p comps → (facts : List Fact) (parts : Parts)
    → ((own : Parts) → IsStructured p names comps own facts → parts ≡ own) → ClaimsHold p names comps parts → RefutedHaveNoMapping p names facts
refuted_have_none one_structure p names comps prog are facts parts only hold others own are_others structured q r f slot isin l d =
    let same : parts ≡ own = only own (one_structure p names others comps own facts are_others are structured) in
    let n = norm_in names own.norm in
    let held = parts_hold (any_truth n) (any_row n) p comps others are are_others own (subst (ClaimsHold p names comps) same hold) in
    none_of_parts (any_size n) (any_truth n) (any_row n) p others own prog are_others structured.shape held q r f slot isin l d
