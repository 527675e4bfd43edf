-- Positions, supports and parts of mappings, where members have other numbers and stand in the same order.
use Rattle.std.proofs.Common.{◌≡◌, ℕ, suc, ◌<◌, ◌==◌, ℤ, Bool, true, false, if◌then◌else◌, inl, inr, List, [], ◌∷◌, ◌++◌, map, length, Option, None, Some, refl, ap, sym, subst, ◌∙◌, arith, nat_lt, nat_eq, eq-eqb, eqb-true}
use Rattle.std.specs.List.{AllByRecursion, list_any}
use Rattle.cti_terms.specs.Tree.{Tree}
use Rattle.linear_rows.specs.Members.{In}
use Rattle.linear_rows.specs.Step.{columns}
use Rattle.linear_rows.proofs.Members.{in-map, of-append, of-map}
use Rattle.number_tests.specs.Levels.{natural_coefficients, natural_offset}
use Rattle.number_tests.specs.declared.level_part.LevelPart.{LevelPart}
use Rattle.termination_model.specs.mappings.Coefficients.{coefficient}
use Rattle.termination_model.specs.claims.Claims.{Mapping as PlainMapping}
use Rattle.termination_model.specs.mappings.Excluding.{IsZeroOutside}
use Rattle.termination_model.specs.mappings.OwnCalls.{Position}
use Rattle.termination_model.specs.mappings.Ready.{positions_by}
use Rattle.termination_model.specs.mappings.Supports.{HasSupport, picked_from, support_from}
use Rattle.termination_model.specs.mappings.View.{Rule}
use Rattle.level_systems.specs.Mappings.{level_in, mapping_with}
use Rattle.level_systems.specs.declared.measure.Measure.{Measure}
use Rattle.component_laws.specs.Mapped.{AreSamePositions, IsOfMembers, pulled, renamed_rule}
use Rattle.component_laws.specs.Renaming.{KeepsApart}
use Rattle.component_laws.proofs.MappedLaws.{all_here, at_here}
use Rattle.carried_mappings.specs.Moved.{with_members}

-- ---- lists
pub map_twice : {X Y Z : Type 0} (g : Y → Z) (h : X → Y) (xs : List X) → map g (map h xs) ≡ map (λ x. g (h x)) xs
map_twice g h [] = refl
map_twice g h (x ∷ xs) = ap (λ zs. g (h x) ∷ zs) (map_twice g h xs)

pub map_joined : {X Y : Type 0} (g : X → Y) (xs ys : List X) → map g (xs ++ ys) ≡ map g xs ++ map g ys
map_joined g [] ys = refl
map_joined g (x ∷ xs) ys = ap (λ zs. g x ∷ zs) (map_joined g xs ys)

pub length_mapped : {X Y : Type 0} (g : X → Y) (xs : List X) → length (map g xs) ≡ length xs
length_mapped g [] = refl
length_mapped g (x ∷ xs) = ap suc (length_mapped g xs)

pub map_alike : {X Y : Type 0} (g h : X → Y) (xs : List X) → ((x : X) → In x xs → g x ≡ h x) → map g xs ≡ map h xs
map_alike g h [] e = refl
map_alike g h (x ∷ xs) e = let a = e x (inl refl) in let b = map_alike g h xs (λ y i. e y (inr i)) in λ i. a i ∷ b i

-- ---- positions
abbrev pub renamed_position : (ℕ → ℕ) → Position → Position
renamed_position f x = (f x.0, x.1)

pub positions_renamed : (f : ℕ → ℕ) (arity new_arity : ℕ → ℕ) (qs : List ℕ) → ((q : ℕ) → In q qs → new_arity (f q) ≡ arity q)
    → positions_by new_arity (map f qs) ≡ map (renamed_position f) (positions_by arity qs)
positions_renamed f arity new_arity [] h = refl
positions_renamed f arity new_arity (q ∷ qs) h =
    let here = h q (inl refl) in
    let more = positions_renamed f arity new_arity qs (λ x i. h x (inr i)) in
    let own : List Position = map (λ a. (q, a)) (columns 0 (arity q)) in
    let first : map (λ a. (f q, a)) (columns 0 (new_arity (f q))) ≡ map (renamed_position f) own =
    ap (λ n. map (λ a. (f q, a)) (columns 0 n)) here ∙ sym (map_twice (renamed_position f) (λ a. (q, a)) (columns 0 (arity q))) in
    (λ i. first i ++ more i) ∙ sym (map_joined (renamed_position f) own (positions_by arity qs))

-- the predicate of a position
pub position_pred : (arity : ℕ → ℕ) (qs : List ℕ) (x : Position) → In x (positions_by arity qs) → In x.0 qs
position_pred arity [] x h = absurd h
position_pred arity (q ∷ qs) x h = elim (of-append (map (λ a. (q, a)) (columns 0 (arity q))) (positions_by arity qs) x h) [
  | inl here ↦ let a = of-map (λ a. (q, a)) (columns 0 (arity q)) x here in inl (ap (λ (z : Position). z.0) a.2)
  | inr more ↦ inr (position_pred arity qs x more)
]

pub picked_in : (i : ℕ) (ps : List Position) (s : List ℕ) (x : Position) → In x (picked_from i ps s) → In x ps
picked_in i [] s x h = absurd h
picked_in i (p ∷ ps) s x h = go (list_any (λ n. nat_eq i n) s) (λ j. picked_in (suc i) ps s x j) h
  where
    go : (b : Bool) → (In x (picked_from (suc i) ps s) → In x ps) → In x (if b then p ∷ picked_from (suc i) ps s else picked_from (suc i) ps s) → In x (p ∷ ps)
    go true more (inl e) = inl e
    go true more (inr j) = inr (more j)
    go false more j = inr (more j)

pub picked_renamed : (f : ℕ → ℕ) (i : ℕ) (ps : List Position) (s : List ℕ) → picked_from i (map (renamed_position f) ps) s ≡ map (renamed_position f) (picked_from i ps s)
picked_renamed f i [] s = refl
picked_renamed f i (p ∷ ps) s = go (list_any (λ n. nat_eq i n) s) (picked_renamed f (suc i) ps s)
  where
    go : (b : Bool) → picked_from (suc i) (map (renamed_position f) ps) s ≡ map (renamed_position f) (picked_from (suc i) ps s)
        → (if b then renamed_position f p ∷ picked_from (suc i) (map (renamed_position f) ps) s else picked_from (suc i) (map (renamed_position f) ps) s)
        ≡ map (renamed_position f) (if b then p ∷ picked_from (suc i) ps s else picked_from (suc i) ps s)
    go true e = ap (λ z. renamed_position f p ∷ z) e
    go false e = e

-- ---- members under other numbers
module _ (f : ℕ → ℕ) (m : ℕ → Bool) where
  abbrev AreOf : List Position → Type 0
  AreOf ps = (x : Position) → In x ps → m x.0 ≡ true

  pub same_positions : (ps : List Position) → AreOf ps → AreSamePositions f m ps (map (renamed_position f) ps)
  same_positions ps of = record {
    members = λ q a h. of (q, a) h;
    there = λ q a h. in-map (renamed_position f) ps (q, a) h;
    from = λ r a h.
        let x = of-map (renamed_position f) ps (r, a) h in
        let second : x.0.1 ≡ a = ap (λ (z : Position). z.1) x.2 in
        (x.0.0, ap (λ (z : Position). z.0) x.2, subst (λ (z : ℕ). In (x.0.0, z) ps) second x.1);
  }

  pub support_renamed : (i : ℕ) (ps : List Position) (l : PlainMapping) → AreOf ps → support_from i (map (renamed_position f) ps) l ≡ support_from i ps (pulled f m l)
  support_renamed i [] l of = refl
  support_renamed i (p ∷ ps) l of =
      let is = of p (inl refl) in
      let more = support_renamed (suc i) ps l (λ x j. of x (inr j)) in
      let here : nat_lt 0 (coefficient (l.coefficients (f p.0)) p.1) ≡ nat_lt 0 (coefficient ((pulled f m l).coefficients p.0) p.1) =
      (λ j. nat_lt 0 (coefficient (if sym is j then l.coefficients (f p.0) else []) p.1)) in
      λ j. if here j then i ∷ more j else more j

  -- a support there is one here
  pub support_here : (expression : ℕ → Tree → List ℤ) (view : List Rule) (ps : List Position) → KeepsApart (λ q. m q ≡ true) f
      → AllByRecursion (IsOfMembers m) view → AreOf ps → (s : List ℕ)
      → HasSupport expression (map (renamed_rule f) view) (map (renamed_position f) ps) s → HasSupport expression view ps s
  support_here expression view ps apart rules of s has = record {
    mapping = pulled f m has.mapping;
    at = at_here expression f m view ps (map (renamed_position f) ps) apart rules (same_positions ps of) has.mapping has.at;
    decreases = all_here expression f m view rules has.mapping has.decreases;
    is = sym (support_renamed 1 ps has.mapping of) ∙ has.is;
  }

-- ---- parts of mappings
abbrev pub renamed_measure : (ℕ → ℕ) → Measure → Measure
renamed_measure f x = record { pred = record { 0 = f x.pred.0 }; part = x.part }

abbrev pub preds_of : List Measure → List ℕ
preds_of ms = map (λ (x : Measure). x.pred.0) ms

pub with_renamed : (f : ℕ → ℕ) (ms : List Measure) → with_members (map f (preds_of ms)) ms ≡ map (renamed_measure f) ms
with_renamed f [] = refl
with_renamed f (x ∷ ms) = ap (λ z. renamed_measure f x ∷ z) (with_renamed f ms)

pub preds_renamed : (f : ℕ → ℕ) (ms : List Measure) → preds_of (map (renamed_measure f) ms) ≡ map f (preds_of ms)
preds_renamed f [] = refl
preds_renamed f (x ∷ ms) = ap (λ z. f x.pred.0 ∷ z) (preds_renamed f ms)

module _ (f : ℕ → ℕ) (m : ℕ → Bool) (apart : KeepsApart (λ q. m q ≡ true) f) where
  abbrev AreParts : List Measure → Type 0
  AreParts ms = (x : Measure) → In x ms → m x.pred.0 ≡ true

  pub tests_alike : (q r : ℕ) → m q ≡ true → m r ≡ true → (f q == f r) ≡ (q == r)
  tests_alike q r a b = go (f q == f r) (q == r) refl refl
    where
      go : (x y : Bool) → (f q == f r) ≡ x → (q == r) ≡ y → x ≡ y
      go true true e h = refl
      go false false e h = refl
      go true false e h = sym (eq-eqb q r (apart q r a b (eqb-true (f q) (f r) e))) ∙ h
      go false true e h = sym e ∙ eq-eqb (f q) (f r) (ap f (eqb-true q r h))

  pub level_renamed : (ms : List Measure) → AreParts ms → (q : ℕ) → m q ≡ true → level_in (map (renamed_measure f) ms) (f q) ≡ level_in ms q
  level_renamed [] of q is = refl
  level_renamed (x ∷ ms) of q is =
      let here = tests_alike x.pred.0 q (of x (inl refl)) is in
      let more = level_renamed ms (λ y j. of y (inr j)) q is in
      λ i. if here i then Some x.part else more i

  level_none : (ms : List Measure) → AreParts ms → (q : ℕ) → m q ≡ false → level_in ms q ≡ None
  level_none [] of q out = refl
  level_none (x ∷ ms) of q out = go (x.pred.0 == q) refl (level_none ms (λ y j. of y (inr j)) q out)
    where
      go : (b : Bool) → (x.pred.0 == q) ≡ b → level_in ms q ≡ None → (if b then Some x.part else level_in ms q) ≡ None
      go false e more = more
      go true e more =
          let is : m q ≡ true = ap m (sym (eqb-true x.pred.0 q e)) ∙ of x (inl refl) in
          absurd (let same : true ≡ false = sym is ∙ out in cc)

  -- the mapping there is the mapping here
  pub mapping_pulled : (ms : List Measure) → AreParts ms → pulled f m (mapping_with (map (renamed_measure f) ms)) ≡ mapping_with ms
  mapping_pulled ms of = λ i. record { coefficients = λ q. coefficients_same q i; offset = λ q. offset_same q i }
    where
      coefficients_same : (q : ℕ) → (if m q then natural_coefficients (level_in (map (renamed_measure f) ms) (f q)) else []) ≡ natural_coefficients (level_in ms q)
      coefficients_same q = go (m q) refl
        where
          go : (b : Bool) → m q ≡ b → (if b then natural_coefficients (level_in (map (renamed_measure f) ms) (f q)) else []) ≡ natural_coefficients (level_in ms q)
          go true is = ap natural_coefficients (level_renamed ms of q is)
          go false out = ap natural_coefficients (sym (level_none ms of q out))

      offset_same : (q : ℕ) → (if m q then natural_offset (level_in (map (renamed_measure f) ms) (f q)) else 0) ≡ natural_offset (level_in ms q)
      offset_same q = go (m q) refl
        where
          go : (b : Bool) → m q ≡ b → (if b then natural_offset (level_in (map (renamed_measure f) ms) (f q)) else 0) ≡ natural_offset (level_in ms q)
          go true is = ap natural_offset (level_renamed ms of q is)
          go false out = ap natural_offset (sym (level_none ms of q out))

  pub level_from : (ms : List Measure) → AreParts ms → (r : ℕ) (part : LevelPart) → level_in (map (renamed_measure f) ms) r ≡ Some part → (q : ℕ) × (m q ≡ true) × (f q ≡ r)
  level_from [] of r part e = cc
  level_from (x ∷ ms) of r part e = go (f x.pred.0 == r) refl (λ more. level_from ms (λ y j. of y (inr j)) r part more) e
    where
      go : (b : Bool) → (f x.pred.0 == r) ≡ b → (level_in (map (renamed_measure f) ms) r ≡ Some part → (q : ℕ) × (m q ≡ true) × (f q ≡ r))
          → (if b then Some x.part else level_in (map (renamed_measure f) ms) r) ≡ Some part → (q : ℕ) × (m q ≡ true) × (f q ≡ r)
      go true t more e = (x.pred.0, of x (inl refl), eqb-true (f x.pred.0) r t)
      go false t more e = more e

  pub at_renamed : (ms : List Measure) (ps : List Position) → AreParts ms → IsZeroOutside ps (mapping_with ms) → IsZeroOutside (map (renamed_position f) ps) (mapping_with (map (renamed_measure f) ms))
  at_renamed ms ps of at r a h = go (level_in (map (renamed_measure f) ms) r) refl h
    where
      go : (o : Option LevelPart) → level_in (map (renamed_measure f) ms) r ≡ o → 0 < coefficient (natural_coefficients o) a → In (r, a) (map (renamed_position f) ps)
      go None e h = absurd (omega arith)
      go (Some part) e h =
          let from = level_from ms of r part e in
          let q = from.0 in
          let same : level_in ms q ≡ Some part = sym (level_renamed ms of q from.1) ∙ ap (level_in (map (renamed_measure f) ms)) from.2 ∙ e in
          let here : In (q, a) ps = at q a (subst (λ (o : Option LevelPart). 0 < coefficient (natural_coefficients o) a) (sym same) h) in
          subst (λ (z : ℕ). In (z, a) (map (renamed_position f) ps)) from.2 (in-map (renamed_position f) ps (q, a) here)
