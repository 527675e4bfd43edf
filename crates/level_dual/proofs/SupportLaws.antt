-- Supports of mappings that are given by parts, and sets of positions in another order.
use Rattle.std.proofs.Common.{◌≡◌, ℕ, zero, suc, ◌==◌, pos, Bool, true, false, if◌then◌else◌, List, [], ◌∷◌, map, filter, Some, ◌⊎◌, inl, inr, refl, ap, sym, subst, ◌∙◌, nat_lt, eq-eqb, eqb-true}
use Rattle.std.specs.Prelude.{unsigned_abs}
use Rattle.std.specs.List.{AllByRecursion, list_any}
use Rattle.std.proofs.lemmas.Bool.{or_cases, or_left, or_right, and_parts, and_from}
use Rattle.cti_terms.specs.Listing.{Listing}
use Rattle.linear_rows.specs.Members.{In}
use Rattle.linear_rows.specs.Step.{columns}
use Rattle.linear_rows.proofs.Members.{in-filter, in-left, in-right, of-append, of-filter}
use Rattle.number_tests.specs.declared.level_part.LevelPart.{LevelPart}
use Rattle.termination_model.specs.mappings.Coefficients.{coefficient}
use Rattle.termination_model.specs.mappings.BlownSupports.{same_position}
use Rattle.termination_model.specs.claims.Claims.{Mapping}
use Rattle.termination_model.specs.mappings.OwnCalls.{Position}
use Rattle.termination_model.specs.mappings.Ready.{arity_in, positions_by}
use Rattle.termination_model.specs.mappings.Supports.{support_from}
use Rattle.number_tests.specs.Shape.{IsLevelPart}
use Rattle.level_systems.specs.Falling.{HasParts}
use Rattle.level_systems.specs.Mappings.{HasMeasures, natural_coefficients, level_in, mapping_with, natural_offset}
use Rattle.level_systems.specs.Searched.{IsSoundCall}
use Rattle.level_systems.specs.declared.own_call.OwnCall.{OwnCall}
use Rattle.level_systems.specs.Valued.{IsPartOf}
use Rattle.level_systems.specs.declared.measure.Measure.{Measure}

-- ---- supports
pub support_same : (ps : List Position) (i : ℕ) (l k : Mapping) → ((x : Position) → In x ps → l.coefficients x.0 ≡ k.coefficients x.0) → support_from i ps l ≡ support_from i ps k
support_same [] i l k h = refl
support_same (x ∷ ps) i l k h =
    let here = h x (inl refl) in
    let rest = support_same ps (suc i) l k (λ y j. h y (inr j)) in
    λ j. if nat_lt 0 (coefficient (here j) x.1) then i ∷ rest j else rest j

naturals_of : (cs : List ℕ) → map unsigned_abs (map pos cs) ≡ cs
naturals_of [] = refl
naturals_of (c ∷ cs) = ap (λ s. c ∷ s) (naturals_of cs)

-- the part of a member is there
pub part_there : (P : ℕ → LevelPart → Type 0) (ms : List Measure) (q : ℕ) → AllByRecursion (λ (m : Measure). P m.pred.0 m.part) ms → In q (map (λ (m : Measure). m.pred.0) ms)
    → (part : LevelPart) × (level_in ms q ≡ Some part) × P q part
part_there P [] q all h = absurd h
part_there P (m ∷ ms) q all h = go (m.pred.0 == q) refl h (part_there P ms q all.1)
  where
    go : (b : Bool) → (m.pred.0 == q) ≡ b → (m.pred.0 ≡ q) ⊎ In q (map (λ (m : Measure). m.pred.0) ms)
        → (In q (map (λ (m : Measure). m.pred.0) ms) → (part : LevelPart) × (level_in ms q ≡ Some part) × P q part)
        → (part : LevelPart) × ((if b then Some m.part else level_in ms q) ≡ Some part) × P q part
    go true e i rec = (m.part, refl, subst (λ (x : ℕ). P x m.part) (eqb-true m.pred.0 q e) all.0)
    go false e (inl s) rec = let yes : (m.pred.0 == q) ≡ true = eq-eqb m.pred.0 q s in cc
    go false e (inr i) rec = rec i

pub mapping_same : (l : Mapping) (ms : List Measure) (q : ℕ) → AllByRecursion (λ (m : Measure). IsPartOf l m.pred.0 m.part) ms → In q (map (λ (m : Measure). m.pred.0) ms)
    → (mapping_with ms).coefficients q ≡ l.coefficients q
mapping_same l ms q all h =
    let (part, at, is) = part_there (IsPartOf l) ms q all h in
    ap natural_coefficients at ∙ ap (map unsigned_abs) is.coefficients ∙ naturals_of (l.coefficients q)

pub offset_same : (l : Mapping) (ms : List Measure) (q : ℕ) → AllByRecursion (λ (m : Measure). IsPartOf l m.pred.0 m.part) ms → In q (map (λ (m : Measure). m.pred.0) ms)
    → (mapping_with ms).offset q ≡ l.offset q
offset_same l ms q all h =
    let (part, at, is) = part_there (IsPartOf l) ms q all h in
    ap natural_offset at ∙ ap unsigned_abs is.offset

-- a mapping without a part for a predicate has no coefficients there
pub part_or_none : (ms : List Measure) (q : ℕ) → In q (map (λ (m : Measure). m.pred.0) ms) ⊎ ((mapping_with ms).coefficients q ≡ [])
part_or_none [] q = inr refl
part_or_none (m ∷ ms) q = go (m.pred.0 == q) refl (part_or_none ms q)
  where
    go : (b : Bool) → (m.pred.0 == q) ≡ b → In q (map (λ (m : Measure). m.pred.0) ms) ⊎ (natural_coefficients (level_in ms q) ≡ [])
        → ((m.pred.0 ≡ q) ⊎ In q (map (λ (m : Measure). m.pred.0) ms)) ⊎ (natural_coefficients (if b then Some m.part else level_in ms q) ≡ [])
    go true e r = inl (inl (eqb-true m.pred.0 q e))
    go false e (inl i) = inl (inr i)
    go false e (inr n) = inr n

-- each call has parts for its head and itself
pub has_parts : (p : Listing) (members : List ℕ) (ms : List Measure) → HasMeasures p members ms → (own : OwnCall) → IsSoundCall p members own → HasParts ms own
has_parts p members ms h own sound =
    let (head, head_at, head_part) = part_there (λ q l. IsLevelPart (arity_in p q) l) ms own.caller.0 h.parts (subst (In own.caller.0) (sym h.each) sound.caller) in
    let (call, call_at, call_part) = part_there (λ q l. IsLevelPart (arity_in p q) l) ms own.callee.0 h.parts (subst (In own.callee.0) (sym h.each) sound.callee) in
    record {
      head = head;
      call = call;
      head_is = head_at;
      call_is = call_at;
      head_part = subst (λ (n : ℕ). IsLevelPart n head) (sym sound.head) head_part;
      call_part = subst (λ (n : ℕ). IsLevelPart n call) (sym sound.call) call_part;
    }

-- the predicates of positions
member_of_map : (q n a : ℕ) (x : Position) → In x (map (λ a. (q, a)) (columns a n)) → x.0 ≡ q
member_of_map q zero a x h = absurd h
member_of_map q (suc n) a x (inl e) = ap (λ (y : Position). y.0) (sym e)
member_of_map q (suc n) a x (inr h) = member_of_map q n (suc a) x h

argument_of_map : (q n a : ℕ) (x : Position) → In x (map (λ a. (q, a)) (columns a n)) → In x.1 (columns a n)
argument_of_map q zero a x h = absurd h
argument_of_map q (suc n) a x (inl e) = inl (ap (λ (y : Position). y.1) e)
argument_of_map q (suc n) a x (inr h) = inr (argument_of_map q n (suc a) x h)

map_argument : (q n a b : ℕ) → In b (columns a n) → In {X = Position} (q, b) (map (λ a. (q, a)) (columns a n))
map_argument q zero a b h = absurd h
map_argument q (suc n) a b (inl e) = inl (λ i. (q, e i))
map_argument q (suc n) a b (inr h) = inr (map_argument q n (suc a) b h)

pub pred_of : (arity : ℕ → ℕ) (qs : List ℕ) (x : Position) → In x (positions_by arity qs) → In x.0 qs × In x.1 (columns 0 (arity x.0))
pred_of arity [] x h = absurd h
pred_of arity (q ∷ qs) x h = elim (of-append (map (λ a. (q, a)) (columns 0 (arity q))) (positions_by arity qs) x h) [
  | inl i ↦
      let e = member_of_map q (arity q) 0 x i in
      (inl (sym e), subst (λ (r : ℕ). In x.1 (columns 0 (arity r))) (sym e) (argument_of_map q (arity q) 0 x i))
  | inr i ↦ let r = pred_of arity qs x i in (inr r.0, r.1)
]

pub position_of : (arity : ℕ → ℕ) (qs : List ℕ) (q a : ℕ) → In q qs → In a (columns 0 (arity q)) → In {X = Position} (q, a) (positions_by arity qs)
position_of arity [] q a h i = absurd h
position_of arity (r ∷ qs) q a (inl e) i =
    in-left (map (λ b. (r, b)) (columns 0 (arity r))) (positions_by arity qs) (q, a)
    (subst (λ (z : ℕ). In {X = Position} (q, a) (map (λ b. (z, b)) (columns 0 (arity z)))) (sym e) (map_argument q (arity q) 0 a i))
position_of arity (r ∷ qs) q a (inr h) i = in-right (map (λ b. (r, b)) (columns 0 (arity r))) (positions_by arity qs) (q, a) (position_of arity qs q a h i)

-- ---- picked positions in order

same_is : (x y : Position) → same_position x y ≡ true → y ≡ x
same_is x y h =
    let (a, b) = and_parts (x.0 == y.0) (x.1 == y.1) h in
    let e = eqb-true x.0 y.0 a in
    let f = eqb-true x.1 y.1 b in
    λ i. (sym e i, sym f i)

is_same : (x y : Position) → y ≡ x → same_position x y ≡ true
is_same x y e =
    and_from (x.0 == y.0) (x.1 == y.1) (eq-eqb x.0 y.0 (ap (λ (z : Position). z.0) (sym e))) (eq-eqb x.1 y.1 (ap (λ (z : Position). z.1) (sym e)))

picked_any : (ps : List Position) (x : Position) → list_any (same_position x) ps ≡ true → In x ps
picked_any [] x h = cc
picked_any (y ∷ ps) x h = elim (or_cases (same_position x y) (list_any (same_position x) ps) h) [
  | inl e ↦ inl (same_is x y e)
  | inr k ↦ inr (picked_any ps x k)
]

any_picked : (ps : List Position) (x : Position) → In x ps → list_any (same_position x) ps ≡ true
any_picked [] x h = absurd h
any_picked (y ∷ ps) x (inl e) = or_left (same_position x y) (list_any (same_position x) ps) (is_same x y e)
any_picked (y ∷ ps) x (inr h) = or_right (same_position x y) (list_any (same_position x) ps) (any_picked ps x h)

pub of_ordered : (order picks : List Position) (x : Position) → In x (filter (λ r. list_any (same_position r) picks) order) → In x picks
of_ordered order picks x h = picked_any picks x (of-filter (λ r. list_any (same_position r) picks) order x h).1

pub in_ordered : (order picks : List Position) (x : Position) → In x order → In x picks → In x (filter (λ r. list_any (same_position r) picks) order)
in_ordered order picks x h i = in-filter (λ r. list_any (same_position r) picks) order x (any_picked picks x i) h
