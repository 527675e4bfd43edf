-- Supports of lists of mappings, as sets of positions.
use Rattle.std.proofs.Common.{◌≡◌, ◌||◌, ◌+◌, ◌<◌, inl, inr, nat_lt, ℕ, zero, suc, slice_get, Some, map, ℤ, Bool, true, false, if◌then◌else◌, List, [], ◌∷◌, length, refl, sym, subst, ◌∙◌, arith}
use Rattle.std.specs.Prelude.{nat_eq}
use Rattle.std.specs.List.{AllByRecursion, list_any}
use Rattle.std.proofs.lemmas.Bool.{or_cases, or_left, or_right}
use Rattle.std.proofs.lemmas.Bool.Decides.{nat_tests}
use Rattle.call_components.specs.Partition.{Partition}
use Rattle.cti_terms.specs.Listing.{Listing}
use Rattle.cti_terms.specs.Tree.{Tree}
use Rattle.linear_rows.specs.Members.{In}
use Rattle.termination_model.specs.mappings.Coefficients.{coefficient}
use Rattle.termination_model.specs.claims.Claims.{Mapping}
use Rattle.termination_model.specs.mappings.ComponentViews.{component_view, positions_in, HasSupportIn}
use Rattle.termination_model.specs.mappings.Excluding.{IsZeroOutside}
use Rattle.termination_model.specs.grounds.Minimal.{IsExcluded, IsSet}
use Rattle.termination_model.specs.grounds.Modes.{is_part}
use Rattle.termination_model.specs.mappings.OwnCalls.{Position}
use Rattle.termination_model.specs.mappings.Refutation.{Decreases}
use Rattle.termination_model.specs.lists.Stuck.{ListDescends}
use Rattle.termination_model.specs.mappings.View.{Rule}
use Rattle.termination_model.specs.mappings.Supports.{AreDistinct, picked_from, support_from}
use Rattle.termination_model.proofs.Having.{in_here, in_then, part_head, part_tail, picked_in}
use Rattle.termination_model.proofs.Sets.{Part, any_in, in_any, of_part, set_lower, to_part}
use Rattle.level_systems.specs.Mappings.{mapping_with}
use Rattle.level_systems.specs.declared.measure.Measure.{Measure}
use Rattle.level_dual.specs.Large.{has_coefficient}
use Rattle.lex_turns.specs.Descending.{NoneDescends}
use Rattle.lex_turns.specs.Found.{IsVoid}
use Rattle.lex_turns.specs.FoundLists.{HasList, is_used, list_support_from}

-- ---- they are sets of numbers
set_case : (b : Bool) (i hi : ℕ) (rest : List ℕ) → i < hi → IsSet (suc i) hi rest → IsSet i hi (if b then i ∷ rest else rest)
set_case true i hi rest l h = (omega arith, l, h)
set_case false i hi rest l h = set_lower i hi rest h

pub list_set : (ps : List Position) (ls : List Mapping) (i hi : ℕ) → hi ≡ i + length ps → IsSet i hi (list_support_from i ps ls)
list_set [] ls i hi e = tt
list_set (r ∷ ps) ls i hi e = set_case (is_used r ls) i hi (list_support_from (suc i) ps ls) (omega arith) (list_set ps ls (suc i) hi (omega arith))

-- ---- the support of a list of one
or_none : (b : Bool) → (b || false) ≡ b
or_none true = refl
or_none false = refl

pub one_support : (ps : List Position) (l : Mapping) (i : ℕ) → list_support_from i ps (l ∷ []) ≡ support_from i ps l
one_support [] l i = refl
one_support (r ∷ ps) l i =
    let rest = one_support ps l (suc i) in
    λ j. if or_none (nat_lt 0 (coefficient (l.coefficients r.0) r.1)) j then i ∷ rest j else rest j

-- ---- positions that are used
is_less : (n : ℕ) → 0 < n → nat_lt 0 n ≡ true
is_less n h = grind (arith, nat_tests)

less_of : (n : ℕ) → nat_lt 0 n ≡ true → 0 < n
less_of n h = grind (arith, nat_tests)

used_in : (r : Position) (ls : List Mapping) (l : Mapping) → In l ls → 0 < coefficient (l.coefficients r.0) r.1 → is_used r ls ≡ true
used_in r [] l i c = absurd i
used_in r (k ∷ ls) l (inl e) c = or_left (nat_lt 0 (coefficient (k.coefficients r.0) r.1)) (is_used r ls) (is_less _ (subst (λ (m : Mapping). 0 < coefficient (m.coefficients r.0) r.1) (sym e) c))
used_in r (k ∷ ls) l (inr i) c = or_right (nat_lt 0 (coefficient (k.coefficients r.0) r.1)) (is_used r ls) (used_in r ls l i c)

-- what holds where a mapping of the list is positive holds where the list is used
used_at : (P : Position → Type 0) (r : Position) (ls : List Mapping) → AllByRecursion (λ (l : Mapping). 0 < coefficient (l.coefficients r.0) r.1 → P r) ls → is_used r ls ≡ true → P r
used_at P r [] all h = cc
used_at P r (l ∷ ls) all h = elim (or_cases (nat_lt 0 (coefficient (l.coefficients r.0) r.1)) (is_used r ls) h) [
  | inl e ↦ all.0 (less_of _ e)
  | inr k ↦ used_at P r ls all.1 k
]

-- ---- lists at picked positions
used_picked : (ps : List Position) (ls : List Mapping) (i : ℕ) (s : List ℕ) → Part (list_support_from i ps ls) s → (r : Position) → In r ps → is_used r ls ≡ true → In r (picked_from i ps s)
used_picked [] ls i s part r h u = absurd h
used_picked (x ∷ ps) ls i s part r (inl e) u =
    let used : is_used x ls ≡ true = subst (λ (z : Position). is_used z ls ≡ true) (sym e) u in
    let inside = part_head (is_used x ls) i (list_support_from (suc i) ps ls) s used part in
    subst (λ (z : Position). In z (picked_from i (x ∷ ps) s)) e (in_here (list_any (λ y. nat_eq i y) s) x (picked_from (suc i) ps s) (in_any i s inside))
used_picked (x ∷ ps) ls i s part r (inr h) u =
    in_then (list_any (λ y. nat_eq i y) s) x (picked_from (suc i) ps s) r (used_picked ps ls (suc i) s (part_tail (is_used x ls) i (list_support_from (suc i) ps ls) s part) r h u)

head_picked : (b : Bool) (r : Position) (ps xs : List Position) → (In r ps → ⊥) → ((q : Position) → In q xs → In q ps) → In r (if b then r ∷ xs else xs) → b ≡ true
head_picked true r ps xs n f h = refl
head_picked false r ps xs n f h = absurd (n (f r h))

tail_picked : (b : Bool) (r q : Position) (ps xs : List Position) → (In r ps → ⊥) → In q ps → In q (if b then r ∷ xs else xs) → In q xs
tail_picked true r q ps xs n i (inl e) = absurd (n (subst (λ (z : Position). In z ps) (sym e) i))
tail_picked true r q ps xs n i (inr h) = h
tail_picked false r q ps xs n i h = h

part_both : (b : Bool) (i : ℕ) (rest s : List ℕ) → (b ≡ true → In i s) → Part rest s → Part (if b then i ∷ rest else rest) s
part_both true i rest s h k x (inl e) = subst (λ (z : ℕ). In z s) e (h refl)
part_both true i rest s h k x (inr j) = k x j
part_both false i rest s h k x j = k x j

list_part : (ps : List Position) (ls : List Mapping) (i : ℕ) (s : List ℕ) → AreDistinct ps → ((r : Position) → In r ps → is_used r ls ≡ true → In r (picked_from i ps s)) → Part (list_support_from i ps ls) s
list_part [] ls i s d h = λ x k. absurd k
list_part (r ∷ ps) ls i s d h =
    part_both (is_used r ls) i (list_support_from (suc i) ps ls) s
    (λ e. any_in i s (head_picked (list_any (λ y. nat_eq i y) s) r ps (picked_from (suc i) ps s) d.0 (picked_in ps (suc i) s) (h r (inl refl) e)))
    (list_part ps ls (suc i) s d.1 (λ q k u. tail_picked (list_any (λ y. nat_eq i y) s) r q ps (picked_from (suc i) ps s) d.0 k (h q (inr k) u)))

all_each : {X : Type 0} (P Q : X → Type 0) (xs : List X) → ((x : X) → In x xs → P x → Q x) → AllByRecursion P xs → AllByRecursion Q xs
all_each P Q [] f h = tt
all_each P Q (x ∷ xs) f h = (f x (inl refl) h.0, all_each P Q xs (λ y i q. f y (inr i) q) h.1)

module _ (expression : ℕ → Tree → List ℤ) (p : Listing) (comps : Partition) (rows : ℕ → List (List ℤ)) (c : ℕ) where
  abbrev places : List Position
  places = positions_in p comps c

  abbrev descends : List Mapping → Type 0
  descends ls = ListDescends expression (component_view expression p comps rows c) ls

  pub list_sets : (s : List ℕ) → HasList expression p comps rows c s → IsSet 1 (suc (length places)) s
  list_sets s h = subst (IsSet 1 (suc (length places))) h.is (list_set places h.list 1 (suc (length places)) (omega arith))

  -- a list at the positions of a set has a support that is part of it
  pub part_of_set : AreDistinct places → (s : List ℕ) (ls : List Mapping) → AllByRecursion (IsZeroOutside (picked_from 1 places s)) ls → is_part (list_support_from 1 places ls) s ≡ true
  part_of_set distinct s ls at =
      of_part (list_support_from 1 places ls) s (list_part places ls 1 s distinct (λ r i u.
      used_at (λ (z : Position). In z (picked_from 1 places s)) r ls (all_each (IsZeroOutside (picked_from 1 places s)) (λ (l : Mapping). 0 < coefficient (l.coefficients r.0) r.1 → In r (picked_from 1 places s)) ls (λ l k a. a r.0 r.1) at) u))

  -- a list of which the support is part of a set is at the positions of the set
  at_set : (s : List ℕ) (ls : List Mapping) → Part (list_support_from 1 places ls) s → AllByRecursion (IsZeroOutside places) ls → AllByRecursion (IsZeroOutside (picked_from 1 places s)) ls
  at_set s ls part at = all_each (IsZeroOutside places) (IsZeroOutside (picked_from 1 places s)) ls (λ l i a q b positive. used_picked places ls 1 s part (q, b) (a q b positive) (used_in (q, b) ls l i positive)) at

  -- where no list at the positions of a set descends, no support that is part of it is had
  pub void_of : (s : List ℕ) → NoneDescends expression p comps rows c s → IsVoid expression p comps rows c s
  void_of s none u part has =
      let inside : Part (list_support_from 1 places has.list) s = subst (λ (z : List ℕ). Part z s) (sym has.is) (to_part u s part) in
      none has.list (at_set s has.list inside has.at) has.descends

  pub one_descends : (l : Mapping) → Decreases expression (component_view expression p comps rows c) l → descends (l ∷ [])
  one_descends l d = go (component_view expression p comps rows c) d
    where
      go : (view : List Rule) → Decreases expression view l → ListDescends expression view (l ∷ [])
      go [] d = tt
      go (k ∷ ks) d = ((λ j b q at e. (0, d.0 j b q at e)), go ks d.1)

  -- a mapping that decreases is a list of one
  pub list_had : (s : List ℕ) → HasSupportIn expression p comps rows c s → HasList expression p comps rows c s
  list_had s h = record { list = h.mapping ∷ []; some = omega arith; at = (h.at, tt); descends = one_descends h.mapping h.decreases; is = one_support places h.mapping 1 ∙ h.is }

  pub void_had : (s : List ℕ) → IsVoid expression p comps rows c s → IsExcluded (HasSupportIn expression p comps rows c) s
  void_had s void u part h = void u part (list_had u h)

-- a list is used where one of its mappings has a positive coefficient
pub used_there : (r : Position) (mss : List (List Measure)) (i : ℕ) (ms : List Measure) → slice_get mss i ≡ Some ms → has_coefficient ms r ≡ true → is_used r (map mapping_with mss) ≡ true
used_there r [] i ms e h = cc
used_there r (ns ∷ mss) zero ms e h = let same : ns ≡ ms = cc in or_left (has_coefficient ns r) (is_used r (map mapping_with mss)) (subst (λ (k : List Measure). has_coefficient k r ≡ true) (sym same) h)
used_there r (ns ∷ mss) (suc i) ms e h = or_right (has_coefficient ns r) (is_used r (map mapping_with mss)) (used_there r mss i ms e h)
