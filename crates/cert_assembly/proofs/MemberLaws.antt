-- The members of a component are predicates, and few; which component a predicate leads.
use Rattle.std.proofs.Common.{◌≡◌, ℕ, zero, suc, ◌+◌, ◌<◌, ◌≤◌, ◌^◌, ◌==◌, ◌&&◌, Bool, false, if◌then◌else◌, List, [], ◌∷◌, length, slice_get, slice_index, Some, None, Option, refl, ap, subst, ◌∙◌, arith}
use Rattle.std.specs.Prelude.{option_and_then, unwrap_or}
use Rattle.std.specs.List.{AllByRecursion}
use Rattle.std.specs.List.Sorted.{IsStrictlyIncreasing}
use Rattle.call_components.specs.Partition.{AreComponents, Partition}
use Rattle.cert_structure.specs.Shape.{first_of, is_recursive}
use Rattle.cti_terms.specs.Listing.{IsProgram, Listing}
use Rattle.termination_model.proofs.Lists.{from_places, indexed, place_below}
use Rattle.cert_assembly.specs.Leading.{led_by}

at_least : (ms : List ℕ) → IsStrictlyIncreasing ms → (k : ℕ) → k < length ms → k ≤ slice_index ms k
at_least ms h zero below = omega arith
at_least ms h (suc k) below =
    let before = at_least ms h k (omega arith) in
    let next : k + 1 ≡ suc k = omega arith in
    let step : slice_index ms k < slice_index ms (suc k) = subst (λ (n : ℕ). slice_index ms k < slice_index ms n) next (h k (omega arith)) in
    omega (arith, before, step)

last_place : (n : ℕ) → 0 < n → (k : ℕ) × (suc k ≡ n)
last_place zero h = absurd (omega arith)
last_place (suc k) h = (k, refl)

module _ (p : Listing) (comps : Partition) (components : AreComponents p comps) (c : ℕ) (ms : List ℕ) (row : slice_get comps.members c ≡ Some ms) where
  member_below : (i q : ℕ) → slice_get ms i ≡ Some q → q < length p.preds
  member_below i q at =
      let inside = (components.members c ms row q).0 (i, place_below ms i q at, indexed ms i q q at) in
      let below = place_below comps.of q c inside in
      subst (λ (n : ℕ). q < n) components.each below

  pub members_within : AllByRecursion (λ q. q < length p.preds) ms
  members_within = from_places (λ q. q < length p.preds) ms member_below

  pub members_some : 0 < length ms
  members_some = (components.ascending c ms row).1

  pub members_few : IsProgram p → length ms < 2 ^ 32
  members_few program =
      let (k, last) = last_place (length ms) members_some in
      let inside : k < length ms = omega arith in
      let low = at_least ms (components.ascending c ms row).0 k inside in
      let (q, at) = element ms k inside in
      let below = member_below k q at in
      let same : slice_index ms k ≡ q = indexed ms k q 0 at in
      let few = program.preds_fit in
      omega (arith, low, below, same, few)
    where
      element : (xs : List ℕ) (i : ℕ) → i < length xs → (x : ℕ) × (slice_get xs i ≡ Some x)
      element [] i l = absurd (omega arith)
      element (x ∷ xs) zero l = (x, refl)
      element (x ∷ xs) (suc i) l = element xs i (omega arith)

-- whether a predicate leads its component, by what is known of the component
pub led_is : (comps : Partition) (q c : ℕ) (b : Bool) (ms : List ℕ) (m : ℕ) → slice_get comps.of q ≡ Some c → slice_get comps.recursive c ≡ Some b → slice_get comps.members c ≡ Some ms → slice_get ms 0 ≡ Some m
    → led_by comps q ≡ (if b && (m == q) then Some c else None)
led_is comps q c b ms m of recursive members first =
    let answer : is_recursive comps q ≡ b = ap (λ (o : Option ℕ). unwrap_or (option_and_then (slice_get comps.recursive) o) false) of ∙ ap (λ (o : Option Bool). unwrap_or o false) recursive in
    let lead : first_of comps q ≡ m =
    ap (λ (o : Option ℕ). unwrap_or (option_and_then (λ (xs : List ℕ). slice_get xs 0) (option_and_then (slice_get comps.members) o)) q) of
    ∙ ap (λ (o : Option (List ℕ)). unwrap_or (option_and_then (λ (xs : List ℕ). slice_get xs 0) o) q) members
    ∙ ap (λ (o : Option ℕ). unwrap_or o q) first in
    λ i. if answer i && (lead i == q) then of i else None
