-- Mappings from systems, and what refuted systems exclude, as sets of positions.
use Rattle.std.proofs.Common.{◌≡◌, ℕ, zero, suc, ◌+◌, ◌<◌, ◌==◌, ℤ, pos, ◌≤ℤ◌, Bool, true, false, if◌then◌else◌, List, [], ◌∷◌, map, take, drop, length, slice_get, Some, inl, inr, refl, sym, subst, arith, nat_eq, nat_lt}
use Rattle.std.specs.List.{AllByRecursion, list_any}
use Rattle.std.proofs.lemmas.Bool.Decides.{nat_tests}
use Rattle.std.proofs.lemmas.Int.{ints}
use Rattle.cti_terms.specs.Tree.{Tree}
use Rattle.linear_rows.specs.Members.{In}
use Rattle.linear_rows.specs.Rows.{HoldsOn}
use Rattle.linear_rows.specs.Proves.{Proves}
use Rattle.linear_rows.specs.Step.{columns}
use Rattle.linear_rows.proofs.Members.{to_All, in-left, in-right}
use Rattle.linear_rows.proofs.Soundness.{law_holds}
use Rattle.termination_model.specs.mappings.Coefficients.{coefficient}
use Rattle.termination_model.specs.claims.Claims.{Mapping}
use Rattle.termination_model.specs.grounds.Modes.{is_part}
use Rattle.termination_model.specs.mappings.Refutation.{Pair, Decreases}
use Rattle.termination_model.specs.mappings.View.{Member, Call, Rule, system_of, fall_over}
use Rattle.termination_model.specs.mappings.Excluding.{IsZeroOutside, IsOfMembers, IsRefutationAt}
use Rattle.termination_model.specs.mappings.OwnCalls.{OwnCall, Position, own_calls_from, own_calls, rows_before}
use Rattle.termination_model.specs.mappings.SupportLaws.{AreFalls, HasWidths}
use Rattle.termination_model.specs.mappings.SupportSystem.{value_of_position, mapping_at}
use Rattle.termination_model.specs.mappings.Supports.{support_from, picked_from, AreDistinct, HasSupport, AreLives, SystemsGiveMappings}
use Rattle.termination_model.specs.grounds.Minimal.{IsSet, IsExcluded}
use Rattle.termination_model.proofs.Excludes.{excludes_at}
use Rattle.termination_model.proofs.OwnCallsThere.{call_there}
use Rattle.termination_model.proofs.Points.{fall_width}
use Rattle.termination_model.proofs.Sets.{Part, to_part, of_part, set_lower, any_in, in_any}

-- ---- supports are sets
support_set_case : (b : Bool) (i hi : ℕ) (rest : List ℕ) → i < hi → IsSet (suc i) hi rest → IsSet i hi (if b then i ∷ rest else rest)
support_set_case true i hi rest l h = (omega arith, l, h)
support_set_case false i hi rest l h = set_lower i hi rest h

pub support_set : (ps : List Position) (l : Mapping) (i hi : ℕ) → hi ≡ i + length ps → IsSet i hi (support_from i ps l)
support_set [] l i hi e = tt
support_set (p ∷ ps) l i hi e = support_set_case (nat_lt 0 (coefficient (l.coefficients p.0) p.1)) i hi (support_from (suc i) ps l) (omega arith) (support_set ps l (suc i) hi (omega arith))

-- ---- positive coefficients are at picked positions
pub in_then : (b : Bool) (p : Position) (xs : List Position) (q : Position) → In q xs → In q (if b then p ∷ xs else xs)
in_then true p xs q h = inr h
in_then false p xs q h = h

pub in_here : (b : Bool) (p : Position) (xs : List Position) → b ≡ true → In p (if b then p ∷ xs else xs)
in_here true p xs h = inl refl
in_here false p xs h = cc

pub part_tail : (b : Bool) (i : ℕ) (rest s : List ℕ) → Part (if b then i ∷ rest else rest) s → Part rest s
part_tail true i rest s h x k = h x (inr k)
part_tail false i rest s h x k = h x k

pub part_head : (b : Bool) (i : ℕ) (rest s : List ℕ) → b ≡ true → Part (if b then i ∷ rest else rest) s → In i s
part_head true i rest s e h = h i (inl refl)
part_head false i rest s e h = cc

pub picked_at : (ps : List Position) (l : Mapping) (i : ℕ) (s : List ℕ) → Part (support_from i ps l) s → (p : Position) → In p ps → 0 < coefficient (l.coefficients p.0) p.1 → In p (picked_from i ps s)
picked_at [] l i s part p h c = absurd h
picked_at (r ∷ ps) l i s part p (inl e) c =
    let positive : nat_lt 0 (coefficient (l.coefficients r.0) r.1) ≡ true = subst (λ (z : Position). nat_lt 0 (coefficient (l.coefficients z.0) z.1) ≡ true) (sym e) (is_less _ c) in
    let inside = part_head (nat_lt 0 (coefficient (l.coefficients r.0) r.1)) i (support_from (suc i) ps l) s positive part in
    subst (λ (z : Position). In z (picked_from i (r ∷ ps) s)) e (in_here (list_any (λ x. nat_eq i x) s) r (picked_from (suc i) ps s) (in_any i s inside))
  where
    is_less : (n : ℕ) → 0 < n → nat_lt 0 n ≡ true
    is_less n h = grind (arith, nat_tests)
picked_at (r ∷ ps) l i s part p (inr h) c =
    in_then (list_any (λ x. nat_eq i x) s) r (picked_from (suc i) ps s) p
    (picked_at ps l (suc i) s (part_tail (nat_lt 0 (coefficient (l.coefficients r.0) r.1)) i (support_from (suc i) ps l) s part) p h c)

-- ---- and the other way round
pub picked_in : (ps : List Position) (i : ℕ) (s : List ℕ) (p : Position) → In p (picked_from i ps s) → In p ps
picked_in [] i s p h = h
picked_in (r ∷ ps) i s p h = go (list_any (λ x. nat_eq i x) s) h (λ k. picked_in ps (suc i) s p k)
  where
    go : (b : Bool) → In p (if b then r ∷ picked_from (suc i) ps s else picked_from (suc i) ps s) → (In p (picked_from (suc i) ps s) → In p ps) → In p (r ∷ ps)
    go true (inl e) rec = inl e
    go true (inr k) rec = inr (rec k)
    go false k rec = inr (rec k)

head_picked : (b : Bool) (r : Position) (ps xs : List Position) → (In r ps → ⊥) → ((p : Position) → In p xs → In p ps) → In r (if b then r ∷ xs else xs) → b ≡ true
head_picked true r ps xs n f h = refl
head_picked false r ps xs n f h = absurd (n (f r h))

tail_picked : (b : Bool) (r p : Position) (ps xs : List Position) → (In r ps → ⊥) → In p ps → In p (if b then r ∷ xs else xs) → In p xs
tail_picked true r p ps xs n i (inl e) = absurd (n (subst (λ (z : Position). In z ps) (sym e) i))
tail_picked true r p ps xs n i (inr h) = h
tail_picked false r p ps xs n i h = h

part_both : (b : Bool) (i : ℕ) (rest s : List ℕ) → (b ≡ true → In i s) → Part rest s → Part (if b then i ∷ rest else rest) s
part_both true i rest s h k x (inl e) = subst (λ (z : ℕ). In z s) e (h refl)
part_both true i rest s h k x (inr j) = k x j
part_both false i rest s h k x j = k x j

support_part : (ps : List Position) (l : Mapping) (i : ℕ) (s : List ℕ) → AreDistinct ps
    → ((p : Position) → In p ps → 0 < coefficient (l.coefficients p.0) p.1 → In p (picked_from i ps s)) → Part (support_from i ps l) s
support_part [] l i s d h = λ x k. absurd k
support_part (r ∷ ps) l i s d h =
    part_both (nat_lt 0 (coefficient (l.coefficients r.0) r.1)) i (support_from (suc i) ps l) s
    (λ e. any_in i s (head_picked (list_any (λ x. nat_eq i x) s) r ps (picked_from (suc i) ps s) d.0 (picked_in ps (suc i) s) (h r (inl refl) (less_of _ e))))
    (support_part ps l (suc i) s d.1 (λ p k c. tail_picked (list_any (λ x. nat_eq i x) s) r p ps (picked_from (suc i) ps s) d.0 k (h p (inr k) c)))
  where
    less_of : (n : ℕ) → nat_lt 0 n ≡ true → 0 < n
    less_of n h = grind (arith, nat_tests)

-- ---- values are at positions
value_in : (ps : List Position) (ws : List ℕ) (q a : ℕ) → 0 < value_of_position ps ws q a → In (q, a) ps
value_in [] ws q a h = absurd (omega arith)
value_in (p ∷ ps) [] q a h = absurd (omega arith)
value_in (p ∷ ps) (w ∷ ws) q a h = go (q == p.0) (p.1 == a) refl refl h (λ k. value_in ps ws q a k)
  where
    go : (b c : Bool) → (q == p.0) ≡ b → (p.1 == a) ≡ c → 0 < (if b then (if c then w else 0) else 0) + value_of_position ps ws q a → (0 < value_of_position ps ws q a → In (q, a) ps) → In (q, a) (p ∷ ps)
    go true true e f k rec =
        let same : p.0 ≡ q = grind (arith, nat_tests) in
        let equal : p.1 ≡ a = grind (arith, nat_tests) in
        inl (λ i. (same i, equal i))
    go true false e f k rec = inr (rec (omega arith))
    go false c e f k rec = inr (rec (omega arith))

coefficient_map : (f : ℕ → ℕ) (k n a : ℕ) → 0 < coefficient (map f (columns k n)) a → 0 < f (k + a)
coefficient_map f k zero a h = absurd (omega arith)
coefficient_map f k (suc n) zero h = let e : k + 0 ≡ k = omega arith in rw e h
coefficient_map f k (suc n) (suc a) h = let r = coefficient_map f (suc k) n a h in let e : k + suc a ≡ suc k + a = omega arith in rw e r

-- ---- falls of all calls
module _ (expression : ℕ → Tree → List ℤ) (l : Mapping) where
  abbrev Falls : OwnCall → Type 0
  Falls o = HoldsOn (suc o.rule.vars) (rows_before expression o) (fall_over expression o.rule o.member o.call.args 1 l)

  abbrev FallsAt : Rule → Type 0
  FallsAt k = (j : ℕ) (b : Call) (q : ℕ) → slice_get k.body j ≡ Some b → b.place ≡ Member q
      → HoldsOn (suc k.vars) (system_of expression k.vars (take j k.body)) (fall_over expression k q b.args 1 l)

  pub decreases : (view : List Rule) → ((o : OwnCall) → In o (own_calls view) → Falls o) → Decreases expression view l
  decreases [] h = tt
  decreases (k ∷ ks) h = (
    (λ j b q at e.
        let zero_more : 0 + j ≡ j = omega arith in
        h (record { rule = k; place = j; call = b; member = q })
        (in-left (own_calls_from k 0 k.body) (own_calls ks) (record { rule = k; place = j; call = b; member = q }) (rw zero_more at (call_there k 0 k.body j b q at e)))),
    decreases ks (λ o i. h o (in-right (own_calls_from k 0 k.body) (own_calls ks) o i)),
  )

natural : (ms : List ℕ) → (z : ℤ) → In z (map pos ms) → pos 0 ≤ℤ z
natural [] z h = absurd h
natural (m ∷ ms) z (inl e) = subst (λ (y : ℤ). pos 0 ≤ℤ y) e (omega (arith, ints))
natural (m ∷ ms) z (inr h) = natural ms z h

module _ (expression : ℕ → Tree → List ℤ) (view : List Rule) (positions : List Position) (members : List ℕ) (arity : ℕ → ℕ) (width : HasWidths expression) where
  module _ (l : Mapping) where
    live_falls : (lives : List OwnCall) (ms : List ℕ) → AreFalls expression l lives ms → (o : OwnCall) → In o lives → Falls expression l o
    live_falls [] ms h o i = absurd i
    live_falls (x ∷ lives) ms h o (inl e) = subst (Falls expression l) e (here h.0)
      where
        here : Proves (rows_before expression x) (map pos (take (length (rows_before expression x)) ms)) (fall_over expression x.rule x.member x.call.args 1 l) (pos 1)
            → Falls expression l x
        here p =
            let target = fall_over expression x.rule x.member x.call.args 1 l in
            let us = take (length (rows_before expression x)) ms in
            subst (λ (n : ℕ). HoldsOn n (rows_before expression x) target) (fall_width expression l x width)
            (law_holds (rows_before expression x) (map pos us) target 0 (to_All (λ z. pos 0 ≤ℤ z) (map pos us) (natural us)) p)
    live_falls (x ∷ lives) ms h o (inr i) = live_falls lives (drop (length (rows_before expression x)) ms) h.1 o i

    all_fall : (lives : List OwnCall) (ms : List ℕ) → AreLives expression view positions lives → AreFalls expression l lives ms → Decreases expression view l
    all_fall lives ms told h = decreases expression l view (λ o i. elim (told o i) [
      | inl k ↦ live_falls lives ms h o k
      | inr empty ↦ (λ t w ht lw hold. absurd (empty t w ht lw hold))
    ])

  only_picked : (at : List Position) (cs os : List ℕ) → IsZeroOutside at (mapping_at arity at members cs os)
  only_picked at cs os q a h =
      let same : 0 + a ≡ a = omega arith in
      value_in at cs q a (rw same at (coefficient_map (value_of_position at cs q) 0 (arity q) a h))

  has_part : AreDistinct positions → (s : List ℕ) (l : Mapping) → IsZeroOutside (picked_from 1 positions s) l → Decreases expression view l
      → (is_part (support_from 1 positions l) s ≡ true) × HasSupport expression view positions (support_from 1 positions l)
  has_part distinct s l at d = (
    of_part (support_from 1 positions l) s (support_part positions l 1 s distinct (λ p i c. at p.0 p.1 c)),
    record { mapping = l; at = λ q a c. picked_in positions 1 s (q, a) (at q a c); decreases = d; is = refl },
  )

  no_part : (s : List ℕ) (at : List Position) (ps : List Pair) → ((x : Position) → In x (picked_from 1 positions s) → In x at)
      → AllByRecursion (IsOfMembers members) ps → IsRefutationAt expression at members view ps → IsExcluded (HasSupport expression view positions) s
  no_part s at ps within of r u part has =
      let l = has.mapping in
      let p : Part (support_from 1 positions l) s = subst (λ (z : List ℕ). Part z s) (sym has.is) (to_part u s part) in
      excludes_at expression view at members ps l of r
      (λ q a c. within (q, a) (picked_at positions l 1 s p (q, a) (has.at q a c) c))
      has.decreases

  sets : (s : List ℕ) → HasSupport expression view positions s → IsSet 1 (suc (length positions)) s
  sets s h = subst (IsSet 1 (suc (length positions))) h.is (support_set positions h.mapping 1 (suc (length positions)) (omega arith))

pub systems_give_mappings : SystemsGiveMappings
systems_give_mappings expression view positions members arity lives width distinct told = record {
  falls = λ l ms h. all_fall expression view positions members arity width l lives ms told h;
  at = only_picked expression view positions members arity width;
  found = has_part expression view positions members arity width distinct;
  excluded = no_part expression view positions members arity width;
  sets = sets expression view positions members arity width;
}
