-- Components of two programs that have the same mappings, in any order.
use Rattle.std.proofs.Common.{◌≡◌, ℕ, suc, Bool, true, false, if◌then◌else◌, inl, inr, List, [], ◌∷◌, length, map, slice_get, Option, Some, option_and_then, option_map, unwrap_or, ap, sym, ◌∙◌}
use Rattle.call_components.specs.Partition.{Partition, IsIn}
use Rattle.cert_assembly.proofs.SetParts.{listed_at}
use Rattle.cert_assembly.specs.Parted.{part_or_zero, zero_part}
use Rattle.cert_structure.specs.Shape.{arity_in, is_recursive}
use Rattle.cti_terms.specs.Listing.{Listing}
use Rattle.cti_terms.specs.declared.predicates.Pred.{Pred}
use Rattle.level_systems.specs.Mappings.{level_in}
use Rattle.level_systems.specs.declared.found.Found.{Found}
use Rattle.level_systems.specs.declared.mapping.Mapping.{Mapping}
use Rattle.linear_rows.specs.Members.{In}
use Rattle.number_tests.specs.Levels.{items_of}
use Rattle.number_tests.specs.declared.level_part.LevelPart.{LevelPart}
use Rattle.report.specs.Levels.{level_list, levels_at, mappings_of_component}
use Rattle.solved_program.specs.Standing.{KeepOwn}
use Rattle.solved_program.specs.declared.edit.Edit.{Edit}
use Rattle.solved_program.proofs.Clauses.{in_at}
use Rattle.termination_model.proofs.Lists.{mapped_place, place_below}
use Rattle.carried_mappings.specs.Order.{AreSameMappings, HaveSameParts}
use Rattle.kept_program.proofs.SameMeasures.{from_map}

-- ---- the parts of a predicate
module _ (p : Listing) (comps : Partition) (found : List Found) (q : ℕ) (x : Pred) (here : slice_get p.preds q ≡ Some x) where
  arity_is : arity_in p q ≡ x.arity
  arity_is = ap (λ (o : Option Pred). unwrap_or (option_map (λ (d : Pred). d.arity) o) 0) here

  own_levels : items_of (level_list p comps found) q ≡ levels_at p comps found q
  own_levels = listed_at (levels_at p comps found) (length p.preds) q (place_below p.preds q x here)

  -- one part of zeros
  pub plain_levels : is_recursive comps q ≡ false → items_of (level_list p comps found) q ≡ zero_part x.arity ∷ []
  plain_levels not_so =
      own_levels
      ∙ (λ i. if not_so i then map (λ (m : Mapping). part_or_zero (arity_in p q) (level_in m.measures q)) (mappings_of_component found (slice_get comps.of q)) else zero_part (arity_in p q) ∷ [])
      ∙ ap (λ (n : ℕ). zero_part n ∷ []) arity_is

  -- a part for each mapping
  pub mapping_levels : (b : ℕ) (f : Found) → IsIn comps b q → is_recursive comps q ≡ true → slice_get found b ≡ Some f → items_of (level_list p comps found) q ≡ map (λ (m : Mapping). part_or_zero x.arity (level_in m.measures q)) f.mappings
  mapping_levels b f in_b so at =
      own_levels
      ∙ (λ i. if so i then map (λ (m : Mapping). part_or_zero (arity_in p q) (level_in m.measures q)) (mappings_of_component found (slice_get comps.of q)) else zero_part (arity_in p q) ∷ [])
      ∙ (λ i. map (λ (m : Mapping). part_or_zero (arity_is i) (level_in m.measures q)) (mappings_of_component found (in_b i)))
      ∙ ap (λ (o : Option Found). map (λ (m : Mapping). part_or_zero x.arity (level_in m.measures q)) (unwrap_or (option_map (λ (g : Found). g.mappings) o) [])) at

pub recursive_in : (comps : Partition) (b q : ℕ) (t : Bool) → IsIn comps b q → slice_get comps.recursive b ≡ Some t → is_recursive comps q ≡ t
recursive_in comps b q t in_b at = ap (λ (o : Option ℕ). unwrap_or (option_and_then (slice_get comps.recursive) o) false) in_b ∙ ap (λ (o : Option Bool). unwrap_or o false) at

-- ---- mappings in lists of parts
-- each member of the component has in the mapping k the part that it had in the mapping m
abbrev pub IsSameMapping : Edit → ℕ → List (List LevelPart) → List (List LevelPart) → ℕ → ℕ → Type 0
IsSameMapping e c old now m k = KeepOwn e c (λ q. slice_get (items_of old q) m) (λ r. slice_get (items_of now r) k)

pub record AreSameLevels (e : Edit) (c : ℕ) (old now : List (List LevelPart)) : Type 0 where
  pub there : (q r : ℕ) (x : Pred) → slice_get e.before.now.preds q ≡ Some x → slice_get e.after.now.preds r ≡ Some x → IsIn e.components.now c r
      → (m : ℕ) (part : LevelPart) → slice_get (items_of old q) m ≡ Some part → (k : ℕ) × IsSameMapping e c old now m k
  pub before : (q r : ℕ) (x : Pred) → slice_get e.before.now.preds q ≡ Some x → slice_get e.after.now.preds r ≡ Some x → IsIn e.components.now c r
      → (k : ℕ) (part : LevelPart) → slice_get (items_of now r) k ≡ Some part → (m : ℕ) × IsSameMapping e c old now m k

place_of : {X : Type 0} (xs : List X) (x : X) → In x xs → (i : ℕ) × (slice_get xs i ≡ Some x)
place_of [] x i = absurd i
place_of (y ∷ xs) x (inl e) = (0, ap Some e)
place_of (y ∷ xs) x (inr i) = let more = place_of xs x i in (suc more.0, more.1)

module _ (e : Edit) (b c : ℕ) (old_found found : List Found)
    (back : (q r : ℕ) (x : Pred) → slice_get e.before.now.preds q ≡ Some x → slice_get e.after.now.preds r ≡ Some x → IsIn e.components.now c r → IsIn e.components_before.now b q) where
  abbrev p : Listing
  p = e.before.now

  abbrev new : Listing
  new = e.after.now

  abbrev comps : Partition
  comps = e.components_before.now

  abbrev new_comps : Partition
  new_comps = e.components.now

  abbrev old : List (List LevelPart)
  old = level_list p comps old_found

  abbrev now : List (List LevelPart)
  now = level_list new new_comps found

  -- two components that are not recursive
  pub same_plain : ((q r : ℕ) (x : Pred) → slice_get p.preds q ≡ Some x → slice_get new.preds r ≡ Some x → IsIn new_comps c r → (is_recursive comps q ≡ false) × (is_recursive new_comps r ≡ false)) → AreSameLevels e c old now
  same_plain not_so = record { there = λ q r x here there i m part at. (m, same m); before = λ q r x here there i k part at. (k, same k) }
    where
      same : (m : ℕ) → IsSameMapping e c old now m m
      same m q r x here there i =
          let out = not_so q r x here there i in
          ap (λ (o : List LevelPart). slice_get o m) (plain_levels new new_comps found r x there out.1 ∙ sym (plain_levels p comps old_found q x here out.0))

  -- two components with the same mappings
  module _ (x0 f0 : Found) (at_b : slice_get old_found b ≡ Some x0) (at_c : slice_get found c ≡ Some f0) (so : slice_get comps.recursive b ≡ Some true) (new_so : slice_get new_comps.recursive c ≡ Some true)
      (same : AreSameMappings e b x0.mappings f0.mappings) where
    own : (q : ℕ) (x : Pred) → slice_get p.preds q ≡ Some x → IsIn comps b q → items_of old q ≡ map (λ (m : Mapping). part_or_zero x.arity (level_in m.measures q)) x0.mappings
    own q x here in_b = mapping_levels p comps old_found q x here b x0 in_b (recursive_in comps b q true in_b so) at_b

    new_own : (r : ℕ) (x : Pred) → slice_get new.preds r ≡ Some x → IsIn new_comps c r → items_of now r ≡ map (λ (m : Mapping). part_or_zero x.arity (level_in m.measures r)) f0.mappings
    new_own r x there in_c = mapping_levels new new_comps found r x there c f0 in_c (recursive_in new_comps c r true in_c new_so) at_c

    -- a mapping of each, at its place, with the same parts
    paired_at : (m k : ℕ) (y z : Mapping) → slice_get x0.mappings m ≡ Some y → slice_get f0.mappings k ≡ Some z → HaveSameParts p new comps b y z → IsSameMapping e c old now m k
    paired_at m k y z at_m at_k parts q r x here there i =
        let in_b = back q r x here there i in
        ap (λ (o : List LevelPart). slice_get o k) (new_own r x there i)
        ∙ mapped_place (λ (g : Mapping). part_or_zero x.arity (level_in g.measures r)) f0.mappings k z at_k
        ∙ ap (λ (o : Option LevelPart). Some (part_or_zero x.arity o)) (parts q r in_b (here ∙ sym there))
        ∙ sym (mapped_place (λ (g : Mapping). part_or_zero x.arity (level_in g.measures q)) x0.mappings m y at_m)
        ∙ sym (ap (λ (o : List LevelPart). slice_get o m) (own q x here in_b))

    pub same_mappings : AreSameLevels e c old now
    same_mappings = record {
      there = λ q r x here there i m part at.
          let y = from_map (λ (g : Mapping). part_or_zero x.arity (level_in g.measures q)) x0.mappings m part (sym (ap (λ (o : List LevelPart). slice_get o m) (own q x here (back q r x here there i))) ∙ at) in
          let z = same.there y.0 (in_at x0.mappings m y.0 y.1) in
          let k = place_of f0.mappings z.0 z.1 in
          (k.0, paired_at m k.0 y.0 z.0 y.1 k.1 z.2);
      before = λ q r x here there i k part at.
          let z = from_map (λ (g : Mapping). part_or_zero x.arity (level_in g.measures r)) f0.mappings k part (sym (ap (λ (o : List LevelPart). slice_get o k) (new_own r x there i)) ∙ at) in
          let y = same.before z.0 (in_at f0.mappings k z.0 z.1) in
          let m = place_of x0.mappings y.0 y.1 in
          (m.0, paired_at m.0 k y.0 z.0 m.1 z.1 y.2);
    }
