-- Positions that each mapping needs: sets without one of them have none, and where a mapping needs all of its
-- positions, it is the only one with a minimal support.
use Rattle.std.proofs.Common.{◌≡◌, ◌⊎◌, inl, inr, ℕ, suc, ℤ, Bool, true, false, List, [], ◌∷◌, length, refl, sym, subst, arith}
use Rattle.std.specs.Prelude.{nat_eq}
use Rattle.std.specs.List.{list_any}
use Rattle.cti_terms.specs.Listing.{Listing}
use Rattle.cti_terms.specs.Tree.{Tree}
use Rattle.call_components.specs.Partition.{Partition}
use Rattle.linear_rows.specs.Members.{In}
use Rattle.linear_rows.specs.Step.{columns}
use Rattle.termination_model.specs.mappings.ComponentViews.{HasSupportIn, positions_in}
use Rattle.termination_model.specs.grounds.Minimal.{IsAbove, IsExcluded, IsMinimal, IsSet}
use Rattle.termination_model.specs.grounds.Modes.{chosen_up_to, is_part}
use Rattle.termination_model.proofs.Sets.{any_in, each_set_in, in_any, of_part, part_same, part_shorter, part_trans, to_part, within}
use Rattle.level_systems.specs.Found.{without_number}
use Rattle.level_systems.specs.Mappings.{support_of}
use Rattle.level_systems.specs.Searched.{IsFoundIn}
use Rattle.level_systems.specs.Subsequences.{IsSubsequence}
use Rattle.level_systems.specs.declared.mapping.Mapping.{Mapping}
use Rattle.level_dual.specs.Needed.{AreNeeded}
use Rattle.level_dual.specs.Walked.{IsAllWalked}
use Rattle.level_dual.proofs.FoundCases.{in_columns}
use Rattle.level_dual.proofs.LargeLaws.{without_in}

is_in_or_not : (i : ℕ) (s : List ℕ) (b : Bool) → list_any (λ y. nat_eq i y) s ≡ b → In i s ⊎ (In i s → ⊥)
is_in_or_not i s true e = inl (any_in i s e)
is_in_or_not i s false e = inr (λ k. let yes = in_any i s k in cc)

one_subsequence : {X : Type 0} (xs : List X) (x : X) → In x xs → IsSubsequence (x ∷ []) xs
one_subsequence [] x i = absurd i
one_subsequence (y ∷ xs) x (inl e) = inl (sym e, tt)
one_subsequence (y ∷ xs) x (inr i) = inr (one_subsequence xs x i)

module _ (expression : ℕ → Tree → List ℤ) (p : Listing) (comps : Partition) (rows : ℕ → List (List ℤ)) (c : ℕ) (n : ℕ)
    (sets : (s : List ℕ) → HasSupportIn expression p comps rows c s → IsSet 1 (suc n) s) (needed : List ℕ) (are : AreNeeded expression p comps rows c (columns 1 n) needed) where
  abbrev has : List ℕ → Type 0
  has = HasSupportIn expression p comps rows c

  -- each of them is in each support
  in_support : (u : List ℕ) → has u → (i : ℕ) → In i needed → In i u
  in_support u h i k = elim (is_in_or_not i u (list_any (λ y. nat_eq i y) u) refl) [
    | inl there ↦ there
    | inr not_there ↦ absurd (are i k u (of_part u (without_number i (columns 1 n)) (λ x there.
        let low = within 1 (suc n) u (sets u h) x there in
        without_in i (columns 1 n) x (in_columns n 1 x low.0 (omega (arith, low.1))) (λ e. not_there (subst (λ k. In k u) (sym e) there)))) h)
  ]

  part_of_support : (u : List ℕ) → has u → is_part needed u ≡ true
  part_of_support u h = of_part needed u (in_support u h)

  -- a set that lacks one of them has no support
  pub lacking : (s : List ℕ) → is_part needed s ≡ false → IsExcluded has s
  lacking s lacks u part h = let all = part_trans needed u s (part_of_support u h) part in cc

  module _ (m : Mapping) (found : IsFoundIn expression p comps rows c needed m) where
    abbrev u : List ℕ
    u = support_of (positions_in p comps c) m

    part_of_each : (s : List ℕ) → is_part needed s ≡ true → is_part u s ≡ true
    part_of_each s part = part_trans u needed s found.part part

    least : (v : List ℕ) → is_part v u ≡ true → has v → v ≡ u
    least v part h =
        let back = to_part u v (part_of_each v (part_of_support v h)) in
        part_same 1 (suc n) 1 (suc n) v u (sets v h) (sets u found.has) (to_part v u part) (part_shorter 1 (suc n) 1 (suc n) u v (sets u found.has) (sets v h) back)

    settled_by : (s : List ℕ) (b : Bool) → is_part needed s ≡ b → IsExcluded has s ⊎ IsAbove (u ∷ []) s ⊎ IsAbove [] s
    settled_by s true e = inr (inl (u, inl refl, part_of_each s e))
    settled_by s false e = inl (lacking s e)

    -- where a mapping has no other position, it is all that a walk finds
    pub all_walked_at_once : n ≡ length (positions_in p comps c) → IsAllWalked expression p comps rows c (record { found = u ∷ []; mappings = m ∷ []; blown = [] })
    all_walked_at_once e = record {
      walked = record {
        settled = λ s k. settled_by s (is_part needed s) refl;
        minimal = λ s k. elim k [
          | inl same ↦ subst (λ (t : List ℕ). IsMinimal has t) same (record { had = found.has; least = least })
          | inr none ↦ absurd none
        ];
      };
      supports = refl;
      mappings = (found.mapping, tt);
      found_order = one_subsequence (chosen_up_to (length (positions_in p comps c)) (length (positions_in p comps c))) u
          (each_set_in (length (positions_in p comps c)) u (subst (λ (k : ℕ). IsSet 1 (suc k) u) e (sets u found.has)));
      blown_order = tt;
      given_up = λ s k. absurd k;
      once = tt;
      apart = λ s k. absurd k;
    }
