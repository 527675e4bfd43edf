-- Laws of what a search visits: it ends at the first wide goal.
use Rattle.std.proofs.Common.{◌≡◌, ℕ, Bool, true, false, ◌||◌, if◌then◌else◌, List, [], ◌∷◌, ◌++◌, refl, ap, ◌∙◌}
use Rattle.std.specs.List.{list_any}
use Rattle.cti_terms.specs.declared.derivation.Goal.{Goal}
use Rattle.cti_terms.specs.Listing.{Listing}
use Rattle.cti_terms.specs.Answers.{leaves_wide, up_to_wide}

module _ (p : Listing) (g : Goal) where
  -- without a wide goal everything is visited
  pub all_visited : (ns : List (List ℕ)) → list_any (leaves_wide p g) ns ≡ false → up_to_wide p g ns ≡ ns
  all_visited [] e = refl
  all_visited (ks ∷ ns) e = go (leaves_wide p g ks) refl e (all_visited ns)
    where
      go : (b : Bool) → leaves_wide p g ks ≡ b → (b || list_any (leaves_wide p g) ns) ≡ false → (list_any (leaves_wide p g) ns ≡ false → up_to_wide p g ns ≡ ns) → up_to_wide p g (ks ∷ ns) ≡ ks ∷ ns
      go true s h rec = cc
      go false s h rec = ap (λ (b : Bool). ks ∷ (if b then [] else up_to_wide p g ns)) s ∙ ap (λ (l : List (List ℕ)). ks ∷ l) (rec h)

  -- with one, what stands before it, and it
  pub visited_to : (ns rest : List (List ℕ)) (ks : List ℕ) → list_any (leaves_wide p g) ns ≡ false → leaves_wide p g ks ≡ true → up_to_wide p g (ns ++ ks ∷ rest) ≡ ns ++ ks ∷ []
  visited_to [] rest ks e w = ap (λ (b : Bool). ks ∷ (if b then [] else up_to_wide p g rest)) w
  visited_to (js ∷ ns) rest ks e w = go (leaves_wide p g js) refl e (λ h. visited_to ns rest ks h w)
    where
      go : (b : Bool) → leaves_wide p g js ≡ b → (b || list_any (leaves_wide p g) ns) ≡ false → (list_any (leaves_wide p g) ns ≡ false → up_to_wide p g (ns ++ ks ∷ rest) ≡ ns ++ ks ∷ []) → up_to_wide p g (js ∷ (ns ++ ks ∷ rest)) ≡ js ∷ (ns ++ ks ∷ [])
      go true s h rec = cc
      go false s h rec = ap (λ (b : Bool). js ∷ (if b then [] else up_to_wide p g (ns ++ ks ∷ rest))) s ∙ ap (λ (l : List (List ℕ)). js ∷ l) (rec h)
