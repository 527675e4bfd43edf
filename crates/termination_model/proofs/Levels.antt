-- Levels that no instance changes, and rows that are upper.
use Rattle.std.proofs.Common.{◌≡◌, ℕ, ℤ, zero, suc, ◌+◌, ◌*◌, Bool, false, List, [], ◌∷◌, map, refl, arith}
use Rattle.std.specs.List.{AllByRecursion}
use Rattle.cti_terms.specs.Tree.{Tree}
use Rattle.term_size.specs.Norm.{IsNorm}
use Rattle.termination_model.specs.sizes.Rows.{IsUpper, Covers}
use Rattle.termination_model.specs.claims.Claims.{Mapping, Measure}

abbrev pub total : List ℕ → List ℕ → ℕ
total [] ws = 0
total (a ∷ cs) [] = 0
total (a ∷ cs) (w ∷ ws) = a * w + total cs ws

abbrev pub level : ℕ → List ℕ → Mapping → ℕ
level q ws l = l.offset q + total (l.coefficients q) ws

abbrev pub levels : Measure → ℕ → List ℕ → List ℕ
levels m q ws = map (level q ws) m.mappings

module _ (size : (ℕ → ℕ) → Tree → ℕ) (truth : (ℕ → Bool) → Tree → Bool) (expression : ℕ → Tree → List ℤ) (norm : IsNorm size truth expression) where
  same_total : (r s : ℕ → ℕ) (cs : List ℕ) (ts : List Tree) → Covers cs (map (truth (λ _. false)) ts) → total cs (map (size r) ts) ≡ total cs (map (size s) ts)
  same_total r s [] ts h = refl
  same_total r s (a ∷ cs) [] h = refl
  same_total r s (zero ∷ cs) (t ∷ ts) h = omega (arith, same_total r s cs ts h.1)
  same_total r s (suc a ∷ cs) (t ∷ ts) h =
      let rest = same_total r s cs ts h.1 in
      let here = norm.rigid_size r s t (h.0 (omega arith)) in
      λ i. suc a * here i + rest i

  pub same_levels : (r s : ℕ → ℕ) (q : ℕ) (ls : List Mapping) (ts : List Tree) → AllByRecursion (λ (l : Mapping). Covers (l.coefficients q) (map (truth (λ _. false)) ts)) ls
      → map (level q (map (size r) ts)) ls ≡ map (level q (map (size s) ts)) ls
  same_levels r s q [] ts h = refl
  same_levels r s q (l ∷ ls) ts h =
      let here = same_total r s (l.coefficients q) ts h.0 in
      let rest = same_levels r s q ls ts h.1 in
      λ i. (l.offset q + here i) ∷ rest i

  pub upper_row : (v : ℕ → Bool) (ts : List Tree) → IsUpper (map (truth v) ts) (map (truth (λ _. false)) ts)
  upper_row v [] = tt
  upper_row v (t ∷ ts) = (norm.rigid_truth v t, upper_row v ts)

pub upper_trans : (a b c : List Bool) → IsUpper a b → IsUpper b c → IsUpper a c
upper_trans [] [] [] h k = tt
upper_trans [] [] (z ∷ c) h k = k
upper_trans [] (y ∷ b) c h k = absurd h
upper_trans (x ∷ a) [] c h k = absurd h
upper_trans (x ∷ a) (y ∷ b) [] h k = k
upper_trans (x ∷ a) (y ∷ b) (z ∷ c) h k = (λ e. h.0 (k.0 e), upper_trans a b c h.1 k.1)
