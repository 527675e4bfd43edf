-- Levels over columns, and that no instance changes them where the row covers them.
use Rattle.std.proofs.Common.{◌≡◌, ℕ, zero, suc, ℤ, pos, negsuc, ◌+ℤ◌, Bool, true, false, ◌&&◌, List, [], ◌∷◌, ◌++◌, map, take, drop, length, refl, ap, sym, ◌∙◌, arith}
use Rattle.std.specs.List.{AllByRecursion}
use Rattle.std.proofs.lemmas.Int.{ints}
use Rattle.std.proofs.lemmas.List.{map-append, length-map}
use Rattle.exact128.specs.Sums.{dot}
use Rattle.cti_terms.specs.Tree.{Tree}
use Rattle.termination_model.specs.columns.Columns.{Valuation, counted, columns_of}
use Rattle.termination_model.specs.columns.ColumnRows.{is_zero, are_zero}
use Rattle.termination_model.specs.columns.ColumnClaims.{Mapping, Measure, Claims, Covers}
use Rattle.termination_model.proofs.Cuts.{cut}

-- the level of an atom of predicate q, whose arguments have these measures
abbrev pub level : Claims → ℕ → List (ℕ → ℕ) → Mapping → ℤ
level c q us l = l.offset q +ℤ dot (l.coefficients q) (map pos (columns_of (c.kinds q) us))

abbrev pub levels : Claims → Measure → ℕ → List (ℕ → ℕ) → List ℕ
levels c m q us = map (λ l. cut (level c q us l)) m.mappings

pub length-counted : {X : Type 0} (i k : ℕ) (f : ℕ → X) → length (counted i k f) ≡ k
length-counted i zero f = refl
length-counted i (suc k) f = ap suc (length-counted (suc i) k f)

pub dot_split : (cs vs ws : List ℤ) → dot cs (vs ++ ws) ≡ dot (take (length vs) cs) vs +ℤ dot (drop (length vs) cs) ws
unfolding dot
dot_split [] [] ws = refl
dot_split [] (v ∷ vs) ws = refl
dot_split (a ∷ cs) [] ws = omega (arith, ints)
dot_split (a ∷ cs) (v ∷ vs) ws = let rest = dot_split cs vs ws in omega (arith, ints, rest)

zero_is : (z : ℤ) → is_zero z ≡ true → z ≡ pos 0
zero_is (pos zero) e = refl
zero_is (pos (suc n)) e = absurd (cc)
zero_is (negsuc n) e = absurd (cc)

and_parts : (a b : Bool) → (a && b) ≡ true → (a ≡ true) × (b ≡ true)
and_parts true b e = (refl, e)
and_parts false b e = absurd (cc)

pub dot_zero : (cs vs : List ℤ) → are_zero cs ≡ true → dot cs vs ≡ pos 0
unfolding dot
dot_zero [] vs e = refl
dot_zero (a ∷ cs) [] e = refl
dot_zero (a ∷ cs) (v ∷ vs) e =
    let parts = and_parts (is_zero a) (are_zero cs) e in
    let none = zero_is a parts.0 in
    let rest = dot_zero cs vs parts.1 in
    rw none (omega (arith, ints, rest))

-- numbers at a part that is zero, or that is the same
same_part : (cs vs ws : List ℤ) → (are_zero cs ≡ false → vs ≡ ws) → dot cs vs ≡ dot cs ws
same_part cs vs ws same = go (are_zero cs) refl
  where
    go : (b : Bool) → are_zero cs ≡ b → dot cs vs ≡ dot cs ws
    go true e = dot_zero cs vs e ∙ sym (dot_zero cs ws e)
    go false e = ap (dot cs) (same e)

module _ (truth : (ℕ → Bool) → Tree → Bool) (measure : Valuation → Tree → ℕ → ℕ) (law : (r s : Valuation) (t : Tree) → truth (λ _. false) t ≡ true → measure r t ≡ measure s t) where
  columns_split : (k : ℕ) (ks : List ℕ) (u : ℕ → ℕ) (us : List (ℕ → ℕ)) (cs : List ℤ)
      → dot cs (map pos (columns_of (k ∷ ks) (u ∷ us))) ≡ dot (take k cs) (map pos (counted 0 k u)) +ℤ dot (drop k cs) (map pos (columns_of ks us))
  columns_split k ks u us cs =
      let own = map pos (counted 0 k u) in
      let rest = map pos (columns_of ks us) in
      let long : length own ≡ k = length-map (counted 0 k u) pos ∙ length-counted 0 k u in
      ap (dot cs) (map-append pos (counted 0 k u) (columns_of ks us)) ∙ dot_split cs own rest ∙ (λ i. dot (take (long i) cs) own +ℤ dot (drop (long i) cs) rest)

  same_dot : (r s : Valuation) (ks : List ℕ) (cs : List ℤ) (ts : List Tree) → Covers ks cs (map (truth (λ _. false)) ts)
      → dot cs (map pos (columns_of ks (map (measure r) ts))) ≡ dot cs (map pos (columns_of ks (map (measure s) ts)))
  same_dot r s [] cs ts h = refl
  same_dot r s (k ∷ ks) cs [] h = refl
  same_dot r s (k ∷ ks) cs (t ∷ ts) h =
      let here = same_part (take k cs) (map pos (counted 0 k (measure r t))) (map pos (counted 0 k (measure s t))) (λ e. ap (λ (u : ℕ → ℕ). map pos (counted 0 k u)) (law r s t (h.0 e))) in
      let rest = same_dot r s ks (drop k cs) ts h.1 in
      columns_split k ks (measure r t) (map (measure r) ts) cs ∙ (λ i. here i +ℤ rest i) ∙ sym (columns_split k ks (measure s t) (map (measure s) ts) cs)

  pub same_levels : (r s : Valuation) (kinds : List ℕ) (q : ℕ) (ls : List Mapping) (ts : List Tree) → AllByRecursion (λ (l : Mapping). Covers kinds (l.coefficients q) (map (truth (λ _. false)) ts)) ls
      → map (λ (l : Mapping). cut (l.offset q +ℤ dot (l.coefficients q) (map pos (columns_of kinds (map (measure r) ts))))) ls
      ≡ map (λ (l : Mapping). cut (l.offset q +ℤ dot (l.coefficients q) (map pos (columns_of kinds (map (measure s) ts))))) ls
  same_levels r s kinds q [] ts h = refl
  same_levels r s kinds q (l ∷ ls) ts h =
      let here = same_dot r s kinds (l.coefficients q) ts h.0 in
      let rest = same_levels r s kinds q ls ts h.1 in
      λ i. cut (l.offset q +ℤ here i) ∷ rest i
