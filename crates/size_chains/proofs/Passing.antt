-- Steps, passes and components, one more at the end.
use Rattle.std.proofs.Common.{◌≡◌, ℕ, suc, ◌<◌, ℤ, Bool, true, false, inl, inr, List, [], ◌∷◌, ◌++◌, append_assoc, refl, sym, subst, arith}
use Rattle.cti_terms.specs.declared.clauses.Clause.{Clause}
use Rattle.termination_model.specs.chains.Chain.{after, after_pass, AreUnchanged, after_passes}
use Rattle.termination_model.specs.chains.ChainSteps.{Step, IsStrong, IsWeak, HasLegalRows}
use Rattle.termination_model.specs.chains.ChainLicences.{IsLicensed}
use Rattle.termination_model.specs.declared.how.How.{How}
use Rattle.termination_model.specs.declared.how.How.TheVariants.{None as Nothing, First, Same, Join, Keep}
use Rattle.size_chains.specs.Chains.{ArePasses, AreSteps}
use Rattle.size_chains.specs.Steps.{IsLegalStep}
use Rattle.size_chains.specs.Systems.{Systems}

-- after the third pass its number does not matter
module _ (speaks : List ℤ → Bool) (n : ℕ) (HoldsThere FailsThere IsBlownThere : List ℤ → Type 0) (p q : ℕ) (late_p : 3 < p) (late_q : 3 < q) (old image : List (List ℤ)) where
  licence : IsLicensed n HoldsThere FailsThere IsBlownThere p old image → IsLicensed n HoldsThere FailsThere IsBlownThere q old image
  licence (inl (early, some, b)) = absurd (omega arith)
  licence (inr (inl (some, l))) = inr (inl (some, inl late_q))
  licence (inr (inr l)) = inr (inr l)

  strong : (how : How) (new : List (List ℤ)) → IsStrong speaks n HoldsThere FailsThere IsBlownThere p old image how new → IsStrong speaks n HoldsThere FailsThere IsBlownThere q old image how new
  strong Nothing new s = s
  strong First new s = s
  strong Same new s = s
  strong Join new s = absurd (let e = s.0 in omega arith)
  strong Keep new s = (late_q, s.1, s.2, s.3)

  weak : (how : How) (new : List (List ℤ)) → IsWeak speaks n HoldsThere FailsThere IsBlownThere p old image how new → IsWeak speaks n HoldsThere FailsThere IsBlownThere q old image how new
  weak Nothing new s = s
  weak First new s = (licence s.0, s.1, s.2)
  weak Same new s = s
  weak Join new s = s
  weak Keep new s = (licence s.0, s.1, s.2)

  pub late_rows : (w : Bool) (how : How) (new : List (List ℤ)) → HasLegalRows speaks n HoldsThere FailsThere IsBlownThere p old image w how new → HasLegalRows speaks n HoldsThere FailsThere IsBlownThere q old image w how new
  late_rows false how new s = strong how new s
  late_rows true how new s = weak how new s

module _ (speaks : List ℤ → Bool) (systems : Systems) (pass : ℕ) where
  pub steps_more : (rows : ℕ → List (List ℤ)) (ks : List (ℕ × Clause)) (ss : List Step) (k : ℕ × Clause) (s : Step)
      → AreSteps speaks systems pass rows ks ss → s.clause ≡ k.0 → IsLegalStep speaks systems pass (after_pass rows ks ss) k.1 s
      → AreSteps speaks systems pass rows (ks ++ k ∷ []) (ss ++ s ∷ [])
  steps_more rows [] [] k s a e l = (e, l, tt)
  steps_more rows [] (x ∷ ss) k s a e l = absurd a
  steps_more rows (x ∷ ks) [] k s a e l = absurd a
  steps_more rows (x ∷ ks) (y ∷ ss) k s a e l = (a.0, a.1, steps_more (after x.1 y rows) ks ss k s a.2 e l)

  pub after_more : (rows : ℕ → List (List ℤ)) (ks : List (ℕ × Clause)) (ss : List Step) (k : ℕ × Clause) (s : Step)
      → AreSteps speaks systems pass rows ks ss
      → after_pass rows (ks ++ k ∷ []) (ss ++ s ∷ []) ≡ after k.1 s (after_pass rows ks ss)
  after_more rows [] [] k s a = refl
  after_more rows [] (x ∷ ss) k s a = absurd a
  after_more rows (x ∷ ks) [] k s a = absurd a
  after_more rows (x ∷ ks) (y ∷ ss) k s a = after_more (after x.1 y rows) ks ss k s a.2

  -- a later pass is as legal under any later number
  pub late_steps : (q : ℕ) → 3 < pass → 3 < q → (rows : ℕ → List (List ℤ)) (ks : List (ℕ × Clause)) (ss : List Step) → AreSteps speaks systems pass rows ks ss → AreSteps speaks systems q rows ks ss
  late_steps q lp lq rows [] [] a = tt
  late_steps q lp lq rows [] (x ∷ ss) a = absurd a
  late_steps q lp lq rows (x ∷ ks) [] a = absurd a
  late_steps q lp lq rows (x ∷ ks) (y ∷ ss) a =
      (a.0, record { image = a.1.image; legal = late_rows speaks _ _ _ _ pass q lp lq _ y.image y.weak y.how y.rows a.1.legal }, late_steps q lp lq (after x.1 y rows) ks ss a.2)

module _ (speaks : List ℤ → Bool) (systems : Systems) (ks : List (ℕ × Clause)) where
  -- whatever passes come next, they are passes with these before them
  abbrev pub SoFar : ℕ → (ℕ → List (List ℤ)) → List (List Step) → ℕ → (ℕ → List (List ℤ)) → Type 0
  SoFar n rows done m now = (more : List (List Step)) → ArePasses speaks systems m now ks more → ArePasses speaks systems n rows ks (done ++ more)

  pub so_far_start : (n : ℕ) (rows : ℕ → List (List ℤ)) → SoFar n rows [] n rows
  so_far_start n rows more p = p

  pub so_far_on : (n m : ℕ) (rows now : ℕ → List (List ℤ)) (done : List (List Step)) (ss : List Step) → SoFar n rows done m now
      → AreSteps speaks systems m now ks ss → (AreUnchanged now ks ss → ⊥)
      → SoFar n rows (done ++ ss ∷ []) (suc m) (after_pass now ks ss)
  so_far_on n m rows now done ss so steps changed more p =
      subst (ArePasses speaks systems n rows ks) (sym (append_assoc done (ss ∷ []) more)) (so (ss ∷ more) (first more p))
    where
      first : (more : List (List Step)) → ArePasses speaks systems (suc m) (after_pass now ks ss) ks more → ArePasses speaks systems m now ks (ss ∷ more)
      first [] p = absurd p
      first (t ∷ ts) p = (steps, changed, p)

  pub so_far_end : (n m : ℕ) (rows now : ℕ → List (List ℤ)) (done : List (List Step)) (ss : List Step) → SoFar n rows done m now
      → AreSteps speaks systems m now ks ss → AreUnchanged now ks ss → ArePasses speaks systems n rows ks (done ++ ss ∷ [])
  so_far_end n m rows now done ss so steps same = so (ss ∷ []) (steps, same)

  pub after_passes_more : (rows : ℕ → List (List ℤ)) (done : List (List Step)) (ss : List Step)
      → after_passes rows ks (done ++ ss ∷ []) ≡ after_pass (after_passes rows ks done) ks ss
  after_passes_more rows [] ss = refl
  after_passes_more rows (x ∷ done) ss = after_passes_more (after_pass rows ks x) done ss
