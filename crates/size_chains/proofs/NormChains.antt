-- Over a norm the chains are those of termination_model.
use Rattle.std.proofs.Common.{◌≡◌, ℕ, suc, ℤ, Bool, true, false, List, [], ◌∷◌, map, length, slice_get, Option, None as Nought, Some, refl, ap, sym, subst, ◌∙◌}
use Rattle.std.specs.Prelude.{◌↔◌}
use Rattle.call_components.specs.Partition.{Partition}
use Rattle.cti_terms.specs.Arithmetic.{kind_of}
use Rattle.cti_terms.specs.Listing.{Listing}
use Rattle.cti_terms.specs.Tree.{Tree}
use Rattle.cti_terms.specs.declared.builtins.Builtin.{Builtin}
use Rattle.cti_terms.specs.declared.clauses.Clause.{Clause}
use Rattle.cti_terms.specs.declared.predicates.Pred.{Pred}
use Rattle.linear_rows.specs.Irredundant.{Fails, IsIrredundant, TestIsBlown}
use Rattle.linear_rows.specs.Replacing.{substituted}
use Rattle.linear_rows.specs.Rows.{HoldsOn}
use Rattle.linear_rows.specs.Step.{columns}
use Rattle.linear_rows.specs.Systems.{image_blown, image_left}
use Rattle.termination_model.specs.chains.Chain.{after, after_pass, after_passes, after_runs, clauses_of, AreUnchanged}
use Rattle.termination_model.specs.chains.Chain as old
use Rattle.termination_model.specs.chains.ChainRows.{AreSpoken, HasSublist, IsBlown, bottom_row}
use Rattle.termination_model.specs.chains.ChainSteps.{HasLegalRows, Step}
use Rattle.termination_model.specs.chains.ChainSteps as older
use Rattle.termination_model.specs.sizes.Systems.{system as norm_system}
use Rattle.size_chains.specs.Chains.{AreRuns, AreSteps, ArePasses, start_as, start_rows}
use Rattle.size_chains.specs.Norms.{NormsHaveTheseChains, arity_or_none, norm_systems}
use Rattle.size_chains.specs.Steps.{FailsHere, HoldsHere, IsBlownHere, IsLegalImage, IsLegalStep}
use Rattle.size_chains.specs.Systems.{Systems, body_of, head_of, naturals_of}
use Rattle.size_chains.proofs.NormLaws.{body_same, columns_same, head_same, naturals_same}
use Rattle.size_chains.proofs.Translate.{legal_map}

module _ (speaks : List ℤ → Bool) (expression : ℕ → Tree → List ℤ) (p : Listing) where
  abbrev these : Systems
  these = norm_systems p expression

  module _ (rows : ℕ → List (List ℤ)) (k : Clause) where
    abbrev body : List (List ℤ)
    body = norm_system expression rows k.vars k.body

    abbrev heads : List (List ℤ)
    heads = map (expression k.vars) k.head.args

    -- what holds of the parts of the one system holds of those of the other
    to : (P : ℕ → List (List ℤ) → List (List ℤ) → Type 0) → P (naturals_of these k) (body_of these rows k) (head_of these k) → P k.vars body heads
    to P h = subst (λ (x : List (List ℤ)). P k.vars body x) (head_same p expression rows k) (subst (λ (x : List (List ℤ)). P k.vars x (head_of these k)) (body_same p expression rows k) (subst (λ (n : ℕ). P n (body_of these rows k) (head_of these k)) (naturals_same p expression rows k) h))

    from : (P : ℕ → List (List ℤ) → List (List ℤ) → Type 0) → P k.vars body heads → P (naturals_of these k) (body_of these rows k) (head_of these k)
    from P h = subst (λ (n : ℕ). P n (body_of these rows k) (head_of these k)) (sym (naturals_same p expression rows k)) (subst (λ (x : List (List ℤ)). P k.vars x (head_of these k)) (sym (body_same p expression rows k)) (subst (λ (x : List (List ℤ)). P k.vars body x) (sym (head_same p expression rows k)) h))

    long : length (these.heads k) ≡ length k.head.args
    long = columns_same p expression rows k

    image_to : (weak : Bool) (image : List (List ℤ)) → IsLegalImage speaks these rows k weak image → older.IsLegalImage speaks expression rows k weak image
    image_to true image i = (to (λ n b h. IsBlown (image_blown n h b)) i.0, i.1)
    image_to false image i = record {
      decided = to (λ n b h. image_blown n h b ≡ Nought) i.decided;
      part = to (λ n b h. HasSublist (image_left n h b) image) i.part;
      irredundant = subst (λ (n : ℕ). IsIrredundant n image) long i.irredundant;
      spoken = subst (λ (n : ℕ). AreSpoken speaks n image) long i.spoken;
      same = λ r l s. subst (λ (n : ℕ). HoldsOn (suc n) image r ↔ HoldsOn (suc k.vars) body (substituted k.vars heads r)) long
          (to (λ n b h. HoldsOn (suc (length (these.heads k))) image r ↔ HoldsOn (suc n) b (substituted n h r)) (i.same r (l ∙ ap suc (sym long)) s));
    }

    image_from : (weak : Bool) (image : List (List ℤ)) → older.IsLegalImage speaks expression rows k weak image → IsLegalImage speaks these rows k weak image
    image_from true image i = (from (λ n b h. IsBlown (image_blown n h b)) i.0, i.1)
    image_from false image i = record {
      decided = from (λ n b h. image_blown n h b ≡ Nought) i.decided;
      part = from (λ n b h. HasSublist (image_left n h b) image) i.part;
      irredundant = subst (λ (n : ℕ). IsIrredundant n image) (sym long) i.irredundant;
      spoken = subst (λ (n : ℕ). AreSpoken speaks n image) (sym long) i.spoken;
      same = λ r l s. from (λ n b h. HoldsOn (suc (length (these.heads k))) image r ↔ HoldsOn (suc n) b (substituted n h r))
          (subst (λ (n : ℕ). HoldsOn (suc n) image r ↔ HoldsOn (suc k.vars) body (substituted k.vars heads r)) (sym long) (i.same r (l ∙ ap suc long) s));
    }

    step_to : (pass : ℕ) (s : Step) → IsLegalStep speaks these pass rows k s → older.IsLegalStep speaks expression pass rows k s
    step_to pass s l = record {
      image = image_to s.image_weak s.image l.image;
      legal = subst (λ (n : ℕ). HasLegalRows speaks n (older.HoldsHere speaks expression rows k) (older.FailsHere speaks expression rows k) (older.IsBlownHere speaks expression rows k) pass (rows k.head.pred.0) s.image s.weak s.how s.rows) long
          (legal_map speaks (length (these.heads k)) (HoldsHere speaks these rows k) (FailsHere speaks these rows k) (IsBlownHere speaks these rows k) (older.HoldsHere speaks expression rows k) (older.FailsHere speaks expression rows k) (older.IsBlownHere speaks expression rows k)
          (λ r. to (λ n b h. HoldsOn (suc n) b (substituted n h r))) (λ r. to (λ n b h. Fails n b (substituted n h r))) (λ r. to (λ n b h. TestIsBlown n b (substituted n h r))) pass (rows k.head.pred.0) s.image s.weak s.how s.rows l.legal);
    }

    step_from : (pass : ℕ) (s : Step) → older.IsLegalStep speaks expression pass rows k s → IsLegalStep speaks these pass rows k s
    step_from pass s l = record {
      image = image_from s.image_weak s.image l.image;
      legal = subst (λ (n : ℕ). HasLegalRows speaks n (HoldsHere speaks these rows k) (FailsHere speaks these rows k) (IsBlownHere speaks these rows k) pass (rows k.head.pred.0) s.image s.weak s.how s.rows) (sym long)
          (legal_map speaks (length k.head.args) (older.HoldsHere speaks expression rows k) (older.FailsHere speaks expression rows k) (older.IsBlownHere speaks expression rows k) (HoldsHere speaks these rows k) (FailsHere speaks these rows k) (IsBlownHere speaks these rows k)
          (λ r. from (λ n b h. HoldsOn (suc n) b (substituted n h r))) (λ r. from (λ n b h. Fails n b (substituted n h r))) (λ r. from (λ n b h. TestIsBlown n b (substituted n h r))) pass (rows k.head.pred.0) s.image s.weak s.how s.rows l.legal);
    }

  abbrev Numbered : Type 0
  Numbered = ℕ × Clause

  steps_to : (pass : ℕ) (rows : ℕ → List (List ℤ)) (ks : List Numbered) (ss : List Step) → AreSteps speaks these pass rows ks ss → old.AreSteps speaks expression pass rows ks ss
  steps_to pass rows [] [] a = tt
  steps_to pass rows [] (s ∷ ss) a = absurd a
  steps_to pass rows (k ∷ ks) [] a = absurd a
  steps_to pass rows (k ∷ ks) (s ∷ ss) a = (a.0, step_to rows k.1 pass s a.1, steps_to pass (after k.1 s rows) ks ss a.2)

  steps_from : (pass : ℕ) (rows : ℕ → List (List ℤ)) (ks : List Numbered) (ss : List Step) → old.AreSteps speaks expression pass rows ks ss → AreSteps speaks these pass rows ks ss
  steps_from pass rows [] [] a = tt
  steps_from pass rows [] (s ∷ ss) a = absurd a
  steps_from pass rows (k ∷ ks) [] a = absurd a
  steps_from pass rows (k ∷ ks) (s ∷ ss) a = (a.0, step_from rows k.1 pass s a.1, steps_from pass (after k.1 s rows) ks ss a.2)

  passes_to : (pass : ℕ) (rows : ℕ → List (List ℤ)) (ks : List Numbered) (sss : List (List Step)) → ArePasses speaks these pass rows ks sss → old.ArePasses speaks expression pass rows ks sss
  passes_to pass rows ks [] a = absurd a
  passes_to pass rows ks (ss ∷ []) a = (steps_to pass rows ks ss a.0, a.1)
  passes_to pass rows ks (ss ∷ (ts ∷ tss)) a = (steps_to pass rows ks ss a.0, a.1, passes_to (suc pass) (after_pass rows ks ss) ks (ts ∷ tss) a.2)

  passes_from : (pass : ℕ) (rows : ℕ → List (List ℤ)) (ks : List Numbered) (sss : List (List Step)) → old.ArePasses speaks expression pass rows ks sss → ArePasses speaks these pass rows ks sss
  passes_from pass rows ks [] a = absurd a
  passes_from pass rows ks (ss ∷ []) a = (steps_from pass rows ks ss a.0, a.1)
  passes_from pass rows ks (ss ∷ (ts ∷ tss)) a = (steps_from pass rows ks ss a.0, a.1, passes_from (suc pass) (after_pass rows ks ss) ks (ts ∷ tss) a.2)

  runs_to : (rows : ℕ → List (List ℤ)) (kss : List (List Numbered)) (rs : List (List (List Step))) → AreRuns speaks these rows kss rs → old.AreRuns speaks expression rows kss rs
  runs_to rows [] [] a = tt
  runs_to rows [] (r ∷ rs) a = absurd a
  runs_to rows (ks ∷ kss) [] a = absurd a
  runs_to rows (ks ∷ kss) (r ∷ rs) a = (passes_to 1 rows ks r a.0, runs_to (after_passes rows ks r) kss rs a.1)

  runs_from : (rows : ℕ → List (List ℤ)) (kss : List (List Numbered)) (rs : List (List (List Step))) → old.AreRuns speaks expression rows kss rs → AreRuns speaks these rows kss rs
  runs_from rows [] [] a = tt
  runs_from rows [] (r ∷ rs) a = absurd a
  runs_from rows (ks ∷ kss) [] a = absurd a
  runs_from rows (ks ∷ kss) (r ∷ rs) a = (passes_from 1 rows ks r a.0, runs_from (after_passes rows ks r) kss rs a.1)

  starts : start_rows these p ≡ old.start_rows p
  starts = λ i q. at q (kind_of p.arithmetic q) i
    where
      at : (q : ℕ) (b : Option Builtin) → start_as these q b (slice_get p.preds q) ≡ old.start_as b (slice_get p.preds q)
      at q (Some b) = refl
      at q Nought = go (slice_get p.preds q) refl
        where
          go : (o : Option Pred) → slice_get p.preds q ≡ o → start_as these q Nought o ≡ old.start_as Nought o
          go Nought e = refl
          go (Some d) e = ap (λ (x : Option Pred). bottom_row (arity_or_none x) ∷ []) e

pub norms_have_these_chains : NormsHaveTheseChains
norms_have_these_chains speaks expression p comps steps last = (
  (λ chain. record {
    runs = chain.runs;
    legal = runs_from speaks expression p (start_rows (norm_systems p expression) p) (kss comps) chain.runs (subst (λ (f : ℕ → List (List ℤ)). old.AreRuns speaks expression f (kss comps) chain.runs) (sym (starts speaks expression p)) chain.legal);
    steps_are = chain.steps_are;
    last_are = λ q. chain.last_are q ∙ ap (λ (f : ℕ → List (List ℤ)). after_runs f (kss comps) chain.runs q) (sym (starts speaks expression p));
  }),
  (λ chain. record {
    runs = chain.runs;
    legal = runs_to speaks expression p (old.start_rows p) (kss comps) chain.runs (subst (λ (f : ℕ → List (List ℤ)). AreRuns speaks (norm_systems p expression) f (kss comps) chain.runs) (starts speaks expression p) chain.legal);
    steps_are = chain.steps_are;
    last_are = λ q. chain.last_are q ∙ ap (λ (f : ℕ → List (List ℤ)). after_runs f (kss comps) chain.runs q) (starts speaks expression p);
  }),
)
  where
    kss : Partition → List (List (ℕ × Clause))
    kss comps = map (clauses_of p comps) (columns 0 (length comps.members))
