-- A legal chain's last rows are kept by the clauses.
use Rattle.std.proofs.Common.{◌≡◌, ℕ, zero, suc, ◌+◌, ◌<◌, ◌≤◌, ◌==◌, ℤ, Bool, true, false, inl, inr, List, [], ◌∷◌, map, length, slice_get, Some, IsTrue, refl, ap, sym, subst, ◌∙◌, arith, eqb-true}
use Rattle.std.specs.List.{AllByRecursion}
use Rattle.std.proofs.lemmas.Bool.Decides.{nat_tests}
use Rattle.cti_terms.specs.Tree.{Tree, is_below}
use Rattle.cti_terms.specs.declared.clauses.Clause.{Clause}
use Rattle.cti_terms.specs.Arithmetic.{Arithmetic, kind_of}
use Rattle.cti_terms.specs.Listing.{Listing, IsOrdinary, IsProgram}
use Rattle.cti_terms.specs.declared.builtins.Builtin.{Builtin}
use Rattle.call_components.specs.Partition.{Partition, AreComponents}
use Rattle.linear_rows.specs.Members.{In}
use Rattle.linear_rows.specs.Step.{columns}
use Rattle.linear_rows.proofs.Members.{in-filter, of-filter}
use Rattle.term_size.specs.Norm.{IsNorm}
use Rattle.termination_model.specs.chains.Chain.{AreSteps, after_pass, AreUnchanged, ArePasses, after_passes, AreRuns, after_runs, counted, component_of, is_number, clauses_of, start_as, start_rows, IsLegalChain}
use Rattle.termination_model.specs.chains.ChainRows.{bottom_row}
use Rattle.termination_model.specs.chains.ChainSteps.{Step}
use Rattle.termination_model.specs.chains.ChainKept.{KeepsRows, ChainsKeep, ChainsState}
use Rattle.termination_model.proofs.ChainSieves.{all_of}
use Rattle.termination_model.proofs.ChainSteps.{step_keeps}
use Rattle.termination_model.proofs.ChainLeaves.{Numbered, Rowed, keeps_same, after_same, pass_same, NotHead, runs_leave, of_own, later, in_counted, clause_is, placed, head_before, body_before, of_counted, number_is}

module _ (speaks : List ℤ → Bool) (size : (ℕ → ℕ) → Tree → ℕ) (truth : (ℕ → Bool) → Tree → Bool) (expression : ℕ → Tree → List ℤ) (norm : IsNorm size truth expression) (bottoms : (n : ℕ) → speaks (bottom_row n) ≡ true) where
  abbrev Below : Clause → Type 0
  Below k = AllByRecursion (λ (x : Tree). IsTrue (is_below k.vars x)) k.head.args

  pass_keeps : (pass : ℕ) (rows : Rowed) (ks : List Numbered) (ss : List Step) → ((k : Numbered) → In k ks → Below k.1) → AreSteps speaks expression pass rows ks ss → AreUnchanged rows ks ss
      → (k : Numbered) → In k ks → KeepsRows expression rows k.1
  pass_keeps pass rows [] ss below h u k i = absurd i
  pass_keeps pass rows (k' ∷ ks) [] below h u k i = absurd h
  pass_keeps pass rows (k' ∷ ks) (s ∷ ss) below h u k (inl is) =
      subst (λ (x : Numbered). KeepsRows expression rows x.1) is (step_keeps speaks size truth expression norm bottoms rows k'.1 (below k' (inl refl)) pass s h.1 u.0)
  pass_keeps pass rows (k' ∷ ks) (s ∷ ss) below h u k (inr i) =
      pass_keeps pass rows ks ss (λ x j. below x (inr j)) (subst (λ (f : Rowed). AreSteps speaks expression pass f ks ss) (after_same k'.1 s rows u.0) h.2) u.1 k i

  passes_keep : (pass : ℕ) (rows : Rowed) (ks : List Numbered) (sss : List (List Step)) → ((k : Numbered) → In k ks → Below k.1) → ArePasses speaks expression pass rows ks sss
      → (k : Numbered) → In k ks → KeepsRows expression (after_passes rows ks sss) k.1
  passes_keep pass rows ks [] below h k i = absurd h
  passes_keep pass rows ks (ss ∷ []) below h k i =
      subst (λ (f : Rowed). KeepsRows expression f k.1) (sym (pass_same rows ks ss h.1)) (pass_keeps pass rows ks ss below h.0 h.1 k i)
  passes_keep pass rows ks (ss ∷ (ts ∷ tss)) below h k i = passes_keep (suc pass) (after_pass rows ks ss) ks (ts ∷ tss) below h.2 k i

  module _ (p : Listing) (comps : Partition) (prog : IsProgram p) (are : AreComponents p comps) where
    own_below : (c : ℕ) (k : Numbered) → In k (clauses_of p comps c) → Below k.1
    own_below c k i = (clause_is p comps prog are k.1 (in_counted 1 p.clauses k (of_own p comps prog are c k i).0)).head.below

    runs_keep : (c n : ℕ) (rows : Rowed) (rs : List (List (List Step))) → AreRuns speaks expression rows (map (clauses_of p comps) (columns c n)) rs → (d : ℕ) → c ≤ d → d < c + n → (k : Numbered) → In k (clauses_of p comps d)
        → KeepsRows expression (after_runs rows (map (clauses_of p comps) (columns c n)) rs) k.1
    runs_keep c zero rows rs h d le lt k i = absurd (omega arith)
    runs_keep c (suc n) rows [] h d le lt k i = absurd h
    runs_keep c (suc n) rows (r ∷ rs) h d le lt k i = go (d == c) refl (λ apart. runs_keep (suc c) n (after_passes rows (clauses_of p comps c) r) rs h.1 d apart (omega arith) k i)
      where
        go : (b : Bool) → (d == c) ≡ b → (c < d → KeepsRows expression (after_runs (after_passes rows (clauses_of p comps c) r) (map (clauses_of p comps) (columns (suc c) n)) rs) k.1) → KeepsRows expression (after_runs (after_passes rows (clauses_of p comps c) r) (map (clauses_of p comps) (columns (suc c) n)) rs) k.1
        go true e more =
            let same : d ≡ c = eqb-true d c e in
            let here : In k (clauses_of p comps c) = subst (λ (x : ℕ). In k (clauses_of p comps x)) same i in
            let new = after_passes rows (clauses_of p comps c) r in
            keeps_same expression new (after_runs new (map (clauses_of p comps) (columns (suc c) n)) rs) k.1
            (runs_leave k.1.head.pred.0 new (map (clauses_of p comps) (columns (suc c) n)) rs (later p comps prog are (suc c) n k.1.head.pred.0 (head_before p comps prog are c k here)))
            (λ b j. runs_leave b.pred.0 new (map (clauses_of p comps) (columns (suc c) n)) rs (later p comps prog are (suc c) n b.pred.0 (body_before p comps prog are c k here b j)))
            (passes_keep 1 rows (clauses_of p comps c) r (own_below c) h.0 k here)
        go false e more = more (grind (arith, nat_tests))

    all_kept : (steps : List Step) (last : Rowed) → IsLegalChain speaks expression p comps steps last → (k : Clause) → In k p.clauses → KeepsRows expression last k
    all_kept steps last chain k i =
        let at = placed p comps prog are k.vars k.head (clause_is p comps prog are k i).head in
        let c = at.0 in
        let lt = are.within c k.head.pred.0 at.1 in
        let number = of_counted 1 p.clauses k i in
        let kn : Numbered = (number.0, k) in
        let here : In kn (clauses_of p comps c) = in-filter (λ (x : Numbered). is_number c (component_of comps x.1.head.pred.0)) (counted 1 p.clauses) kn (number_is c (component_of comps k.head.pred.0) at.1) number.1 in
        let kept = runs_keep 0 (length comps.members) (start_rows p) chain.runs chain.legal c (omega arith) (omega arith) kn here in
        let same : last ≡ after_runs (start_rows p) (map (clauses_of p comps) (columns 0 (length comps.members))) chain.runs = λ j q. chain.last_are q j in
        subst (λ (f : Rowed). KeepsRows expression f k) (sym same) kept

pub chains_keep : ChainsKeep
chains_keep speaks size truth expression p comps steps last norm bottoms prog components chain =
    all_of (KeepsRows expression last) p.clauses (all_kept speaks size truth expression norm bottoms p comps prog components steps last chain)

no_head : (ar : Arithmetic) (q : ℕ) (b : Builtin) → kind_of ar q ≡ Some b → (ks : List Clause) → AllByRecursion (IsOrdinary ar) ks → (k : Clause) → In k ks → (k.head.pred.0 == q) ≡ false
no_head ar q b is [] all k i = absurd i
no_head ar q b is (x ∷ ks) all k (inl same) = go (k.head.pred.0 == q) refl
  where
    go : (o : Bool) → (k.head.pred.0 == q) ≡ o → o ≡ false
    go true e = let at = eqb-true k.head.pred.0 q e in let f = sym (subst (IsOrdinary ar) same all.0) ∙ ap (kind_of ar) at ∙ is in cc
    go false e = refl
no_head ar q b is (x ∷ ks) all k (inr i) = no_head ar q b is ks all.1 k i

own_head : (p : Listing) (comps : Partition) (q : ℕ) → ((k : Clause) → In k p.clauses → (k.head.pred.0 == q) ≡ false) → (cs : List ℕ) (ks : List Numbered) → In ks (map (clauses_of p comps) cs) → NotHead q ks
own_head p comps q h [] ks i = absurd i
own_head p comps q h (c ∷ cs) ks (inl is) =
    subst (NotHead q) is (λ k i. h k.1 (in_counted 1 p.clauses k (of-filter (λ (x : Numbered). is_number c (component_of comps x.1.head.pred.0)) (counted 1 p.clauses) k i).0))
own_head p comps q h (c ∷ cs) ks (inr i) = own_head p comps q h cs ks i

-- built-in predicates keep the rows that they start with
pub chains_state : ChainsState
chains_state speaks expression p comps steps last prog chain q b is =
    chain.last_are q ∙ runs_leave q (start_rows p) (map (clauses_of p comps) (columns 0 (length comps.members))) chain.runs
    (own_head p comps q (no_head p.arithmetic q b is p.clauses prog.ordinary) (columns 0 (length comps.members))) ∙ ap (λ o. start_as o (slice_get p.preds q)) is
