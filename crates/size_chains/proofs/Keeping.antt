-- A legal chain's last rows are kept by the clauses.
use Rattle.std.proofs.Common.{◌≡◌, ℕ, zero, suc, ◌+◌, ◌<◌, ◌≤◌, ◌==◌, ℤ, Bool, true, false, inl, inr, List, [], ◌∷◌, map, length, slice_get, Some, refl, ap, sym, subst, ◌∙◌, arith, eqb-true}
use Rattle.std.specs.List.{AllByRecursion}
use Rattle.std.proofs.lemmas.Bool.Decides.{nat_tests}
use Rattle.cti_terms.specs.declared.atom_list.Atom.{Atom}
use Rattle.cti_terms.specs.declared.clauses.Clause.{Clause}
use Rattle.cti_terms.specs.Arithmetic.{Arithmetic, kind_of}
use Rattle.cti_terms.specs.Listing.{Listing, IsOrdinary, IsProgram}
use Rattle.cti_terms.specs.declared.builtins.Builtin.{Builtin}
use Rattle.call_components.specs.Partition.{Partition, AreComponents}
use Rattle.linear_rows.specs.Members.{In}
use Rattle.linear_rows.specs.Rows.{HoldsOn}
use Rattle.linear_rows.specs.Step.{columns}
use Rattle.linear_rows.proofs.Members.{in-filter, of-filter}
use Rattle.termination_model.specs.chains.Chain.{after_pass, AreUnchanged, after_passes, after_runs, counted, component_of, is_number, clauses_of}
use Rattle.termination_model.specs.chains.ChainRows.{bottom_row}
use Rattle.termination_model.specs.chains.ChainSteps.{Step}
use Rattle.termination_model.proofs.ChainSieves.{all_of, of_all}
use Rattle.termination_model.proofs.ChainLeaves.{Numbered, Rowed, after_same, pass_same, NotHead, runs_leave, of_own, later, in_counted, clause_is, placed, head_before, body_before, of_counted, number_is}
use Rattle.size_chains.specs.Chains.{AreSteps, ArePasses, AreRuns, start_as, start_rows, IsLegalChain}
use Rattle.size_chains.specs.Kept.{KeepsRows, LastRowsAreKept, LastRowsAreStated}
use Rattle.size_chains.specs.Systems.{AreColumnsOf, AreSystems, Systems, at_head, body_of, naturals_of}
use Rattle.size_chains.proofs.KeptRows.{step_keeps}
use Rattle.size_chains.proofs.Same.{same_body}

keeps_same : (systems : Systems) (rows new : Rowed) (k : Clause) → new k.head.pred.0 ≡ rows k.head.pred.0 → ((b : Atom) → In b k.body → new b.pred.0 ≡ rows b.pred.0) → KeepsRows systems rows k → KeepsRows systems new k
keeps_same systems rows new k head body h =
    let same = same_body systems rows new k body in
    subst (λ (s : List (List ℤ)). AllByRecursion (λ (r : List ℤ). HoldsOn (suc (naturals_of systems k)) s (at_head systems k r)) (new k.head.pred.0)) (sym same)
    (subst (λ (o : List (List ℤ)). AllByRecursion (λ (r : List ℤ). HoldsOn (suc (naturals_of systems k)) (body_of systems rows k) (at_head systems k r)) o) (sym head) h)

module _ (speaks : List ℤ → Bool) (systems : Systems) (bottoms : (n : ℕ) → speaks (bottom_row n) ≡ true) where
  abbrev Below : Clause → Type 0
  Below k = AreColumnsOf systems k

  pass_keeps : (pass : ℕ) (rows : Rowed) (ks : List Numbered) (ss : List Step) → ((k : Numbered) → In k ks → Below k.1) → AreSteps speaks systems pass rows ks ss → AreUnchanged rows ks ss
      → (k : Numbered) → In k ks → KeepsRows systems rows k.1
  pass_keeps pass rows [] ss below h u k i = absurd i
  pass_keeps pass rows (k' ∷ ks) [] below h u k i = absurd h
  pass_keeps pass rows (k' ∷ ks) (s ∷ ss) below h u k (inl is) =
      subst (λ (x : Numbered). KeepsRows systems rows x.1) is (step_keeps speaks systems bottoms rows k'.1 (below k' (inl refl)) pass s h.1 u.0)
  pass_keeps pass rows (k' ∷ ks) (s ∷ ss) below h u k (inr i) =
      pass_keeps pass rows ks ss (λ x j. below x (inr j)) (subst (λ (f : Rowed). AreSteps speaks systems pass f ks ss) (after_same k'.1 s rows u.0) h.2) u.1 k i

  passes_keep : (pass : ℕ) (rows : Rowed) (ks : List Numbered) (sss : List (List Step)) → ((k : Numbered) → In k ks → Below k.1) → ArePasses speaks systems pass rows ks sss
      → (k : Numbered) → In k ks → KeepsRows systems (after_passes rows ks sss) k.1
  passes_keep pass rows ks [] below h k i = absurd h
  passes_keep pass rows ks (ss ∷ []) below h k i =
      subst (λ (f : Rowed). KeepsRows systems f k.1) (sym (pass_same rows ks ss h.1)) (pass_keeps pass rows ks ss below h.0 h.1 k i)
  passes_keep pass rows ks (ss ∷ (ts ∷ tss)) below h k i = passes_keep (suc pass) (after_pass rows ks ss) ks (ts ∷ tss) below h.2 k i

  module _ (p : Listing) (comps : Partition) (prog : IsProgram p) (are : AreComponents p comps) (lawful : AreSystems p systems) where
    own_below : (c : ℕ) (k : Numbered) → In k (clauses_of p comps c) → Below k.1
    own_below c k i = of_all (AreColumnsOf systems) p.clauses k.1 lawful.clauses (in_counted 1 p.clauses k (of_own p comps prog are c k i).0)

    runs_keep : (c n : ℕ) (rows : Rowed) (rs : List (List (List Step))) → AreRuns speaks systems rows (map (clauses_of p comps) (columns c n)) rs → (d : ℕ) → c ≤ d → d < c + n → (k : Numbered) → In k (clauses_of p comps d)
        → KeepsRows systems (after_runs rows (map (clauses_of p comps) (columns c n)) rs) k.1
    runs_keep c zero rows rs h d le lt k i = absurd (omega arith)
    runs_keep c (suc n) rows [] h d le lt k i = absurd h
    runs_keep c (suc n) rows (r ∷ rs) h d le lt k i = go (d == c) refl (λ apart. runs_keep (suc c) n (after_passes rows (clauses_of p comps c) r) rs h.1 d apart (omega arith) k i)
      where
        go : (b : Bool) → (d == c) ≡ b → (c < d → KeepsRows systems (after_runs (after_passes rows (clauses_of p comps c) r) (map (clauses_of p comps) (columns (suc c) n)) rs) k.1) → KeepsRows systems (after_runs (after_passes rows (clauses_of p comps c) r) (map (clauses_of p comps) (columns (suc c) n)) rs) k.1
        go true e more =
            let same : d ≡ c = eqb-true d c e in
            let here : In k (clauses_of p comps c) = subst (λ (x : ℕ). In k (clauses_of p comps x)) same i in
            let new = after_passes rows (clauses_of p comps c) r in
            keeps_same systems new (after_runs new (map (clauses_of p comps) (columns (suc c) n)) rs) k.1
            (runs_leave k.1.head.pred.0 new (map (clauses_of p comps) (columns (suc c) n)) rs (later p comps prog are (suc c) n k.1.head.pred.0 (head_before p comps prog are c k here)))
            (λ b j. runs_leave b.pred.0 new (map (clauses_of p comps) (columns (suc c) n)) rs (later p comps prog are (suc c) n b.pred.0 (body_before p comps prog are c k here b j)))
            (passes_keep 1 rows (clauses_of p comps c) r (own_below c) h.0 k here)
        go false e more = more (grind (arith, nat_tests))

    all_kept : (steps : List Step) (last : Rowed) → IsLegalChain speaks systems p comps steps last → (k : Clause) → In k p.clauses → KeepsRows systems last k
    all_kept steps last chain k i =
        let at = placed p comps prog are k.vars k.head (clause_is p comps prog are k i).head in
        let c = at.0 in
        let lt = are.within c k.head.pred.0 at.1 in
        let number = of_counted 1 p.clauses k i in
        let kn : Numbered = (number.0, k) in
        let here : In kn (clauses_of p comps c) = in-filter (λ (x : Numbered). is_number c (component_of comps x.1.head.pred.0)) (counted 1 p.clauses) kn (number_is c (component_of comps k.head.pred.0) at.1) number.1 in
        let kept = runs_keep 0 (length comps.members) (start_rows systems p) chain.runs chain.legal c (omega arith) (omega arith) kn here in
        let same : last ≡ after_runs (start_rows systems p) (map (clauses_of p comps) (columns 0 (length comps.members))) chain.runs = λ j q. chain.last_are q j in
        subst (λ (f : Rowed). KeepsRows systems f k) (sym same) kept

pub last_rows_are_kept : LastRowsAreKept
last_rows_are_kept speaks systems p comps steps last bottoms prog lawful components chain =
    all_of (KeepsRows systems last) p.clauses (all_kept speaks systems bottoms p comps prog components lawful steps last chain)

no_head : (ar : Arithmetic) (q : ℕ) (b : Builtin) → kind_of ar q ≡ Some b → (ks : List Clause) → AllByRecursion (IsOrdinary ar) ks → (k : Clause) → In k ks → (k.head.pred.0 == q) ≡ false
no_head ar q b is [] all k i = absurd i
no_head ar q b is (x ∷ ks) all k (inl same) = go (k.head.pred.0 == q) refl
  where
    go : (o : Bool) → (k.head.pred.0 == q) ≡ o → o ≡ false
    go true e = let at = eqb-true k.head.pred.0 q e in let f = sym (subst (IsOrdinary ar) same all.0) ∙ ap (kind_of ar) at ∙ is in cc
    go false e = refl
no_head ar q b is (x ∷ ks) all k (inr i) = no_head ar q b is ks all.1 k i

own_head : (p : Listing) (comps : Partition) (q : ℕ) → ((k : Clause) → In k p.clauses → (k.head.pred.0 == q) ≡ false) → (cs : List ℕ) (ks : List Numbered) → In ks (map (clauses_of p comps) cs) → NotHead q ks
own_head p comps q h [] ks i = absurd i
own_head p comps q h (c ∷ cs) ks (inl is) =
    subst (NotHead q) is (λ k i. h k.1 (in_counted 1 p.clauses k (of-filter (λ (x : Numbered). is_number c (component_of comps x.1.head.pred.0)) (counted 1 p.clauses) k i).0))
own_head p comps q h (c ∷ cs) ks (inr i) = own_head p comps q h cs ks i

-- built-in predicates keep the rows that they start with
pub last_rows_are_stated : LastRowsAreStated
last_rows_are_stated speaks systems p comps steps last prog chain q b is =
    chain.last_are q ∙ runs_leave q (start_rows systems p) (map (clauses_of p comps) (columns 0 (length comps.members))) chain.runs
    (own_head p comps q (no_head p.arithmetic q b is p.clauses prog.ordinary) (columns 0 (length comps.members))) ∙ ap (λ o. start_as systems q o (slice_get p.preds q)) is
