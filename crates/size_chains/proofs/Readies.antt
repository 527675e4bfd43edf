-- A state in which components are solved one after another.
use Rattle.std.proofs.Common.{◌≡◌, ℕ, ◌+◌, ◌==◌, nat_lt, ℤ, Bool, true, false, if◌then◌else◌, List, [], Option, None, Some, refl, ap, sym, subst, ◌∙◌, arith, eqb-true}
use Rattle.std.proofs.lemmas.Bool.Decides.{nat_tests}
use Rattle.call_components.specs.Partition.{Partition, AreComponents, IsIn}
use Rattle.cti_terms.specs.Listing.{Listing, IsProgram}
use Rattle.cti_terms.specs.declared.clauses.Clause.{Clause}
use Rattle.linear_rows.specs.Members.{In}
use Rattle.termination_model.specs.chains.Chain.{clauses_of, component_of}
use Rattle.termination_model.specs.chains.Runs.{is_before}
use Rattle.termination_model.specs.sizes.Sizes.{rows_of}
use Rattle.termination_model.proofs.ChainLeaves.{of_own, passes_leave}
use Rattle.size_chains.specs.Ready.{IsReady}
use Rattle.size_chains.specs.Running.{IsRun, rows_in}
use Rattle.size_chains.specs.States.{IsState, every, own_from}
use Rattle.size_chains.specs.declared.state.State.{State}
use Rattle.size_chains.proofs.Chaining.{from_more, weaker}
use Rattle.size_chains.specs.Chains.{start_rows, starting}
use Rattle.size_chains.specs.Systems.{Systems}

-- ---- at the start
pub ready_first : {D : Type 0} (width : D → ℕ) (listed : D → List (List ℤ)) (systems : Systems) (p : Listing) (comps : Partition) (s : State D) → IsState width listed systems every p s → rows_of s.sizes.rows ≡ start_rows systems p → s.steps ≡ []
    → IsReady width listed systems p comps 0 s
ready_first width listed systems p comps s state rows none = record {
  state = weaker width listed systems every (own_from comps 0) p s (λ q o. refl) state;
  others = λ q e. ap (λ (f : ℕ → List (List ℤ)). f q) rows;
  none = none;
}

-- a predicate of no component up to c is of no earlier one
pub not_before : (c : ℕ) (o : Option ℕ) → is_before (c + 1) o ≡ false → is_before c o ≡ false
not_before c None e = refl
not_before c (Some d) e = grind (arith, nat_tests)

-- and not of c itself
pub not_in : (comps : Partition) (c q : ℕ) → is_before (c + 1) (component_of comps q) ≡ false → IsIn comps c q → ⊥
not_in comps c q e i = let f : nat_lt c (c + 1) ≡ false = sym (ap (is_before (c + 1)) i) ∙ e in absurd (no c f)
  where
    no : (n : ℕ) → nat_lt n (n + 1) ≡ false → ⊥
    no n f = grind (arith, nat_tests)

-- ---- the rows above which a component runs
pub rows_ready : {D : Type 0} (width : D → ℕ) (listed : D → List (List ℤ)) (systems : Systems) (p : Listing) (comps : Partition) (c : ℕ) (s : State D) → IsReady width listed systems p comps c s → rows_in s ≡ starting systems p comps c (rows_in s)
rows_ready width listed systems p comps c s ready = λ i q. at q i
  where
    at : (q : ℕ) → rows_in s q ≡ starting systems p comps c (rows_in s) q
    at q = go (is_before c (component_of comps q)) refl
      where
        go : (b : Bool) → is_before c (component_of comps q) ≡ b → rows_in s q ≡ (if b then rows_in s q else start_rows systems p q)
        go true e = refl
        go false e = ready.others q e

-- ---- a state with the same values and proofs
pub state_like : {D : Type 0} (width : D → ℕ) (listed : D → List (List ℤ)) (systems : Systems) (own : ℕ → Bool) (p : Listing) (s new : State D) → new.sizes ≡ s.sizes → new.values ≡ s.values → new.proofs ≡ s.proofs → IsState width listed systems own p s
    → IsState width listed systems own p new
state_like {D = D} width listed systems own p s new sizes values proofs state =
    subst (λ (x : State D). IsState width listed systems own p x) (λ i. record { sizes = sym sizes i; values = sym values i; proofs = sym proofs i; steps = new.steps; latest = new.latest })
    (record { sizes = state.sizes; each = state.each; values = λ q v e. state.values q v e; stated = state.stated; proofs = state.proofs })

-- ---- after a component's run
module _ {D : Type 0} (width : D → ℕ) (listed : D → List (List ℤ)) (speaks : List ℤ → Bool) (systems : Systems) (p : Listing) (comps : Partition) (prog : IsProgram p) (are : AreComponents p comps)
    (c : ℕ) (old after : State D) (run : IsRun width listed speaks systems (clauses_of p comps c) old after) where
  not_own_head : (q : ℕ) → (IsIn comps c q → ⊥) → (k : ℕ × Clause) → In k (clauses_of p comps c) → (k.1.head.pred.0 == q) ≡ false
  not_own_head q never k i = go (k.1.head.pred.0 == q) refl
    where
      go : (b : Bool) → (k.1.head.pred.0 == q) ≡ b → b ≡ false
      go false e = refl
      go true e = absurd (never (ap (component_of comps) (sym (eqb-true k.1.head.pred.0 q e)) ∙ (of_own p comps prog are c k i).1))

  pub other_rows : (q : ℕ) → (IsIn comps c q → ⊥) → rows_in after q ≡ rows_in old q
  other_rows q never = ap (λ (f : ℕ → List (List ℤ)). f q) run.rows ∙ passes_leave q (rows_in old) (clauses_of p comps c) run.passes (not_own_head q never)

  -- the state without its steps
  pub ready_more : (new : State D) → IsReady width listed systems p comps c old → IsState width listed systems (own_from comps c) p after → new.sizes ≡ after.sizes → new.values ≡ after.values → new.proofs ≡ after.proofs → new.steps ≡ []
      → IsReady width listed systems p comps (c + 1) new
  ready_more new ready state sizes values proofs none = record {
    state = weaker width listed systems (own_from comps c) (own_from comps (c + 1)) p new (λ q o. from_more comps c q o) (state_like width listed systems (own_from comps c) p after new sizes values proofs state);
    others = λ q e. ap (λ s. rows_of s.rows q) sizes ∙ other_rows q (not_in comps c q e) ∙ ready.others q (not_before c (component_of comps q) e);
    none = none;
  }
