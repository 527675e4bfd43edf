-- Components, one more at the end, and what the state after all of them proves.
use Rattle.std.proofs.Common.{◌≡◌, ℕ, zero, suc, ◌+◌, ◌-◌, ◌<◌, ◌==◌, nat_le, ℤ, Bool, true, false, inl, inr, List, [], ◌∷◌, ◌++◌, append_assoc, map, length, slice_get, Option, None, Some, refl, ap, sym, subst, ◌∙◌, arith, eqb-true}
use Rattle.std.specs.Prelude.{All}
use Rattle.std.specs.List.{flat_map}
use Rattle.std.proofs.lemmas.Bool.Decides.{nat_tests}
use Rattle.std.proofs.lemmas.List.Elements.{All-nil}
use Rattle.call_components.specs.Partition.{Partition, AreComponents}
use Rattle.cti_terms.specs.Listing.{Listing, IsProgram, IsClause}
use Rattle.cti_terms.specs.Arithmetic.{kind_of}
use Rattle.cti_terms.specs.declared.atom_list.Atom.{Atom}
use Rattle.cti_terms.specs.declared.builtins.Builtin.{Builtin}
use Rattle.cti_terms.specs.declared.clauses.Clause.{Clause}
use Rattle.linear_rows.specs.Members.{In}
use Rattle.linear_rows.specs.Replacing.{row_fits}
use Rattle.linear_rows.specs.Step.{columns}
use Rattle.linear_rows.specs.declared.multipliers.Multipliers.{Multipliers}
use Rattle.linear_rows.specs.declared.row.Rows.{Rows}
use Rattle.linear_rows.proofs.Members.{in-filter, to_All}
use Rattle.termination_model.specs.chains.Chain.{after_passes, after_runs, clauses_of, component_of, counted, is_number}
use Rattle.termination_model.specs.chains.ChainRows.{AreSpoken}
use Rattle.termination_model.specs.chains.ChainSteps.{Step as PlainStep}
use Rattle.termination_model.specs.sizes.Sizes.{plain_or_none}
use Rattle.termination_model.specs.sizes.ShortSystems.{short_row}
use Rattle.termination_model.proofs.ChainLeaves.{body_before, head_before, number_is, of_own, not_head, passes_leave, placed, IsBefore}
use Rattle.termination_model.proofs.ChainSieves.{of_all}
use Rattle.termination_model.proofs.Lists.{map_push, place_below}
use Rattle.size_chains.specs.declared.state.State.{State}
use Rattle.size_chains.specs.declared.step.Step.{Step}
use Rattle.size_chains.specs.declared.value.Value.{Value}
use Rattle.size_chains.specs.Proved.{AreProved, AreShownFor, IsProved}
use Rattle.component_clauses.specs.Numbered.{with_clauses}
use Rattle.size_chains.specs.Running.{HaveProofs, IsChained, IsRun, rows_in}
use Rattle.size_chains.specs.States.{IsState, is_from, own_from, plain_step}
use Rattle.component_clauses.proofs.OwnClauses.{own_at, some_at}
use Rattle.size_chains.proofs.Same.{same_system}
use Rattle.size_chains.specs.Chains.{ArePasses, AreRuns, start_rows}
use Rattle.size_chains.specs.Systems.{AreSystems, Systems, system}

abbrev Numbered : Type 0
Numbered = ℕ × Clause

abbrev Rowed : Type 0
Rowed = ℕ → List (List ℤ)

columns_more : (a n : ℕ) → columns a (suc n) ≡ columns a n ++ (a + n) ∷ []
columns_more a zero = let e : a ≡ a + 0 = omega arith in λ i. e i ∷ []
columns_more a (suc n) =
    let e : suc a + n ≡ a + suc n = omega arith in
    ap (λ xs. a ∷ xs) (columns_more (suc a) n ∙ (λ i. columns (suc a) n ++ (e i) ∷ []))

map_append : (xs ys : List Step) → map plain_step (xs ++ ys) ≡ map plain_step xs ++ map plain_step ys
map_append [] ys = refl
map_append (x ∷ xs) ys = ap (λ zs. plain_step x ∷ zs) (map_append xs ys)

flat_more : {X Y : Type 0} (f : X → List Y) (xs : List X) (x : X) → flat_map f (xs ++ x ∷ []) ≡ flat_map f xs ++ f x
flat_more f [] x = right (f x)
  where
    right : {Y : Type 0} (ys : List Y) → ys ++ [] ≡ ys
    right [] = refl
    right (y ∷ ys) = ap (λ zs. y ∷ zs) (right ys)
flat_more f (y ∷ xs) x = ap (λ zs. f y ++ zs) (flat_more f xs x) ∙ sym (append_assoc (f y) (flat_map f xs) (f x))

-- ---- numbers of clauses
counted_at : (n : ℕ) (ks : List Clause) (k : Numbered) → In k (counted n ks) → (i : ℕ) × (k.0 ≡ n + i) × (slice_get ks i ≡ Some k.1)
counted_at n [] k i = absurd i
counted_at n (x ∷ ks) k (inl is) = (0, (let e : k.0 ≡ n = ap (λ (y : Numbered). y.0) (sym is) in omega arith), ap (λ (y : Numbered). Some y.1) is)
counted_at n (x ∷ ks) k (inr i) = let h = counted_at (suc n) ks k i in (suc h.0, (let e = h.1 in omega arith), h.2)

pub at_number : (ks : List Clause) (k : Numbered) → In k (counted 1 ks) → slice_get ks (k.0 - 1) ≡ Some k.1
at_number ks k i = let h = counted_at 1 ks k i in let e : k.0 - 1 ≡ h.0 = (let l = h.1 in omega arith) in ap (slice_get ks) e ∙ h.2

pub in_counted_at : (n : ℕ) (ks : List Clause) (j : ℕ) (k : Clause) → slice_get ks j ≡ Some k → In (n + j, k) (counted n ks)
in_counted_at n [] j k e = cc
in_counted_at n (x ∷ ks) zero k e = let z : n ≡ n + 0 = omega arith in let same : x ≡ k = cc in inl (λ i. (z i, same i))
in_counted_at n (x ∷ ks) (suc j) k e =
    let z : suc n + j ≡ n + suc j = omega arith in
    inr (subst (λ (m : ℕ). In (m, k) (counted (suc n) ks)) z (in_counted_at (suc n) ks j k e))

-- ---- proofs where rows agree
pub proved_same : (systems : Systems) (rows new : Rowed) (k : Clause) (by : List Multipliers) → new k.head.pred.0 ≡ rows k.head.pred.0 → ((b : Atom) → In b k.body → new b.pred.0 ≡ rows b.pred.0)
    → IsProved systems rows k by → IsProved systems new k by
proved_same systems rows new k by head body h =
    let same = same_system systems rows new k k.body body in
    subst (λ (s : List (List ℤ)). AreShownFor systems k (map short_row s) (new k.head.pred.0) by) (sym same)
    (subst (λ (o : List (List ℤ)). AreShownFor systems k (map short_row (system systems rows k k.body)) o by) (sym head) h)

pub proved_all : (systems : Systems) (rows : Rowed) (ks : List Clause) (ms : List (List Multipliers)) → length ms ≡ length ks
    → ((j : ℕ) (k : Clause) (m : List Multipliers) → slice_get ks j ≡ Some k → slice_get ms j ≡ Some m → IsProved systems rows k m) → AreProved systems rows ks ms
proved_all systems rows [] [] l h = tt
proved_all systems rows [] (m ∷ ms) l h = absurd (omega arith)
proved_all systems rows (k ∷ ks) [] l h = absurd (omega arith)
proved_all systems rows (k ∷ ks) (m ∷ ms) l h = (h zero k m refl refl, proved_all systems rows ks ms (omega arith) (λ j x y e f. h (suc j) x y e f))

module _ (speaks : List ℤ → Bool) (systems : Systems) where
  runs_more : (rows : Rowed) (kss : List (List Numbered)) (rs : List (List (List PlainStep))) (ks : List Numbered) (r : List (List PlainStep)) → AreRuns speaks systems rows kss rs
      → ArePasses speaks systems 1 (after_runs rows kss rs) ks r → AreRuns speaks systems rows (kss ++ ks ∷ []) (rs ++ r ∷ [])
  runs_more rows [] [] ks r a p = (p, tt)
  runs_more rows [] (x ∷ rs) ks r a p = absurd a
  runs_more rows (y ∷ kss) [] ks r a p = absurd a
  runs_more rows (y ∷ kss) (x ∷ rs) ks r a p = (a.0, runs_more (after_passes rows y x) kss rs ks r a.1 p)

  after_runs_more : (rows : Rowed) (kss : List (List Numbered)) (rs : List (List (List PlainStep))) (ks : List Numbered) (r : List (List PlainStep)) → AreRuns speaks systems rows kss rs
      → after_runs rows (kss ++ ks ∷ []) (rs ++ r ∷ []) ≡ after_passes (after_runs rows kss rs) ks r
  after_runs_more rows [] [] ks r a = refl
  after_runs_more rows [] (x ∷ rs) ks r a = absurd a
  after_runs_more rows (y ∷ kss) [] ks r a = absurd a
  after_runs_more rows (y ∷ kss) (x ∷ rs) ks r a = after_runs_more (after_passes rows y x) kss rs ks r a.1

module _ {D : Type 0} (width : D → ℕ) (listed : D → List (List ℤ)) (speaks : List ℤ → Bool) (systems : Systems) (p : Listing) (comps : Partition) where
  pub chained_none : (s : State D) → rows_in s ≡ start_rows systems p → s.steps ≡ [] → IsChained width listed speaks systems p comps 0 s
  chained_none s rows none = record { runs = []; legal = tt; steps_are = ap (map plain_step) none; rows = rows; proved = λ d l. absurd (omega arith); fits = λ d q l e. absurd (omega arith) }

  module _ (prog : IsProgram p) (are : AreComponents p comps) (lawful : AreSystems p systems) where
    abbrev own : ℕ → List Numbered
    own = clauses_of p comps

    -- clauses of two components have different numbers
    numbers_apart : (c d : ℕ) → (d ≡ c → ⊥) → (k x : Numbered) → In k (own d) → In x (own c) → x.0 - 1 ≡ k.0 - 1 → ⊥
    numbers_apart c d apart k x i j e =
        let mine = of_own p comps prog are d k i in
        let other = of_own p comps prog are c x j in
        let one = at_number p.clauses k mine.0 in
        let two = at_number p.clauses x other.0 in
        let here : slice_get p.clauses (k.0 - 1) ≡ Some x.1 = ap (slice_get p.clauses) (sym e) ∙ two in
        let same : x.1 ≡ k.1 = cc in
        let both : component_of comps k.1.head.pred.0 ≡ Some c = ap (λ (y : Clause). component_of comps y.head.pred.0) (sym same) ∙ other.1 in
        let there = mine.1 in
        let is : d ≡ c = cc in
        apart is

    -- rows that values list fit
    module _ (spoken : (d : D) → AreSpoken speaks (width d) (listed d)) (fit : (r : List ℤ) → speaks r ≡ true → row_fits r ≡ true) (listing : ℕ → Bool) (s : State D) (state : IsState width listed systems listing p s) where
      fits_of : (xs : List (List ℤ)) (n : ℕ) → AreSpoken speaks n xs → All (λ r. row_fits r ≡ true) xs
      fits_of xs n a = to_All (λ r. row_fits r ≡ true) xs (λ r i. fit r (of_all (λ (x : List ℤ). (length x ≡ suc n) × (speaks x ≡ true)) xs r a i).1)

      pub listed_fit : (q : ℕ) → listing q ≡ true → All (λ r. row_fits r ≡ true) (rows_in s q)
      listed_fit q mine = go (slice_get s.sizes.rows q) refl
        where
          go : (o : Option Rows) → slice_get s.sizes.rows q ≡ o → All (λ r. row_fits r ≡ true) (rows_in s q)
          go None e = subst (All (λ (r : List ℤ). row_fits r ≡ true)) (sym (ap plain_or_none e)) (All-nil (λ (r : List ℤ). row_fits r ≡ true))
          go (Some rows) e =
              let lt = place_below s.sizes.rows q rows e in
              let each = state.sizes.each in
              let values = state.each in
              let v = some_at s.values.items q (omega arith) in
              kinds v.0 v.1 (kind_of p.arithmetic q) refl
            where
              stated_fit : (b : Builtin) → kind_of p.arithmetic q ≡ Some b → All (λ r. row_fits r ≡ true) (systems.stated b)
              stated_fit b is = to_All (λ r. row_fits r ≡ true) (systems.stated b) (λ r i. (of_all (λ (x : List ℤ). (length x ≡ suc (systems.width q)) × (row_fits x ≡ true)) (systems.stated b) r (lawful.stated q b is) i).1)

              kinds : (v : Value D) → slice_get s.values.items q ≡ Some v → (o : Option Builtin) → kind_of p.arithmetic q ≡ o → All (λ r. row_fits r ≡ true) (rows_in s q)
              kinds v at None none = subst (All (λ (r : List ℤ). row_fits r ≡ true)) ((state.values q v at).rows_are mine none) (fits_of (listed v.of) (width v.of) (spoken v.of))
              kinds v at (Some b) is = subst (All (λ (r : List ℤ). row_fits r ≡ true)) (sym (state.stated q b mine is)) (stated_fit b is)

    module _ (c : ℕ) (old new : State D) (m : IsChained width listed speaks systems p comps c old) (r : IsRun width listed speaks systems (own c) old new)
        (spoken : (d : D) → AreSpoken speaks (width d) (listed d)) (fit : (r : List ℤ) → speaks r ≡ true → row_fits r ≡ true) (state : IsState width listed systems (own_from comps c) p new) where
      from_here : (q : ℕ) → slice_get comps.of q ≡ Some c → own_from comps c q ≡ true
      from_here q e = ap (is_from c) e ∙ itself c
        where
          itself : (n : ℕ) → nat_le n n ≡ true
          itself n = grind (arith, nat_tests)

      all_fit : (d q : ℕ) → d < suc c → slice_get comps.of q ≡ Some d → All (λ r. row_fits r ≡ true) (rows_in new q)
      all_fit d q l e = go (d == c) refl
        where
          go : (b : Bool) → (d == c) ≡ b → All (λ r. row_fits r ≡ true) (rows_in new q)
          go true t = listed_fit spoken fit (own_from comps c) new state q (from_here q (e ∙ ap Some (eqb-true d c t)))
          go false t =
              let lt : d < c = grind (arith, nat_tests) in
              let same : rows_in new q ≡ rows_in old q = ap (λ (f : Rowed). f q) r.rows ∙ passes_leave q (rows_in old) (own c) r.passes (not_head p comps prog are (suc d) c q (d, omega arith, e) (omega arith)) in
              subst (All (λ (r : List ℤ). row_fits r ≡ true)) (sym same) (m.fits d q lt e)

      kept : (d : ℕ) → d < c → HaveProofs width listed speaks systems (own d) new
      kept d l k i by at =
          let apart : d ≡ c → ⊥ = λ e. absurd (omega arith) in
          let before : slice_get old.proofs.items (k.0 - 1) ≡ Some by = sym (r.others (k.0 - 1) (λ x j e. numbers_apart c d apart k x i j e)) ∙ at in
          let leave : (q : ℕ) → IsBefore p comps prog are (suc d) q → rows_in new q ≡ rows_in old q =
          λ q b. ap (λ (f : Rowed). f q) r.rows ∙ passes_leave q (rows_in old) (own c) r.passes (not_head p comps prog are (suc d) c q b (omega arith)) in
          proved_same systems (rows_in old) (rows_in new) k.1 by (leave k.1.head.pred.0 (head_before p comps prog are d k i)) (λ b j. leave b.pred.0 (body_before p comps prog are d k i b j)) (m.proved d l k i by before)

      all_proved : (d : ℕ) → d < suc c → HaveProofs width listed speaks systems (own d) new
      all_proved d l = go (d == c) refl
        where
          go : (b : Bool) → (d == c) ≡ b → HaveProofs width listed speaks systems (own d) new
          go true e = subst (λ (x : ℕ). HaveProofs width listed speaks systems (own x) new) (sym (eqb-true d c e)) r.proved
          go false e = kept d (grind (arith, nat_tests))

      columns_now : map own (columns 0 (suc c)) ≡ map own (columns 0 c) ++ own c ∷ []
      columns_now = ap (map own) (columns_more 0 c) ∙ map_push own (columns 0 c) (0 + c) ∙ (let e : 0 + c ≡ c = omega arith in λ i. map own (columns 0 c) ++ own (e i) ∷ [])

      next : IsChained width listed speaks systems p comps (suc c) new
      next = record {
        runs = m.runs ++ r.passes ∷ [];
        legal = subst (λ (kss : List (List Numbered)). AreRuns speaks systems (start_rows systems p) kss (m.runs ++ r.passes ∷ [])) (sym columns_now)
            (runs_more speaks systems (start_rows systems p) (map own (columns 0 c)) m.runs (own c) r.passes m.legal (subst (λ (f : Rowed). ArePasses speaks systems 1 f (own c) r.passes) m.rows r.legal));
        steps_are = ap (map plain_step) r.steps_are ∙ map_append old.steps r.steps ∙ (λ i. m.steps_are i ++ r.by_pass i) ∙ sym (flat_more (flat_map (λ ss. ss)) m.runs r.passes);
        rows = r.rows ∙ ap (λ (f : Rowed). after_passes f (own c) r.passes) m.rows
            ∙ sym (after_runs_more speaks systems (start_rows systems p) (map own (columns 0 c)) m.runs (own c) r.passes m.legal)
            ∙ ap (λ (kss : List (List Numbered)). after_runs (start_rows systems p) kss (m.runs ++ r.passes ∷ [])) (sym columns_now);
        proved = all_proved;
        fits = all_fit;
      }

      pub chained_more : IsChained width listed speaks systems p comps (c + 1) new
      chained_more = let e : suc c ≡ c + 1 = omega arith in subst (λ (x : ℕ). IsChained width listed speaks systems p comps x new) e next

    pub last_proved : (own' : ℕ → Bool) (s : State D) → IsState width listed systems own' p s → IsChained width listed speaks systems p comps (length comps.members) s → AreProved systems (rows_in s) p.clauses s.proofs.items
    last_proved own' s state m = proved_all systems (rows_in s) p.clauses s.proofs.items state.proofs (λ j k by at proof. one j k by at proof)
      where
        one : (j : ℕ) (k : Clause) (by : List Multipliers) → slice_get p.clauses j ≡ Some k → slice_get s.proofs.items j ≡ Some by → IsProved systems (rows_in s) k by
        one j k by at proof =
            let clause = of_all (IsClause p.preds) p.clauses k prog.clauses (in_at p.clauses j at) in
            let found = placed p comps prog are k.vars k.head clause.head in
            let c = found.0 in
            let kn : Numbered = (1 + j, k) in
            let here : In kn (own c) = in-filter (λ (x : Numbered). is_number c (component_of comps x.1.head.pred.0)) (counted 1 p.clauses) kn (number_is c (component_of comps k.head.pred.0) found.1) (in_counted_at 1 p.clauses j k at) in
            let e : (1 + j) - 1 ≡ j = omega arith in
            m.proved c (are.within c k.head.pred.0 found.1) kn here by (ap (slice_get s.proofs.items) e ∙ proof)
          where
            in_at : (ks : List Clause) (i : ℕ) → slice_get ks i ≡ Some k → In k ks
            in_at [] i e = cc
            in_at (x ∷ ks) zero e = inl cc
            in_at (x ∷ ks) (suc i) e = inr (in_at ks i e)

  pub rows_fit : AreComponents p comps → (own' : ℕ → Bool) (s : State D) → IsState width listed systems own' p s → IsChained width listed speaks systems p comps (length comps.members) s → (q : ℕ) → All (λ r. row_fits r ≡ true) (rows_in s q)
  rows_fit are own' s state m q = go (slice_get comps.of q) refl
    where
      none : (o : Option Rows) → slice_get s.sizes.rows q ≡ o → slice_get comps.of q ≡ None → All (λ r. row_fits r ≡ true) (rows_in s q)
      none None e n = subst (All (λ (r : List ℤ). row_fits r ≡ true)) (sym (ap plain_or_none e)) (All-nil (λ (r : List ℤ). row_fits r ≡ true))
      none (Some rows) e n =
          let lt = place_below s.sizes.rows q rows e in
          let at = some_at comps.of q (omega (arith, state.sizes.each, are.each)) in
          let f = at.1 in
          absurd (cc)

      go : (o : Option ℕ) → slice_get comps.of q ≡ o → All (λ r. row_fits r ≡ true) (rows_in s q)
      go None e = none (slice_get s.sizes.rows q) refl e
      go (Some d) e = m.fits d q (are.within d q e) e

-- fewer predicates whose values list their rows
pub weaker : {D : Type 0} (width : D → ℕ) (listed : D → List (List ℤ)) (systems : Systems) (own fewer : ℕ → Bool) (p : Listing) (s : State D) → ((q : ℕ) → fewer q ≡ true → own q ≡ true) → IsState width listed systems own p s → IsState width listed systems fewer p s
weaker width listed systems own fewer p s h state = record {
  sizes = state.sizes;
  each = state.each;
  values = λ q v e. let x = state.values q v e in record { rows_are = λ o none. x.rows_are (h q o) none; columns = x.columns; known = x.known; light = x.light };
  stated = λ q b o is. state.stated q b (h q o) is;
  proofs = state.proofs;
}

pub from_more : (comps : Partition) (c q : ℕ) → own_from comps (c + 1) q ≡ true → own_from comps c q ≡ true
from_more comps c q = go (slice_get comps.of q)
  where
    go : (o : Option ℕ) → is_from (c + 1) o ≡ true → is_from c o ≡ true
    go None e = e
    go (Some d) e = grind (arith, nat_tests)

-- the heads of a component's clauses are of it
pub own_head : (p : Listing) (comps : Partition) → IsProgram p → AreComponents p comps → (c : ℕ) (own : List ℕ) → with_clauses p.clauses own ≡ clauses_of p comps c
    → (j k : ℕ) (x : Clause) → slice_get own j ≡ Some k → slice_get p.clauses (k - 1) ≡ Some x → own_from comps c x.head.pred.0 ≡ true
own_head p comps prog are c own same j k x at there = ap (is_from c) (of_own p comps prog are c (k, x) (own_at p comps c own same j k x at there)).1 ∙ itself c
  where
    itself : (n : ℕ) → nat_le n n ≡ true
    itself n = grind (arith, nat_tests)
