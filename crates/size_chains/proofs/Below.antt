-- The rows of earlier components, put into a state, and what a component's run makes of it.
use Rattle.std.proofs.Common.{◌≡◌, ℕ, ◌+◌, ◌<◌, ◌==◌, ◌&&◌, nat_le, nat_lt, ℤ, Bool, true, false, if◌then◌else◌, inl, inr, List, [], ◌++◌, map, length, slice_get, slice_set, Option, None, Some, refl, ap, sym, subst, ◌∙◌, arith, eqb-true}
use Rattle.std.proofs.lemmas.Bool.{cases_eq}
use Rattle.std.proofs.lemmas.Bool.Decides.{nat_tests}
use Rattle.std.proofs.lemmas.List.{length-set}
use Rattle.call_components.specs.Partition.{Partition, AreComponents, IsIn}
use Rattle.call_components.proofs.Lists.{slice_get-set_same, slice_get-set_other}
use Rattle.cti_terms.specs.Listing.{Listing, IsProgram}
use Rattle.cti_terms.specs.declared.predicates.Pred.{Pred}
use Rattle.linear_rows.specs.Plain.{plain_rows, HaveWidth}
use Rattle.linear_rows.specs.declared.row.Rows.{Rows}
use Rattle.termination_model.specs.sizes.Sizes.{plain_or_none, rows_of}
use Rattle.termination_model.proofs.ChainLeaves.{not_head, passes_leave}
use Rattle.termination_model.proofs.Lists.{place_below}
use Rattle.linear_rows.specs.Replacing.{row_fits}
use Rattle.termination_model.specs.chains.Chain.{after_passes, clauses_of}
use Rattle.termination_model.specs.chains.ChainRows.{AreSpoken}
use Rattle.size_chains.specs.Parts.{IsPartOf}
use Rattle.termination_model.specs.chains.Runs.{is_before}
use Rattle.size_chains.specs.Running.{IsRun, rows_in}
use Rattle.size_chains.specs.declared.chain.Chain.{Chain}
use Rattle.size_chains.specs.States.{IsState, every, is_from, own_from, plain_step}
use Rattle.size_chains.specs.declared.state.State.{State}
use Rattle.size_chains.proofs.Chaining.{listed_fit}
use Rattle.size_chains.proofs.Taking.{rows_set}
use Rattle.size_chains.specs.Chains.{ArePasses, start_rows, starting}
use Rattle.size_chains.specs.Systems.{AreSizes, AreSystems, Systems}

-- a predicate's rows in the place of others
pub sizes_put : (systems : Systems) (preds : List Pred) (rows below : List Rows) (q : ℕ) (r : Rows) → AreSizes systems preds rows → AreSizes systems preds below → slice_get below q ≡ Some r → AreSizes systems preds (slice_set rows q r)
sizes_put systems preds rows below q r a b at = record {
  each = length-set rows q r ∙ a.each;
  width = λ x y e. elim (cases_eq x q) [
    | inl same ↦
        let lt : q < length rows = (let l = place_below below q r at in omega (arith, a.each, b.each)) in
        let here : slice_get (slice_set rows q r) x ≡ Some r = ap (slice_get (slice_set rows q r)) same ∙ slice_get-set_same rows q r lt in
        let is : r ≡ y = cc in
        subst (λ (z : Rows). (systems.width x ≡ z.width) × HaveWidth z.width z.list) is (subst (λ (n : ℕ). (systems.width n ≡ r.width) × HaveWidth r.width r.list) (sym same) (b.width q r at))
    | inr ne ↦ a.width x y (sym (slice_get-set_other rows q x r ne) ∙ e)
  ];
}

pub sizes_if : (systems : Systems) (preds : List Pred) (now below new : List Rows) (n : ℕ) (r : Rows) (b : Bool) → AreSizes systems preds now → AreSizes systems preds below → slice_get below n ≡ Some r → new ≡ (if b then slice_set now n r else now) → AreSizes systems preds new
sizes_if systems preds now below new n r true a c at is = subst (AreSizes systems preds) (sym is) (sizes_put systems preds now below n r a c at)
sizes_if systems preds now below new n r false a c at is = subst (AreSizes systems preds) (sym is) a

-- the rows of the first predicates of earlier components
abbrev pub PutTo : Partition → ℕ → ℕ → (below old new : List Rows) → Type 0
PutTo comps c n below old new = (x : ℕ) → rows_of new x ≡ (if nat_lt x n && is_before c (slice_get comps.of x) then rows_of below x else rows_of old x)

pub put_none : (comps : Partition) (c : ℕ) (below rows : List Rows) → PutTo comps c 0 below rows rows
put_none comps c below rows x = sym (ap (λ (b : Bool). if b && is_before c (slice_get comps.of x) then rows_of below x else rows_of rows x) t)
  where
    t : nat_lt x 0 ≡ false
    t = grind (arith, nat_tests)

module _ (comps : Partition) (c n : ℕ) (below old now new : List Rows) (r : Rows) (to : PutTo comps c n below old now) (at : slice_get below n ≡ Some r) (lt : n < length now)
    (is : new ≡ (if is_before c (slice_get comps.of n) then slice_set now n r else now)) where
  own : rows_of below n ≡ plain_rows r.list
  own = ap plain_or_none at

  here : (b : Bool) → is_before c (slice_get comps.of n) ≡ b → rows_of now n ≡ rows_of old n → rows_of (if b then slice_set now n r else now) n ≡ (if b then rows_of below n else rows_of old n)
  here true e before = rows_set now n r lt n ∙ (let t : (n == n) ≡ true = grind (arith, nat_tests) in ap (λ (b : Bool). if b then plain_rows r.list else rows_of now n) t) ∙ sym own
  here false e before = before

  elsewhere : (b : Bool) (x : ℕ) → (n == x) ≡ false → rows_of (if b then slice_set now n r else now) x ≡ rows_of now x
  elsewhere true x e = rows_set now n r lt x ∙ ap (λ (b : Bool). if b then plain_rows r.list else rows_of now x) e
  elsewhere false x e = refl

  pub put_more : PutTo comps c (n + 1) below old new
  put_more x = ap (λ (rs : List Rows). rows_of rs x) is ∙ go (n == x) refl
    where
      go : (b : Bool) → (n == x) ≡ b → rows_of (if is_before c (slice_get comps.of n) then slice_set now n r else now) x ≡ (if nat_lt x (n + 1) && is_before c (slice_get comps.of x) then rows_of below x else rows_of old x)
      go true e =
          let same = eqb-true n x e in
          let first : nat_lt n n ≡ false = grind (arith, nat_tests) in
          let later : nat_lt n (n + 1) ≡ true = grind (arith, nat_tests) in
          let before : rows_of now n ≡ rows_of old n = to n ∙ ap (λ (b : Bool). if b && is_before c (slice_get comps.of n) then rows_of below n else rows_of old n) first in
          subst (λ (z : ℕ). rows_of (if is_before c (slice_get comps.of n) then slice_set now n r else now) z ≡ (if nat_lt z (n + 1) && is_before c (slice_get comps.of z) then rows_of below z else rows_of old z)) same
          (here (is_before c (slice_get comps.of n)) refl before ∙ sym (ap (λ (b : Bool). if b && is_before c (slice_get comps.of n) then rows_of below n else rows_of old n) later))
      go false e =
          let test : nat_lt x n ≡ nat_lt x (n + 1) = grind (arith, nat_tests) in
          elsewhere (is_before c (slice_get comps.of n)) x e ∙ to x ∙ ap (λ (b : Bool). if b && is_before c (slice_get comps.of x) then rows_of below x else rows_of old x) test

pub put_all : (comps : Partition) (c n : ℕ) (below old new : List Rows) → length comps.of ≡ n → PutTo comps c n below old new
    → (x : ℕ) → rows_of new x ≡ (if is_before c (slice_get comps.of x) then rows_of below x else rows_of old x)
put_all comps c n below old new long to x = to x ∙ go (slice_get comps.of x) refl
  where
    go : (o : Option ℕ) → slice_get comps.of x ≡ o → (if nat_lt x n && is_before c o then rows_of below x else rows_of old x) ≡ (if is_before c o then rows_of below x else rows_of old x)
    go None e = last (nat_lt x n)
      where
        last : (b : Bool) → (if b && false then rows_of below x else rows_of old x) ≡ rows_of old x
        last true = refl
        last false = refl
    go (Some d) e =
        let l = place_below comps.of x d e in
        let t : nat_lt x n ≡ true = grind (arith, nat_tests) in
        ap (λ (b : Bool). if b && nat_lt d c then rows_of below x else rows_of old x) t

-- ---- a state with these rows
-- a predicate of this component or a later one is of no earlier one
from_not_before : (c : ℕ) (o : Option ℕ) → is_from c o ≡ true → is_before c o ≡ false
from_not_before c None e = cc
from_not_before c (Some d) e = grind (arith, nat_tests)

pub put_state : {D : Type 0} (width : D → ℕ) (listed : D → List (List ℤ)) (systems : Systems) (p : Listing) (comps : Partition) (c : ℕ) (below : ℕ → List (List ℤ)) (old new : State D) → IsState width listed systems every p old
    → new.values ≡ old.values → new.proofs ≡ old.proofs → AreSizes systems p.preds new.sizes.rows
    → ((x : ℕ) → rows_of new.sizes.rows x ≡ (if is_before c (slice_get comps.of x) then below x else rows_of old.sizes.rows x)) → IsState width listed systems (own_from comps c) p new
put_state width listed systems p comps c below old new state values proofs sizes rows = record {
  sizes = sizes;
  each = ap (λ vs. length vs.items) values ∙ state.each;
  values = λ q v e.
      let before = state.values q v (sym (ap (λ vs. slice_get vs.items q) values) ∙ e) in
      record {
        rows_are = λ o none. before.rows_are refl none ∙ sym (rows q ∙ ap (λ (b : Bool). if b then below q else rows_of old.sizes.rows q) (from_not_before c (slice_get comps.of q) o));
        columns = before.columns;
        known = before.known;
        light = before.light;
      };
  stated = λ q b o is. rows q ∙ ap (λ (b : Bool). if b then below q else rows_of old.sizes.rows q) (from_not_before c (slice_get comps.of q) o) ∙ state.stated q b refl is;
  proofs = ap (λ ps. length ps.items) proofs ∙ state.proofs;
}

-- ---- a component's run from these rows
module _ {D : Type 0} (width : D → ℕ) (listed : D → List (List ℤ)) (speaks : List ℤ → Bool) (systems : Systems) (p : Listing) (comps : Partition) (prog : IsProgram p) (are : AreComponents p comps) (lawful : AreSystems p systems)
    (spoken : (d : D) → AreSpoken speaks (width d) (listed d)) (fit : (r : List ℤ) → speaks r ≡ true → row_fits r ≡ true) (c : ℕ) (below : ℕ → List (List ℤ)) (old new : State D)
    (run : IsRun width listed speaks systems (clauses_of p comps c) old new) (state : IsState width listed systems (own_from comps c) p new)
    (rows : rows_in old ≡ starting systems p comps c below) (none : old.steps ≡ []) where
  abbrev made : Chain
  made = record { steps = new.steps; sizes = record { rows = new.sizes.rows; proofs = new.proofs.items } }

  mine : (q : ℕ) → IsIn comps c q → own_from comps c q ≡ true
  mine q e = ap (is_from c) e ∙ itself c
    where
      itself : (n : ℕ) → nat_le n n ≡ true
      itself n = grind (arith, nat_tests)

  -- no clause of this component has a head of an earlier one
  stays : (q : ℕ) → is_before c (slice_get comps.of q) ≡ true → rows_of new.sizes.rows q ≡ below q
  stays q before = from (slice_get comps.of q) refl
    where
      from : (o : Option ℕ) → slice_get comps.of q ≡ o → rows_of new.sizes.rows q ≡ below q
      from None e = let f : is_before c (slice_get comps.of q) ≡ false = ap (is_before c) e in absurd (cc)
      from (Some d) e =
          let t : nat_lt d c ≡ true = sym (ap (is_before c) e) ∙ before in
          let lt : d < c = grind (arith, nat_tests) in
          let left : rows_in new q ≡ rows_in old q =
          ap (λ (f : ℕ → List (List ℤ)). f q) run.rows ∙ passes_leave q (rows_in old) (clauses_of p comps c) run.passes (not_head p comps prog are c c q (d, lt, e) (omega arith)) in
          left ∙ ap (λ (f : ℕ → List (List ℤ)). f q) rows ∙ ap (λ (b : Bool). if b then below q else start_rows systems p q) before

  part : IsPartOf speaks systems p comps c below made
  part = record {
    sizes = state.sizes;
    count = state.proofs;
    others = stays;
    passes = run.passes;
    steps_are = ap (map plain_step) (run.steps_are ∙ ap (λ xs. xs ++ run.steps) none) ∙ run.by_pass;
    run = record {
      legal = subst (λ (f : ℕ → List (List ℤ)). ArePasses speaks systems 1 f (clauses_of p comps c) run.passes) rows run.legal;
      last_are = λ q i. ap (λ (f : ℕ → List (List ℤ)). f q) (run.rows ∙ ap (λ (f : ℕ → List (List ℤ)). after_passes f (clauses_of p comps c) run.passes) rows);
    };
    proved = λ k i by at. run.proved k i by at;
    fits = λ q i. listed_fit width listed speaks systems p comps prog are lawful spoken fit (own_from comps c) new state q (mine q i);
  }

  pub part_of : (chain : Chain) → chain.sizes.rows ≡ new.sizes.rows → chain.sizes.proofs ≡ new.proofs.items → chain.steps ≡ new.steps → IsPartOf speaks systems p comps c below chain
  part_of chain a b e = subst (IsPartOf speaks systems p comps c below) (λ i. record { steps = sym e i; sizes = record { rows = sym a i; proofs = sym b i } }) part
