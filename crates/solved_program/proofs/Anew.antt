-- One more component, solved above the rows so far.
use Rattle.std.proofs.Common.{◌≡◌, ℕ, zero, suc, ◌+◌, ◌-◌, ◌<◌, ◌≤◌, nat_lt, ℤ, Bool, true, false, inl, inr, List, [], ◌∷◌, ◌++◌, length, map, slice_get, Option, None, Some, refl, ap, sym, subst, ◌∙◌, arith}
use Rattle.std.specs.Prelude.{All}
use Rattle.std.specs.List.{AllByRecursion}
use Rattle.std.proofs.lemmas.Bool.{cases_eq}
use Rattle.std.proofs.lemmas.List.Elements.{All-from_recursion}
use Rattle.std.proofs.lemmas.Bool.Decides.{nat_tests}
use Rattle.call_components.specs.Numbers.{number_of}
use Rattle.call_components.specs.Partition.{Partition, AreComponents, IsIn}
use Rattle.call_components.proofs.Lists.{contains_has, has_contains}
use Rattle.cti_terms.specs.Listing.{Listing, IsProgram}
use Rattle.cti_terms.specs.Tree.{Tree}
use Rattle.cti_terms.specs.declared.clauses.Clause.{Clause}
use Rattle.cti_terms.specs.declared.predicates.PredId.{PredId}
use Rattle.linear_rows.specs.Members.{In}
use Rattle.linear_rows.specs.Plain.{HaveWidth}
use Rattle.linear_rows.specs.declared.multipliers.Multipliers.{Multipliers}
use Rattle.linear_rows.specs.declared.row.Rows.{Rows}
use Rattle.linear_rows.proofs.Members.{in-flat_map, in-map, of-flat_map, to_All}
use Rattle.termination_model.specs.chains.Runs.{is_before}
use Rattle.component_clauses.specs.Numbered.{paired, with_clause, with_clauses}
use Rattle.numeric_model.specs.declared.step.Step.{Step}
use Rattle.termination_model.specs.chains.Chain.{clauses_of, component_of}
use Rattle.termination_model.specs.grounds.Grounds.{HasArity}
use Rattle.termination_model.specs.sizes.Sizes.{AreSizes, plain_or_none, rows_of}
use Rattle.termination_model.proofs.Lists.{mapped_place, place_below}
use Rattle.solved_program.specs.Carried.{AreLaterCarried}
use Rattle.solved_program.specs.Marks.{AreMarked}
use Rattle.solved_program.specs.Resolving.{AreResolvedTo, AreSources, IsSolvedAnew, Stands}
use Rattle.solved_program.specs.declared.resolving.Sources.{Sources}
use Rattle.solved_program.specs.Solved.{AreSolvedTo, IsPartAt}
use Rattle.solved_program.specs.Standing.{KeepValuesTo}
use Rattle.solved_program.specs.Taken.{AreTaken, is_among, place_of}
use Rattle.solved_program.specs.declared.solved_sizes.SolvedSizes.{SolvedSizes}
use Rattle.solved_program.proofs.Clauses.{Numbered, own_at, own_component}
use Rattle.solved_program.proofs.MemberMarks.{marked_more}
use Rattle.solved_program.proofs.Parts.{part_moved}
use Rattle.solved_program.proofs.Resolved.{last_or_before, one_longer}
use Rattle.solved_program.proofs.Stands.{stands_same}
use Rattle.solved_program.proofs.Tables.{among_of, at_other, at_taken, of_among}

-- ---- numbers of own clauses
place_in : {X : Type 0} (xs : List X) (x : X) → In x xs → (i : ℕ) × (slice_get xs i ≡ Some x)
place_in [] x i = absurd i
place_in (y ∷ xs) x (inl is) = (0, ap Some is)
place_in (y ∷ xs) x (inr i) = let m = place_in xs x i in (suc m.0, m.1)

unmapped : (xs : List ℕ) (i y : ℕ) → slice_get (map place_of xs) i ≡ Some y → (k : ℕ) × In k xs × (k - 1 ≡ y)
unmapped [] i y e = cc
unmapped (x ∷ xs) zero y e = (x, inl refl, cc)
unmapped (x ∷ xs) (suc i) y e = let m = unmapped xs i y e in (m.0, inr m.1, m.2)

own_number : (clauses : List Clause) (own : List ℕ) (k : Numbered) → In k (with_clauses clauses own) → In k.0 own
own_number clauses own k i =
    let f = of-flat_map (with_clause clauses) own k i in
    subst (λ (n : ℕ). In n own) (go f.0 (slice_get clauses (f.0 - 1)) f.2) f.1
  where
    go : (n : ℕ) (o : Option Clause) → In k (paired n o) → n ≡ k.0
    go n None j = absurd j
    go n (Some x) (inl is) = ap (λ (y : Numbered). y.0) is
    go n (Some x) (inr j) = absurd j

-- the places of own clauses are those of the list
pub among_own : (clauses : List Clause) (own : List ℕ) (k : Numbered) → In k (with_clauses clauses own) → is_among (map place_of own) (k.0 - 1) ≡ true
among_own clauses own k i = let at = place_in own k.0 (own_number clauses own k i) in among_of (map place_of own) at.0 (k.0 - 1) (mapped_place place_of own at.0 k.0 at.1)

pub not_own : (clauses : List Clause) (own : List ℕ) (j : ℕ) (x : Clause) → slice_get clauses j ≡ Some x → ((k : Numbered) → In k (with_clauses clauses own) → k.1 ≡ x → ⊥) → is_among (map place_of own) j ≡ false
not_own clauses own j x at never = go (is_among (map place_of own) j) refl
  where
    go : (b : Bool) → is_among (map place_of own) j ≡ b → b ≡ false
    go false e = refl
    go true e =
        let m = of_among (map place_of own) j e in
        let k = unmapped own m.0 j m.1 in
        let there : slice_get clauses (k.0 - 1) ≡ Some x = ap (slice_get clauses) k.2 ∙ at in
        let here : In (k.0, x) (with_clauses clauses own) = in-flat_map (with_clause clauses) own k.0 (k.0, x) k.1 (subst (λ (o : Option Clause). In (k.0, x) (paired k.0 o)) (sym there) (inl refl)) in
        absurd (never (k.0, x) here refl)

module _ (speaks : List ℤ → Bool) (expression : ℕ → Tree → List ℤ) (p : Listing) (comps : Partition) (prog : IsProgram p) (are : AreComponents p comps) (c : ℕ) (members own : List ℕ)
    (own_is : with_clauses p.clauses own ≡ clauses_of p comps c) (old now : SolvedSizes) (to : AreSolvedTo speaks expression p comps c old) (is : IsSolvedAnew speaks expression p comps c members own old now) where
  -- ---- members
  among_member : (q : ℕ) → IsIn comps c q → is_among members q ≡ true
  among_member q i = let at = contains_has members q ((are.members c members is.members_are q).1 i) in among_of members at.0 q at.1

  member_among : (q : ℕ) → is_among members q ≡ true → IsIn comps c q
  member_among q e = let at = of_among members q e in (are.members c members is.members_are q).0 (has_contains members q at)

  not_member : (q : ℕ) → (IsIn comps c q → ⊥) → is_among members q ≡ false
  not_member q never = go (is_among members q) refl
    where
      go : (b : Bool) → is_among members q ≡ b → b ≡ false
      go true e = absurd (never (member_among q e))
      go false e = refl

  rows_taken : (q : ℕ) → IsIn comps c q → rows_of now.sizes.rows q ≡ rows_of is.chain.sizes.rows q
  rows_taken q i = ap plain_or_none (at_taken members is.chain.sizes.rows old.sizes.rows now.sizes.rows q is.taken.rows (among_member q i))

  pub rows_kept : (q : ℕ) → (IsIn comps c q → ⊥) → rows_of now.sizes.rows q ≡ rows_of old.sizes.rows q
  rows_kept q never = ap plain_or_none (at_other members is.chain.sizes.rows old.sizes.rows now.sizes.rows q is.taken.rows (not_member q never))

  elsewhere : (q e : ℕ) → component_of comps q ≡ Some e → (e ≡ c → ⊥) → IsIn comps c q → ⊥
  elsewhere q e at ne i = let same : e ≡ c = cc in ne same

  earlier : (q : ℕ) (o : Option ℕ) → component_of comps q ≡ o → is_before c o ≡ true → IsIn comps c q → ⊥
  earlier q None at e i = cc
  earlier q (Some d) at e i = elsewhere q d at (λ same. absurd (not_less d c e same)) i
    where
      not_less : (n m : ℕ) → nat_lt n m ≡ true → n ≡ m → ⊥
      not_less n m t s = absurd (omega (arith, less))
        where
          less : n < m
          less = grind (arith, nat_tests)

  -- ---- the tables
  sizes : AreSizes p.preds now.sizes.rows
  sizes = record { each = is.taken.each ∙ to.rows.each; width = λ q r at. go q r at (is_among members q) refl }
    where
      go : (q : ℕ) (r : Rows) → slice_get now.sizes.rows q ≡ Some r → (b : Bool) → is_among members q ≡ b → HasArity p.preds q r.width × HaveWidth r.width r.list
      go q r at true e = is.part.sizes.width q r (sym (at_taken members is.chain.sizes.rows old.sizes.rows now.sizes.rows q is.taken.rows e) ∙ at)
      go q r at false e = to.rows.width q r (sym (at_other members is.chain.sizes.rows old.sizes.rows now.sizes.rows q is.taken.rows e) ∙ at)

  count : length now.sizes.proofs ≡ length p.clauses
  count = is.taken.count ∙ to.proofs

  proofs_taken : (k : Numbered) → In k (clauses_of p comps c) → slice_get now.sizes.proofs (k.0 - 1) ≡ slice_get is.chain.sizes.proofs (k.0 - 1)
  proofs_taken k i = at_taken (map place_of own) is.chain.sizes.proofs old.sizes.proofs now.sizes.proofs (k.0 - 1) is.taken.proofs (among_own p.clauses own k (subst (λ (xs : List Numbered). In k xs) (sym own_is) i))

  pub proofs_kept : (j e : ℕ) (x : Clause) → slice_get p.clauses j ≡ Some x → IsIn comps e x.head.pred.0 → (e ≡ c → ⊥) → slice_get now.sizes.proofs j ≡ slice_get old.sizes.proofs j
  proofs_kept j e x at in_e ne = at_other (map place_of own) is.chain.sizes.proofs old.sizes.proofs now.sizes.proofs j is.taken.proofs (not_own p.clauses own j x at never)
    where
      never : (k : Numbered) → In k (with_clauses p.clauses own) → k.1 ≡ x → ⊥
      never k i same =
          let mine = own_component p comps prog are c k (subst (λ (xs : List Numbered). In k xs) own_is i) in
          elsewhere x.head.pred.0 e in_e ne (ap (λ (y : Clause). component_of comps y.head.pred.0) (sym same) ∙ mine)

  -- ---- the parts
  abbrev made : List (List Step) → SolvedSizes
  made steps = record { steps = steps; sizes = now.sizes }

  part : IsPartAt speaks expression p comps now c is.chain.steps
  part = part_moved speaks expression p comps prog are c (rows_of old.sizes.rows) is.chain is.part (rows_of now.sizes.rows) now.sizes sizes count (λ q e. refl)
      (λ q e. rows_kept q (earlier q (component_of comps q) refl e)) same proofs_taken
    where
      same : (q e : ℕ) → component_of comps q ≡ Some e → e ≤ c → rows_of now.sizes.rows q ≡ rows_of is.chain.sizes.rows q
      same q e at le = elim (cases_eq e c) [
        | inl is_c ↦ rows_taken q (at ∙ ap Some is_c)
        | inr ne ↦
            let lt : e < c = omega arith in
            let before : is_before c (component_of comps q) ≡ true = ap (is_before c) at ∙ less e c lt in
            rows_kept q (elsewhere q e at ne) ∙ sym (is.part.others q before)
      ]
        where
          less : (n m : ℕ) → n < m → nat_lt n m ≡ true
          less n m l = grind (arith, nat_tests)

  other : (e : ℕ) (x : List Step) → e < c → IsPartAt speaks expression p comps old e x → IsPartAt speaks expression p comps now e x
  other e x lt h = part_moved speaks expression p comps prog are e (rows_of old.sizes.rows) (record { steps = x; sizes = old.sizes }) h (rows_of now.sizes.rows) now.sizes sizes count (λ q b. refl)
      (λ q b. rows_kept q (before q (component_of comps q) refl b)) (λ q d at le. rows_kept q (elsewhere q d at (λ same. absurd (omega arith))))
      (λ k i. proofs_kept (k.0 - 1) e k.1 (own_at p comps prog are e k i) (own_component p comps prog are e k i) (λ same. absurd (omega arith)))
    where
      before : (q : ℕ) (o : Option ℕ) → component_of comps q ≡ o → is_before e o ≡ true → IsIn comps c q → ⊥
      before q None at b i = cc
      before q (Some d) at b i = elsewhere q d at (λ same. absurd (omega (arith, less d e b))) i
        where
          less : (n m : ℕ) → nat_lt n m ≡ true → n < m
          less n m t = grind (arith, nat_tests)

  parts : (e : ℕ) (x : List Step) → slice_get (old.steps ++ is.chain.steps ∷ []) e ≡ Some x → IsPartAt speaks expression p comps now e x
  parts e x at = elim (last_or_before old.steps is.chain.steps e x at) [
    | inl h ↦ other e x (let l = h.0 in let n = to.each in omega arith) (to.parts e x h.1)
    | inr h ↦
        let at_c : c ≡ e = sym to.each ∙ sym h.0 in
        subst (λ (n : ℕ). IsPartAt speaks expression p comps now n x) at_c (subst (IsPartAt speaks expression p comps now c) h.1 part)
  ]

  pub one_solved : AreSolvedTo speaks expression p comps (c + 1) now
  one_solved = record {
    rows = sizes;
    proofs = count;
    each = ap length is.taken.steps ∙ one_longer old.steps is.chain.steps ∙ ap (λ (n : ℕ). n + 1) to.each;
    parts = λ e x at. parts e x (ap (λ (xs : List (List Step)). slice_get xs e) (sym is.taken.steps) ∙ at);
  }

  -- what comes later is as it was
  pub later_kept : (before : Listing) (kept : List (Option ℕ)) (rows : List Rows) (proofs : List (List Multipliers)) → AreLaterCarried before p comps kept rows proofs c old.sizes.rows old.sizes.proofs
      → AreLaterCarried before p comps kept rows proofs (c + 1) now.sizes.rows now.sizes.proofs
  later_kept before kept rows proofs h = record {
    rows_are = λ q r e x here there i le. rows_kept r (elsewhere r e i (λ same. absurd (omega arith))) ∙ h.rows_are q r e x here there i (omega arith);
    proofs_are = λ i j e k by at in_e le is_kept there. h.proofs_are i j e k by at in_e (omega arith) is_kept (sym (proofs_kept i e k at in_e (λ same. absurd (omega arith))) ∙ there);
  }

-- one more component of an edited program, which stands for no old one
module _ (speaks : List ℤ → Bool) (expression : ℕ → Tree → List ℤ) (s : Sources) (sources : AreSources s) (prog : IsProgram s.edit.now.after.now) (c : ℕ) (members own : List ℕ) (at : slice_get s.own.now c ≡ Some own) (old now : SolvedSizes)
    (marks more : List Bool) (to : AreResolvedTo speaks expression s c old marks) (none : (b : ℕ) → Stands s old.sizes.rows b c → ⊥) (is : IsSolvedAnew speaks expression s.edit.now.after.now s.edit.now.components.now c members own old now)
    (marked : AreMarked s.edit.now.components.now c (λ r. rows_of now.sizes.rows r ≡ rows_of old.sizes.rows r) marks more) where
  abbrev new : Listing
  new = s.edit.now.after.now

  abbrev comps : Partition
  comps = s.edit.now.components.now

  own_is : with_clauses new.clauses own ≡ clauses_of new comps c
  own_is = sources.own.clauses c own at

  kept_row : (q : ℕ) → (IsIn comps c q → ⊥) → rows_of now.sizes.rows q ≡ rows_of old.sizes.rows q
  kept_row = rows_kept speaks expression new comps prog sources.edit.components c members own own_is old now to.solved is

  outside : (q e : ℕ) → IsIn comps e q → (e ≡ c → ⊥) → IsIn comps c q → ⊥
  outside q e i ne j = let same : e ≡ c = cc in ne same

  -- what stands now stood before this component was solved
  stood : (b e : ℕ) → e < c + 1 → Stands s now.sizes.rows b e → Stands s old.sizes.rows b e
  stood b e lt h =
      stands_same s.edit.now.before.now new s.edit.now.components_before.now comps prog sources.edit.components s.edit.now.kept.now b e (rows_of s.old.now.sizes.rows) (rows_of now.sizes.rows) (rows_of old.sizes.rows)
      (λ r d i less. sym (kept_row r (outside r d i (λ same. absurd (omega arith))))) h

  stayed : KeepValuesTo s.edit.now (c + 1) (rows_of s.old.now.sizes.rows) (rows_of now.sizes.rows)
  stayed b e lt h q r x here there' i = elim (cases_eq e c) [
    | inl same ↦ absurd (none b (subst (Stands s old.sizes.rows b) same (stood b e lt h)))
    | inr ne ↦ kept_row r (outside r e i ne) ∙ to.stayed b e (omega arith) (stood b e lt h) q r x here there' i
  ]

  pub one_resolved : AreResolvedTo speaks expression s (c + 1) now more
  one_resolved = record {
    solved = one_solved speaks expression new comps prog sources.edit.components c members own own_is old now to.solved is;
    marked = marked_more s.edit.now c (rows_of s.old.now.sizes.rows) (rows_of old.sizes.rows) (rows_of now.sizes.rows) marks more (λ r. rows_of now.sizes.rows r ≡ rows_of old.sizes.rows r) to.marked marked kept_row
        (λ q r x here there i. (λ same. same ∙ to.later.rows_are q r c x here there i (omega arith), λ same. same ∙ sym (to.later.rows_are q r c x here there i (omega arith))));
    stayed = stayed;
    later = later_kept speaks expression new comps prog sources.edit.components c members own own_is old now to.solved is s.edit.now.before.now s.edit.now.kept.now s.old.now.sizes.rows s.old.now.sizes.proofs to.later;
  }

-- rows of members that are taken from a table are those of that table
pub taken_rows : (p : Listing) (comps : Partition) → AreComponents p comps → (c : ℕ) (members : List ℕ) → slice_get comps.members c ≡ Some members → (from old new : List Rows) → AreTaken members from old new
    → (r : ℕ) → IsIn comps c r → rows_of new r ≡ rows_of from r
taken_rows p cs are c members at from old new taken r i =
    let place = contains_has members r ((are.members c members at r).1 i) in
    ap plain_or_none (at_taken members from old new r taken (among_of members place.0 r place.1))

-- where the taken rows are marked, the rows in their places are
pub taken_marked : (p : Listing) (comps : Partition) → AreComponents p comps → (c : ℕ) (members : List ℕ) → slice_get comps.members c ≡ Some members → (from old new : List Rows) → AreTaken members from old new
    → (marks more : List Bool) → AreMarked comps c (λ r. rows_of from r ≡ rows_of old r) marks more → AreMarked comps c (λ r. rows_of new r ≡ rows_of old r) marks more
taken_marked p cs are c members at from old new taken marks more is = record {
  each = is.each;
  members = λ r i.
      let m = is.members r i in
      let same = taken_rows p cs are c members at from old new taken r i in
      (λ t. same ∙ m.0 t, λ h. m.1 (sym same ∙ h));
  others = is.others;
}

-- members are predicates of a table for the whole program
pub members_below : (p : Listing) (comps : Partition) → AreComponents p comps → (c : ℕ) (members : List PredId) (rows : List Rows) → slice_get comps.members c ≡ Some (map number_of members) → length rows ≡ length p.preds
    → All (λ q. q.0 < length rows) members
members_below p comps are c members rows at long = to_All (λ (q : PredId). q.0 < length rows) members one
  where
    one : (q : PredId) → In q members → q.0 < length rows
    one q i =
        let place = place_in (map number_of members) q.0 (in-map number_of members q i) in
        let in_c = (are.members c (map number_of members) at q.0).0 (has_contains (map number_of members) q.0 place) in
        let lt = place_below comps.of q.0 c in_c in
        let each = are.each in
        omega arith

pub numbers_below : (own : List ℕ) (n m : ℕ) → m ≡ n → AllByRecursion (λ k. (1 ≤ k) × (k ≤ n)) own → All (λ k. (1 ≤ k) × (k ≤ m)) own
numbers_below own n m same h = subst (λ (x : ℕ). All (λ k. (1 ≤ k) × (k ≤ x)) own) (sym same) (All-from_recursion (λ k. (1 ≤ k) × (k ≤ n)) own h)
