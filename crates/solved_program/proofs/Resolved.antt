-- One more component, taken over.
use Rattle.std.proofs.Common.{◌≡◌, ℕ, zero, suc, ◌+◌, ◌-◌, ◌<◌, ◌≤◌, ℤ, Bool, inl, inr, ◌⊎◌, List, [], ◌∷◌, ◌++◌, length, slice_get, slice_index_or, Option, None, Some, Result, Ok, Err, OnOk, refl, ap, sym, subst, ◌∙◌, arith}
use Rattle.std.proofs.lemmas.Bool.{cases_eq}
use Rattle.std.specs.List.{AllByRecursion}
use Rattle.call_components.specs.Partition.{Partition}
use Rattle.cti_terms.specs.Listing.{Listing, IsProgram}
use Rattle.cti_terms.specs.Tree.{Tree}
use Rattle.cti_terms.specs.declared.clauses.Clause.{Clause}
use Rattle.cti_terms.specs.declared.predicates.Pred.{Pred}
use Rattle.linear_rows.specs.Members.{In}
use Rattle.linear_rows.specs.declared.multipliers.Multipliers.{Multipliers}
use Rattle.linear_rows.specs.declared.row.Rows.{Rows}
use Rattle.component_clauses.specs.Numbered.{with_clauses, paired}
use Rattle.numeric_model.specs.declared.step.Step.{Step}
use Rattle.termination_model.specs.chains.Chain.{clauses_of}
use Rattle.termination_model.specs.sizes.Sizes.{AreSizes, plain_or_none, rows_of}
use Rattle.termination_model.proofs.Lists.{place_below, there}
use Rattle.solved_program.specs.Carried.{AreCarriedProofs, AreCarriedRows}
use Rattle.solved_program.specs.Marks.{Always, AreMarked}
use Rattle.solved_program.specs.Resolving.{AreResolvedTo, AreSources, IsCarriedPart}
use Rattle.solved_program.specs.Solved.{AreSolved, IsPartAt}
use Rattle.solved_program.specs.Standing.{StandsFor}
use Rattle.solved_program.specs.declared.resolving.Sources.{Sources}
use Rattle.solved_program.specs.declared.solved_sizes.SolvedSizes.{SolvedSizes}
use Rattle.solved_program.proofs.CarriedParts.{part_carried}
use Rattle.solved_program.proofs.Clauses.{Numbered, own_at, own_component}
use Rattle.solved_program.proofs.MemberMarks.{marked_more}

-- ---- one more at the end
pub last_or_before : {X : Type 0} (xs : List X) (x : X) (i : ℕ) (y : X) → slice_get (xs ++ x ∷ []) i ≡ Some y → ((i < length xs) × (slice_get xs i ≡ Some y)) ⊎ ((i ≡ length xs) × (x ≡ y))
last_or_before [] x zero y e = inr (refl, cc)
last_or_before [] x (suc i) y e = cc
last_or_before (z ∷ xs) x zero y e = inl (omega arith, e)
last_or_before (z ∷ xs) x (suc i) y e = elim (last_or_before xs x i y e) [
  | inl h ↦ inl ((let l = h.0 in omega arith), h.1)
  | inr h ↦ inr (ap suc h.0, h.1)
]

-- what holds of each of them holds of all, where one is put last of which it holds
pub each_more : {X : Type 0} (P : ℕ → X → Type 0) (xs : List X) (y : X) → ((i : ℕ) (x : X) → slice_get xs i ≡ Some x → P i x) → P (length xs) y → (i : ℕ) (x : X) → slice_get (xs ++ y ∷ []) i ≡ Some x → P i x
each_more P xs y all one i x at = elim (last_or_before xs y i x at) [
  | inl before ↦ all i x before.1
  | inr last ↦ subst (λ (n : ℕ). P n x) (sym last.0) (subst (P (length xs)) last.1 one)
]

pub one_longer : {X : Type 0} (xs : List X) (x : X) → length (xs ++ x ∷ []) ≡ length xs + 1
one_longer [] x = refl
one_longer (y ∷ xs) x = let e = one_longer xs x in omega arith

-- ---- numbers of own clauses
numbers_at : (clauses : List Clause) (own : List ℕ) → AllByRecursion (λ k. (1 ≤ k) × (k ≤ length clauses)) own → (i : ℕ) (l : Numbered) → slice_get (with_clauses clauses own) i ≡ Some l → slice_index_or own i 0 ≡ l.0
numbers_at clauses [] h i l e = cc
numbers_at clauses (k ∷ own) h i l e = go (slice_get clauses (k - 1)) refl (λ j f. numbers_at clauses own h.1 j l f)
  where
    at_first : (x : Clause) (i : ℕ) → ((j : ℕ) → slice_get (with_clauses clauses own) j ≡ Some l → slice_index_or own j 0 ≡ l.0) → slice_get ((k, x) ∷ with_clauses clauses own) i ≡ Some l → slice_index_or (k ∷ own) i 0 ≡ l.0
    at_first x zero more f = let is : (k, x) ≡ l = cc in ap (λ (y : Numbered). y.0) is
    at_first x (suc i) more f = more i f

    go : (o : Option Clause) → slice_get clauses (k - 1) ≡ o → ((j : ℕ) → slice_get (with_clauses clauses own) j ≡ Some l → slice_index_or own j 0 ≡ l.0) → slice_index_or (k ∷ own) i 0 ≡ l.0
    go None f more = absurd (missing f)
      where
        missing : slice_get clauses (k - 1) ≡ None → ⊥
        missing f =
            let lt : k - 1 < length clauses = (let a = h.0.0 in let b = h.0.1 in omega arith) in
            let some = there clauses (k - 1) (record { head = record { pred = record { 0 = 0 }; args = [] }; body = []; vars = 0 }) lt in
            cc
    go (Some x) f more = at_first x i more (ap (λ (o : Option Clause). slice_get (paired k o ++ with_clauses clauses own) i) (sym f) ∙ e)

as_many : (clauses : List Clause) (own : List ℕ) → AllByRecursion (λ k. (1 ≤ k) × (k ≤ length clauses)) own → length (with_clauses clauses own) ≡ length own
as_many clauses [] h = refl
as_many clauses (k ∷ own) h =
    let lt : k - 1 < length clauses = (let a = h.0.0 in let b = h.0.1 in omega arith) in
    let some = there clauses (k - 1) (record { head = record { pred = record { 0 = 0 }; args = [] }; body = []; vars = 0 }) lt in
    ap (λ (o : Option Clause). length (paired k o ++ with_clauses clauses own)) some ∙ ap suc (as_many clauses own h.1)

first_of : (xs : List Numbered) → (xs ≡ [] → ⊥) → (x : Numbered) × In x xs
first_of [] h = absurd (h refl)
first_of (x ∷ xs) h = (x, inl refl)

module _ (speaks : List ℤ → Bool) (expression : ℕ → Tree → List ℤ) (s : Sources) (sources : AreSources s) (prog : IsProgram s.edit.now.before.now) (new_prog : IsProgram s.edit.now.after.now) where
  abbrev p : Listing
  p = s.edit.now.before.now

  abbrev new : Listing
  new = s.edit.now.after.now

  abbrev comps : Partition
  comps = s.edit.now.components_before.now

  abbrev new_comps : Partition
  new_comps = s.edit.now.components.now

  module _ (solved_before : AreSolved speaks expression p comps s.old.now) (c : ℕ) (old now : SolvedSizes) (marks more : List Bool) (to : AreResolvedTo speaks expression s c old marks) (before : ℕ)
      (stands : StandsFor comps new_comps before c (rows_of s.old.now.sizes.rows) (rows_of old.sizes.rows) p new s.edit.now.kept.now)
      (steps : List Step) (at_steps : slice_get s.old.now.steps before ≡ Some steps) (own : List ℕ) (at_own : slice_get s.own.now c ≡ Some own) (carried : IsCarriedPart steps own old now) (marked : AreMarked new_comps c Always marks more) where
    own_is : with_clauses new.clauses own ≡ clauses_of new new_comps c
    own_is = sources.own.clauses c own at_own

    within : AllByRecursion (λ k. (1 ≤ k) × (k ≤ length new.clauses)) own
    within = sources.own.within c own at_own

    count : length (clauses_of new new_comps c) ≡ length own
    count = ap length (sym own_is) ∙ as_many new.clauses own within

    numbers : (i : ℕ) (l : Numbered) → slice_get (clauses_of new new_comps c) i ≡ Some l → slice_index_or own i 0 ≡ l.0
    numbers i l e = numbers_at new.clauses own within i l (ap (λ (xs : List Numbered). slice_get xs i) own_is ∙ e)

    proofs : (k l : Numbered) (by : List Multipliers) → In k (clauses_of p comps before) → In l (clauses_of new new_comps c) → slice_get s.edit.now.kept.now (l.0 - 1) ≡ Some (Some k.0)
        → slice_get old.sizes.proofs (l.0 - 1) ≡ Some by → slice_get s.old.now.sizes.proofs (k.0 - 1) ≡ Some by
    proofs k l by i j kept at =
        to.later.proofs_are (l.0 - 1) k.0 c l.1 by (own_at new new_comps new_prog sources.edit.components c l j) (own_component new new_comps new_prog sources.edit.components c l j) (omega arith) kept at

    part : IsPartAt speaks expression new new_comps old c carried.carried
    part =
        let first = first_of (clauses_of new new_comps c) stands.some in
        part_carried p new comps new_comps prog new_prog sources.edit.components_before sources.edit.components s.edit.now.kept.now sources.edit.kept before c (rows_of s.old.now.sizes.rows) (rows_of old.sizes.rows) stands
        (λ q r x here there i. to.later.rows_are q r c x here there i (omega arith)) speaks expression steps s.old.now.sizes refl (solved_before.parts before steps at_steps) own carried.carried old.sizes to.solved.rows to.solved.proofs refl first.0 first.1 count numbers carried.plain proofs

    parts : (e : ℕ) (x : List Step) → slice_get (old.steps ++ carried.carried ∷ []) e ≡ Some x → IsPartAt speaks expression new new_comps old e x
    parts e x at = elim (last_or_before old.steps carried.carried e x at) [
      | inl h ↦ to.solved.parts e x h.1
      | inr h ↦
          let is : c ≡ e = sym to.solved.each ∙ sym h.0 in
          subst (λ (n : ℕ). IsPartAt speaks expression new new_comps old n x) is (subst (IsPartAt speaks expression new new_comps old c) h.1 part)
    ]

    abbrev made : SolvedSizes
    made = record { steps = old.steps ++ carried.carried ∷ []; sizes = old.sizes }

    made_to : AreResolvedTo speaks expression s (c + 1) made more
    made_to = record {
      solved = record {
        rows = to.solved.rows;
        proofs = to.solved.proofs;
        each = one_longer old.steps carried.carried ∙ ap (λ (n : ℕ). n + 1) to.solved.each;
        parts = parts;
      };
      marked = marked_more s.edit.now c (rows_of s.old.now.sizes.rows) (rows_of old.sizes.rows) (rows_of old.sizes.rows) marks more Always to.marked marked (λ r off. refl)
          (λ q r x here there i. (λ any. to.later.rows_are q r c x here there i (omega arith), λ same. tt));
      stayed = λ b e lt is q r x here there i. elim (cases_eq e c) [
        | inl same ↦ to.later.rows_are q r e x here there i (omega arith)
        | inr ne ↦ to.stayed b e (omega arith) is q r x here there i
      ];
      later = record {
        rows_are = λ q r e x here there i le. to.later.rows_are q r e x here there i (omega arith);
        proofs_are = λ i j e k by at in_e le kept there. to.later.proofs_are i j e k by at in_e (omega arith) kept there;
      };
    }

    pub one_carried : AreResolvedTo speaks expression s (c + 1) now more
    one_carried = subst (λ (x : SolvedSizes). AreResolvedTo speaks expression s (c + 1) x more) (λ i. record { steps = sym carried.steps_are i; sizes = sym carried.sizes i }) made_to

-- ---- nothing is solved yet
pub none_resolved : (speaks : List ℤ → Bool) (expression : ℕ → Tree → List ℤ) (s : Sources) (begun : SolvedSizes) (marks : List Bool) → length marks ≡ length s.edit.now.after.now.preds → AreSizes s.edit.now.after.now.preds begun.sizes.rows → length begun.sizes.proofs ≡ length s.edit.now.after.now.clauses
    → AreCarriedRows s.edit.now.before.now.preds s.edit.now.after.now.preds s.old.now.sizes.rows begun.sizes.rows → AreCarriedProofs s.edit.now.kept.now s.old.now.sizes.proofs begun.sizes.proofs → begun.steps ≡ []
    → AreResolvedTo speaks expression s 0 begun marks
none_resolved speaks expression s begun marks each rows count carried proofs none = record {
  solved = record {
    rows = rows;
    proofs = count;
    each = ap length none;
    parts = λ e x at. absurd (empty e x (ap (λ (xs : List (List Step)). slice_get xs e) (sym none) ∙ at));
  };
  marked = record { each = each; exact = λ q r d x here there i lt. absurd (omega arith) };
  stayed = λ b e lt is q r x here there i. absurd (omega arith);
  later = record {
    rows_are = λ q r e x here there i le. go q r x here there (slice_get begun.sizes.rows r) refl;
    proofs_are = λ i j e k by at in_e le kept there. proofs i j by kept there;
  };
}
  where
    empty : (e : ℕ) (x : List Step) → slice_get [] e ≡ Some x → ⊥
    empty e x at = cc

    go : (q r : ℕ) (x : Pred) → slice_get s.edit.now.before.now.preds q ≡ Some x → slice_get s.edit.now.after.now.preds r ≡ Some x → (o : Option Rows) → slice_get begun.sizes.rows r ≡ o → rows_of begun.sizes.rows r ≡ rows_of s.old.now.sizes.rows q
    go q r x here at None e =
        let lt = place_below s.edit.now.after.now.preds r x at in
        let each = rows.each in
        let some = there begun.sizes.rows r (record { width = 0; list = [] }) (omega arith) in
        absurd (cc)
    go q r x here at (Some own) e = ap plain_or_none e ∙ (carried r own e).same q x here at

-- a component with clauses has numbers of clauses
pub some_own : (p : Listing) (comps : Partition) (c : ℕ) (own : List ℕ) → with_clauses p.clauses own ≡ clauses_of p comps c → (clauses_of p comps c ≡ [] → ⊥) → 0 < length own
some_own p comps c [] is some = absurd (some (sym is))
some_own p comps c (k ∷ own) is some = omega arith

-- ---- results
pub on_ok_is : {X E : Type 0} (r : Result X E) (P Q : Type 0) → (P → Q) → OnOk r P → OnOk r Q
on_ok_is (Ok x) P Q h i = h i
on_ok_is (Err e) P Q h i = i
