-- Removals by clauses with marks, while the table grows.
use Rattle.std.proofs.Common.{◌≡◌, ℕ, Bool, true, false, if◌then◌else◌, List, length, slice_get, Some, ap, sym, subst, ◌∙◌}
use Rattle.bool_diagrams.specs.declared.diagram.Diagram.{Diagram}
use Rattle.bool_diagrams.specs.Rows.{IsDiagram, Keeps}
use Rattle.bool_diagrams.specs.Tree.{Tree as Rows}
use Rattle.cti_terms.specs.declared.clauses.Clause.{Clause}
use Rattle.cti_terms.specs.declared.predicates.Pred.{Pred}
use Rattle.cti_terms.specs.Listing.{Listing}
use Rattle.cti_terms.specs.Tree.{Tree}
use Rattle.groundness.specs.Marks.{IsApart}
use Rattle.termination_model.specs.grounds.Grounds.{Family, HasArity, IsGround, IsInside, truth_row}
use Rattle.truth_rows.specs.Rules.{KeepsSets}
use Rattle.truth_rows.specs.Sets.{AreSets, family_of}
use Rattle.truth_rows.proofs.CallerLemmas.{family_later}
use Rattle.precond_fixpoint.specs.Greatest.{IsGreatestIn, RemovesOnlyBroken}
use Rattle.precond_fixpoint.specs.Removing.{AreCovering, Needed, UnmarkedKeep, all_present, is_ranked}
use Rattle.termination_model.proofs.Lists.{from_places}
use Rattle.truth_rows.proofs.SetLaws.{family_in}
use Rattle.precond_fixpoint.proofs.Searching.{searches}
use Rattle.precond_fixpoint.proofs.RemoveLaws.{all_present_kept}

-- a clause that does not call the predicate whose set shrank
pub still_keeps : (truth : (ℕ → Bool) → Tree → Bool) (old new allowed grounds : Family) (q : ℕ) → IsInside new old → ((r : ℕ) → ((r ≡ q) → ⊥) → new r ≡ old r) → (together : ℕ → Bool) (c : Clause) → IsApart c q
    → KeepsSets truth old allowed grounds together c → KeepsSets truth new allowed grounds together c
still_keeps truth old new allowed grounds q inside others together c apart h v head j b at before =
    moved (together b.pred.0) (h v (inside c.head.pred.0 (truth_row truth v c.head) head) j b at before)
  where
    moved : (t : Bool) → IsGround truth (if t then old else allowed) v b → IsGround truth (if t then new else allowed) v b
    moved true g = ap (λ (f : List Bool → Bool). f (truth_row truth v b)) (others b.pred.0 (apart j b at)) ∙ g
    moved false g = g

-- sets that stay keep in later tables what they kept
module _ (preds : List Pred) (T T2 : List Rows) (K : Keeps T T2) (sets : List Diagram) (known : (r : ℕ) (d : Diagram) → slice_get sets r ≡ Some d → IsDiagram T d) (sets' : List Diagram) (same : sets' ≡ sets) where
  pub keeps_later : (truth : (ℕ → Bool) → Tree → Bool) (allowed grounds : Family) (together : ℕ → Bool) (c : Clause) → KeepsSets truth (family_of preds T sets) allowed grounds together c
      → KeepsSets truth (family_of preds T2 sets') allowed grounds together c
  keeps_later truth allowed grounds together c h =
      subst (λ (xs : List Diagram). KeepsSets truth (family_of preds T2 xs) allowed grounds together c) (sym same)
      (subst (λ (f : Family). KeepsSets truth f allowed grounds together c) (sym (family_later preds T T2 K sets known)) h)

  pub present_same : all_present preds T2 sets' ≡ all_present preds T sets
  present_same = ap (all_present preds T2) same ∙ all_present_kept preds T T2 K sets known

module _ (truth : (ℕ → Bool) → Tree → Bool) (p : Listing) (ranks : List ℕ) (rank : ℕ) (T : List Rows) (grounds allowed : List Diagram) (GS : AreSets p.preds T grounds) (AS : AreSets p.preds T allowed)
    (T1 : List Rows) (K : Keeps T T1) where
  -- a step from later tables, after steps from the first
  pub needed_twice : (T2 : List Rows) (old mid new : List Diagram) → Needed truth p T T1 ranks rank grounds allowed old mid → Needed truth p T1 T2 ranks rank grounds allowed mid new
      → Needed truth p T T2 ranks rank grounds allowed old new
  needed_twice T2 old mid new first second coefficients other keeps inside =
      let s = subst (λ (f : Family). RemovesOnlyBroken truth p (is_ranked ranks rank) f (family_of p.preds T1 grounds) coefficients (family_of p.preds T1 mid) (family_of p.preds T2 new)) (family_later p.preds T T1 K allowed AS.known) (second coefficients) in
      let t = subst (λ (f : Family). RemovesOnlyBroken truth p (is_ranked ranks rank) (family_of p.preds T allowed) f coefficients (family_of p.preds T1 mid) (family_of p.preds T2 new)) (family_later p.preds T T1 K grounds GS.known) s in
      t other keeps (first coefficients other keeps inside)

  -- what clauses without marks keep, in the words of the later table, and of the first one
  pub kept_there : (marks : List Bool) (pre : Family) → UnmarkedKeep truth p ranks rank marks pre (family_of p.preds T allowed) (family_of p.preds T grounds)
      → UnmarkedKeep truth p ranks rank marks pre (family_of p.preds T1 allowed) (family_of p.preds T1 grounds)
  kept_there marks pre h =
      subst (λ (f : Family). UnmarkedKeep truth p ranks rank marks pre f (family_of p.preds T1 grounds)) (sym (family_later p.preds T T1 K allowed AS.known))
      (subst (λ (f : Family). UnmarkedKeep truth p ranks rank marks pre (family_of p.preds T allowed) f) (sym (family_later p.preds T T1 K grounds GS.known)) h)

  pub kept_first : (marks : List Bool) (pre : Family) → UnmarkedKeep truth p ranks rank marks pre (family_of p.preds T1 allowed) (family_of p.preds T1 grounds)
      → UnmarkedKeep truth p ranks rank marks pre (family_of p.preds T allowed) (family_of p.preds T grounds)
  kept_first marks pre h =
      subst (λ (f : Family). UnmarkedKeep truth p ranks rank marks pre f (family_of p.preds T grounds)) (family_later p.preds T T1 K allowed AS.known)
      (subst (λ (f : Family). UnmarkedKeep truth p ranks rank marks pre (family_of p.preds T1 allowed) f) (family_later p.preds T T1 K grounds GS.known) h)

  -- where the sets keep the rule they are the greatest
  pub greatest_there : (old sets : List Diagram) → Needed truth p T T1 ranks rank grounds allowed old sets → IsInside (family_of p.preds T1 sets) (family_of p.preds T old)
      → ((j : ℕ) (c : Clause) → slice_get p.clauses j ≡ Some c → is_ranked ranks rank c.head.pred.0 ≡ true → KeepsSets truth (family_of p.preds T1 sets) (family_of p.preds T allowed) (family_of p.preds T grounds) (is_ranked ranks rank) c)
      → (coefficients : ℕ → List ℕ) → AreCovering p.preds (is_ranked ranks rank) coefficients (family_of p.preds T old)
      → IsGreatestIn truth p (is_ranked ranks rank) (family_of p.preds T allowed) (family_of p.preds T grounds) coefficients (family_of p.preds T1 sets)
  greatest_there old sets needed inside rule coefficients covering =
      let laws = searches truth p (is_ranked ranks rank) (family_of p.preds T allowed) (family_of p.preds T grounds) coefficients in
      laws.last (family_of p.preds T old) (family_of p.preds T1 sets)
      (λ other keeps. laws.start (family_of p.preds T old) other (λ q row member arity covers. (covering q member row arity).1 covers) keeps)
      (needed coefficients)
      (record {
        covered = λ q row member h.
            let f = family_in p.preds T1 sets q row h in
            (covering q member row (arity_there q row f.0 f.2 f.4)).0 (inside q row h);
        rule = from_places (λ (c : Clause). is_ranked ranks rank c.head.pred.0 ≡ true → KeepsSets truth (family_of p.preds T1 sets) (family_of p.preds T allowed) (family_of p.preds T grounds) (is_ranked ranks rank) c) p.clauses
            (λ j c at. rule j c at);
      })
    where
      arity_there : (q : ℕ) (row : List Bool) (x : Pred) → slice_get p.preds q ≡ Some x → x.arity ≡ length row → HasArity p.preds q (length row)
      arity_there q row x e l = rw e l
