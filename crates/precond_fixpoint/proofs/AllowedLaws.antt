-- What is allowed of other predicates does not matter, and their own rows do not.
use Rattle.std.proofs.Common.{◌≡◌, ℕ, Bool, true, false, IsTrue, if◌then◌else◌, List, refl, sym, subst}
use Rattle.cti_terms.specs.Tree.{Tree}
use Rattle.cti_terms.specs.Listing.{Listing}
use Rattle.cti_terms.specs.declared.atom_list.Atom.{Atom}
use Rattle.cti_terms.specs.declared.clauses.Clause.{Clause}
use Rattle.termination_model.specs.grounds.Grounds.{Family, IsGround, truth_row}
use Rattle.truth_rows.specs.Rules.{KeepsSets}
use Rattle.termination_model.proofs.Lists.{by_places, from_places}
use Rattle.precond_fixpoint.specs.Allowed.{AgreeBelow, AgreeOnMembers, GreatestDependsBelow, GreatestDependsOnMembers}
use Rattle.precond_fixpoint.specs.Greatest.{KeepsIn, IsGreatestIn}

module _ (truth : (ℕ → Bool) → Tree → Bool) (p : Listing) (is_member : ℕ → Bool) (grounds : Family) (coefficients : ℕ → List ℕ) where
  chosen : (f g pre : Family) (v : ℕ → Bool) (b : Atom) (t : Bool) → (t ≡ false → f b.pred.0 ≡ g b.pred.0) → IsGround truth (if t then pre else f) v b → IsGround truth (if t then pre else g) v b
  chosen f g pre v b true same h = h
  chosen f g pre v b false same h = subst (λ (x : List Bool → Bool). IsTrue (x (truth_row truth v b))) (same refl) h

  keeps : (f g : Family) → AgreeBelow p is_member f g → (pre : Family) → KeepsIn truth p is_member f grounds coefficients pre → KeepsIn truth p is_member g grounds coefficients pre
  keeps f g agree pre k = record {
    covered = k.covered;
    rule = from_places (λ (c : Clause). is_member c.head.pred.0 ≡ true → KeepsSets truth pre g grounds is_member c) p.clauses
        (λ i c at member v head j b there before. chosen f g pre v b (is_member b.pred.0) (λ no. agree i c at member j b there no)
        (by_places (λ (c : Clause). is_member c.head.pred.0 ≡ true → KeepsSets truth pre f grounds is_member c) p.clauses k.rule i c at member v head j b there before));
  }

  greatest : (f g : Family) → AgreeBelow p is_member f g → (pre : Family) → IsGreatestIn truth p is_member f grounds coefficients pre → IsGreatestIn truth p is_member g grounds coefficients pre
  greatest f g agree pre h = record {
    keeps = keeps f g agree pre h.keeps;
    greatest = λ other k. h.greatest other (keeps g f (λ i c at member j b there no. sym (agree i c at member j b there no)) other k);
  }

pub greatest_depends_below : GreatestDependsBelow
greatest_depends_below truth p is_member f g grounds coefficients pre agree h = greatest truth p is_member grounds coefficients f g agree pre h

module _ (truth : (ℕ → Bool) → Tree → Bool) (p : Listing) (is_member : ℕ → Bool) (allowed grounds : Family) (coefficients : ℕ → List ℕ) where
  exchanged : (f g : Family) (v : ℕ → Bool) (b : Atom) (t : Bool) → (t ≡ true → f b.pred.0 ≡ g b.pred.0) → IsGround truth (if t then f else allowed) v b → IsGround truth (if t then g else allowed) v b
  exchanged f g v b true same h = subst (λ (x : List Bool → Bool). IsTrue (x (truth_row truth v b))) (same refl) h
  exchanged f g v b false same h = h

  keeps_members : (f g : Family) → AgreeOnMembers is_member f g → KeepsIn truth p is_member allowed grounds coefficients f → KeepsIn truth p is_member allowed grounds coefficients g
  keeps_members f g agree k = record {
    covered = λ q row member h. k.covered q row member (subst (λ (x : List Bool → Bool). IsTrue (x row)) (sym (agree q member)) h);
    rule = from_places (λ (c : Clause). is_member c.head.pred.0 ≡ true → KeepsSets truth g allowed grounds is_member c) p.clauses
        (λ i c at member v head j b there before. exchanged f g v b (is_member b.pred.0) (λ yes. agree b.pred.0 yes)
        (by_places (λ (c : Clause). is_member c.head.pred.0 ≡ true → KeepsSets truth f allowed grounds is_member c) p.clauses k.rule i c at member v
        (subst (λ (x : List Bool → Bool). IsTrue (x (truth_row truth v c.head))) (sym (agree c.head.pred.0 member)) head) j b there before));
  }

  greatest_of_members : (f g : Family) → AgreeOnMembers is_member f g → IsGreatestIn truth p is_member allowed grounds coefficients f → IsGreatestIn truth p is_member allowed grounds coefficients g
  greatest_of_members f g agree h = record {
    keeps = keeps_members f g agree h.keeps;
    greatest = λ other k q row member long t. subst (λ (x : List Bool → Bool). IsTrue (x row)) (agree q member) (h.greatest other k q row member long t);
  }

pub greatest_depends_on_members : GreatestDependsOnMembers
greatest_depends_on_members truth p is_member allowed grounds coefficients f g agree h = greatest_of_members truth p is_member allowed grounds coefficients f g agree h
