-- Queries end in each world that agrees with what is stated, over columns.
use Rattle.std.proofs.Common.{◌≡◌, ℕ, ℤ, Bool, true, false, List, [], ◌∷◌, map, length, Some, refl, sym, subst}
use Rattle.std.specs.List.{AllByRecursion}
use Rattle.cti_terms.specs.Tree.{Variable}
use Rattle.cti_terms.specs.declared.atom_list.Atom.{Atom}
use Rattle.cti_terms.specs.declared.derivation.Goal.{Goal}
use Rattle.cti_terms.specs.Listing.{Listing, numbered}
use Rattle.cti_terms.specs.Unify.{Binding, applied}
use Rattle.cti_terms.specs.Resolve.{over}
use Rattle.cti_terms.specs.ResolutionStep.{Passes}
use Rattle.cti_terms.specs.Worlds.{Answer, World}
use Rattle.linear_rows.specs.Rows.{Holds}
use Rattle.termination_model.specs.grounds.Grounds.{HasArity, truth_row, IsGround}
use Rattle.termination_model.specs.claims.Descent.{mode_row}
use Rattle.termination_model.specs.columns.Columns.{Valuation, columns_of, before}
use Rattle.termination_model.specs.columns.ColumnClaims.{Measure, Claims, IsSized, Shows}
use Rattle.termination_model.specs.columns.ColumnStated.{Stated, IsAllowed, Keeps, Agrees, AllowsFirst, Takes, RowsEndIn, ModesEndIn}
use Rattle.termination_model.proofs.ColumnBuiltins.{builtin_says}
use Rattle.termination_model.proofs.ColumnQuery.{meaning_of, meant}
use Rattle.termination_model.proofs.Facts.{ByItself}
use Rattle.termination_model.proofs.Induction.{FrontLets}
use Rattle.termination_model.proofs.Views.{over_view}
use Rattle.termination_model.proofs.WorldMeaning.{numbered_at, rows_end_there, modes_end_there}

module _ (p : Listing) (c : Claims) (f : Stated) (w : World) (shows : Shows p c) (takes : Takes c f) (agrees : Agrees c.columns c.truth f p.preds w) where
  -- an open atom keeps what is stated of it
  pub answer_keeps : (past : List ℕ) (n : ℕ) (a : Atom) (k : ℕ) (r : Answer) → HasArity p.preds a.pred.0 (length a.args) → f.is_open a.pred.0 ≡ true → numbered (w past n a) k ≡ Some r
      → ((v : ℕ → Bool) → IsGround c.truth c.grounds (λ x. c.truth v (applied r.0 (Variable x))) a) × ((s : Valuation) → IsSized c (before c.columns r.0 s) a)
  answer_keeps past n a k r arity asked e = (grounded, sized)
    where
      keeps : Keeps c.columns c.truth f (over (applied r.0) a)
      keeps = numbered_at (λ (x : Answer). Keeps c.columns c.truth f (over (applied x.0) a)) (w past n a) k r (agrees past n a arity asked) e

      grounded : (v : ℕ → Bool) → IsGround c.truth c.grounds (λ x. c.truth v (applied r.0 (Variable x))) a
      grounded v = subst (λ (us : List Bool). c.grounds a.pred.0 us ≡ true) (over_view c.truth shows.columns.truth_of_instance v r.0 a)
          (subst (λ (set : List Bool → Bool). set (truth_row c.truth v (over (applied r.0) a)) ≡ true) (sym (takes.grounds a.pred.0 asked)) (keeps.grounded v))

      sized : (s : Valuation) → IsSized c (before c.columns r.0 s) a
      sized s = subst (λ (us : List (ℕ → ℕ)). AllByRecursion (λ (z : List ℤ). Holds z 1 (columns_of (c.kinds a.pred.0) us)) (c.rows a.pred.0)) (over_view c.columns.measure shows.columns.measure_of_instance s r.0 a)
          (subst (λ (ks : List ℕ). AllByRecursion (λ (z : List ℤ). Holds z 1 (columns_of ks (map (c.columns.measure s) (over (applied r.0) a).args))) (c.rows a.pred.0)) (sym (takes.kinds a.pred.0 asked))
          (subst (λ (rows : List (List ℤ)). AllByRecursion (λ (z : List ℤ). Holds z 1 (columns_of (f.kinds a.pred.0) (map (c.columns.measure s) (over (applied r.0) a).args))) rows) (sym (takes.rows a.pred.0 asked)) (keeps.sized s)))

  -- a built-in atom goes away by itself
  builtin_goes : (a : Atom) (rest : List Atom) (n : ℕ) (bs : List Binding) (h : Goal) → Passes p.arithmetic a rest n bs h → ByItself p (meaning_of c) a rest h
  builtin_goes a rest n bs h passes = let says = builtin_says p c shows a rest n bs h passes in (bs, passes.atoms, says.0, says.1)

  -- rows of open predicates meet their modes
  abbrev LetsOpen : ℕ → Measure → Type 0
  LetsOpen r m = (q : ℕ) (bs : List Bool) → c.rank q ≡ r → f.is_open q ≡ true → m.pre q bs ≡ true → IsAllowed f q bs

  front_allowed : (xs : List Atom) → FrontLets (meaning_of c) LetsOpen xs → AllowsFirst c.columns c.truth f xs
  front_allowed [] front = tt
  front_allowed (a ∷ rest) (m, lets, pre) = λ asked. lets a.pred.0 (truth_row c.truth (λ _. false) a) refl asked pre

pub rows_end_in : RowsEndIn
rows_end_in p c f w prog shows takes agrees a n arity admits =
    rows_end_there p (meaning_of c) prog (meant p c prog shows) f.is_open w (answer_keeps p c f w shows takes agrees) (builtin_goes p c f w shows takes agrees)
    (LetsOpen p c f w shows takes agrees) takes.modes (AllowsFirst c.columns c.truth f) (front_allowed p c f w shows takes agrees) a n arity admits []

pub modes_end_in : ModesEndIn
modes_end_in p c f w prog shows takes agrees a n arity mode admits meets =
    modes_end_there p (meaning_of c) prog (meant p c prog shows) f.is_open w (answer_keeps p c f w shows takes agrees) (builtin_goes p c f w shows takes agrees)
    (LetsOpen p c f w shows takes agrees) takes.modes (AllowsFirst c.columns c.truth f) (front_allowed p c f w shows takes agrees) a n arity (mode_row mode 1 (length a.args)) admits meets []
