-- Queries end, over columns: claims over columns have a meaning, and levels that are cut off at 0.
use Rattle.std.proofs.Common.{◌≡◌, ℕ, zero, suc, false, List, ◌∷◌, take, length, slice_get, ◌⊎◌, inl, inr, sym, ◌∙◌}
use Rattle.std.proofs.lemmas.List.{length-map}
use Rattle.cti_terms.specs.declared.atom_list.Atom.{Atom}
use Rattle.cti_terms.specs.declared.clauses.Clause.{Clause}
use Rattle.cti_terms.specs.declared.derivation.Goal.{Goal}
use Rattle.cti_terms.specs.Listing.{Listing, IsAtom, IsClause, IsProgram}
use Rattle.cti_terms.specs.Derive.{Bounded}
use Rattle.cti_terms.specs.ResolutionStep.{Leaves}
use Rattle.cti_terms.proofs.ResolveLaws.{resolve_finds}
use Rattle.termination_model.specs.claims.Descent.{mode_row}
use Rattle.termination_model.specs.grounds.Grounds.{truth_row}
use Rattle.termination_model.specs.columns.ColumnClaims.{Measure, Claims, RowsHold, Descends, Serves, Shows, system}
use Rattle.termination_model.specs.columns.ColumnDescent.{RowsEnd, ModesEnd}
use Rattle.termination_model.proofs.Meaning.{Meaning, Descends as Falling, Serves as Serving, Shows as Meant}
use Rattle.termination_model.proofs.Walk.{all_at}
use Rattle.termination_model.proofs.Facts.{ByClause, ByItself, some_is, all_take, each, both_each}
use Rattle.termination_model.proofs.Induction.{query_ends, mode_ends}
use Rattle.termination_model.proofs.Query.{Next, by_steps, no_next, LetsAll, lets_all}
use Rattle.termination_model.proofs.SystemPoints.{Below}
use Rattle.termination_model.proofs.Cuts.{cut}
use Rattle.termination_model.proofs.ColumnBuiltins.{builtin_says}
use Rattle.termination_model.proofs.ColumnLevels.{level, levels, same_levels}
use Rattle.termination_model.proofs.ColumnPoints.{system_holds, falls_on}

abbrev pub meaning_of : Claims → Meaning (ℕ → ℕ) Measure
meaning_of c = record {
  none = λ _. 0;
  value = c.columns.measure;
  truth = c.truth;
  rank = c.rank;
  Known = RowsHold c;
  grounds = c.grounds;
  levels = levels c;
  pre = λ m. m.pre;
  measures = c.measures;
}

module _ (p : Listing) (c : Claims) (prog : IsProgram p) (shows : Shows p c) where
  falling : (m : Measure) (k : Clause) → IsClause p.preds k → Descends c m k → Falling (meaning_of c) m k
  falling m k is d s j b e same all =
      let f = d j b e same in
      let before = all_take (Below k.vars) k.body j (each (IsAtom p.preds k.vars) (Below k.vars) (λ x g. g.below) k.body is.body) in
      let call : Below k.vars b = (all_at (IsAtom p.preds k.vars) k.body j b is.body e).below in
      falls_on p.arithmetic.names c shows.columns s k b is.head.below call (system c k.vars (take j k.body))
      (system_holds p.arithmetic.names c shows.columns k.vars s (take j k.body) before all) f.0 m.mappings f.1

  serving : (r : ℕ) (m : Measure) → Serves p c r m → Serving (meaning_of c) p r m
  serving r m serves = record {
    long = λ q h us vs. length-map m.mappings (λ l. cut (level c q us l)) ∙ sym (length-map m.mappings (λ l. cut (level c h vs l)));
    fixed = λ r' s a rank pre. same_levels c.truth c.columns.measure shows.columns.rigid_measure r' s (c.kinds a.pred.0) a.pred.0 m.mappings a.args (serves.covered a.pred.0 (truth_row c.truth (λ _. false) a) rank pre);
    descends = both_each (IsClause p.preds) (λ (k : Clause). c.rank k.head.pred.0 ≡ r → Descends c m k) (λ (k : Clause). c.rank k.head.pred.0 ≡ r → Falling (meaning_of c) m k)
        (λ k is d rank. falling m k is (d rank)) p.clauses prog.clauses serves.descends;
    rule = serves.rule;
  }

  pub meant : Meant (meaning_of c) p
  meant = record {
    value_of_instance = shows.columns.measure_of_instance;
    truth_of_instance = shows.columns.truth_of_instance;
    rigid_truth = shows.columns.rigid_truth;
    ranked = shows.ranked;
    inductive = shows.inductive;
    closed = shows.closed;
    measures = λ r. each (Serves p c r) (Serving (meaning_of c) p r) (serving r) (c.measures r) (shows.measures r);
  }

  kinds : (a : Atom) (rest : List Atom) (n : ℕ) (h : Goal) → Next p (a ∷ rest) n h → ByClause p a rest n h ⊎ ByItself p (meaning_of c) a rest h
  kinds a rest n h (zero, bs, r) =
      let passes = resolve_finds p (record { atoms = a ∷ rest; fresh = n }) zero bs h r in
      let says = builtin_says p c shows a rest n bs h passes in
      inr (bs, passes.atoms, says.0, says.1)
  kinds a rest n h (suc i, bs, r) =
      let is = some_is (λ (x : Clause). Leaves a rest n x bs h) (slice_get p.clauses i) (resolve_finds p (record { atoms = a ∷ rest; fresh = n }) (suc i) bs h r) in
      inl (i, is.0, bs, is.1, is.2)

pub rows_end : RowsEnd
rows_end p c prog shows = query_ends p (meaning_of c) prog (meant p c prog shows) LetsAll (lets_all (meaning_of c)) (Bounded p) (Next p) (λ xs n front. by_steps p xs n) (no_next p) (λ a rest n h arity. kinds p c prog shows a rest n h)

pub modes_end : ModesEnd
modes_end p c prog shows a n arity mode = mode_ends p (meaning_of c) prog (meant p c prog shows) LetsAll (lets_all (meaning_of c)) (Bounded p) (Next p) (λ xs n front. by_steps p xs n) (no_next p) (λ a rest n h arity. kinds p c prog shows a rest n h) a n arity (mode_row mode 1 (length a.args))
