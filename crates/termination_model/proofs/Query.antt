-- Queries end: claims over a norm have a meaning, with levels of naturals.
use Rattle.std.proofs.Common.{◌≡◌, ℕ, zero, suc, false, List, [], ◌∷◌, take, length, slice_get, Some, ◌⊎◌, inl, inr, refl, sym, ◌∙◌}
use Rattle.std.proofs.lemmas.List.{length-map}
use Rattle.std.specs.List.{AllByRecursion}
use Rattle.cti_terms.specs.declared.atom_list.Atom.{Atom}
use Rattle.cti_terms.specs.declared.clauses.Clause.{Clause}
use Rattle.cti_terms.specs.declared.derivation.Goal.{Goal}
use Rattle.cti_terms.specs.Listing.{Listing, IsAtom, IsClause, IsProgram}
use Rattle.cti_terms.specs.Unify.{Binding}
use Rattle.cti_terms.specs.Derive.{Bounded}
use Rattle.cti_terms.specs.Resolve.{resolve}
use Rattle.cti_terms.specs.ResolutionStep.{Leaves}
use Rattle.cti_terms.proofs.Bounds.{no_step_without_atoms}
use Rattle.cti_terms.proofs.ResolveLaws.{resolve_finds}
use Rattle.linear_rows.specs.Rows.{Holds}
use Rattle.termination_model.specs.claims.Claims.{Measure, Claims, Descends, Serves, Shows}
use Rattle.termination_model.specs.claims.Descent.{mode_row, RowsEnd, ModesEnd}
use Rattle.termination_model.specs.grounds.Grounds.{truth_row}
use Rattle.termination_model.specs.sizes.Systems.{system}
use Rattle.termination_model.proofs.Bound.{bounded_by_steps}
use Rattle.termination_model.proofs.BuiltinLaws.{builtin_goes}
use Rattle.termination_model.proofs.Induction.{query_ends, mode_ends}
use Rattle.termination_model.proofs.Levels.{level, levels, same_levels}
use Rattle.termination_model.proofs.Meaning.{Meaning, Descends as Falling, Serves as Serving, Shows as Meant}
use Rattle.termination_model.proofs.Facts.{ByClause, ByItself, some_is, all_take, each, both_each}
use Rattle.termination_model.proofs.SystemPoints.{Below, system_holds, falls_on}
use Rattle.termination_model.proofs.Walk.{all_at, all_always}

-- what some number leaves
abbrev pub Next : Listing → List Atom → ℕ → Goal → Type 0
Next p xs n h = (k : ℕ) × (bs : List Binding) × (resolve p (record { atoms = xs; fresh = n }) k ≡ Some (bs, h))

pub by_steps : (p : Listing) (xs : List Atom) (n : ℕ) → ((h : Goal) → Next p xs n h → Bounded p h) → Bounded p (record { atoms = xs; fresh = n })
by_steps p xs n step = bounded_by_steps p (record { atoms = xs; fresh = n }) (λ k bs h r. step h (k, bs, r))

pub no_next : (p : Listing) (n : ℕ) (h : Goal) → Next p [] n h → ⊥
no_next p n h (k, bs, r) = no_step_without_atoms p (record { atoms = []; fresh = n }) k bs h refl r

abbrev pub meaning_of : Claims → Meaning ℕ Measure
meaning_of c = record {
  none = 0;
  value = c.size;
  truth = c.truth;
  rank = c.rank;
  Known = λ q us. AllByRecursion (λ r. Holds r 1 us) (c.rows q);
  grounds = c.grounds;
  levels = levels;
  pre = λ m. m.pre;
  measures = c.measures;
}

-- where nothing is asked of measures
abbrev pub LetsAll : {M : Type 0} → ℕ → M → Type 0
LetsAll r m = Unit {0}

pub lets_all : {A M : Type 0} (c : Meaning A M) (r : ℕ) → AllByRecursion (LetsAll r) (c.measures r)
lets_all c r = all_always (LetsAll r) (λ m. tt) (c.measures r)

module _ (p : Listing) (c : Claims) (prog : IsProgram p) (shows : Shows p c) where
  falling : (m : Measure) (k : Clause) → IsClause p.preds k → Descends c m k → Falling (meaning_of c) m k
  falling m k is d s j b e same all =
      let f = d j b e same in
      let before = all_take (Below k.vars) k.body j (each (IsAtom p.preds k.vars) (Below k.vars) (λ x g. g.below) k.body is.body) in
      let call : Below k.vars b = (all_at (IsAtom p.preds k.vars) k.body j b is.body e).below in
      falls_on c shows.norm s k b is.head.below call (system c.expression c.rows k.vars (take j k.body)) (system_holds c shows.norm k.vars s (take j k.body) before all) f.0 m.mappings f.1

  serving : (r : ℕ) (m : Measure) → Serves p c r m → Serving (meaning_of c) p r m
  serving r m serves = record {
    long = λ q h us vs. length-map m.mappings (level q us) ∙ sym (length-map m.mappings (level h vs));
    fixed = λ r' s a rank pre. same_levels c.size c.truth c.expression shows.norm r' s a.pred.0 m.mappings a.args (serves.covered a.pred.0 (truth_row c.truth (λ _. false) a) rank pre);
    descends = both_each (IsClause p.preds) (λ (k : Clause). c.rank k.head.pred.0 ≡ r → Descends c m k) (λ (k : Clause). c.rank k.head.pred.0 ≡ r → Falling (meaning_of c) m k)
        (λ k is d rank. falling m k is (d rank)) p.clauses prog.clauses serves.descends;
    rule = serves.rule;
  }

  pub meant : Meant (meaning_of c) p
  meant = record {
    value_of_instance = shows.norm.size_of_instance;
    truth_of_instance = shows.norm.truth_of_instance;
    rigid_truth = shows.norm.rigid_truth;
    ranked = shows.ranked;
    inductive = shows.inductive;
    closed = shows.closed;
    measures = λ r. each (Serves p c r) (Serving (meaning_of c) p r) (serving r) (c.measures r) (shows.measures r);
  }

  -- number 0 is that of a built-in atom, which goes away by itself
  kinds : (a : Atom) (rest : List Atom) (n : ℕ) (h : Goal) → Next p (a ∷ rest) n h → ByClause p a rest n h ⊎ ByItself p (meaning_of c) a rest h
  kinds a rest n h (zero, bs, r) = inr (builtin_goes p c shows a rest n bs h (resolve_finds p (record { atoms = a ∷ rest; fresh = n }) zero bs h r))
  kinds a rest n h (suc i, bs, r) =
      let is = some_is (λ (x : Clause). Leaves a rest n x bs h) (slice_get p.clauses i) (resolve_finds p (record { atoms = a ∷ rest; fresh = n }) (suc i) bs h r) in
      inl (i, is.0, bs, is.1, is.2)

pub rows_end : RowsEnd
rows_end p c prog shows = query_ends p (meaning_of c) prog (meant p c prog shows) LetsAll (lets_all (meaning_of c)) (Bounded p) (Next p) (λ xs n front. by_steps p xs n) (no_next p) (λ a rest n h arity. kinds p c prog shows a rest n h)

pub modes_end : ModesEnd
modes_end p c prog shows a n arity mode = mode_ends p (meaning_of c) prog (meant p c prog shows) LetsAll (lets_all (meaning_of c)) (Bounded p) (Next p) (λ xs n front. by_steps p xs n) (no_next p) (λ a rest n h arity. kinds p c prog shows a rest n h) a n arity (mode_row mode 1 (length a.args))
