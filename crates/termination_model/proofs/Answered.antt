-- What a program answers keeps its claims.
use Rattle.std.proofs.Common.{◌≡◌, ℕ, zero, suc, ◌+◌, ℤ, Bool, true, List, [], ◌∷◌, ◌++◌, map, length, slice_get, Option, None, Some, unwrap_or, option_map, option_and_then, ◌⊎◌, inl, inr, refl, ap, sym, subst, ◌∙◌}
use Rattle.std.proofs.lemmas.List.{length-map}
use Rattle.std.specs.List.{AllByRecursion}
use Rattle.cti_terms.specs.Tree.{Tree, Variable, instance, trees}
use Rattle.cti_terms.specs.declared.atom_list.Atom.{Atom}
use Rattle.cti_terms.specs.declared.clauses.Clause.{Clause}
use Rattle.cti_terms.specs.declared.derivation.Goal.{Goal}
use Rattle.cti_terms.specs.Derive.{query}
use Rattle.cti_terms.specs.Listing.{Listing, IsAtom, IsClause, IsProgram}
use Rattle.cti_terms.specs.Unify.{Equation, Binding, pairs, applied}
use Rattle.cti_terms.specs.Resolve.{over, raised, resolve}
use Rattle.cti_terms.specs.ResolutionStep.{Leaves, Passes}
use Rattle.cti_terms.specs.Worlds.{Answer, World, with_bindings, resolve_in, reached_in}
use Rattle.cti_terms.proofs.ResolveLaws.{resolve_finds}
use Rattle.cti_terms.proofs.WorldLaws.{step_kinds}
use Rattle.cti_terms.proofs.Unifier.{unifier_unifies, applied_instance}
use Rattle.linear_rows.specs.Rows.{Holds}
use Rattle.termination_model.specs.grounds.Grounds.{HasArity, IsGround, IsClosedUnder}
use Rattle.termination_model.specs.claims.Claims.{Claims, IsSized, IsInductive, Shows}
use Rattle.termination_model.specs.claims.StatedFacts.{Stated, Keeps, Agrees, Takes}
use Rattle.termination_model.specs.claims.Answered.{facts_of, AnswersKeep, AnswersAgree}
use Rattle.termination_model.proofs.Facts.{each, one_arity, some_is}
use Rattle.termination_model.proofs.BuiltinLaws.{KeptBy, builtin_keeps}
use Rattle.termination_model.proofs.Views.{over_view, raised_view, head_view}
use Rattle.termination_model.proofs.Walk.{all_at, all_onto, all_map}
use Rattle.termination_model.proofs.WorldQuery.{answer_keeps}

pub all_parts : {X : Type 0} (P : X → Type 0) (xs ys : List X) → AllByRecursion P (xs ++ ys) → AllByRecursion P xs × AllByRecursion P ys
all_parts P [] ys h = (tt, h)
all_parts P (x ∷ xs) ys h = ((h.0, (all_parts P xs ys h.1).0), (all_parts P xs ys h.1).1)

pub all_append : {X : Type 0} (P : X → Type 0) (xs ys : List X) → AllByRecursion P xs → AllByRecursion P ys → AllByRecursion P (xs ++ ys)
all_append P [] ys h k = k
all_append P (x ∷ xs) ys h k = (h.0, all_append P xs ys h.1 k)

applied_both : (bs cs : List Binding) (t : Tree) → applied (bs ++ cs) t ≡ applied cs (applied bs t)
applied_both [] cs t = refl
applied_both (b ∷ bs) cs t = applied_both bs cs _

module _ {A : Type 0} (F : (ℕ → A) → Tree → A) (law : (v : ℕ → A) (a : ℕ → Tree) (t : Tree) → F v (instance a t) ≡ F (λ x. F v (a x)) t) (B : ℕ → List A → Type 0) where
  abbrev pub Before : (ℕ → A) → Atom → Type 0
  Before v x = B x.pred.0 (map (F v) x.args)

  -- the valuation of variables by what the bindings make of them
  abbrev pub under : (ℕ → A) → List Binding → ℕ → A
  under v bs x = F v (applied bs (Variable x))

  pub under_both : (v : ℕ → A) (bs cs : List Binding) → under (under v cs) bs ≡ under v (bs ++ cs)
  under_both v bs cs = λ i x. (sym (ap (F v) (applied_both bs cs (Variable x)) ∙ ap (F v) (applied_instance cs (applied bs (Variable x))) ∙ law v (λ y. applied cs (Variable y)) (applied bs (Variable x)))) i

  -- from what is left under bindings to the atoms before
  pub unapplied : (v : ℕ → A) (bs : List Binding) (xs : List Atom) → AllByRecursion (Before v) (map (over (applied bs)) xs) → AllByRecursion (Before (under v bs)) xs
  unapplied v bs = all_map (over (applied bs)) (Before (under v bs)) (Before v) (λ x. subst (B x.pred.0) (over_view F law v bs x))

  pub back_by_clause : (v : ℕ → A) (a : Atom) (rest : List Atom) (n : ℕ) (k : Clause) (bs : List Binding)
      → a.pred.0 ≡ k.head.pred.0 → length a.args ≡ length k.head.args
      → AllByRecursion (λ (e : Equation). applied bs e.0 ≡ applied bs e.1) (pairs (trees a.args) (trees (raised n k.head).args))
      → ((u : ℕ → A) → AllByRecursion (Before u) k.body → Before u k.head)
      → AllByRecursion (Before v) (map (over (applied bs)) (map (raised n) k.body ++ rest)) → AllByRecursion (Before (under v bs)) (a ∷ rest)
  back_by_clause v a rest n k bs pred len unified closed all =
      let v1 = under v bs in
      let v2 = λ (x : ℕ). F v1 (Variable (x + n)) in
      let parts = all_parts (Before v1) (map (raised n) k.body) rest (unapplied v bs (map (raised n) k.body ++ rest) all) in
      let body = all_map (raised n) (Before v2) (Before v1) (λ x. subst (B x.pred.0) (raised_view F law v1 n x)) k.body parts.0 in
      (subst (λ (q : ℕ). B q (map (F v1) a.args)) (sym pred) (subst (B k.head.pred.0) (sym (head_view F law v a n k.head bs len unified)) (closed v2 body)), parts.1)

module _ (p : Listing) (c : Claims) (f : Stated) (w : World) (prog : IsProgram p) (shows : Shows p c) (takes : Takes c f) (agrees : Agrees c.size c.truth f p.preds w) where
  abbrev Fits : Atom → Type 0
  Fits a = HasArity p.preds a.pred.0 (length a.args)

  fits_over : (g : Tree → Tree) (a : Atom) → Fits a → Fits (over g a)
  fits_over g a = subst (HasArity p.preds a.pred.0) (sym (length-map a.args g))

  abbrev KeptAt : List Atom → List Binding → Type 0
  KeptAt xs bs = ((v : ℕ → Bool) → AllByRecursion (IsGround c.truth c.grounds (λ x. c.truth v (applied bs (Variable x)))) xs) × ((s : ℕ → ℕ) → AllByRecursion (IsSized c (λ x. c.size s (applied bs (Variable x)))) xs)

  abbrev ClauseAt : Atom → List Atom → ℕ → List Binding → Goal → Type 0
  ClauseAt a rest n cs i = (j : ℕ) × (k : Clause) × (slice_get p.clauses j ≡ Some k) × Leaves a rest n k cs i

  abbrev GoneAt : Atom → List Atom → List Binding → Goal → Type 0
  GoneAt a rest cs i = (i.atoms ≡ map (over (applied cs)) rest) × KeptBy c a cs

  -- a step by these bindings
  step_at : (a : Atom) (rest : List Atom) (n : ℕ) (past : List ℕ) (k : ℕ) (cs : List Binding) (i : Goal) → Fits a
      → resolve_in p f.is_open w past (record { atoms = a ∷ rest; fresh = n }) k ≡ Some (cs, i) → ClauseAt a rest n cs i ⊎ GoneAt a rest cs i
  step_at a rest n past k cs i fits e = step_kinds p f.is_open w a rest n past k cs i e (ClauseAt a rest n cs i ⊎ GoneAt a rest cs i)
      (λ asked r there left. inr (
        ap (λ (x : List Binding × Goal). x.1.atoms) (sym left) ∙ ap (λ (bs : List Binding). map (over (applied bs)) rest) (ap (λ (x : List Binding × Goal). x.0) left),
        subst (KeptBy c a) (ap (λ (x : List Binding × Goal). x.0) left) (answer_keeps p c f w shows takes agrees a n past k r fits asked there),
      ))
      (λ closed found. other k found)
    where
      other : (m : ℕ) → resolve p (record { atoms = a ∷ rest; fresh = n }) m ≡ Some (cs, i) → ClauseAt a rest n cs i ⊎ GoneAt a rest cs i
      other zero found =
          let l : Passes p.arithmetic a rest n cs i = resolve_finds p (record { atoms = a ∷ rest; fresh = n }) zero cs i found in
          inr (l.atoms, builtin_keeps p c shows a rest n cs i l)
      other (suc j) found =
          let is = some_is (λ (x : Clause). Leaves a rest n x cs i) (slice_get p.clauses j) (resolve_finds p (record { atoms = a ∷ rest; fresh = n }) (suc j) cs i found) in
          inl (j, is.0, is.1, is.2)

  clause_of : (j : ℕ) (k : Clause) → slice_get p.clauses j ≡ Some k → IsClause p.preds k
  clause_of j k e = all_at (IsClause p.preds) p.clauses j k prog.clauses e

  -- what a step leaves has the right numbers of arguments
  fits_after : (a : Atom) (rest : List Atom) (n : ℕ) (cs : List Binding) (i : Goal) → AllByRecursion Fits (a ∷ rest) → ClauseAt a rest n cs i ⊎ GoneAt a rest cs i → AllByRecursion Fits i.atoms
  fits_after a rest n cs i fits (inr (left, kept)) = subst (AllByRecursion Fits) (sym left) (all_onto (over (applied cs)) Fits Fits (λ x. fits_over (applied cs) x) rest fits.1)
  fits_after a rest n cs i fits (inl (j, k, e, l)) = subst (AllByRecursion Fits) (sym l.atoms) (all_onto (over (applied cs)) Fits Fits (λ x. fits_over (applied cs) x) (map (raised n) k.body ++ rest)
      (all_append Fits (map (raised n) k.body) rest (all_onto (raised n) Fits Fits (λ x. fits_over (instance (λ y. Variable (y + n))) x) k.body
      (each (IsAtom p.preds k.vars) Fits (λ x is. is.arity) k.body (clause_of j k e).body)) fits.1))

  -- what holds after a step holds before it
  back : (a : Atom) (rest : List Atom) (n : ℕ) (cs ds : List Binding) (i : Goal) → AllByRecursion Fits (a ∷ rest) → ClauseAt a rest n cs i ⊎ GoneAt a rest cs i → KeptAt i.atoms ds → KeptAt (a ∷ rest) (cs ++ ds)
  back a rest n cs ds i fits kind kept = (grounded kind, sized kind)
    where
      len : (k : Clause) (j : ℕ) → slice_get p.clauses j ≡ Some k → a.pred.0 ≡ k.head.pred.0 → length a.args ≡ length k.head.args
      len k j e pred = one_arity (slice_get p.preds k.head.pred.0) (length a.args) (length k.head.args) (subst (λ (q : ℕ). HasArity p.preds q (length a.args)) pred fits.0) (clause_of j k e).head.arity

      grounded : ClauseAt a rest n cs i ⊎ GoneAt a rest cs i → (v : ℕ → Bool) → AllByRecursion (IsGround c.truth c.grounds (λ x. c.truth v (applied (cs ++ ds) (Variable x)))) (a ∷ rest)
      grounded (inl (j, k, e, l)) v = subst (λ (u : ℕ → Bool). AllByRecursion (IsGround c.truth c.grounds u) (a ∷ rest)) (under_both c.truth shows.norm.truth_of_instance (λ q us. c.grounds q us ≡ true) v cs ds)
          (back_by_clause c.truth shows.norm.truth_of_instance (λ q us. c.grounds q us ≡ true) (λ x. c.truth v (applied ds (Variable x))) a rest n k cs l.pred (len k j e l.pred) (unifier_unifies l.unifies)
          (all_at (IsClosedUnder c.truth c.grounds) p.clauses j k shows.closed.clauses e)
          (subst (AllByRecursion (IsGround c.truth c.grounds (λ x. c.truth v (applied ds (Variable x))))) l.atoms (kept.0 v)))
      grounded (inr (left, gone)) v = subst (λ (u : ℕ → Bool). AllByRecursion (IsGround c.truth c.grounds u) (a ∷ rest)) (under_both c.truth shows.norm.truth_of_instance (λ q us. c.grounds q us ≡ true) v cs ds) (
        gone.0 (λ x. c.truth v (applied ds (Variable x))),
        unapplied c.truth shows.norm.truth_of_instance (λ q us. c.grounds q us ≡ true) (λ x. c.truth v (applied ds (Variable x))) cs rest
            (subst (AllByRecursion (IsGround c.truth c.grounds (λ x. c.truth v (applied ds (Variable x))))) left (kept.0 v)),
      )

      sized : ClauseAt a rest n cs i ⊎ GoneAt a rest cs i → (s : ℕ → ℕ) → AllByRecursion (IsSized c (λ x. c.size s (applied (cs ++ ds) (Variable x)))) (a ∷ rest)
      sized (inl (j, k, e, l)) s = subst (λ (u : ℕ → ℕ). AllByRecursion (IsSized c u) (a ∷ rest)) (under_both c.size shows.norm.size_of_instance (λ q us. AllByRecursion (λ (z : List ℤ). Holds z 1 us) (c.rows q)) s cs ds)
          (back_by_clause c.size shows.norm.size_of_instance (λ q us. AllByRecursion (λ (z : List ℤ). Holds z 1 us) (c.rows q)) (λ x. c.size s (applied ds (Variable x))) a rest n k cs l.pred (len k j e l.pred) (unifier_unifies l.unifies)
          (all_at (IsInductive c) p.clauses j k shows.inductive e)
          (subst (AllByRecursion (IsSized c (λ x. c.size s (applied ds (Variable x))))) l.atoms (kept.1 s)))
      sized (inr (left, gone)) s = subst (λ (u : ℕ → ℕ). AllByRecursion (IsSized c u) (a ∷ rest)) (under_both c.size shows.norm.size_of_instance (λ q us. AllByRecursion (λ (z : List ℤ). Holds z 1 us) (c.rows q)) s cs ds) (
        gone.1 (λ x. c.size s (applied ds (Variable x))),
        unapplied c.size shows.norm.size_of_instance (λ q us. AllByRecursion (λ (z : List ℤ). Holds z 1 us) (c.rows q)) (λ x. c.size s (applied ds (Variable x))) cs rest
            (subst (AllByRecursion (IsSized c (λ x. c.size s (applied ds (Variable x))))) left (kept.1 s)),
      )

  none_kept : (xs : List Atom) (bs : List Binding) → xs ≡ [] → KeptAt xs bs
  none_kept [] bs e = (λ v. tt, λ s. tt)
  none_kept (x ∷ xs) bs e = absurd (cc)

  abbrev Ended : List ℕ → List Atom → ℕ → List ℕ → List Binding → Goal → Type 0
  Ended past xs n ks bs h = reached_in p f.is_open w past (record { atoms = xs; fresh = n }) ks ≡ Some (bs, h)

  pub kept : (ks past : List ℕ) (xs : List Atom) (n : ℕ) (bs : List Binding) (h : Goal) → AllByRecursion Fits xs → Ended past xs n ks bs h → h.atoms ≡ [] → KeptAt xs bs
  kept [] past xs n bs h fits e none = none_kept xs bs (ap (λ (o : Option (List Binding × Goal)). (unwrap_or o (bs, record { atoms = xs; fresh = n })).1.atoms) e ∙ none)
  kept (k ∷ ks) past [] n bs h fits e none = none_kept [] bs refl
  kept (k ∷ ks) past (a ∷ rest) n bs h fits e none = go (kept ks (past ++ k ∷ [])) (resolve_in p f.is_open w past (record { atoms = a ∷ rest; fresh = n }) k) refl e
    where
      go : ((xs : List Atom) (m : ℕ) (ds : List Binding) (j : Goal) → AllByRecursion Fits xs → Ended (past ++ k ∷ []) xs m ks ds j → j.atoms ≡ [] → KeptAt xs ds)
          → (o : Option (List Binding × Goal)) → resolve_in p f.is_open w past (record { atoms = a ∷ rest; fresh = n }) k ≡ o
          → option_and_then (λ r. option_map (with_bindings r.0) (reached_in p f.is_open w (past ++ k ∷ []) r.1 ks)) o ≡ Some (bs, h) → KeptAt (a ∷ rest) bs
      go again None found left = absurd (cc)
      go again (Some (cs, i)) found left = end (reached_in p f.is_open w (past ++ k ∷ []) i ks) refl left
        where
          end : (o : Option (List Binding × Goal)) → reached_in p f.is_open w (past ++ k ∷ []) i ks ≡ o → option_map (with_bindings cs) o ≡ Some (bs, h) → KeptAt (a ∷ rest) bs
          end None there e' = absurd (cc)
          end (Some (ds, j)) there e' =
              let parts : (cs ++ ds, j) ≡ (bs, h) = ap (λ (o : Option (List Binding × Goal)). unwrap_or o (bs, h)) e' in
              let kind = step_at a rest n past k cs i fits.0 found in
              let left_none : j.atoms ≡ [] = ap (λ (x : List Binding × Goal). x.1.atoms) parts ∙ none in
              let rest_kept = again i.atoms i.fresh ds j (fits_after a rest n cs i fits kind) there left_none in
              subst (KeptAt (a ∷ rest)) (ap (λ (x : List Binding × Goal). x.0) parts) (back a rest n cs ds i fits kind rest_kept)

  -- as facts
  as_facts : (is_open : ℕ → Bool) (modes : ℕ → List (List ℕ)) (bs : List Binding) (xs : List Atom) → KeptAt xs bs → AllByRecursion (λ (a : Atom). Keeps c.size c.truth (facts_of c is_open modes) (over (applied bs) a)) xs
  as_facts is_open modes bs [] h = tt
  as_facts is_open modes bs (x ∷ xs) h = (
    record {
      sized = λ s. subst (λ (us : List ℕ). AllByRecursion (λ (z : List ℤ). Holds z 1 us) (c.rows x.pred.0)) (sym (over_view c.size shows.norm.size_of_instance s bs x)) (h.1 s).0;
      grounded = λ v. subst (λ (us : List Bool). c.grounds x.pred.0 us ≡ true) (sym (over_view c.truth shows.norm.truth_of_instance v bs x)) (h.0 v).0;
    },
    as_facts is_open modes bs xs (λ v. (h.0 v).1, λ s. (h.1 s).1),
  )

pub answers_keep : AnswersKeep
answers_keep p c f w prog shows takes agrees past g fits ks bs h e none is_open modes =
    as_facts p c f w prog shows takes agrees is_open modes bs g.atoms (kept p c f w prog shows takes agrees ks past g.atoms g.fresh bs h fits e none)

pub answers_agree : AnswersAgree
answers_agree p c f w u prog shows takes agrees is_open modes answered past n a arity asked =
    each (λ (r : Answer). (earlier : List ℕ) × (ks : List ℕ) × (h : Goal) × (reached_in p f.is_open w earlier (query a n) ks ≡ Some (r.0, h)) × (h.atoms ≡ []))
    (λ (r : Answer). Keeps c.size c.truth (facts_of c is_open modes) (over (applied r.0) a))
    (λ r from. (answers_keep p c f w prog shows takes agrees from.0 (query a n) (arity, tt) from.1 r.0 from.2 from.3 from.4 is_open modes).0)
    (u past n a) (answered past n a arity asked)
