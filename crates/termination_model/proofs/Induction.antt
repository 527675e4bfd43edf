-- The induction, for claims of any meaning: over the rank, the levels and the body from its last atom, for any steps
-- that leave what a clause leaves or the rest of the goal.
use Rattle.std.proofs.Common.{◌≡◌, ℕ, ◌<◌, ◌≤◌, Bool, false, true, List, [], ◌∷◌, ◌++◌, map, length, ◌⊎◌, inl, inr, refl, ap, sym, subst, ◌∙◌}
use Rattle.std.specs.List.{AllByRecursion}
use Rattle.cti_terms.specs.declared.atom_list.Atom.{Atom}
use Rattle.cti_terms.specs.declared.derivation.Goal.{Goal}
use Rattle.cti_terms.specs.Listing.{Listing, IsProgram}
use Rattle.termination_model.specs.sizes.Rows.{IsUpper}
use Rattle.termination_model.specs.grounds.Grounds.{HasArity, truth_row}
use Rattle.termination_model.proofs.Walk.{all_at, all_both, picked}
use Rattle.termination_model.proofs.Order.{strong, Falls, lexicographic}
use Rattle.termination_model.proofs.Meaning.{Meaning, values, IsRanked, Admits, Serves, Shows}
use Rattle.termination_model.proofs.Facts.{Tag, Out, In, Facts, ByClause, ByItself, each, tag_of, tag_case, of_row, to_row, upper_row, after, itself, wider}

-- the first atom's row is one of a measure of its component, of which it is known what it lets through
abbrev pub FrontLets : {A M : Type 0} → Meaning A M → (ℕ → M → Type 0) → List Atom → Type 0
FrontLets c Lets [] = Unit {0}
FrontLets {M = M} c Lets (a ∷ rest) = (m : M) × Lets (c.rank a.pred.0) m × (c.pre m a.pred.0 (truth_row c.truth (λ _. false) a) ≡ true)

module _ {A M : Type 0} (p : Listing) (c : Meaning A M) (prog : IsProgram p) (shows : Shows c p)
    (Lets : ℕ → M → Type 0) (lets : (r : ℕ) → AllByRecursion (Lets r) (c.measures r))
    (Small : Goal → Type 0) (Next : List Atom → ℕ → Goal → Type 0)
    (by_steps : (xs : List Atom) (n : ℕ) → FrontLets c Lets xs → ((h : Goal) → Next xs n h → Small h) → Small (record { atoms = xs; fresh = n }))
    (no_next : (n : ℕ) (h : Goal) → Next [] n h → ⊥)
    (kinds : (a : Atom) (rest : List Atom) (n : ℕ) (h : Goal) → HasArity p.preds a.pred.0 (length a.args) → Next (a ∷ rest) n h → ByClause p a rest n h ⊎ ByItself p c a rest h) where
  -- goals with these tags are small
  abbrev Ends : List (Tag M) → Type 0
  Ends ws = (xs : List Atom) (n : ℕ) → Facts p c ws xs → Small (record { atoms = xs; fresh = n })

  -- and stay so with this tag in front
  abbrev Front : Tag M → Type 0
  Front w = (ws : List (Tag M)) → Ends ws → Ends (w ∷ ws)

  nothing_ends : Ends []
  nothing_ends [] n f = by_steps [] n tt (λ h next. absurd (no_next n h next))
  nothing_ends (x ∷ xs) n f = absurd (f.rows (λ _. false))

  many : (tag : Atom → Tag M) (xs : List Atom) → AllByRecursion (λ (x : Atom). Front (tag x)) xs → (ws : List (Tag M)) → Ends ws → Ends (map tag xs ++ ws)
  many tag [] all ws t = t
  many tag (x ∷ xs) all ws t = all.0 (map tag xs ++ ws) (many tag xs all.1 ws t)

  core : (r : ℕ) (m : M) → Serves c p r m → Lets r m → (a : Atom) (rest : List Atom) (n : ℕ) (w : Tag M) (ws : List (Tag M)) → Ends ws → Facts p c (w ∷ ws) (a ∷ rest)
      → c.rank a.pred.0 ≡ r → HasArity p.preds a.pred.0 (length a.args) → ((v : ℕ → Bool) → c.pre m a.pred.0 (truth_row c.truth v a) ≡ true)
      → Front (In r m (c.levels m a.pred.0 (values c (λ _. c.none) a))) → ((q : ℕ) → q < r → Front (Out q))
      → Small (record { atoms = a ∷ rest; fresh = n })
  core r m serves own_lets a rest n w ws t facts rank arity pre front lower = by_steps (a ∷ rest) n (m, subst (λ (x : ℕ). Lets x m) (sym rank) own_lets, pre (λ _. false)) (λ h next. step h (kinds a rest n h arity next))
    where
      u : List ℕ
      u = c.levels m a.pred.0 (values c (λ _. c.none) a)

      step : (h : Goal) → ByClause p a rest n h ⊎ ByItself p c a rest h → Small h
      step h (inr g) = t h.atoms h.fresh (itself p c prog shows a rest w ws facts h g)
      step h (inl (i, k, bs, is, leaves)) =
          let head_rank : c.rank k.head.pred.0 ≡ r = ap c.rank (sym leaves.pred) ∙ rank in
          let fronts = each (λ (b : Atom). c.rank b.pred.0 ≤ c.rank k.head.pred.0) (λ (b : Atom). Front (tag_of p c prog shows r m u b))
          (λ b le. tag_case p c prog shows r m u b (c.rank k.head.pred.0) le head_rank Front (λ _. front) (lower (c.rank b.pred.0)))
          k.body (all_at (IsRanked c) p.clauses i k shows.ranked is) in
          many (tag_of p c prog shows r m u) k.body fronts ws t h.atoms h.fresh (after p c prog shows r m serves a rest n w ws facts rank arity pre i k is bs h leaves)

  in_front : (r : ℕ) → ((q : ℕ) → q < r → Front (Out q)) → (m : M) → Serves c p r m → Lets r m → (v : List ℕ) → Front (In r m v)
  in_front r lower m serves own_lets = lexicographic (λ v. Front (In r m v)) step
    where
      step : (v : List ℕ) → ((u : List ℕ) → length u ≡ length v → Falls u v → Front (In r m u)) → Front (In r m v)
      step v less ws t [] n facts = absurd (facts.rows (λ _. false))
      step v less ws t (a ∷ rest) n facts =
          let own = (facts.rows (λ _. false)).0 in
          let fall = (facts.known (λ _. c.none)).0 in
          core r m serves own_lets a rest n (In r m v) ws t facts own.0 (of_row p c prog shows (λ _. false) a own.1) (λ w. (facts.rows w).0.2) (less (c.levels m a.pred.0 (values c (λ _. c.none) a)) fall.0 fall.1) lower

  out_front : (r : ℕ) → ((q : ℕ) → q < r → Front (Out q)) → Front (Out r)
  out_front r lower ws t [] n facts = absurd (facts.rows (λ _. false))
  out_front r lower ws t (a ∷ rest) n facts =
      let own = (facts.rows (λ _. false)).0 in
      let lower' : (q : ℕ) → q < c.rank a.pred.0 → Front (Out q) = λ q l. lower q (subst (λ (x : ℕ). q < x) own.0 l) in
      let found = picked (λ (m : M). Serves c p (c.rank a.pred.0) m × Lets (c.rank a.pred.0) m) (λ (m : M). (us : List Bool) → IsUpper us (truth_row c.truth (λ _. false) a) → c.pre m a.pred.0 us ≡ true) (c.measures (c.rank a.pred.0))
      (all_both (Serves c p (c.rank a.pred.0)) (Lets (c.rank a.pred.0)) (c.measures (c.rank a.pred.0)) (shows.measures (c.rank a.pred.0)) (lets (c.rank a.pred.0))) own.2 in
      core (c.rank a.pred.0) found.0 found.1.0 found.1.1 a rest n (Out r) ws t facts refl (of_row p c prog shows (λ _. false) a own.1)
      (λ v. found.2 (truth_row c.truth v a) (upper_row c.truth shows.rigid_truth v a.args))
      (in_front (c.rank a.pred.0) lower' found.0 found.1.0 found.1.1 (c.levels found.0 a.pred.0 (values c (λ _. c.none) a))) lower'

  every_front : (r : ℕ) → Front (Out r)
  every_front = strong (λ r. Front (Out r)) out_front

  pub query_ends : (a : Atom) (n : ℕ) → HasArity p.preds a.pred.0 (length a.args) → Admits c a.pred.0 (truth_row c.truth (λ _. false) a) → Small (record { atoms = a ∷ []; fresh = n })
  query_ends a n arity admits = every_front (c.rank a.pred.0) [] nothing_ends (a ∷ []) n (record {
    rows = λ v. ((refl, to_row p c prog shows v a arity, wider p c prog shows a.pred.0 (truth_row c.truth v a) (truth_row c.truth (λ _. false) a) (upper_row c.truth shows.rigid_truth v a.args) admits), λ _. tt);
    known = λ s. (tt, λ _. tt);
  })

  pub mode_ends : (a : Atom) (n : ℕ) → HasArity p.preds a.pred.0 (length a.args) → (bs : List Bool) → Admits c a.pred.0 bs → IsUpper (truth_row c.truth (λ _. false) a) bs → Small (record { atoms = a ∷ []; fresh = n })
  mode_ends a n arity bs admits meets = query_ends a n arity (wider p c prog shows a.pred.0 (truth_row c.truth (λ _. false) a) bs meets admits)
