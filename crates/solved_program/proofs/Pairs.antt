-- The clauses of a component that stands for an old one, each with the old clause that it is.
use Rattle.std.proofs.Common.{◌≡◌, ℕ, ◌-◌, inl, inr, List, [], ◌∷◌, map, Option, refl, ap, sym, subst, ◌∙◌}
use Rattle.call_components.specs.Partition.{Partition, AreComponents}
use Rattle.cti_terms.specs.Listing.{Listing, IsProgram}
use Rattle.cti_terms.specs.declared.atom_list.Atom.{Atom}
use Rattle.linear_rows.specs.Members.{In}
use Rattle.termination_model.specs.chains.Chain.{clauses_of}
use Rattle.component_laws.specs.Renaming.{renamed}
use Rattle.component_laws.specs.Runs.{AreRenamed}
use Rattle.component_laws.specs.Untouched.{named, named_atom}
use Rattle.component_laws.proofs.NamedLaws.{clause_is}
use Rattle.solved_program.specs.Kept.{AreKept}
use Rattle.solved_program.specs.Standing.{AreSameCalls, AreSameClauses, IsSameCall, IsSameClause}
use Rattle.solved_program.proofs.Clauses.{Numbered, of_program, own_at}
use Rattle.solved_program.proofs.Names.{finds_number, new_number}

module _ {X : Type 0} (p new : Listing) (comps new_comps : Partition) (prog : IsProgram p) (new_prog : IsProgram new) (are : AreComponents p comps) (new_are : AreComponents new new_comps)
    (kept : List (Option ℕ)) (are_kept : AreKept p new kept) (c d : ℕ) (old now : ℕ → X) where
  abbrev ks : List Numbered
  ks = clauses_of p comps c

  abbrev ls : List Numbered
  ls = clauses_of new new_comps d

  abbrev f : ℕ → ℕ
  f = new_number p.preds new.preds

  abbrev SameClause : Numbered → Numbered → Type 0
  SameClause = IsSameClause comps new_comps c d old now kept

  abbrev SameClauses : List Numbered → List Numbered → Type 0
  SameClauses = AreSameClauses comps new_comps c d old now kept

  abbrev SameCall : ℕ → ℕ → Type 0
  SameCall = IsSameCall comps new_comps c d old now

  abbrev SameCalls : List Atom → List Atom → Type 0
  SameCalls = AreSameCalls comps new_comps c d old now

  -- each clause of one of them has one of the other
  pub pair_on : (xs ys : List Numbered) → SameClauses xs ys → (k : Numbered) → In k xs → (l : Numbered) × In l ys × SameClause k l
  pair_on [] ys h k i = absurd i
  pair_on (x ∷ xs) [] h k i = absurd h
  pair_on (x ∷ xs) (y ∷ ys) h k (inl is) = (y, inl refl, subst (λ (z : Numbered). SameClause z y) is h.0)
  pair_on (x ∷ xs) (y ∷ ys) h k (inr i) = let m = pair_on xs ys h.1 k i in (m.0, inr m.1, m.2)

  pub pair_back : (xs ys : List Numbered) → SameClauses xs ys → (l : Numbered) → In l ys → (k : Numbered) × In k xs × SameClause k l
  pair_back xs [] h l i = absurd i
  pair_back [] (y ∷ ys) h l i = absurd h
  pair_back (x ∷ xs) (y ∷ ys) h l (inl is) = (x, inl refl, subst (λ (z : Numbered). SameClause x z) is h.0)
  pair_back (x ∷ xs) (y ∷ ys) h l (inr i) = let m = pair_back xs ys h.1 l i in (m.0, inr m.1, m.2)

  -- so has each call of a clause
  pub body_pair : (bs es : List Atom) → map (named_atom p) bs ≡ map (named_atom new) es → SameCalls bs es → (b : Atom) → In b bs → (e : Atom) × In e es × (named_atom p b ≡ named_atom new e) × SameCall b.pred.0 e.pred.0
  body_pair [] es n h b i = absurd i
  body_pair (x ∷ bs) [] n h b i = absurd h
  body_pair (x ∷ bs) (y ∷ es) n h b (inl is) =
      let first : named_atom p x ≡ named_atom new y = cc in
      (y, inl refl, ap (named_atom p) (sym is) ∙ first, subst (λ (z : Atom). SameCall z.pred.0 y.pred.0) is h.0)
  body_pair (x ∷ bs) (y ∷ es) n h b (inr i) =
      let rest : map (named_atom p) bs ≡ map (named_atom new) es = cc in
      let m = body_pair bs es rest h.1 b i in
      (m.0, inr m.1, m.2, m.3)

  -- kept clauses are the same but for the numbers of predicates
  pub same_named : (k l : Numbered) → In k ks → In l ls → SameClause k l → named p k.1 ≡ named new l.1
  same_named k l i j s =
      let is = are_kept.same (l.0 - 1) k.0 l.1 s.kept_as (own_at new new_comps new_prog new_are d l j) in
      let at = own_at p comps prog are c k i in
      let there = is.at in
      let same : is.clause ≡ k.1 = cc in
      ap (named p) (sym same) ∙ is.same

  pub same_renamed : (k l : Numbered) → In k ks → In l ls → SameClause k l → l.1 ≡ renamed f k.1
  same_renamed k l i j s = clause_is p new f (finds_number p new new_prog) new_prog l.1 k.1 (of_program new new_comps new_prog new_are d l j) (same_named k l i j s)

  pub all_renamed : (xs ys : List Numbered) → SameClauses xs ys → ((k : Numbered) → In k xs → In k ks) → ((l : Numbered) → In l ys → In l ls) → AreRenamed f xs ys
  all_renamed [] [] h i j = tt
  all_renamed [] (y ∷ ys) h i j = absurd h
  all_renamed (x ∷ xs) [] h i j = absurd h
  all_renamed (x ∷ xs) (y ∷ ys) h i j =
      (same_renamed x y (i x (inl refl)) (j y (inl refl)) h.0, all_renamed xs ys h.1 (λ k m. i k (inr m)) (λ l m. j l (inr m)))
