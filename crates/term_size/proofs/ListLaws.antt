-- The cells of a list, one by one.
use Rattle.std.proofs.Common.{◌≡◌, ◌↔◌, ◌⊎◌, inl, inr, ℕ, zero, suc, ◌+◌, ◌<◌, ◌≤◌, Bool, true, false, IsTrue, ◌==◌, if◌then◌else◌, ℤ, pos, List, [], ◌∷◌, ◌++◌, Contains, All, Option, None, Some, length, slice_get, get_or, refl, ap, sym, subst, ◌∙◌, arith, eqb-true}
use Rattle.std.proofs.lemmas.Bool.{cases_eq}
use Rattle.cti_terms.specs.Tree.{Tree, Trees, Variable, Integer, Compound, End, More, nodes_of, all_nodes}
use Rattle.cti_terms.specs.Spell.{tree_of, trees_of}
use Rattle.cti_terms.specs.declared.naming.Name.{Name}
use Rattle.cti_terms.specs.declared.syntax.Term.{Term}
use Rattle.std.proofs.lemmas.List.Elements.{All-contains}
use Rattle.term_size.specs.Norm.{ListsRigid}
use Rattle.term_size.specs.ListSizeLaws.{true_at_end, truth_ended}
use Rattle.term_size.proofs.MemberLaws.{all_members}
use Rattle.term_size.specs.ListSize.{list_truth, is_dot, list_size, cell_size, end_of, cell_end, second, tail_of, ends_in, ends_from}

module _ (d : Option Name) where
  -- a cell counts one more than its tail, and ends in the same variable
  pub record IsCell (t u : Tree) : Type 0 where
    pub size : list_size d (λ _. 0) t ≡ 1 + list_size d (λ _. 0) u
    pub end : end_of d t ≡ end_of d u
    pub nodes : nodes_of u + 1 ≤ nodes_of t

  second_cell : (ts : Trees) (u : Tree) → second ts ≡ Some u → (cell_size d (λ _. 0) ts ≡ 1 + list_size d (λ _. 0) u) × (cell_end d ts ≡ end_of d u) × (nodes_of u ≤ all_nodes ts)
  second_cell End u e = cc
  second_cell (More h End) u e = cc
  second_cell (More h (More t End)) u e =
      let same : t ≡ u = cc in
      subst (λ (x : Tree). (1 + list_size d (λ _. 0) t ≡ 1 + list_size d (λ _. 0) x) × (end_of d t ≡ end_of d x) × (nodes_of x ≤ nodes_of h + (nodes_of t + 0))) same (refl, refl, omega arith)
  second_cell (More h (More t (More v vs))) u e = cc

  pub is_cell : (t u : Tree) → tail_of d t ≡ Some u → IsCell t u
  is_cell (Variable x) u e = cc
  is_cell (Integer n) u e = cc
  is_cell (Compound f ts) u e = go (is_dot d f) refl e
    where
      go : (b : Bool) → is_dot d f ≡ b → (if b then second ts else None) ≡ Some u → IsCell (Compound f ts) u
      go true is e =
          let s = second_cell ts u e in
          record {
            size = ap (λ (b : Bool). if b then cell_size d (λ _. 0) ts else 0) is ∙ s.0;
            end = ap (λ (b : Bool). if b then cell_end d ts else None) is ∙ s.1;
            nodes = omega (arith, s.2);
          }
      go false is e = cc

  -- the variable that a term is
  abbrev pub variable_of : Tree → Option ℕ
  variable_of (Variable x) = Some x
  variable_of (Integer n) = None
  variable_of (Compound f ts) = None

  second_none : (ts : Trees) → second ts ≡ None → (cell_size d (λ _. 0) ts ≡ 0) × (cell_end d ts ≡ None)
  second_none End e = (refl, refl)
  second_none (More h End) e = (refl, refl)
  second_none (More h (More t End)) e = cc
  second_none (More h (More t (More v vs))) e = (refl, refl)

  pub no_cell : (t : Tree) → tail_of d t ≡ None → (list_size d (λ _. 0) t ≡ 0) × (end_of d t ≡ variable_of t)
  no_cell (Variable x) e = (refl, refl)
  no_cell (Integer n) e = (refl, refl)
  no_cell (Compound f ts) e = go (is_dot d f) e
    where
      go : (b : Bool) → (if b then second ts else None) ≡ None → ((if b then cell_size d (λ _. 0) ts else 0) ≡ 0) × ((if b then cell_end d ts else None) ≡ None)
      go true e = second_none ts e
      go false e = (refl, refl)

-- the second of two arguments
pub second_there : (xs : List Term) (u v : Term) → length xs ≡ 2 → get_or xs 1 v ≡ u → second (trees_of xs) ≡ Some (tree_of u)
second_there [] u v two e = absurd (omega arith)
second_there (x ∷ []) u v two e = absurd (omega arith)
second_there (x ∷ (y ∷ [])) u v two e = ap (λ (t : Term). Some (tree_of t)) e
second_there (x ∷ (y ∷ (z ∷ zs))) u v two e = absurd (omega arith)

pub second_not : (xs : List Term) → (length xs ≡ 2 → ⊥) → second (trees_of xs) ≡ None
second_not [] other = refl
second_not (x ∷ []) other = refl
second_not (x ∷ (y ∷ [])) other = absurd (other refl)
second_not (x ∷ (y ∷ (z ∷ zs))) other = refl

-- the numbers of one variable more
ends_push : (k n : ℕ) (o : Option ℕ) → ends_from k (n + 1) o ≡ ends_from k n o ++ pos (ends_in o (k + n)) ∷ []
ends_push k zero o = ap (λ (x : ℕ). pos (ends_in o x) ∷ []) (let e : k ≡ k + 0 = omega arith in e)
ends_push k (suc n) o =
    ap (λ (m : ℕ). ends_from k m o) (let e : suc n + 1 ≡ suc (n + 1) = omega arith in e)
    ∙ ap (λ (xs : List ℤ). pos (ends_in o k) ∷ xs) (ends_push (suc k) n o)
    ∙ ap (λ (x : ℕ). pos (ends_in o k) ∷ (ends_from (suc k) n o ++ pos (ends_in o x) ∷ [])) (let e : suc k + n ≡ k + suc n = omega arith in e)

pub ends_more : (n : ℕ) (o : Option ℕ) → ends_from 0 (n + 1) o ≡ ends_from 0 n o ++ pos (ends_in o n) ∷ []
ends_more n o = ends_push 0 n o ∙ ap (λ (x : ℕ). ends_from 0 n o ++ pos (ends_in o x) ∷ []) (let e : 0 + n ≡ n = omega arith in e)

-- the variable at the end is the one that rigidity asks for
pub lists_end : (d : Option Name) (t : Tree) (xs : List ℕ) → ((x : ℕ) → Contains xs x ↔ (end_of d t ≡ Some x)) → ListsRigid (list_truth d) t xs
lists_end d t xs each = λ v. (forth v, back v (end_of d t) refl)
  where
    forth : (v : ℕ → Bool) → IsTrue (list_truth d v t) → All (λ x. IsTrue (v x)) xs
    forth v e = all_members (λ x. IsTrue (v x)) xs (λ x m. sym (ap (true_at_end d v) ((each x).0 m)) ∙ sym (truth_ended d v t) ∙ e)

    back : (v : ℕ → Bool) (o : Option ℕ) → end_of d t ≡ o → All (λ x. IsTrue (v x)) xs → IsTrue (list_truth d v t)
    back v None e all = truth_ended d v t ∙ ap (true_at_end d v) e
    back v (Some x) e all = truth_ended d v t ∙ ap (true_at_end d v) e ∙ All-contains (λ x. IsTrue (v x)) xs x all ((each x).1 e)
