-- What resolution does to the sizes and truth rows of atoms.
use Rattle.std.proofs.Common.{◌≡◌, ℕ, ◌+◌, List, [], ◌∷◌, ◌++◌, map, take, length, slice_get, Some, refl, ap, sym, subst, ◌∙◌, arith}
use Rattle.std.proofs.lemmas.List.{length-map}
use Rattle.std.specs.List.{AllByRecursion}
use Rattle.cti_terms.specs.Tree.{Tree, Variable, instance, trees}
use Rattle.cti_terms.specs.declared.atom_list.Atom.{Atom}
use Rattle.cti_terms.specs.declared.clauses.Clause.{Clause}
use Rattle.cti_terms.specs.Unify.{Equation, Binding, pairs, applied}
use Rattle.cti_terms.specs.Resolve.{over, raised}
use Rattle.cti_terms.proofs.Unifier.{applied_instance}
use Rattle.termination_model.proofs.Walk.{Follows, follows_map, follows_append, follows_tags, all_map}

pub map_over : {A : Type 0} (g h : Tree → A) (f : Tree → Tree) → ((t : Tree) → g (f t) ≡ h t) → (ts : List Tree) → map g (map f ts) ≡ map h ts
map_over g h f same [] = refl
map_over g h f same (t ∷ ts) = λ i. same t i ∷ map_over g h f same ts i

-- arguments that are the same in pairs
same_args : {A : Type 0} (g : Tree → A) (bs : List Binding) (ts us : List Tree) → length ts ≡ length us
    → AllByRecursion (λ (e : Equation). applied bs e.0 ≡ applied bs e.1) (pairs (trees ts) (trees us)) → map g (map (applied bs) ts) ≡ map g (map (applied bs) us)
same_args g bs [] [] n h = refl
same_args g bs [] (u ∷ us) n h = cc
same_args g bs (t ∷ ts) [] n h = cc
same_args g bs (t ∷ ts) (u ∷ us) n h =
    let rest = same_args g bs ts us (omega arith) h.1 in
    λ i. g (h.0 i) ∷ rest i

module _ {A : Type 0} (F : (ℕ → A) → Tree → A) (law : (v : ℕ → A) (a : ℕ → Tree) (t : Tree) → F v (instance a t) ≡ F (λ x. F v (a x)) t) where
  pub over_view : (v : ℕ → A) (bs : List Binding) (a : Atom) → map (F v) (over (applied bs) a).args ≡ map (F (λ x. F v (applied bs (Variable x)))) a.args
  over_view v bs a = map_over (F v) (F (λ x. F v (applied bs (Variable x)))) (applied bs) (λ t. ap (F v) (applied_instance bs t) ∙ law v (λ x. applied bs (Variable x)) t) a.args

  pub raised_view : (v : ℕ → A) (n : ℕ) (a : Atom) → map (F v) (raised n a).args ≡ map (F (λ x. F v (Variable (x + n)))) a.args
  raised_view v n a = map_over (F v) (F (λ x. F v (Variable (x + n)))) (instance (λ x. Variable (x + n))) (λ t. law v (λ x. Variable (x + n)) t) a.args

  pub head_view : (v : ℕ → A) (a : Atom) (n : ℕ) (b : Atom) (bs : List Binding) → length a.args ≡ length b.args
      → AllByRecursion (λ (e : Equation). applied bs e.0 ≡ applied bs e.1) (pairs (trees a.args) (trees (raised n b).args))
      → map (F (λ x. F v (applied bs (Variable x)))) a.args ≡ map (F (λ x. F (λ y. F v (applied bs (Variable y))) (Variable (x + n)))) b.args
  head_view v a n b bs l u =
      let l' : length a.args ≡ length (raised n b).args = l ∙ sym (length-map b.args (instance (λ x. Variable (x + n)))) in
      sym (over_view v bs a) ∙ same_args (F v) bs a.args (raised n b).args l' u ∙ over_view v bs (raised n b) ∙ raised_view (λ y. F v (applied bs (Variable y))) n b

  module _ {W : Type 0} (B : ℕ → List A → Type 0) (O : W → ℕ → List A → Type 0) where
    abbrev pub Before : (ℕ → A) → Atom → Type 0
    Before v x = B x.pred.0 (map (F v) x.args)

    abbrev pub Own : (ℕ → A) → W → Atom → Type 0
    Own v w x = O w x.pred.0 (map (F v) x.args)

    -- the facts of a goal, of all valuations, survive a step
    pub step_walk : (tag : Atom → W) (w : W) (ws : List W) (a : Atom) (rest : List Atom) (n : ℕ) (k : Clause) (bs : List Binding)
        → a.pred.0 ≡ k.head.pred.0 → length a.args ≡ length k.head.args
        → AllByRecursion (λ (e : Equation). applied bs e.0 ≡ applied bs e.1) (pairs (trees a.args) (trees (raised n k.head).args))
        → ((v : ℕ → A) → Follows (Before v) (Own v) (w ∷ ws) (a ∷ rest))
        → (H : ℕ → List A → Type 0) → ((v : ℕ → A) → H a.pred.0 (map (F v) a.args))
        → ((v : ℕ → A) → AllByRecursion (Before v) k.body → Before v k.head)
        → ((v : ℕ → A) → H k.head.pred.0 (map (F v) k.head.args) → (j : ℕ) (b : Atom) → slice_get k.body j ≡ Some b → AllByRecursion (Before v) (take j k.body) → Own v (tag b) b)
        → (v : ℕ → A) → Follows (Before v) (Own v) (map tag k.body ++ ws) (map (over (applied bs)) (map (raised n) k.body ++ rest))
    step_walk tag w ws a rest n k bs pred len unified old H front closed own v =
        let v1 = λ (x : ℕ). F v (applied bs (Variable x)) in
        let v2 = λ (x : ℕ). F v1 (Variable (x + n)) in
        let views = head_view v a n k.head bs len unified in
        let at_head : H k.head.pred.0 (map (F v2) k.head.args) = subst (H k.head.pred.0) views (subst (λ (q : ℕ). H q (map (F v1) a.args)) pred (front v1)) in
        let body = follows_tags (Before v2) (Own v2) tag k.body (own v2 at_head) in
        let raise = follows_map (raised n) (Before v2) (Before v1) (Own v2) (Own v1)
        (λ x b. subst (B x.pred.0) (raised_view v1 n x) b) (λ w x o. subst (O w x.pred.0) (sym (raised_view v1 n x)) o) (map tag k.body) k.body body in
        let both = follows_append (Before v1) (Own v1) (map tag k.body) ws (map (raised n) k.body) rest raise
        (λ all. (old v1).1 (subst (λ (q : ℕ). B q (map (F v1) a.args)) (sym pred) (subst (B k.head.pred.0) (sym views)
        (closed v2 (all_map (raised n) (Before v2) (Before v1) (λ x b. subst (B x.pred.0) (raised_view v1 n x) b) k.body all))))) in
        follows_map (over (applied bs)) (Before v1) (Before v) (Own v1) (Own v)
        (λ x b. subst (B x.pred.0) (over_view v bs x) b) (λ w x o. subst (O w x.pred.0) (sym (over_view v bs x)) o) (map tag k.body ++ ws) (map (raised n) k.body ++ rest) both
