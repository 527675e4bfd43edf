-- A walk meets the nodes of the goal, each once and in order.
use Rattle.std.proofs.Common.{◌≡◌, ℕ, zero, suc, max, ◌+◌, ◌||◌, List, [], ◌∷◌, ◌++◌, map, flat_map, filter_map, length, Option, None, Some, option_and_then, option_map, append_assoc, append-nil, refl, ap, sym, ◌∙◌, arith}
use Rattle.std.specs.List.{range_with_len, cons_option, list_any}
use Rattle.std.proofs.lemmas.List.{map-append}
use Rattle.cti_terms.specs.declared.atom_list.Atom.{Atom}
use Rattle.cti_terms.specs.declared.derivation.Goal.{Goal}
use Rattle.cti_terms.specs.Arithmetic.{begins_wide}
use Rattle.cti_terms.specs.Listing.{Listing}
use Rattle.cti_terms.specs.Unify.{Binding}
use Rattle.cti_terms.specs.Resolve.{resolve}
use Rattle.cti_terms.specs.Nodes.{under, nodes, longest}
use Rattle.cti_terms.specs.Answers.{reached, answer_by, answer_of, is_wide_left, leaves_wide}
use Rattle.ld_resolver.specs.Walk.{Visit, entered, walk_by, walk, answer_from, visit, most_steps, met_answers}

module _ (p : Listing) (q : List Atom) where
  -- the node of one clause
  first_answer : (bs : List Binding) (h : Goal) (k : ℕ) (r : List Binding × Goal) → resolve p h k ≡ Some r → answer_from p q bs h (k ∷ []) ≡ answer_by q (bs ++ r.0) r.1.atoms
  first_answer bs h k r e =
      ap (λ (o : Option (List Binding × Goal)). option_and_then (λ (r : List Binding × Goal). answer_by q (bs ++ r.0) r.1.atoms) (option_and_then (λ (r : List Binding × Goal). option_map (λ (s : List Binding × Goal). (r.0 ++ s.0, s.1)) (reached p r.1 [])) o)) e
      ∙ ap (λ (cs : List Binding). answer_by q (bs ++ cs) r.1.atoms) (append-nil r.0)

  -- a node below it
  later_answer : (bs : List Binding) (h : Goal) (k : ℕ) (ks : List ℕ) (r : List Binding × Goal) → resolve p h k ≡ Some r → answer_from p q bs h (k ∷ ks) ≡ answer_from p q (bs ++ r.0) r.1 ks
  later_answer bs h k ks r e =
      ap (λ (o : Option (List Binding × Goal)). option_and_then (λ (r : List Binding × Goal). answer_by q (bs ++ r.0) r.1.atoms) (option_and_then (λ (r : List Binding × Goal). option_map (λ (s : List Binding × Goal). (r.0 ++ s.0, s.1)) (reached p r.1 ks)) o)) e
      ∙ go (reached p r.1 ks)
    where
      go : (o : Option (List Binding × Goal)) → option_and_then (λ (r : List Binding × Goal). answer_by q (bs ++ r.0) r.1.atoms) (option_map (λ (s : List Binding × Goal). (r.0 ++ s.0, s.1)) o) ≡ option_and_then (λ (s : List Binding × Goal). answer_by q ((bs ++ r.0) ++ s.0) s.1.atoms) o
      go None = refl
      go (Some s) = ap (λ (cs : List Binding). answer_by q cs s.1.atoms) (sym (append_assoc bs r.0 s.0))

  -- how wide they are
  first_wide : (h : Goal) (k : ℕ) (r : List Binding × Goal) → resolve p h k ≡ Some r → is_wide_left p.arithmetic (reached p h (k ∷ [])) ≡ begins_wide p.arithmetic r.1.atoms
  first_wide h k r e = ap (λ (o : Option (List Binding × Goal)). is_wide_left p.arithmetic (option_and_then (λ (r : List Binding × Goal). option_map (λ (s : List Binding × Goal). (r.0 ++ s.0, s.1)) (reached p r.1 [])) o)) e

  later_wide : (h : Goal) (k : ℕ) (ks : List ℕ) (r : List Binding × Goal) → resolve p h k ≡ Some r → is_wide_left p.arithmetic (reached p h (k ∷ ks)) ≡ is_wide_left p.arithmetic (reached p r.1 ks)
  later_wide h k ks r e =
      ap (λ (o : Option (List Binding × Goal)). is_wide_left p.arithmetic (option_and_then (λ (r : List Binding × Goal). option_map (λ (s : List Binding × Goal). (r.0 ++ s.0, s.1)) (reached p r.1 ks)) o)) e
      ∙ go (reached p r.1 ks)
    where
      go : (o : Option (List Binding × Goal)) → is_wide_left p.arithmetic (option_map (λ (s : List Binding × Goal). (r.0 ++ s.0, s.1)) o) ≡ is_wide_left p.arithmetic o
      go None = refl
      go (Some s) = refl

  later_visits : (bs : List Binding) (l : ℕ) (h : Goal) (k : ℕ) (r : List Binding × Goal) → resolve p h k ≡ Some r → (ns : List (List ℕ)) → map (visit p q (bs ++ r.0) (l + 1) r.1) ns ≡ map (visit p q bs l h) (map (λ ks. k ∷ ks) ns)
  later_visits bs l h k r e [] = refl
  later_visits bs l h k r e (ks ∷ ns) =
      let count : (l + 1) + length ks ≡ l + length (k ∷ ks) = omega arith in
      let same = later_answer bs h k ks r e in
      let wide = later_wide h k ks r e in
      λ i. record { steps = count i; answer = sym same i; wide = sym wide i } ∷ later_visits bs l h k r e ns i

  walk_clause : (d : ℕ) → ((bs : List Binding) (l : ℕ) (h : Goal) → walk p q d bs l h ≡ map (visit p q bs l h) (nodes p d h)) → (bs : List Binding) (l : ℕ) (h : Goal) (k : ℕ) (o : Option (List Binding × Goal)) → resolve p h k ≡ o → entered p.arithmetic q (walk p q d) bs l o ≡ map (visit p q bs l h) (under k (nodes p d) o)
  walk_clause d ih bs l h k None e = refl
  walk_clause d ih bs l h k (Some r) e =
      let first = first_answer bs h k r e in
      let wide = first_wide h k r e in
      let later = ih (bs ++ r.0) (l + 1) r.1 ∙ later_visits bs l h k r e (nodes p d r.1) in
      λ i. record { steps = l + 1; answer = sym first i; wide = sym wide i } ∷ later i

  walk_clauses : (d : ℕ) → ((bs : List Binding) (l : ℕ) (h : Goal) → walk p q d bs l h ≡ map (visit p q bs l h) (nodes p d h)) → (bs : List Binding) (l : ℕ) (h : Goal) (ks : List ℕ) → walk_by p q (walk p q d) bs l h ks ≡ map (visit p q bs l h) (flat_map (λ k. under k (nodes p d) (resolve p h k)) ks)
  walk_clauses d ih bs l h [] = refl
  walk_clauses d ih bs l h (k ∷ ks) =
      (λ i. walk_clause d ih bs l h k (resolve p h k) refl i ++ walk_clauses d ih bs l h ks i)
      ∙ sym (map-append (visit p q bs l h) (under k (nodes p d) (resolve p h k)) (flat_map (λ k. under k (nodes p d) (resolve p h k)) ks))

  -- a walk meets the nodes
  pub walk_nodes : (d : ℕ) (bs : List Binding) (l : ℕ) (h : Goal) → walk p q d bs l h ≡ map (visit p q bs l h) (nodes p d h)
  walk_nodes zero bs l h = refl
  walk_nodes (suc d) bs l h = walk_clauses d (walk_nodes d) bs l h (range_with_len 0 (suc (length p.clauses)))

-- what is met says the longest derivation
pub most_visits : (p : Listing) (g : Goal) (ns : List (List ℕ)) → most_steps (map (visit p g.atoms [] 0 g) ns) ≡ longest ns
most_visits p g [] = refl
most_visits p g (ks ∷ ns) = λ i. max (zero_sum i) (most_visits p g ns i)
  where
    zero_sum : 0 + length ks ≡ length ks
    zero_sum = omega arith

-- and the answers
pub met_visits : (p : Listing) (g : Goal) (ns : List (List ℕ)) → met_answers (map (visit p g.atoms [] 0 g) ns) ≡ filter_map (answer_of p g) ns
met_visits p g [] = refl
met_visits p g (ks ∷ ns) = ap (cons_option (answer_of p g ks)) (met_visits p g ns)

pub most_steps-append : (vs ws : List Visit) → most_steps (vs ++ ws) ≡ max (most_steps vs) (most_steps ws)
most_steps-append [] ws = omega arith
most_steps-append (v ∷ vs) ws = let r = most_steps-append vs ws in omega (arith, r)

-- and whether a node leaves a wide goal
pub wide_visits : (p : Listing) (g : Goal) (ns : List (List ℕ)) → list_any (λ (v : Visit). v.wide) (map (visit p g.atoms [] 0 g) ns) ≡ list_any (leaves_wide p g) ns
wide_visits p g [] = refl
wide_visits p g (ks ∷ ns) = ap (λ b. leaves_wide p g ks || b) (wide_visits p g ns)
