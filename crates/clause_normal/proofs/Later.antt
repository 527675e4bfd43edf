-- What the names of known terms mean stays where names are added.
use Rattle.std.proofs.Common.{◌≡◌, ℕ, ◌<◌, Bool, true, false, IsTrue, nat_lt, List, [], ◌∷◌, ◌++◌, length, Option, Result, Ok, Err, if◌then◌else◌, refl, ap, ◌∙◌}
use Rattle.std.specs.List.{AllByRecursion}
use Rattle.std.proofs.lemmas.Bool.{and_parts, ltb-true}
use Rattle.std.proofs.Math.ListN.{get_or-append}
use Rattle.prolog_grammar.specs.Placed.{Tree, tree, Shape, Var, Int, Fun, Trees, no_trees, more_trees}
use Rattle.prolog_terms.specs.Clauses.{Clause, arity, place, list_of, is_known, shape_known, all_known}
use Rattle.prolog_reader.specs.Fit.{IsFit}
use Rattle.prolog_reader.specs.Names.{name_text, Extends}
use Rattle.clause_normal.specs.declared.words.Connective.{Connective}
use Rattle.clause_normal.specs.declared.words.Connective.TheVariants as connective
use Rattle.clause_normal.specs.declared.fault.NormKind.TheVariants as kind
use Rattle.clause_normal.specs.declared.words.Neck.{Neck}
use Rattle.clause_normal.specs.declared.words.Neck.TheVariants as neck
use Rattle.clause_normal.specs.Words.{connective_of, is_silent, neck_of}
use Rattle.clause_normal.specs.Rules.{Rule, rules, after}
use Rattle.clause_normal.specs.NormalForm.{Fault, Form, Made, skipped, refused, clause, first_of, goals_fault, variables_fault, named_head_fault, head_fault, head_call, is_silent_goal, named_form, form_of, made_or_fault, with_form, with_clause, and_next, normal_rules}
use Rattle.clause_variables.specs.Terms.{plain_list, occurrences}
use Rattle.clause_normal.specs.Bodies.{Goal, Body, of_goals, one_goal, named_goal, atom_goal, named_body, body_of, shape_body, argument_bodies}

module _ (names later : List (List ℕ)) (ext : Extends names later) where
  -- the text of a known name
  pub text_stays : (f : ℕ) → f < length names → name_text later f ≡ name_text names f
  text_stays f h = ap (λ (ns : List (List ℕ)). name_text ns f) ext.1 ∙ get_or-append names ext.0 [] f h

  -- the body of a name whose atom is the same
  named_stays : (t : Tree) (at : ℕ) (c : Connective) (bs : List Body) → atom_goal later t ≡ atom_goal names t → named_body later t at c bs ≡ named_body names t at c bs
  named_stays t at connective.And (b ∷ d ∷ []) e = refl
  named_stays t at connective.Or (b ∷ d ∷ []) e = refl
  named_stays t at connective.Truth bs e = refl
  named_stays t at c bs e = ap (λ (g : Goal). of_goals t (λ all. one_goal g)) e

  mutual
    -- the body of a known term
    pub body_stays : (t : Tree) → IsTrue (is_known (length names) t) → body_of later t ≡ body_of names t
    body_stays (tree at s) h = shape_stays at s h

    shape_stays : (at : ℕ) (s : Shape) → IsTrue (shape_known (length names) s) → shape_body later at s ≡ shape_body names at s
    shape_stays at (Var x) h = refl
    shape_stays at (Int i) h = refl
    shape_stays at (Fun f ts) h =
        let p = and_parts (nat_lt f (length names)) (all_known (length names) ts) h in
        let text = text_stays f (ltb-true f (length names) p.0) in
        let t = tree at (Fun f ts) in
        named_stays t at (connective_of (name_text later f) (arity ts)) (argument_bodies later ts) (ap (λ (x : List ℕ). named_goal x f (plain_list ts) at) text)
        ∙ ap (λ (x : List ℕ). named_body names t at (connective_of x (arity ts)) (argument_bodies later ts)) text
        ∙ ap (named_body names t at (connective_of (name_text names f) (arity ts))) (bodies_stay ts p.1)

    bodies_stay : (ts : Trees) → IsTrue (all_known (length names) ts) → argument_bodies later ts ≡ argument_bodies names ts
    bodies_stay no_trees h = refl
    bodies_stay (more_trees t ts) h =
        let p = and_parts (is_known (length names) t) (all_known (length names) ts) h in
        ap (λ (b : Body). b ∷ argument_bodies later ts) (body_stays t p.0) ∙ ap (λ (bs : List Body). body_of names t ∷ bs) (bodies_stay ts p.1)

  -- the fault of a known head
  pub head_stays : (t : Tree) → IsTrue (is_known (length names) t) → head_fault later t ≡ head_fault names t
  head_stays (tree at (Var x)) h = refl
  head_stays (tree at (Int i)) h = refl
  head_stays (tree at (Fun f ts)) h =
      let p = and_parts (nat_lt f (length names)) (all_known (length names) ts) h in
      ap (λ (x : List ℕ). named_head_fault x (arity ts) at) (text_stays f (ltb-true f (length names) p.0))

  silent_stays : (t : Tree) → IsTrue (is_known (length names) t) → is_silent_goal later t ≡ is_silent_goal names t
  silent_stays (tree at (Var x)) h = refl
  silent_stays (tree at (Int i)) h = refl
  silent_stays (tree at (Fun f ts)) h =
      let p = and_parts (nat_lt f (length names)) (all_known (length names) ts) h in
      ap (λ (x : List ℕ). is_silent x (arity ts)) (text_stays f (ltb-true f (length names) p.0))

  abbrev AreKnown : List Tree → Type 0
  AreKnown ts = AllByRecursion (λ (t : Tree). IsTrue (is_known (length names) t)) ts

  pub list_known : (ts : Trees) → IsTrue (all_known (length names) ts) → AreKnown (list_of ts)
  list_known no_trees h = tt
  list_known (more_trees t ts) h = let p = and_parts (is_known (length names) t) (all_known (length names) ts) h in (p.0, list_known ts p.1)

  -- what a term of known arguments is
  named_form_stays : (t : Tree) (k : Neck) (ts : List Tree) → AreKnown ts → named_form later t k ts ≡ named_form names t k ts
  named_form_stays t neck.Directive (d ∷ []) h = ap (λ (b : Bool). if b then skipped else refused kind.Directive) (silent_stays d h.0)
  named_form_stays t neck.Implies (u ∷ b ∷ []) h = ap (λ (b' : Body). clause u (b'.goals (occurrences u ++ occurrences b))) (body_stays b h.1.0)
  named_form_stays t k ts h = refl

  -- its head is known
  abbrev HeadIsKnown : Form → Type 0
  HeadIsKnown skipped = Unit {0}
  HeadIsKnown (refused k) = Unit {0}
  HeadIsKnown (clause u gs) = IsTrue (is_known (length names) u)

  silent_known : (b : Bool) → HeadIsKnown (if b then skipped else refused kind.Directive)
  silent_known true = tt
  silent_known false = tt

  named_form_known : (t : Tree) (k : Neck) (ts : List Tree) → IsTrue (is_known (length names) t) → AreKnown ts → HeadIsKnown (named_form names t k ts)
  named_form_known t neck.Directive (d ∷ []) w h = silent_known (is_silent_goal names d)
  named_form_known t neck.Query ts w h = tt
  named_form_known t neck.Implies (u ∷ b ∷ []) w h = h.0
  named_form_known t neck.Grammar ts w h = tt
  named_form_known t k ts w h = w

  form_stays : (t : Tree) → IsTrue (is_known (length names) t) → form_of later t ≡ form_of names t
  form_stays (tree at (Var x)) h = refl
  form_stays (tree at (Int i)) h = refl
  form_stays (tree at (Fun f ts)) h =
      let p = and_parts (nat_lt f (length names)) (all_known (length names) ts) h in
      named_form_stays (tree at (Fun f ts)) (neck_of (name_text later f) (arity ts)) (list_of ts) (list_known ts p.1)
      ∙ ap (λ (x : List ℕ). named_form names (tree at (Fun f ts)) (neck_of x (arity ts)) (list_of ts)) (text_stays f (ltb-true f (length names) p.0))

  form_known : (t : Tree) → IsTrue (is_known (length names) t) → HeadIsKnown (form_of names t)
  form_known (tree at (Var x)) h = h
  form_known (tree at (Int i)) h = h
  form_known (tree at (Fun f ts)) h =
      let p = and_parts (nat_lt f (length names)) (all_known (length names) ts) h in
      named_form_known (tree at (Fun f ts)) (neck_of (name_text names f) (arity ts)) (list_of ts) h (list_known ts p.1)

  -- what a known clause leads to
  with_form_stays : (made : List Rule) (n : ℕ) (c : Clause) (form : Form) → HeadIsKnown form → with_form later made n c form ≡ with_form names made n c form
  with_form_stays made n c skipped h = refl
  with_form_stays made n c (refused k) h = refl
  with_form_stays made n c (clause u gs) h =
      ap (λ (f : Option Fault). made_or_fault (first_of f (first_of (goals_fault gs) (variables_fault (place c.term) (occurrences c.term)))) (place c.term) (made ++ rules n (head_call u) gs) (after n gs)) (head_stays u h)

  with_clause_stays : (made : List Rule) (n : ℕ) (c : Clause) → IsTrue (is_known (length names) c.term) → with_clause later made n c ≡ with_clause names made n c
  with_clause_stays made n c h = ap (with_form later made n c) (form_stays c.term h) ∙ with_form_stays made n c (form_of names c.term) (form_known c.term h)

  and_next_same : (r : Made) (f g : List Rule → ℕ → Result (List Rule) Fault) → ((m : List Rule) (k : ℕ) → f m k ≡ g m k) → and_next r f ≡ and_next r g
  and_next_same (Ok p) f g e = e p.0 p.1
  and_next_same (Err f') f g e = refl

  -- the clauses of known clauses stay where names are added
  pub rules_stay : (made : List Rule) (n : ℕ) (cs : List Clause) → AllByRecursion (IsFit (length names)) cs → normal_rules later made n cs ≡ normal_rules names made n cs
  rules_stay made n [] h = refl
  rules_stay made n (c ∷ cs) h =
      ap (λ (r : Made). and_next r (λ m k. normal_rules later m k cs)) (with_clause_stays made n c h.0.known)
      ∙ and_next_same (with_clause names made n c) (λ m k. normal_rules later m k cs) (λ m k. normal_rules names m k cs) (λ m k. rules_stay m k cs h.1)
