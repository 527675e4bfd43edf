-- Definite clauses stay what they are where names are added.
use Rattle.std.proofs.Common.{◌≡◌, ℕ, IsTrue, nat_lt, List, [], ◌∷◌, ◌++◌, length, map, Option, None, refl, ap, ◌∙◌}
use Rattle.std.specs.List.{AllByRecursion}
use Rattle.std.proofs.lemmas.Bool.{and_parts, ltb-true}
use Rattle.prolog_grammar.specs.Placed.{Tree, tree, Shape, Var, Int, Fun, Trees, no_trees, more_trees}
use Rattle.prolog_reader.specs.Fit.{IsFit}
use Rattle.prolog_reader.specs.Names.{name_text, Extends}
use Rattle.prolog_terms.specs.Clauses.{Clause, arity, place, list_of, is_known, shape_known, all_known}
use Rattle.clause_normal.specs.declared.words.Connective.{Connective}
use Rattle.clause_normal.specs.declared.words.Connective.TheVariants as connective
use Rattle.clause_normal.specs.declared.words.Neck.{Neck}
use Rattle.clause_normal.specs.declared.words.Neck.TheVariants as neck
use Rattle.clause_normal.specs.Words.{connective_of, neck_of}
use Rattle.clause_variables.specs.Terms.{plain_list, occurrences}
use Rattle.clause_normal.specs.Bodies.{Goal, call, choice, bad, named_goal, atom_goal}
use Rattle.clause_normal.specs.ChoiceNames.{functor_texts, call_texts, rule_texts}
use Rattle.clause_normal.specs.declared.rule.Call.{Call as CodeCall}
use Rattle.clause_normal.specs.declared.rule.Functor.{Functor as CodeFunctor}
use Rattle.clause_normal.specs.declared.rule.Functor.TheVariants as functor
use Rattle.clause_normal.specs.declared.rule.Rule.{Rule as CodeRule}
use Rattle.clause_normal.specs.RuleViews.{functor_of, call_of, rule_of, IsNamed, RuleIsNamed}
use Rattle.clause_normal.specs.Rules.{Call, Rule}
use Rattle.clause_normal.specs.NormalForm.{Fault, first_of, head_call, variables_fault}
use Rattle.clause_normal.specs.Query.{named_goals, query_goals, shape_goals, argument_goals, query_fault, query_calls}
use Rattle.clause_normal.specs.Definite.{Parted, no_clause, fact, rule, named_parts, parted, parts_fault, parted_fault, AreDefinite, parts_rule, rules_of}
use Rattle.clause_normal.proofs.Later.{text_stays, head_stays, list_known}

module _ (names later : List (List ℕ)) (ext : Extends names later) where
  -- the goals of a name whose atom is the same
  goals_stay : (t : Tree) (k : Connective) (gss : List (List Goal)) → atom_goal later t ≡ atom_goal names t → named_goals later t k gss ≡ named_goals names t k gss
  goals_stay t connective.And (gs ∷ hs ∷ []) e = refl
  goals_stay t connective.Truth gss e = refl
  goals_stay t k gss e = ap (λ (g : Goal). g ∷ []) e

  mutual
    -- the goals of a known term
    pub query_stays : (t : Tree) → IsTrue (is_known (length names) t) → query_goals later t ≡ query_goals names t
    query_stays (tree at s) h = shape_goals_stay at s h

    shape_goals_stay : (at : ℕ) (s : Shape) → IsTrue (shape_known (length names) s) → shape_goals later at s ≡ shape_goals names at s
    shape_goals_stay at (Var x) h = refl
    shape_goals_stay at (Int n) h = refl
    shape_goals_stay at (Fun f ts) h =
        let p = and_parts (nat_lt f (length names)) (all_known (length names) ts) h in
        let text = text_stays names later ext f (ltb-true f (length names) p.0) in
        let t = tree at (Fun f ts) in
        goals_stay t (connective_of (name_text later f) (arity ts)) (argument_goals later ts) (ap (λ (x : List ℕ). named_goal x f (plain_list ts) at) text)
        ∙ ap (λ (x : List ℕ). named_goals names t (connective_of x (arity ts)) (argument_goals later ts)) text
        ∙ ap (named_goals names t (connective_of (name_text names f) (arity ts))) (argument_goals_stay ts p.1)

    argument_goals_stay : (ts : Trees) → IsTrue (all_known (length names) ts) → argument_goals later ts ≡ argument_goals names ts
    argument_goals_stay no_trees h = refl
    argument_goals_stay (more_trees t ts) h =
        let p = and_parts (is_known (length names) t) (all_known (length names) ts) h in
        λ i. query_stays t p.0 i ∷ argument_goals_stay ts p.1 i

  parted_stays : (t : Tree) → IsTrue (is_known (length names) t) → parted later t ≡ parted names t
  parted_stays (tree at (Var x)) h = refl
  parted_stays (tree at (Int n)) h = refl
  parted_stays (tree at (Fun f ts)) h =
      let p = and_parts (nat_lt f (length names)) (all_known (length names) ts) h in
      ap (λ (x : List ℕ). named_parts (tree at (Fun f ts)) (neck_of x (arity ts)) (list_of ts)) (text_stays names later ext f (ltb-true f (length names) p.0))

  -- parts that are known
  abbrev pub AreKnownParts : Parted → Type 0
  AreKnownParts (no_clause k) = Unit {0}
  AreKnownParts (fact u) = IsTrue (is_known (length names) u)
  AreKnownParts (rule u b) = IsTrue (is_known (length names) u) × IsTrue (is_known (length names) b)

  named_parts_known : (t : Tree) (k : Neck) (ts : List Tree) → IsTrue (is_known (length names) t) → AllByRecursion (λ (t : Tree). IsTrue (is_known (length names) t)) ts → AreKnownParts (named_parts t k ts)
  named_parts_known t neck.Directive (d ∷ []) w h = tt
  named_parts_known t neck.Query ts w h = tt
  named_parts_known t neck.Implies (u ∷ b ∷ []) w h = (h.0, h.1.0)
  named_parts_known t neck.Grammar ts w h = tt
  named_parts_known t k ts w h = w

  pub parted_known : (t : Tree) → IsTrue (is_known (length names) t) → AreKnownParts (parted names t)
  parted_known (tree at (Var x)) h = h
  parted_known (tree at (Int n)) h = h
  parted_known (tree at (Fun f ts)) h =
      let p = and_parts (nat_lt f (length names)) (all_known (length names) ts) h in
      named_parts_known (tree at (Fun f ts)) (neck_of (name_text names f) (arity ts)) (list_of ts) h (list_known names later ext ts p.1)

  parts_fault_stays : (t : Tree) (p : Parted) → AreKnownParts p → parts_fault later t p ≡ parts_fault names t p
  parts_fault_stays t (no_clause k) h = refl
  parts_fault_stays t (fact u) h = ap (λ (f : Option Fault). first_of f (variables_fault (place t) (occurrences t))) (head_stays names later ext u h)
  parts_fault_stays t (rule u b) h =
      let head = head_stays names later ext u h.0 in
      let goals = query_stays b h.1 in
      λ i. first_of (head i) (first_of (query_fault (goals i)) (variables_fault (place t) (occurrences t)))

  parts_rule_stays : (p : Parted) → AreKnownParts p → parts_rule later p ≡ parts_rule names p
  parts_rule_stays (no_clause k) h = refl
  parts_rule_stays (fact u) h = refl
  parts_rule_stays (rule u b) h = ap (λ (gs : List Goal). record { head = head_call u; body = query_calls gs } ∷ []) (query_stays b h.1)

  -- the fault of a clause
  pub parted_fault_stays : (c : Clause) → IsFit (length names) c → parted_fault later c ≡ parted_fault names c
  parted_fault_stays c fit = ap (parts_fault later c.term) (parted_stays c.term fit.known) ∙ parts_fault_stays c.term (parted names c.term) (parted_known c.term fit.known)

  -- the clauses of clauses
  pub rules_of_stay : (cs : List Clause) → AllByRecursion (IsFit (length names)) cs → rules_of later cs ≡ rules_of names cs
  rules_of_stay [] h = refl
  rules_of_stay (c ∷ cs) h =
      let one : parts_rule later (parted later c.term) ≡ parts_rule names (parted names c.term) =
      ap (parts_rule later) (parted_stays c.term h.0.known) ∙ parts_rule_stays (parted names c.term) (parted_known c.term h.0.known) in
      λ i. one i ++ rules_of_stay cs h.1 i

  -- so they stay definite
  pub definite_stay : (cs : List Clause) → AllByRecursion (IsFit (length names)) cs → AreDefinite names cs → AreDefinite later cs
  definite_stay cs fit h = record { each = each_stays cs fit h.each; few = h.few }
    where
      each_stays : (cs : List Clause) → AllByRecursion (IsFit (length names)) cs → AllByRecursion (λ (c : Clause). parted_fault names c ≡ None) cs → AllByRecursion (λ (c : Clause). parted_fault later c ≡ None) cs
      each_stays [] fit h = tt
      each_stays (c ∷ cs) fit h = (parted_fault_stays c fit.0 ∙ h.0, each_stays cs fit.1 h.1)

-- clauses that need no name call only names
no_texts : (xs ys : List (List ℕ)) → xs ++ ys ≡ [] → (xs ≡ []) × (ys ≡ [])
no_texts [] ys h = (refl, h)
no_texts (x ∷ xs) ys h = absurd (let e = h in cc)

functor_named : (f : CodeFunctor) → functor_texts (functor_of f) ≡ [] → IsNamed f
functor_named (functor.Named f) h = tt
functor_named (functor.Chosen m) h = absurd (let e = h in cc)

calls_named : (cs : List CodeCall) → call_texts (map call_of cs) ≡ [] → AllByRecursion (λ (c : CodeCall). IsNamed c.functor) cs
calls_named [] h = tt
calls_named (c ∷ cs) h = let p = no_texts (functor_texts (functor_of c.functor)) (call_texts (map call_of cs)) h in (functor_named c.functor p.0, calls_named cs p.1)

pub rules_named : (rs : List CodeRule) → rule_texts (map rule_of rs) ≡ [] → AllByRecursion RuleIsNamed rs
rules_named [] h = tt
rules_named (r ∷ rs) h =
    let p = no_texts (call_texts (call_of r.head ∷ map call_of r.body.items)) (rule_texts (map rule_of rs)) h in
    let q = no_texts (functor_texts (functor_of r.head.functor)) (call_texts (map call_of r.body.items)) p.0 in
    ((functor_named r.head.functor q.0, calls_named r.body.items q.1), rules_named rs p.1)

-- definite clauses call nothing that needs a name
module _ (names : List (List ℕ)) where
  calls_texts : (gs : List Goal) → call_texts (query_calls gs) ≡ []
  calls_texts [] = refl
  calls_texts (call f ts ∷ gs) = calls_texts gs
  calls_texts (choice args bs ∷ gs) = calls_texts gs
  calls_texts (bad k at ∷ gs) = calls_texts gs

  head_texts : (t : Tree) (cs : List Call) → call_texts (head_call t ∷ cs) ≡ call_texts cs
  head_texts (tree at (Var x)) cs = refl
  head_texts (tree at (Int n)) cs = refl
  head_texts (tree at (Fun f ts)) cs = refl

  parts_texts : (p : Parted) (rs : List Rule) → rule_texts (parts_rule names p ++ rs) ≡ rule_texts rs
  parts_texts (no_clause k) rs = refl
  parts_texts (fact u) rs = ap (λ (ns : List (List ℕ)). ns ++ rule_texts rs) (head_texts u [])
  parts_texts (rule u b) rs =
      let gs = query_goals names b in
      ap (λ (ns : List (List ℕ)). ns ++ rule_texts rs) (head_texts u (query_calls gs) ∙ calls_texts gs)

  pub definite_texts : (cs : List Clause) → rule_texts (rules_of names cs) ≡ []
  definite_texts [] = refl
  definite_texts (c ∷ cs) = parts_texts (parted names c.term) (rules_of names cs) ∙ definite_texts cs

  -- so the code's clauses call only names
  pub definite_named : (cs : List Clause) (rs : List CodeRule) → map rule_of rs ≡ rules_of names cs → AllByRecursion RuleIsNamed rs
  definite_named cs rs e = rules_named rs (ap rule_texts e ∙ definite_texts cs)
