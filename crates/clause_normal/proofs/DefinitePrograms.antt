-- The program of definite clauses stays the same where names are added.
use Rattle.std.proofs.Common.{◌≡◌, ℕ, suc, ◌+◌, ◌<◌, ◌&&◌, ◌||◌, ◌==◌, Bool, true, false, not, cond, IsTrue, nat_eq, nat_lt, position, List, [], ◌∷◌, ◌++◌, length, map, Option, Some, None, if◌then◌else◌, refl, ap, sym, ◌∙◌, subst, append-nil, eq-eqb}
use Rattle.std.specs.Prelude.{codes}
use Rattle.std.specs.List.{AllByRecursion, list_any, position_or_len}
use Rattle.std.specs.Cmp.Lexicographic.{pointwise}
use Rattle.std.proofs.lemmas.Bool.{and_parts, ltb-true}
use Rattle.std.proofs.lemmas.List.Folds.{list_any-append}
use Rattle.cti_terms.specs.Arithmetic.{Arithmetic}
use Rattle.cti_terms.specs.Listing.{Listing, is_pred, with_pred}
use Rattle.cti_terms.specs.Numbers.{number_of, with_text}
use Rattle.cti_terms.specs.Tree.{Tree as Term}
use Rattle.cti_terms.specs.declared.atom_list.Atom.{Atom}
use Rattle.cti_terms.specs.declared.predicates.Pred.{Pred}
use Rattle.prolog_grammar.specs.Placed.{Tree, tree, Shape, Var, Int, Fun, Trees, no_trees, more_trees}
use Rattle.prolog_reader.specs.Fit.{IsFit}
use Rattle.prolog_reader.specs.Names.{name_text, Extends}
use Rattle.prolog_reader.specs.Naming.{with_names}
use Rattle.prolog_reader.proofs.NameLemmas.{number_kept, text_there}
use Rattle.prolog_reader.proofs.NamingLemmas.{names_stay}
use Rattle.prolog_terms.specs.Clauses.{Clause, arity, is_known, shape_known, all_known}
use Rattle.clause_normal.specs.declared.fault.NormKind.TheVariants as kind
use Rattle.clause_normal.specs.declared.words.Connective.{Connective}
use Rattle.clause_normal.specs.declared.words.Connective.TheVariants as connective
use Rattle.clause_normal.specs.Words.{same, is_impure, is_choice_name, connective_of, builtin_of}
use Rattle.clause_variables.specs.Terms.{plain_list, renumbered}
use Rattle.clause_normal.specs.Bodies.{Goal, call, choice, bad, named_goal, atom_goal}
use Rattle.clause_normal.specs.ChoiceNames.{HasOperations}
use Rattle.clause_normal.specs.Rules.{Functor, named, chosen, Call, Rule}
use Rattle.clause_normal.specs.NormalForm.{head_fault, head_call}
use Rattle.clause_normal.specs.Numbering.{name_number, pred_of, atom_after, with_calls, atoms_after, order_of, builtin_at, builtins_from, operation_texts, operations, arithmetic_of, empty_program, with_rule, with_rules, is_equality, with_equality_clause, with_equality}
use Rattle.clause_normal.specs.Query.{named_goals, query_goals, shape_goals, argument_goals, query_calls}
use Rattle.clause_normal.specs.Definite.{Parted, no_clause, fact, rule, parted, parts_fault, parted_fault, AreDefinite, parts_rule, rules_of, program_of}
use Rattle.clause_normal.proofs.DefiniteLater.{AreKnownParts, parted_known, rules_of_stay}
use Rattle.clause_normal.proofs.DefiniteLemmas.{both_none}
use Rattle.clause_normal.proofs.Later.{text_stays}
use Rattle.clause_variables.proofs.ListLemmas.{all_append}

-- ---- what is called has a known name

module _ (n : ℕ) where
  abbrev pub IsKnownFunctor : Functor → Type 0
  IsKnownFunctor (named f) = f < n
  IsKnownFunctor (chosen m) = ⊥

  abbrev pub IsKnownCall : Call → Type 0
  IsKnownCall c = IsKnownFunctor c.functor

  abbrev pub IsKnownRule : Rule → Type 0
  IsKnownRule r = IsKnownCall r.head × AllByRecursion IsKnownCall r.body

  abbrev IsKnownGoal : Goal → Type 0
  IsKnownGoal (call f ts) = f < n
  IsKnownGoal (choice args bs) = Unit {0}
  IsKnownGoal (bad k at) = Unit {0}

  abbrev AreKnownGoals : List Goal → Type 0
  AreKnownGoals gs = AllByRecursion IsKnownGoal gs

  named_known : (text : List ℕ) (f : ℕ) (args : List Term) (at : ℕ) → f < n → IsKnownGoal (named_goal text f args at)
  named_known text f args at h = by_tests (is_impure text (length args) || is_choice_name text) (nat_lt 12 (length args))
    where
      by_tests : (b c : Bool) → IsKnownGoal (if b then bad kind.NotPure at else if c then bad kind.Arity at else call f args)
      by_tests true c = tt
      by_tests false true = tt
      by_tests false false = h

  calls_known : (gs : List Goal) → AreKnownGoals gs → AllByRecursion IsKnownCall (query_calls gs)
  calls_known [] h = tt
  calls_known (call f ts ∷ gs) h = (h.0, calls_known gs h.1)
  calls_known (choice args bs ∷ gs) h = calls_known gs h.1
  calls_known (bad k at ∷ gs) h = calls_known gs h.1

module _ (names : List (List ℕ)) where
  abbrev known : ℕ
  known = length names

  atom_known : (t : Tree) → IsTrue (is_known known t) → IsKnownGoal known (atom_goal names t)
  atom_known (tree at (Var x)) h = tt
  atom_known (tree at (Int i)) h = tt
  atom_known (tree at (Fun f ts)) h = named_known known (name_text names f) f (plain_list ts) at (ltb-true f known (and_parts (nat_lt f known) (all_known known ts) h).0)

  goals_known : (t : Tree) (k : Connective) (gss : List (List Goal)) → IsTrue (is_known known t) → AllByRecursion (AreKnownGoals known) gss → AreKnownGoals known (named_goals names t k gss)
  goals_known t connective.And (gs ∷ hs ∷ []) w h = all_append (IsKnownGoal known) gs hs h.0 h.1.0
  goals_known t connective.Truth gss w h = tt
  goals_known t k gss w h = (atom_known t w, tt)

  mutual
    query_known : (t : Tree) → IsTrue (is_known known t) → AreKnownGoals known (query_goals names t)
    query_known (tree at s) h = shape_goals_known at s h

    shape_goals_known : (at : ℕ) (s : Shape) → IsTrue (shape_known known s) → AreKnownGoals known (shape_goals names at s)
    shape_goals_known at (Var x) h = (tt, tt)
    shape_goals_known at (Int i) h = (tt, tt)
    shape_goals_known at (Fun f ts) h =
        let p = and_parts (nat_lt f known) (all_known known ts) h in
        goals_known (tree at (Fun f ts)) (connective_of (name_text names f) (arity ts)) (argument_goals names ts) h (argument_goals_known ts p.1)

    argument_goals_known : (ts : Trees) → IsTrue (all_known known ts) → AllByRecursion (AreKnownGoals known) (argument_goals names ts)
    argument_goals_known no_trees h = tt
    argument_goals_known (more_trees t ts) h = let p = and_parts (is_known known t) (all_known known ts) h in (query_known t p.0, argument_goals_known ts p.1)

  head_known : (t : Tree) → IsTrue (is_known known t) → head_fault names t ≡ None → IsKnownCall known (head_call t)
  head_known (tree at (Var x)) h e = absurd (let k = e in cc)
  head_known (tree at (Int i)) h e = absurd (let k = e in cc)
  head_known (tree at (Fun f ts)) h e = ltb-true f known (and_parts (nat_lt f known) (all_known known ts) h).0

  parts_known : (t : Tree) (p : Parted) → AreKnownParts names names ([], sym (append-nil names)) p → parts_fault names t p ≡ None → AllByRecursion (IsKnownRule known) (parts_rule names p)
  parts_known t (no_clause k) h e = tt
  parts_known t (fact u) h e = ((head_known u h (both_none _ _ e).0, tt), tt)
  parts_known t (rule u b) h e = ((head_known u h.0 (both_none _ _ e).0, calls_known known (query_goals names b) (query_known b h.1)), tt)

  rules_known : (cs : List Clause) → AllByRecursion (IsFit known) cs → AllByRecursion (λ (c : Clause). parted_fault names c ≡ None) cs → AllByRecursion (IsKnownRule known) (rules_of names cs)
  rules_known [] fit h = tt
  rules_known (c ∷ cs) fit h =
      let p = parted names c.term in
      all_append (IsKnownRule known) (parts_rule names p) (rules_of names cs)
      (parts_known c.term p (parted_known names names ([], sym (append-nil names)) c.term fit.0.known) h.0) (rules_known cs fit.1 h.1)

-- ---- what is known stays

module _ (names later : List (List ℕ)) (ext : Extends names later) where
  abbrev n : ℕ
  n = length names

  abbrev ArePredsKnown : List Pred → Type 0
  ArePredsKnown ps = AllByRecursion (λ (p : Pred). p.name.0 < n) ps

  number_stays : (f : Functor) → IsKnownFunctor n f → name_number later f ≡ name_number names f
  number_stays (named f) h = refl
  number_stays (chosen m) h = absurd h

  number_below : (f : Functor) → IsKnownFunctor n f → name_number names f < n
  number_below (named f) h = h
  number_below (chosen m) h = absurd h

  pred_stays : (c : Call) → IsKnownCall n c → pred_of later c ≡ pred_of names c
  pred_stays c h = ap (λ (m : ℕ). record { name = record { 0 = m }; arity = length c.args }) (number_stays c.functor h)

  calls_stay : (ps : List Pred) (cs : List Call) → AllByRecursion (IsKnownCall n) cs → with_calls later ps cs ≡ with_calls names ps cs
  calls_stay ps [] h = refl
  calls_stay ps (c ∷ cs) h = calls_stay (with_pred ps (pred_of later c)) cs h.1 ∙ ap (λ (p : Pred). with_calls names (with_pred ps p) cs) (pred_stays c h.0)

  atom_stays : (order : List ℕ) (ps : List Pred) (c : Call) → IsKnownCall n c → atom_after later order ps c ≡ atom_after names order ps c
  atom_stays order ps c h =
      ap (λ (p : Pred). record { pred = record { 0 = position_or_len (is_pred p.name.0 p.arity) ps }; args = map (renumbered order) c.args }) (pred_stays c h)

  atoms_stay : (order : List ℕ) (ps : List Pred) (cs : List Call) → AllByRecursion (IsKnownCall n) cs → atoms_after later order ps cs ≡ atoms_after names order ps cs
  atoms_stay order ps [] h = refl
  atoms_stay order ps (c ∷ cs) h =
      (λ i. atom_stays order ps c h.0 i ∷ atoms_after later order (with_pred ps (pred_stays c h.0 i)) cs)
      ∙ ap (λ (xs : List Atom). atom_after names order ps c ∷ xs) (atoms_stay order (with_pred ps (pred_of names c)) cs h.1)

  pred_known : (ps : List Pred) (p : Pred) → ArePredsKnown ps → p.name.0 < n → ArePredsKnown (with_pred ps p)
  pred_known ps p h k = by_test (list_any (is_pred p.name.0 p.arity) ps)
    where
      by_test : (b : Bool) → ArePredsKnown (if b then ps else ps ++ p ∷ [])
      by_test true = h
      by_test false = all_append (λ (p : Pred). p.name.0 < n) ps (p ∷ []) h (k, tt)

  preds_known : (ps : List Pred) (cs : List Call) → ArePredsKnown ps → AllByRecursion (IsKnownCall n) cs → ArePredsKnown (with_calls names ps cs)
  preds_known ps [] h k = h
  preds_known ps (c ∷ cs) h k = preds_known (with_pred ps (pred_of names c)) cs (pred_known ps (pred_of names c) h (number_below c.functor k.0)) k.1

  builtins_stay : (i : ℕ) (ps : List Pred) → ArePredsKnown ps → builtins_from later i ps ≡ builtins_from names i ps
  builtins_stay i [] h = refl
  builtins_stay i (p ∷ ps) h =
      let text = text_stays names later ext p.name.0 h.0 in
      let rest = builtins_stay (suc i) ps h.1 in
      λ j. builtin_at i (builtin_of (text j) p.arity) ++ rest j

  text_number : (text : List ℕ) → IsTrue (list_any (pointwise nat_eq text) names) → number_of later text ≡ number_of names text
  text_number text h = number_kept names text later (subst (λ (ns : List (List ℕ)). Extends ns later) (sym (text_there names text h)) ext)

  operations_stay : HasOperations names → operations later ≡ operations names
  operations_stay h =
      let plus = text_number (codes "+") h.0 in
      let minus = text_number (codes "-") h.1.0 in
      let times = text_number (codes "*") h.1.1.0 in
      λ i. record { plus = record { 0 = plus i }; minus = record { 0 = minus i }; times = record { 0 = times i } }

  arithmetic_stays : (ps : List Pred) → HasOperations names → ArePredsKnown ps → arithmetic_of later ps ≡ arithmetic_of names ps
  arithmetic_stays ps h k =
      let names_same = operations_stay h in
      let kinds_same = builtins_stay 0 ps k in
      λ i. record { names = Some (names_same i); builtins = kinds_same i }

  rule_stays : (p : Listing) (r : Rule) → HasOperations names → ArePredsKnown p.preds → IsKnownRule n r → with_rule later p r ≡ with_rule names p r
  rule_stays p r o k h =
      let order = order_of r in
      let cs = r.head ∷ r.body in
      let preds = calls_stay p.preds cs (h.0, h.1) in
      let head = atom_stays order p.preds r.head h.0 in
      let body : atoms_after later order (with_pred p.preds (pred_of later r.head)) r.body ≡ atoms_after names order (with_pred p.preds (pred_of names r.head)) r.body =
      atoms_stay order (with_pred p.preds (pred_of later r.head)) r.body h.1 ∙ ap (λ (q : Pred). atoms_after names order (with_pred p.preds q) r.body) (pred_stays r.head h.0) in
      let arithmetic : arithmetic_of later (with_calls later p.preds cs) ≡ arithmetic_of names (with_calls names p.preds cs) =
      ap (arithmetic_of later) preds ∙ arithmetic_stays (with_calls names p.preds cs) o (preds_known p.preds cs k (h.0, h.1)) in
      λ i. record { preds = preds i; clauses = p.clauses ++ record { head = head i; body = body i; vars = length order } ∷ []; arithmetic = arithmetic i }

  rules_stay : (p : Listing) (rs : List Rule) → HasOperations names → ArePredsKnown p.preds → AllByRecursion (IsKnownRule n) rs → with_rules later p rs ≡ with_rules names p rs
  rules_stay p [] o k h = refl
  rules_stay p (r ∷ rs) o k h =
      ap (λ (q : Listing). with_rules later q rs) (rule_stays p r o k h.0) ∙ rules_stay (with_rule names p r) rs o (preds_known p.preds (r.head ∷ r.body) k h.0) h.1

  rules_preds : (p : Listing) (rs : List Rule) → ArePredsKnown p.preds → AllByRecursion (IsKnownRule n) rs → ArePredsKnown (with_rules names p rs).preds
  rules_preds p [] k h = k
  rules_preds p (r ∷ rs) k h = rules_preds (with_rule names p r) rs (preds_known p.preds (r.head ∷ r.body) k h.0) h.1

  place_stays : (ps : List Pred) → ArePredsKnown ps → position_or_len (is_equality later) ps ≡ position_or_len (is_equality names) ps
  place_stays [] h = refl
  place_stays (p ∷ ps) h =
      let text = text_stays names later ext p.name.0 h.0 in
      let rest = place_stays ps h.1 in
      λ i. cond (not (same (text i) (codes "=") && (p.arity == 2))) (1 + rest i) 0

  equality_stays : (p : Listing) → ArePredsKnown p.preds → with_equality later p ≡ with_equality names p
  equality_stays p h =
      let place = place_stays p.preds h in
      let found : position (is_equality later) p.preds ≡ position (is_equality names) p.preds = λ i. cond (nat_lt (place i) (length p.preds)) (Some (place i)) None in
      ap (λ (q : Option ℕ). record { preds = p.preds; clauses = with_equality_clause q p.clauses; arithmetic = p.arithmetic }) found

  pub program_stays : (cs : List Clause) → HasOperations names → AllByRecursion (IsFit n) cs → AreDefinite names cs → program_of later cs ≡ program_of names cs
  program_stays cs o fit h =
      let rs = rules_of names cs in
      let known = rules_known names cs fit h.each in
      let none : empty_program later ≡ empty_program names = ap (λ (a : Arithmetic). record { preds = []; clauses = []; arithmetic = a }) (arithmetic_stays [] o tt) in
      let rules : with_rules later (empty_program later) (rules_of later cs) ≡ with_rules names (empty_program names) rs =
      ap (with_rules later (empty_program later)) (rules_of_stay names later ext cs fit) ∙ ap (λ (p : Listing). with_rules later p rs) none
      ∙ rules_stay (empty_program names) rs o tt known in
      ap (with_equality later) rules ∙ equality_stays (with_rules names (empty_program names) rs) (rules_preds (empty_program names) rs tt known)

-- ---- names of operations

abbrev IsThere : List (List ℕ) → List ℕ → Type 0
IsThere names text = IsTrue (list_any (pointwise nat_eq text) names)

text_kept : (names more : List (List ℕ)) (text : List ℕ) → IsThere names text → IsThere (names ++ more) text
text_kept names more text h = list_any-append (pointwise nat_eq text) names more ∙ ap (λ (b : Bool). b || list_any (pointwise nat_eq text) more) h

texts_kept : (names later : List (List ℕ)) (ts : List (List ℕ)) → Extends names later → AllByRecursion (IsThere names) ts → AllByRecursion (IsThere later) ts
texts_kept names later [] ext h = tt
texts_kept names later (t ∷ ts) ext h =
    (subst (λ (ns : List (List ℕ)). IsThere ns t) (sym ext.1) (text_kept names ext.0 t h.0), texts_kept names later ts ext h.1)

pub operations_kept : (names later : List (List ℕ)) → Extends names later → HasOperations names → HasOperations later
operations_kept names later ext h = texts_kept names later operation_texts ext h

itself : (text : List ℕ) → pointwise nat_eq text text ≡ true
itself [] = refl
itself (b ∷ bs) = rw (eq-eqb b b refl, itself bs) refl

text_added : (names : List (List ℕ)) (text : List ℕ) → IsThere (with_text names text) text
text_added names text = by_test (list_any (pointwise nat_eq text) names) refl
  where
    by_test : (b : Bool) → list_any (pointwise nat_eq text) names ≡ b → IsThere (if b then names else names ++ text ∷ []) text
    by_test true e = e
    by_test false e = list_any-append (pointwise nat_eq text) names (text ∷ []) ∙ (λ i. e i || (itself text i || false))

texts_added : (names ts : List (List ℕ)) → AllByRecursion (IsThere (with_names names ts)) ts
unfolding with_names
texts_added names [] = tt
texts_added names (t ∷ ts) =
    let first = with_text names t in
    let ext = names_stay first ts in
    (subst (λ (ns : List (List ℕ)). IsThere ns t) (sym ext.1) (text_kept first ext.0 t (text_added names t)), texts_added first ts)

pub operations_added : (names : List (List ℕ)) → HasOperations (with_names names operation_texts)
operations_added names = texts_added names operation_texts
