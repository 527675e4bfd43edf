-- Lemmas on what is built in among predicates.
use Rattle.std.proofs.Common.{◌≡◌, ◌≢◌, ◌==◌, ℕ, zero, suc, ◌+◌, ◌<◌, Bool, true, false, nat_lt, if◌then◌else◌, List, [], ◌∷◌, ◌++◌, length, map, slice_get, get_or, position, IsSomeAnd, Option, Some, None, Result, Ok, Err, refl, ap, sym, ◌∙◌, subst, arith, append-nil, append_assoc, eqb-true}
use Rattle.std.specs.Prelude.{codes}
use Rattle.std.specs.List.{AllByRecursion, list_any}
use Rattle.std.specs.Cmp.Lexicographic.{same_text}
use Rattle.std.proofs.lemmas.Bool.{and_parts}
use Rattle.std.proofs.lemmas.List.Quantifiers.{position-Some}
use Rattle.std.proofs.lemmas.Option.{slice_get-get_or}
use Rattle.cti_terms.specs.Arithmetic.{Arithmetic, kind_among, kind_of}
use Rattle.cti_terms.specs.Listing.{is_pred, with_pred}
use Rattle.cti_terms.specs.Tree.{Variable}
use Rattle.cti_terms.specs.declared.atom_list.Atom.{Atom}
use Rattle.cti_terms.specs.declared.builtins.Builtin.{Builtin}
use Rattle.cti_terms.specs.declared.predicates.Pred.{Pred}
use Rattle.cti_terms.specs.declared.predicates.PredId.{PredId}
use Rattle.prolog_grammar.specs.Placed.{Tree, tree, Var, Int, Fun, Trees, no_trees, more_trees}
use Rattle.prolog_reader.specs.Names.{name_text, Extends}
use Rattle.prolog_terms.specs.Clauses.{Clause, arity, place}
use Rattle.clause_normal.specs.declared.fault.NormKind.TheVariants as kind
use Rattle.clause_normal.specs.declared.limits.TheConstants.{MOST_TEXT_CLAUSES}
use Rattle.clause_normal.specs.Bodies.{Goal, Goals, Branches, call, choice, bad, no_goals, more_goals, no_branches, more_branches}
use Rattle.clause_normal.specs.Kinds.{functor_text, with_kind, IsOrdinaryCall, IsOrdinaryPred, HasOrdinary}
use Rattle.clause_normal.specs.NormalForm.{Fault, Form, Made, skipped, refused, clause, first_of, clause_fault, named_head_fault, head_fault, head_call, made_or_fault, with_form, form_of, and_next, with_clause, normal_rules}
use Rattle.clause_normal.specs.Numbering.{choice_text, is_equality, kind_of_pred, builtin_at, builtins_from, arithmetic_of, operations}
use Rattle.clause_normal.specs.declared.rule.Call.{Call as CodeCall}
use Rattle.clause_normal.specs.declared.rule.Functor.{Functor as CodeFunctor}
use Rattle.clause_normal.specs.declared.rule.Functor.TheVariants as functor
use Rattle.clause_variables.specs.TermViews.{args_of}
use Rattle.clause_normal.specs.RuleViews.{functor_of, call_of, FunctorIsFit, CallIsFit}
use Rattle.clause_normal.specs.Rules.{Call, Rule, choice_call, choices, choices_at, inner, inner_at, calls, below, below_at, branch_rules, rules, after}
use Rattle.clause_variables.specs.Terms.{plain_list}
use Rattle.clause_normal.specs.Words.{is_impure, is_name, builtin_named, builtin_of}
use Rattle.clause_normal.proofs.Later.{text_stays}
use Rattle.clause_variables.proofs.ListLemmas.{all_append}
use Rattle.clause_normal.proofs.NumberingLemmas.{some_within}

-- the kind of another number stands after the first
skipped_kind : (i n : ℕ) (k : Option Builtin) (bs : List (PredId × Builtin)) → i ≢ n → kind_among (builtin_at i k ++ bs) n ≡ kind_among bs n
skipped_kind i n None bs other = refl
skipped_kind i n (Some b) bs other = by_test (i == n) refl
  where
    by_test : (t : Bool) → (i == n) ≡ t → (if t then Some b else kind_among bs n) ≡ kind_among bs n
    by_test true e = absurd (other (eqb-true i n e))
    by_test false e = refl

module _ (names : List (List ℕ)) where
  -- a predicate more
  builtins_push : (i : ℕ) (ps : List Pred) (p : Pred) → builtins_from names i (ps ++ p ∷ []) ≡ builtins_from names i ps ++ builtin_at (i + length ps) (kind_of_pred names p)
  builtins_push i [] p =
      let same : i ≡ i + 0 = omega arith in
      append-nil (builtin_at i (kind_of_pred names p)) ∙ ap (λ (n : ℕ). builtin_at n (kind_of_pred names p)) same
  builtins_push i (q ∷ ps) p =
      let same : suc i + length ps ≡ i + length (q ∷ ps) = omega arith in
      let first = builtin_at i (kind_of_pred names q) in
      ap (λ (bs : List (PredId × Builtin)). first ++ bs) (builtins_push (suc i) ps p ∙ ap (λ (n : ℕ). builtins_from names (suc i) ps ++ builtin_at n (kind_of_pred names p)) same)
      ∙ sym (append_assoc first (builtins_from names (suc i) ps) (builtin_at (i + length (q ∷ ps)) (kind_of_pred names p)))

  -- what is built in where a predicate is put to others
  pub kinds_with : (ps : List Pred) (p : Pred) → with_kind (arithmetic_of names ps) ps p (kind_of_pred names p) ≡ arithmetic_of names (with_pred ps p)
  kinds_with ps p = by_test (list_any (is_pred p.name.0 p.arity) ps)
    where
      by_test : (b : Bool) → ◌≡◌ {A = Arithmetic} (record { names = Some (operations names); builtins = if b then builtins_from names 0 ps else builtins_from names 0 ps ++ builtin_at (length ps) (kind_of_pred names p) }) (arithmetic_of names (if b then ps else ps ++ p ∷ []))
      by_test true = refl
      by_test false =
          let same : 0 + length ps ≡ length ps = omega arith in
          let pushed = builtins_push 0 ps p ∙ ap (λ (n : ℕ). builtins_from names 0 ps ++ builtin_at n (kind_of_pred names p)) same in
          ap (λ (bs : List (PredId × Builtin)). record { names = Some (operations names); builtins = bs }) (sym pushed)

  -- a number below the first has no kind
  none_below : (i n : ℕ) (ps : List Pred) → n < i → kind_among (builtins_from names i ps) n ≡ None
  none_below i n [] less = refl
  none_below i n (p ∷ ps) less = skipped_kind i n (kind_of_pred names p) (builtins_from names (suc i) ps) (λ e. omega (arith, e, less)) ∙ none_below (suc i) n ps (omega (arith, less))

  -- nor has a predicate that is not built in
  none_at : (i q : ℕ) (ps : List Pred) → IsSomeAnd (slice_get ps q) (λ p. kind_of_pred names p ≡ None) → kind_among (builtins_from names i ps) (i + q) ≡ None
  none_at i q [] h = refl
  none_at i zero (p ∷ ps) h =
      let first : builtin_at i (kind_of_pred names p) ≡ [] = ap (builtin_at i) h in
      ap (λ (bs : List (PredId × Builtin)). kind_among (bs ++ builtins_from names (suc i) ps) (i + 0)) first ∙ none_below (suc i) (i + 0) ps (omega arith)
  none_at i (suc q) (p ∷ ps) h =
      let same : i + suc q ≡ suc i + q = omega arith in
      skipped_kind i (i + suc q) (kind_of_pred names p) (builtins_from names (suc i) ps) (λ e. omega (arith, e))
      ∙ ap (kind_among (builtins_from names (suc i) ps)) same ∙ none_at (suc i) q ps h

  pub ordinary_none : (q : ℕ) (ps : List Pred) → IsSomeAnd (slice_get ps q) (λ p. kind_of_pred names p ≡ None) → kind_of (arithmetic_of names ps) q ≡ None
  ordinary_none q ps h =
      let same : q ≡ 0 + q = omega arith in
      ap (kind_among (builtins_from names 0 ps)) same ∙ none_at 0 q ps h

-- an atom whose predicate is not built in, where predicates and names have come
some_named : (names later : List (List ℕ)) (o : Option Pred) → Extends names later → IsSomeAnd o (IsOrdinaryPred names) → IsSomeAnd o (λ p. kind_of_pred later p ≡ None)
some_named names later None ext h = h
some_named names later (Some p) ext h = h later ext

pub ordinary_still : (names later : List (List ℕ)) (preds new : List Pred) → Extends names later → ((i : ℕ) → i < length preds → slice_get new i ≡ slice_get preds i) → (a : Atom) → HasOrdinary names preds a
    → IsSomeAnd (slice_get new a.pred.0) (λ p. kind_of_pred later p ≡ None)
ordinary_still names later preds new ext still a h =
    let Q : Option Pred → Type 0 = λ o. IsSomeAnd o (λ p. kind_of_pred later p ≡ None) in
    subst Q (sym (still a.pred.0 (some_within preds a.pred.0 (IsOrdinaryPred names) h))) (some_named names later (slice_get preds a.pred.0) ext h)

-- a call of a known name stays ordinary
pub call_stays : (names later : List (List ℕ)) (c : CodeCall) → Extends names later → CallIsFit (length names) c → IsOrdinaryCall names (call_of c) → IsOrdinaryCall later (call_of c)
call_stays names later c ext fit h = ap (λ (t : List ℕ). builtin_of t (length (args_of c.args))) (by_functor c.functor fit.1) ∙ h
  where
    by_functor : (f : CodeFunctor) → FunctorIsFit (length names) f → functor_text later (functor_of f) ≡ functor_text names (functor_of f)
    by_functor (functor.Named f) k = text_stays names later ext f.0 k
    by_functor (functor.Chosen m) k = refl

-- =/2 is not built in
pub equality_ordinary : (names : List (List ℕ)) (p : Pred) → is_equality names p ≡ true → kind_of_pred names p ≡ None
unfolding builtin_named
equality_ordinary names p h =
    let text = name_text names p.name.0 in
    let parts = and_parts (is_name names p.name.0 (codes "=")) (p.arity == 2) h in
    let same : text ≡ codes "=" = same_text text (codes "=") (sym parts.0) in
    ap (λ (t : List ℕ). builtin_of t p.arity) same ∙ by_test (p.arity == 2)
  where
    by_test : (b : Bool) → (if b then builtin_named (codes "=") else None) ≡ None
    by_test true = refl
    by_test false = refl

-- nor is the predicate at its place
pub equality_none : (names : List (List ℕ)) (ps : List Pred) (q : ℕ) → position (is_equality names) ps ≡ Some q → kind_of (arithmetic_of names ps) q ≡ None
equality_none names ps q e =
    let none : Pred = record { name = record { 0 = 0 }; arity = 0 } in
    let there = position-Some (is_equality names) ps q none e in
    let Q : Option Pred → Type 0 = λ o. IsSomeAnd o (λ p. kind_of_pred names p ≡ None) in
    ordinary_none names q ps (subst Q (sym (slice_get-get_or ps q none there.0)) (equality_ordinary names (get_or ps q none) there.1))

-- ---- a predicate is put to others

-- one that is there changes nothing
pub kind_there : (ar : Arithmetic) (ps : List Pred) (p : Pred) (k : Option Builtin) → list_any (is_pred p.name.0 p.arity) ps ≡ true → with_kind ar ps p k ≡ ar
kind_there ar ps p k e = rw e refl

-- a new one goes last
pub kind_new : (ar : Arithmetic) (ps : List Pred) (p : Pred) (k : Option Builtin) → list_any (is_pred p.name.0 p.arity) ps ≡ false
    → with_kind ar ps p k ≡ record { names = ar.names; builtins = ar.builtins ++ builtin_at (length ps) k }
kind_new ar ps p k e = rw e refl

-- so does it among the predicates
pub pred_away : (ps : List Pred) (p : Pred) → list_any (is_pred p.name.0 p.arity) ps ≡ false → with_pred ps p ≡ ps ++ p ∷ []
pred_away ps p e = rw e refl

-- the last of a list is at its place
pub last_got : {X : Type 0} (xs : List X) (x : X) → slice_get (xs ++ x ∷ []) (length xs) ≡ Some x
last_got [] x = refl
last_got (y ∷ xs) x = last_got xs x

-- and one that is not built in changes nothing
pub kind_none : (ar : Arithmetic) (ps : List Pred) (p : Pred) → with_kind ar ps p None ≡ ar
kind_none ar ps p = by_test (list_any (is_pred p.name.0 p.arity) ps)
  where
    by_test : (b : Bool) → ◌≡◌ {A = Arithmetic} (record { names = ar.names; builtins = if b then ar.builtins else ar.builtins ++ [] }) ar
    by_test true = refl
    by_test false = ap (λ (bs : List (PredId × Builtin)). record { names = ar.names; builtins = bs }) (append-nil ar.builtins)

-- a built-in predicate has two arguments
pub builtin_two : (text : List ℕ) (n : ℕ) (b : Builtin) → builtin_of text n ≡ Some b → n ≡ 2
builtin_two text n b = by_test (n == 2) refl
  where
    by_test : (t : Bool) → (n == 2) ≡ t → (if t then builtin_named text else None) ≡ Some b → n ≡ 2
    by_test true e h = eqb-true n 2 e
    by_test false e h = cc

-- what is built in once a predicate is put to others, whatever names come later
pub kinds_added : (names later : List (List ℕ)) (ps new : List Pred) (p : Pred) (ar ar' : Arithmetic) → Extends names later → p.name.0 < length names
    → ar' ≡ with_kind ar ps p (kind_of_pred names p) → new ≡ with_pred ps p → ar ≡ arithmetic_of later ps → ar' ≡ arithmetic_of later new
kinds_added names later ps new p ar ar' ext known e f h =
    let same : kind_of_pred names p ≡ kind_of_pred later p = ap (λ (t : List ℕ). builtin_of t p.arity) (sym (text_stays names later ext p.name.0 known)) in
    e ∙ (λ i. with_kind (h i) ps p (same i)) ∙ kinds_with later ps p ∙ ap (arithmetic_of later) (sym f)

-- ---- heads are ordinary

-- the head of a clause without a fault is not reserved
not_reserved : (text : List ℕ) (n at : ℕ) → named_head_fault text n at ≡ None → builtin_of text n ≡ None
not_reserved text n at e = by_kind (builtin_of text n) refl (is_impure text n) refl
  where
    by_kind : (k : Option Builtin) → builtin_of text n ≡ k → (b : Bool) → is_impure text n ≡ b → builtin_of text n ≡ None
    by_kind None k b i = k
    by_kind (Some x) k true i = absurd (let h = rw i at e in cc)
    by_kind (Some x) k false i = absurd (let h = rw (i, k) at e in cc)

-- the predicate of a disjunction is not built in
chosen_ordinary : (names : List (List ℕ)) (m : ℕ) (args : List ℕ) → IsOrdinaryCall names (choice_call m args)
unfolding builtin_named
chosen_ordinary names m args = by_test (length (map Variable args) == 2)
  where
    by_test : (b : Bool) → (if b then builtin_named (choice_text m) else None) ≡ None
    by_test true = refl
    by_test false = refl

-- as many arguments without their places
pub length-plain : (ts : Trees) → length (plain_list ts) ≡ arity ts
length-plain no_trees = refl
length-plain (more_trees t ts) = ap suc (length-plain ts)

module _ (names : List (List ℕ)) where
  -- a clause whose head is not built in
  abbrev pub IsOrdinaryRule : Rule → Type 0
  IsOrdinaryRule r = IsOrdinaryCall names r.head

  abbrev pub AreOrdinary : List Rule → Type 0
  AreOrdinary rs = AllByRecursion IsOrdinaryRule rs

  head_ordinary : (t : Tree) → head_fault names t ≡ None → IsOrdinaryCall names (head_call t)
  head_ordinary (tree at (Var x)) e = cc
  head_ordinary (tree at (Int n)) e = cc
  head_ordinary (tree at (Fun f ts)) e = ap (builtin_of (name_text names f)) (length-plain ts) ∙ not_reserved (name_text names f) (arity ts) at e

  mutual
    below_ordinary : (m n : ℕ) (gs : Goals) → AreOrdinary (below m n gs)
    below_ordinary m n no_goals = tt
    below_ordinary m n (more_goals g gs) =
        all_append IsOrdinaryRule (below_at m n g) (below (m + choices_at g) (n + inner_at g) gs) (below_at_ordinary m n g) (below_ordinary (m + choices_at g) (n + inner_at g) gs)

    below_at_ordinary : (m n : ℕ) (g : Goal) → AreOrdinary (below_at m n g)
    below_at_ordinary m n (call f ts) = tt
    below_at_ordinary m n (choice args bs) = branches_ordinary (choice_call m args) n bs (chosen_ordinary names m args)
    below_at_ordinary m n (bad kind at) = tt

    branches_ordinary : (head : Call) (n : ℕ) (bs : Branches) → IsOrdinaryCall names head → AreOrdinary (branch_rules head n bs)
    branches_ordinary head n no_branches h = tt
    branches_ordinary head n (more_branches b bs) h =
        all_append IsOrdinaryRule (record { head = head; body = calls n b } ∷ below n (n + choices b) b) (branch_rules head (n + (choices b + inner b)) bs)
        (h, below_ordinary n (n + choices b) b) (branches_ordinary head (n + (choices b + inner b)) bs h)

  -- made clauses whose heads are not built in
  abbrev MadeOrdinary : Made → Type 0
  MadeOrdinary (Ok p) = AreOrdinary p.0
  MadeOrdinary (Err f) = Unit {0}

  abbrev AnswerOrdinary : Result (List Rule) Fault → Type 0
  AnswerOrdinary (Ok rs) = AreOrdinary rs
  AnswerOrdinary (Err f) = Unit {0}

  made_ordinary : (o : Option Fault) (at : ℕ) (made : List Rule) (n : ℕ) → (o ≡ None → AreOrdinary made) → MadeOrdinary (made_or_fault o at made n)
  made_ordinary (Some f) at made n h = tt
  made_ordinary None at made n h = by_test (nat_lt MOST_TEXT_CLAUSES (length made))
    where
      by_test : (b : Bool) → MadeOrdinary (if b then Err (kind.ManyClauses, at) else Ok (made, n))
      by_test true = tt
      by_test false = h refl

  first_none : (f g : Option Fault) → first_of f g ≡ None → f ≡ None
  first_none None g e = refl
  first_none (Some x) g e = e

  form_ordinary : (made : List Rule) (n : ℕ) (c : Clause) (form : Form) → AreOrdinary made → MadeOrdinary (with_form names made n c form)
  form_ordinary made n c skipped h = h
  form_ordinary made n c (refused k) h = tt
  form_ordinary made n c (clause t gs) h =
      made_ordinary (clause_fault names c t gs) (place c.term) (made ++ rules n (head_call t) gs) (after n gs)
      (λ e. all_append IsOrdinaryRule made (rules n (head_call t) gs) h (head_ordinary t (first_none _ _ e), below_ordinary n (n + choices gs) gs))

  next_ordinary : (m : Made) (next : List Rule → ℕ → Result (List Rule) Fault) → MadeOrdinary m → ((made : List Rule) (n : ℕ) → AreOrdinary made → AnswerOrdinary (next made n)) → AnswerOrdinary (and_next m next)
  next_ordinary (Ok p) next h k = k p.0 p.1 h
  next_ordinary (Err f) next h k = tt

  answer_ordinary : (made : List Rule) (n : ℕ) (cs : List Clause) → AreOrdinary made → AnswerOrdinary (normal_rules names made n cs)
  answer_ordinary made n [] h = h
  answer_ordinary made n (c ∷ cs) h =
      next_ordinary (with_clause names made n c) (λ made' n'. normal_rules names made' n' cs) (form_ordinary made n c (form_of names c.term) h) (λ made' n' h'. answer_ordinary made' n' cs h')

  -- the heads of a text's clauses are not built in
  pub rules_ordinary : (cs : List Clause) (rs : List Rule) → normal_rules names [] 1 cs ≡ Ok rs → AreOrdinary rs
  rules_ordinary cs rs e = subst AnswerOrdinary e (answer_ordinary [] 1 cs tt)
