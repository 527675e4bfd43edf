-- Lemmas on the goals of a query.
use Rattle.std.proofs.Common.{◌≡◌, ℕ, ◌+◌, ◌<◌, drop, get_or, List, [], ◌∷◌, ◌++◌, length, map, Option, Some, None, Result, Ok, Err, refl, ap, sym, ◌∙◌, append_assoc, append-nil, Bor}
use Rattle.std.proofs.lemmas.List.{map-append, at_drop_more}
use Rattle.prolog_terms.specs.declared.term.ReadTerm.{ReadTerm}
use Rattle.prolog_terms.specs.Terms.{tree_of}
use Rattle.clause_normal.specs.declared.part.Item.{Item}
use Rattle.clause_normal.specs.Bodies.{Goal}
use Rattle.clause_normal.specs.Query.{query_goals, query_call, query_calls, bad_goal, query_fault, query_of, with_query, query_goal, AnswersQuery}
use Rattle.cti_terms.specs.Listing.{Listing}
use Rattle.cti_terms.specs.declared.derivation.Goal.{Goal as Query}
use Rattle.clause_normal.specs.declared.fault.NormFault.{NormFault}
use Rattle.clause_normal.specs.declared.fault.NormFault.TheVariants as norm
use Rattle.clause_normal.specs.Faults.{IfFault}
use Rattle.clause_normal.specs.NormalForm.{Fault, first_of}
use Rattle.clause_normal.specs.Rules.{Call}
use Rattle.clause_normal.specs.Stacks.{stack_query}
use Rattle.clause_normal.specs.Views.{item_goal}

abbrev pub Queries : Type 0
Queries = List (Bor ReadTerm)

pub stack_query_push : (names : List (List ℕ)) (s : Queries) (t : Bor ReadTerm) → stack_query names (s ++ t ∷ []) ≡ query_goals names (tree_of t.now) ++ stack_query names s
stack_query_push names [] t = sym (append-nil (query_goals names (tree_of t.now)))
stack_query_push names (u ∷ s) t =
    ap (λ (gs : List Goal). gs ++ query_goals names (tree_of u.now)) (stack_query_push names s t)
    ∙ append_assoc (query_goals names (tree_of t.now)) (stack_query names s) (query_goals names (tree_of u.now))

-- a stack whose top is a conjunction
pub queries_both : (names : List (List ℕ)) (stack below after : Queries) (t l r : Bor ReadTerm) → stack ≡ below ++ t ∷ [] → after ≡ (below ++ r ∷ []) ++ l ∷ []
    → query_goals names (tree_of t.now) ≡ query_goals names (tree_of l.now) ++ query_goals names (tree_of r.now) → stack_query names after ≡ stack_query names stack
queries_both names stack below after t l r e f both =
    let gs : ReadTerm → List Goal = λ u. query_goals names (tree_of u) in
    let rest = stack_query names below in
    ap (stack_query names) f ∙ stack_query_push names (below ++ r ∷ []) l
    ∙ ap (λ (hs : List Goal). gs l.now ++ hs) (stack_query_push names below r)
    ∙ sym (append_assoc (gs l.now) (gs r.now) rest)
    ∙ ap (λ (hs : List Goal). hs ++ rest) (sym both)
    ∙ sym (ap (stack_query names) e ∙ stack_query_push names below t)

-- one whose top is not a goal
pub queries_nothing : (names : List (List ℕ)) (stack below : Queries) (t : Bor ReadTerm) → stack ≡ below ++ t ∷ [] → query_goals names (tree_of t.now) ≡ [] → stack_query names below ≡ stack_query names stack
queries_nothing names stack below t e none =
    sym (ap (stack_query names) e ∙ stack_query_push names below t ∙ ap (λ (hs : List Goal). hs ++ stack_query names below) none)

-- one whose top is a goal, which goes to the items
pub queries_item : (names : List (List ℕ)) (stack below : Queries) (t : Bor ReadTerm) (items after : List Item) (i : Item) → stack ≡ below ++ t ∷ [] → after ≡ items ++ i ∷ []
    → query_goals names (tree_of t.now) ≡ item_goal i ∷ []
    → map item_goal after ++ stack_query names below ≡ map item_goal items ++ stack_query names stack
queries_item names stack below t items after i e f one =
    let rest = stack_query names below in
    ap (λ (is : List Item). map item_goal is ++ rest) f ∙ ap (λ (gs : List Goal). gs ++ rest) (map-append item_goal items (i ∷ []))
    ∙ append_assoc (map item_goal items) (item_goal i ∷ []) rest
    ∙ ap (λ (gs : List Goal). map item_goal items ++ (gs ++ rest)) (sym one)
    ∙ ap (λ (gs : List Goal). map item_goal items ++ gs) (sym (ap (stack_query names) e ∙ stack_query_push names below t))

-- one goal more of a list
module _ (items : List Item) (i : ℕ) (it : Item) (lt : i < length items) (at : it ≡ get_or items i it) where
  left : map item_goal (drop i items) ≡ item_goal it ∷ map item_goal (drop (i + 1) items)
  left = at_drop_more (map item_goal) items i it lt ∙ ap (λ (t : Item). item_goal t ∷ map item_goal (drop (i + 1) items)) (sym at)

  pub fault_next : bad_goal (item_goal it) ≡ None → query_fault (map item_goal (drop i items)) ≡ query_fault (map item_goal items)
      → query_fault (map item_goal (drop (i + 1) items)) ≡ query_fault (map item_goal items)
  fault_next none inv = sym (ap query_fault left ∙ ap (λ (f : Option Fault). first_of f (query_fault (map item_goal (drop (i + 1) items)))) none) ∙ inv

  pub fault_found : (f : Fault) → bad_goal (item_goal it) ≡ Some f → query_fault (map item_goal (drop i items)) ≡ query_fault (map item_goal items)
      → query_fault (map item_goal items) ≡ Some f
  fault_found f some inv = sym inv ∙ ap query_fault left ∙ ap (λ (f : Option Fault). first_of f (query_fault (map item_goal (drop (i + 1) items)))) some

  pub calls_next : (old new all : List Call) → new ≡ old ++ query_call (item_goal it) → old ++ query_calls (map item_goal (drop i items)) ≡ all
      → new ++ query_calls (map item_goal (drop (i + 1) items)) ≡ all
  calls_next old new all e inv =
      ap (λ (cs : List Call). cs ++ query_calls (map item_goal (drop (i + 1) items))) e
      ∙ append_assoc old (query_call (item_goal it)) (query_calls (map item_goal (drop (i + 1) items)))
      ∙ ap (λ (gs : List Goal). old ++ query_calls gs) (sym left) ∙ inv

-- what a fault is of one form is a fault of another
pub if_fault_map : (e : NormFault) (P Q : Fault → Type 0) → ((f : Fault) → P f → Q f) → IfFault e P → IfFault e Q
if_fault_map (norm.Fault kind at) P Q g h = g (kind, at) h
if_fault_map norm.Memory P Q g h = tt

pub query_err : (form : Result (Listing × Query) Fault) (p : Listing) (e : NormFault) → IfFault e (λ f. form ≡ Err f) → AnswersQuery form p (Err e)
query_err form p (norm.Fault kind at) h = h
query_err form p norm.Memory h = tt

module _ (names : List (List ℕ)) (p : Listing) (cs : List Call) (g v : Option Fault) where
  pub query_bad : (f : Fault) → g ≡ Some f → query_of names p cs (first_of g v) ≡ Err f
  query_bad f e = rw e refl

  pub query_many : (f : Fault) → g ≡ None → v ≡ Some f → query_of names p cs (first_of g v) ≡ Err f
  query_many f e k = rw (e, k) refl

  pub query_well : g ≡ None → v ≡ None → query_of names p cs (first_of g v) ≡ Ok (with_query names p cs, query_goal names p cs)
  query_well e k = rw (e, k) refl
