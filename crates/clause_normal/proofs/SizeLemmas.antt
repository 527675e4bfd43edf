-- How many calls the clauses have that are made of a text's clauses.
use Rattle.std.proofs.Common.{◌≡◌, ℕ, suc, ◌+◌, ◌*◌, ◌≤◌, ◌||◌, Bool, true, false, nat_lt, if◌then◌else◌, List, [], ◌∷◌, ◌++◌, length, Option, Some, None, Result, Ok, Err, ap, length-append, arith, sum_by}
use Rattle.std.specs.List.{list_any}
use Rattle.std.proofs.lemmas.List.Sums.{sum_by-append}
use Rattle.cti_terms.specs.Tree.{Tree as Term}
use Rattle.cti_terms.specs.Numbers.{with_text}
use Rattle.cti_terms.specs.Listing.{Listing, is_pred, with_pred}
use Rattle.cti_terms.specs.declared.limits.TheConstants.{MOST_ARGUMENTS}
use Rattle.cti_terms.specs.declared.predicates.Pred.{Pred}
use Rattle.prolog_grammar.specs.Placed.{Tree, tree, Shape, Var, Int, Fun, Trees, no_trees, more_trees}
use Rattle.prolog_reader.specs.Names.{name_text}
use Rattle.prolog_reader.specs.Naming.{with_names}
use Rattle.prolog_terms.specs.Clauses.{Clause, arity, place, list_of, nodes, shape_nodes, all_nodes}
use Rattle.prolog_reader.proofs.NameLemmas.{length-with_text}
use Rattle.clause_normal.specs.declared.limits.TheConstants.{MOST_TEXT_CLAUSES}
use Rattle.clause_normal.specs.declared.fault.NormKind.{NormKind}
use Rattle.clause_normal.specs.declared.fault.NormKind.TheVariants as kind
use Rattle.clause_normal.specs.declared.words.Connective.{Connective}
use Rattle.clause_normal.specs.declared.words.Connective.TheVariants as connective
use Rattle.clause_normal.specs.declared.words.Neck.{Neck}
use Rattle.clause_normal.specs.declared.words.Neck.TheVariants as neck
use Rattle.clause_normal.specs.Words.{is_impure, is_choice_name, connective_of, neck_of}
use Rattle.clause_variables.specs.Terms.{plain_list, occurrences}
use Rattle.clause_normal.specs.Bodies.{Goal, Goals, Branches, call, choice, bad, no_goals, more_goals, no_branches, more_branches, one_goal, joined, joined_branches, arguments, Body, of_goals, named_goal, atom_goal, choice_goal, disjunction, named_body, body_of, shape_body, argument_bodies}
use Rattle.clause_normal.specs.Rules.{Functor, named, chosen, Call, Rule, choice_call, choices_at, choices, inner, inner_at, call_at, calls, below, below_at, branch_rules, rules, after}
use Rattle.clause_normal.specs.Numbering.{empty_program, operation_texts, pred_of, with_calls, with_rule, with_rules}
use Rattle.clause_normal.specs.NormalForm.{Fault, head_call, Form, skipped, refused, clause, is_silent_goal, named_form, form_of, clause_fault, Made, made_or_fault, with_form, with_clause, and_next, normal_rules, program_of, normal_form}
use Rattle.clause_normal.specs.ChoiceNames.{functor_texts, call_texts, rule_texts, made_texts, program_names}

-- how many calls clauses have, with their heads
abbrev pub rule_calls : List Rule → ℕ
rule_calls [] = 0
rule_calls (r ∷ rs) = suc (length r.body) + rule_calls rs

calls_append : (rs ss : List Rule) → rule_calls (rs ++ ss) ≡ rule_calls rs + rule_calls ss
calls_append [] ss = omega arith
calls_append (r ∷ rs) ss = let e = calls_append rs ss in omega (arith, e)

-- the calls of goals, and those of the clauses of their disjunctions
abbrev total : ℕ → ℕ → Goals → ℕ
total m n gs = length (calls m gs) + rule_calls (below m n gs)

abbrev total_at : ℕ → ℕ → Goal → ℕ
total_at m n g = length (call_at m g) + rule_calls (below_at m n g)

total_more : (m n : ℕ) (g : Goal) (gs : Goals) → total m n (more_goals g gs) ≡ total_at m n g + total (m + choices_at g) (n + inner_at g) gs
total_more m n g gs =
    omega (
      arith,
      length-append (call_at m g) (calls (m + choices_at g) gs),
      calls_append (below_at m n g) (below (m + choices_at g) (n + inner_at g) gs),
    )

joined_few : (gs hs : Goals) (most : ℕ) → ((m n : ℕ) → total m n hs ≤ most) → (m n : ℕ) → total m n (joined gs hs) ≤ total m n gs + most
joined_few no_goals hs most h m n = let l = h m n in omega (arith, l)
joined_few (more_goals g gs) hs most h m n =
    let l = joined_few gs hs most h (m + choices_at g) (n + inner_at g) in
    omega (arith, l, total_more m n g (joined gs hs), total_more m n g gs)

level_joined : (gs hs : Goals) (most : ℕ) → ((m : ℕ) → length (calls m hs) ≤ most) → (m : ℕ) → length (calls m (joined gs hs)) ≤ length (calls m gs) + most
level_joined no_goals hs most h m = let l = h m in omega (arith, l)
level_joined (more_goals g gs) hs most h m =
    let l = level_joined gs hs most h (m + choices_at g) in
    omega (arith, l, length-append (call_at m g) (calls (m + choices_at g) (joined gs hs)), length-append (call_at m g) (calls (m + choices_at g) gs))

branch_more : (head : Call) (n : ℕ) (b : Goals) (bs : Branches) → rule_calls (branch_rules head n (more_branches b bs)) ≡ suc (total n (n + choices b) b) + rule_calls (branch_rules head (n + (choices b + inner b)) bs)
branch_more head n b bs = let e = calls_append (record { head = head; body = calls n b } ∷ below n (n + choices b) b) (branch_rules head (n + (choices b + inner b)) bs) in omega (arith, e)

branches_few : (bs cs : Branches) (most : ℕ) → ((head : Call) (n : ℕ) → rule_calls (branch_rules head n cs) ≤ most) → (head : Call) (n : ℕ)
    → rule_calls (branch_rules head n (joined_branches bs cs)) ≤ rule_calls (branch_rules head n bs) + most
branches_few no_branches cs most h head n = let l = h head n in omega (arith, l)
branches_few (more_branches b bs) cs most h head n =
    let l = branches_few bs cs most h head (n + (choices b + inner b)) in
    omega (arith, l, branch_more head n b (joined_branches bs cs), branch_more head n b bs)

-- a body of a term of the given number of nodes
record BodyFew (size : ℕ) (b : Body) : Type 0 where
  level : (all : List ℕ) (m : ℕ) → length (calls m (b.goals all)) ≤ size
  goals : (all : List ℕ) (m n : ℕ) → suc (total m n (b.goals all)) ≤ 2 * size
  branches : (args : List ℕ) (head : Call) (n : ℕ) → rule_calls (branch_rules head n (b.branches args)) ≤ 2 * size

of_goals_few : (size : ℕ) (t : Tree) (goals : List ℕ → Goals) → ((all : List ℕ) (m : ℕ) → length (calls m (goals all)) ≤ size) → ((all : List ℕ) (m n : ℕ) → suc (total m n (goals all)) ≤ 2 * size) → BodyFew size (of_goals t goals)
of_goals_few size t goals l h = record {
  level = l;
  goals = h;
  branches = λ args head n.
      let gs = goals (args ++ occurrences t) in
      let few = h (args ++ occurrences t) n (n + choices gs) in
      omega (arith, few, branch_more head n gs no_branches);
}

-- a goal that is not a disjunction
abbrev IsPlain : Goal → Type 0
IsPlain (call f ts) = Unit {0}
IsPlain (choice args bs) = ⊥
IsPlain (bad k at) = Unit {0}

plain_few : (g : Goal) → IsPlain g → (m n : ℕ) → total_at m n g ≤ 1
plain_few (call f ts) h m n = omega arith
plain_few (choice args bs) h m n = absurd h
plain_few (bad k at) h m n = omega arith

if_plain : (b : Bool) (g h : Goal) → IsPlain g → IsPlain h → IsPlain (if b then g else h)
if_plain true g h k l = k
if_plain false g h k l = l

named_plain : (text : List ℕ) (f : ℕ) (args : List Term) (at : ℕ) → IsPlain (named_goal text f args at)
named_plain text f args at =
    if_plain (is_impure text (length args) || is_choice_name text) (bad kind.NotPure at) (if nat_lt MOST_ARGUMENTS (length args) then bad kind.Arity at else call f args) tt
    (if_plain (nat_lt MOST_ARGUMENTS (length args)) (bad kind.Arity at) (call f args) tt tt)

atom_plain : (names : List (List ℕ)) (t : Tree) → IsPlain (atom_goal names t)
atom_plain names (tree at (Var x)) = tt
atom_plain names (tree at (Int n)) = tt
atom_plain names (tree at (Fun f ts)) = named_plain (name_text names f) f (plain_list ts) at

one_few : (g : Goal) (m n : ℕ) → total m n (one_goal g) ≡ total_at m n g
one_few g m n = let e = total_more m n g no_goals in omega (arith, e)

atom_body_few : (names : List (List ℕ)) (size : ℕ) (t : Tree) → 1 ≤ size → BodyFew size (of_goals t (λ all. one_goal (atom_goal names t)))
atom_body_few names size t some =
    of_goals_few size t (λ all. one_goal (atom_goal names t))
    (λ all m. let l = plain_few (atom_goal names t) (atom_plain names t) m 0 in omega (arith, l, some, one_few (atom_goal names t) m 0))
    (λ all m n. let l = plain_few (atom_goal names t) (atom_plain names t) m n in omega (arith, l, some, one_few (atom_goal names t) m n))

choice_few : (at : ℕ) (args : List ℕ) (branches : List ℕ → Branches) (most : ℕ) → ((head : Call) (n : ℕ) → rule_calls (branch_rules head n (branches args)) ≤ most)
    → (m n : ℕ) → total_at m n (choice_goal at args branches) ≤ 1 + most
choice_few at args branches most h m n = by_test (nat_lt MOST_ARGUMENTS (length args))
  where
    by_test : (b : Bool) → total_at m n (if b then bad kind.Arity at else choice args (branches args)) ≤ 1 + most
    by_test true = omega arith
    by_test false = let l = h (choice_call m args) n in omega (arith, l)

choice_level : (at : ℕ) (args : List ℕ) (branches : List ℕ → Branches) (m : ℕ) → length (call_at m (choice_goal at args branches)) ≤ 1
choice_level at args branches m = by_test (nat_lt MOST_ARGUMENTS (length args))
  where
    by_test : (b : Bool) → length (call_at m (if b then bad kind.Arity at else choice args (branches args))) ≤ 1
    by_test true = omega arith
    by_test false = omega arith

disjunction_few : (size k l : ℕ) (t : Tree) (at : ℕ) (b c : Body) → suc (k + l) ≤ size → BodyFew k b → BodyFew l c → BodyFew size (disjunction t at b c)
disjunction_few size k l t at b c le h i =
    let branches : List ℕ → Branches = λ args. joined_branches (b.branches args) (c.branches args) in
    let both : (args : List ℕ) (head : Call) (n : ℕ) → rule_calls (branch_rules head n (branches args)) ≤ 2 * k + 2 * l =
    λ args head n.
    let j = branches_few (b.branches args) (c.branches args) (2 * l) (i.branches args) head n in
    let f = h.branches args head n in
    omega (arith, j, f) in
    record {
      level = λ all m.
          let g = choice_goal at (arguments all (occurrences t)) branches in
          let l = choice_level at (arguments all (occurrences t)) branches m in
          omega (arith, l, le, length-append (call_at m g) []);
      goals = λ all m n.
          let args = arguments all (occurrences t) in
          let l = choice_few at args branches (2 * k + 2 * l) (both args) m n in
          omega (arith, l, le, one_few (choice_goal at args branches) m n);
      branches = λ args head n. let l = both args head n in omega (arith, l, le);
    }

-- bodies of terms that have the given number of nodes together
abbrev AllFew : List Body → ℕ → Type 0
AllFew [] size = Unit {0}
AllFew (b ∷ bs) size = (k : ℕ) × (r : ℕ) × (k + r ≤ size) × BodyFew k b × AllFew bs r

named_body_few : (names : List (List ℕ)) (size : ℕ) (t : Tree) (at : ℕ) (c : Connective) (bs : List Body) → AllFew bs size → BodyFew (suc size) (named_body names t at c bs)
named_body_few names size t at connective.And (b ∷ d ∷ []) (k, r, le, h, (k', r', le', h', tt)) =
    of_goals_few (suc size) t (λ xs. joined (b.goals xs) (d.goals xs))
    (λ xs m. let j = level_joined (b.goals xs) (d.goals xs) k' (h'.level xs) m in let f = h.level xs m in omega (arith, j, f, le, le'))
    (λ xs m n.
    let most : (m n : ℕ) → total m n (d.goals xs) ≤ 2 * k' = λ m n. let f = h'.goals xs m n in omega (arith, f) in
    let j = joined_few (b.goals xs) (d.goals xs) (2 * k') most m n in
    let f = h.goals xs m n in
    omega (arith, j, f, le, le'))
named_body_few names size t at connective.Or (b ∷ d ∷ []) (k, r, le, h, (k', r', le', h', tt)) = disjunction_few (suc size) k k' t at b d (omega (arith, le, le')) h h'
named_body_few names size t at connective.Truth bs h = of_goals_few (suc size) t (λ xs. no_goals) (λ xs m. omega arith) (λ xs m n. omega arith)
named_body_few names size t at c bs h = atom_body_few names (suc size) t (omega arith)

mutual
  body_few : (names : List (List ℕ)) (t : Tree) → BodyFew (nodes t) (body_of names t)
  body_few names (tree at s) = shape_few names at s

  shape_few : (names : List (List ℕ)) (at : ℕ) (s : Shape) → BodyFew (shape_nodes s) (shape_body names at s)
  shape_few names at (Var x) = atom_body_few names 1 (tree at (Var x)) (omega arith)
  shape_few names at (Int n) = atom_body_few names 1 (tree at (Int n)) (omega arith)
  shape_few names at (Fun f ts) = named_body_few names (all_nodes ts) (tree at (Fun f ts)) at (connective_of (name_text names f) (arity ts)) (argument_bodies names ts) (argument_few names ts)

  argument_few : (names : List (List ℕ)) (ts : Trees) → AllFew (argument_bodies names ts) (all_nodes ts)
  argument_few names no_trees = tt
  argument_few names (more_trees t ts) = (nodes t, all_nodes ts, omega arith, body_few names t, argument_few names ts)

-- ---- the clauses of a text

-- goals after a head, of a term of the given number of nodes
abbrev FormFew : ℕ → Form → Type 0
FormFew size skipped = Unit {0}
FormFew size (refused k) = Unit {0}
FormFew size (clause t gs) = (m n : ℕ) → suc (total m n gs) ≤ 2 * size

silent_few : (size : ℕ) (b : Bool) (k : NormKind) → FormFew size (if b then skipped else refused k)
silent_few size true k = tt
silent_few size false k = tt

-- a list of terms that have the given number of nodes together
abbrev SumOf : List Tree → ℕ → Type 0
SumOf [] size = Unit {0}
SumOf (t ∷ ts) size = (r : ℕ) × (nodes t + r ≤ size) × SumOf ts r

list_sum : (ts : Trees) → SumOf (list_of ts) (all_nodes ts)
list_sum no_trees = tt
list_sum (more_trees t ts) = (all_nodes ts, omega arith, list_sum ts)

named_form_few : (names : List (List ℕ)) (size : ℕ) (t : Tree) (k : Neck) (ts : List Tree) → SumOf ts size → FormFew (suc size) (named_form names t k ts)
named_form_few names size t neck.Directive (d ∷ []) h = silent_few (suc size) (is_silent_goal names d) kind.Directive
named_form_few names size t neck.Query ts h = tt
named_form_few names size t neck.Implies (u ∷ b ∷ []) (r, le, (r', le', tt)) = λ m n. let f = (body_few names b).goals (occurrences u ++ occurrences b) m n in omega (arith, f, le, le')
named_form_few names size t neck.Grammar ts h = tt
named_form_few names size t k ts h = λ m n. omega arith

form_few : (names : List (List ℕ)) (t : Tree) → FormFew (nodes t) (form_of names t)
form_few names (tree at (Var x)) = λ m n. omega arith
form_few names (tree at (Int i)) = λ m n. omega arith
form_few names (tree at (Fun f ts)) = named_form_few names (all_nodes ts) (tree at (Fun f ts)) (neck_of (name_text names f) (arity ts)) (list_of ts) (list_sum ts)

-- made clauses that have at most the given number of calls
abbrev MadeFew : ℕ → Made → Type 0
MadeFew most (Ok p) = rule_calls p.0 ≤ most
MadeFew most (Err f) = Unit {0}

abbrev RulesFew : ℕ → Result (List Rule) Fault → Type 0
RulesFew most (Ok rs) = rule_calls rs ≤ most
RulesFew most (Err f) = Unit {0}

made_few : (most : ℕ) (f : Option Fault) (at : ℕ) (made : List Rule) (n : ℕ) → rule_calls made ≤ most → MadeFew most (made_or_fault f at made n)
made_few most (Some f) at made n le = tt
made_few most None at made n le = by_test (nat_lt MOST_TEXT_CLAUSES (length made))
  where
    by_test : (b : Bool) → MadeFew most (if b then Err (kind.ManyClauses, at) else Ok (made, n))
    by_test true = tt
    by_test false = le

with_form_few : (names : List (List ℕ)) (size : ℕ) (made : List Rule) (n : ℕ) (c : Clause) (form : Form) → FormFew size form → MadeFew (rule_calls made + 2 * size) (with_form names made n c form)
with_form_few names size made n c skipped h = omega arith
with_form_few names size made n c (refused k) h = tt
with_form_few names size made n c (clause t gs) h =
    let f = h n (n + choices gs) in
    made_few (rule_calls made + 2 * size) (clause_fault names c t gs) (place c.term) (made ++ rules n (head_call t) gs) (after n gs) (omega (arith, f, calls_append made (rules n (head_call t) gs)))

abbrev all_of : List Clause → ℕ
all_of cs = sum_by (λ (c : Clause). nodes c.term) cs

all_more : (c : Clause) (cs : List Clause) → all_of (c ∷ cs) ≡ nodes c.term + all_of cs
all_more c cs = let e = sum_by-append (λ (d : Clause). nodes d.term) (c ∷ []) cs in omega (arith, e)

next_few : (most most' : ℕ) (m : Made) (next : List Rule → ℕ → Result (List Rule) Fault) → MadeFew most m → ((made : List Rule) (n : ℕ) → rule_calls made ≤ most → RulesFew most' (next made n)) → RulesFew most' (and_next m next)
next_few most most' (Ok p) next h k = k p.0 p.1 h
next_few most most' (Err f) next h k = tt

rules_few : (names : List (List ℕ)) (made : List Rule) (n : ℕ) (cs : List Clause) (most : ℕ) → rule_calls made + 2 * all_of cs ≤ most → RulesFew most (normal_rules names made n cs)
rules_few names made n [] most le = omega (arith, le)
rules_few names made n (c ∷ cs) most le =
    next_few (rule_calls made + 2 * nodes c.term) most (with_clause names made n c) (λ made' n'. normal_rules names made' n' cs) (with_form_few names (nodes c.term) made n c (form_of names c.term) (form_few names c.term))
    (λ made' n' le'. rules_few names made' n' cs most (omega (arith, le, le', all_more c cs)))

-- ---- names and predicates

names_few : (names texts : List (List ℕ)) → length (with_names names texts) ≤ length names + length texts
unfolding with_names
names_few names [] = omega arith
names_few names (t ∷ ts) = let l = names_few (with_text names t) ts in let k = length-with_text names t in omega (arith, l, k)

call_texts_few : (cs : List Call) → length (call_texts cs) ≤ length cs
call_texts_few [] = omega arith
call_texts_few (c ∷ cs) = let l = call_texts_few cs in let k = one c.functor in omega (arith, l, k, length-append (functor_texts c.functor) (call_texts cs))
  where
    one : (f : Functor) → length (functor_texts f) ≤ 1
    one (named f) = omega arith
    one (chosen m) = omega arith

rule_texts_few : (rs : List Rule) → length (rule_texts rs) ≤ rule_calls rs
rule_texts_few [] = omega arith
rule_texts_few (r ∷ rs) =
    let l = rule_texts_few rs in
    let k = call_texts_few (r.head ∷ r.body) in
    omega (arith, l, k, length-append (call_texts (r.head ∷ r.body)) (rule_texts rs))

made_texts_few : (most : ℕ) (r : Result (List Rule) Fault) → RulesFew most r → length (made_texts r) ≤ most + 3
made_texts_few most (Ok rs) h = let l = rule_texts_few rs in omega (arith, l, h, length-append operation_texts (rule_texts rs))
made_texts_few most (Err f) h = omega arith

pub program_names_few : (names : List (List ℕ)) (cs : List Clause) → all_of cs ≤ 2097152 → length (program_names names cs) ≤ length names + 4194307
program_names_few names cs le =
    let l = names_few names (made_texts (normal_rules names [] 1 cs)) in
    let k = made_texts_few 4194304 (normal_rules names [] 1 cs) (rules_few names [] 1 cs 4194304 (omega (arith, le))) in
    omega (arith, l, k)

with_pred_few : (preds : List Pred) (p : Pred) → length (with_pred preds p) ≤ length preds + 1
with_pred_few preds p = by_test (list_any (is_pred p.name.0 p.arity) preds)
  where
    by_test : (b : Bool) → length (if b then preds else preds ++ p ∷ []) ≤ length preds + 1
    by_test true = omega arith
    by_test false = omega (arith, length-append preds (p ∷ []))

pub with_calls_few : (names : List (List ℕ)) (preds : List Pred) (cs : List Call) → length (with_calls names preds cs) ≤ length preds + length cs
with_calls_few names preds [] = omega arith
with_calls_few names preds (c ∷ cs) = let l = with_calls_few names (with_pred preds (pred_of names c)) cs in let k = with_pred_few preds (pred_of names c) in omega (arith, l, k)

with_rules_few : (names : List (List ℕ)) (p : Listing) (rs : List Rule) → length (with_rules names p rs).preds ≤ length p.preds + rule_calls rs
with_rules_few names p [] = omega arith
with_rules_few names p (r ∷ rs) =
    let l = with_rules_few names (with_rule names p r) rs in
    let k = with_calls_few names p.preds (r.head ∷ r.body) in
    omega (arith, l, k)

program_few : (names : List (List ℕ)) (most : ℕ) (r : Result (List Rule) Fault) (p : Listing) → RulesFew most r → program_of names r ≡ Ok p → length p.preds ≤ most
program_few names most (Ok rs) p h e =
    let l = with_rules_few names (empty_program names) rs in
    let same = ap (λ (x : Result Listing Fault). preds_of x) e in
    omega (arith, l, h, same)
  where
    preds_of : Result Listing Fault → ℕ
    preds_of (Ok q) = length q.preds
    preds_of (Err f) = 0
program_few names most (Err f) p h e = cc

pub program_preds_few : (names : List (List ℕ)) (cs : List Clause) (p : Listing) → all_of cs ≤ 2097152 → normal_form names cs ≡ Ok p → length p.preds ≤ 4194304
program_preds_few names cs p le e = program_few names 4194304 (normal_rules names [] 1 cs) p (rules_few names [] 1 cs 4194304 (omega (arith, le))) e
