-- An edit is refused at a place of its text, or at its end.
use Rattle.std.proofs.Common.{◌≡◌, ℕ, ℤ, ◌≤◌, Bool, true, false, if◌then◌else◌, List, [], ◌∷◌, length, Option, Some, None, Ok, Err, subst, sym, refl}
use Rattle.std.specs.Prelude.{nat_le, nat_lt, codes}
use Rattle.std.specs.List.{AllByRecursion}
use Rattle.clause_normal.specs.Definite.{Parted, no_clause, fact, rule, parted, parts_fault, parted_fault, added_fault, program_of}
use Rattle.clause_normal.specs.NormalForm.{Fault, first_of, head_fault, is_silent_goal, named_head_fault, variables_fault}
use Rattle.clause_normal.specs.Query.{query_calls, query_fault, query_goals, query_of}
use Rattle.clause_normal.specs.Numbering.{empty_program}
use Rattle.clause_variables.specs.Terms.{firsts, occurrences}
use Rattle.clause_normal.specs.Words.{is_reserved, same}
use Rattle.clause_normal.specs.declared.fault.NormKind.TheVariants as kind
use Rattle.clause_normal.specs.declared.limits.TheConstants.{MOST_TEXT_CLAUSES}
use Rattle.clause_normal.proofs.PartedPlaces.{PartsPlaced, each_placed, parted_placed}
use Rattle.clause_normal.proofs.PlaceLemmas.{query_form_placed}
use Rattle.cti_terms.specs.declared.limits.TheConstants.{MOST_ARGUMENTS, MOST_VARIABLES}
use Rattle.prolog_grammar.specs.Placed.{Tree, tree, Var, Int, Fun}
use Rattle.prolog_grammar.specs.Places.{IsPlaced}
use Rattle.prolog_reader.specs.Directive.{atom_of, parts_of}
use Rattle.prolog_reader.specs.Names.{name_text}
use Rattle.prolog_reader.specs.Places.{ArePlacedClauses}
use Rattle.prolog_terms.specs.Clauses.{Clause, arity, list_of, place}
use Rattle.edit_texts.specs.Edits.{Edit, nothing, add, remove, tell, no_edit, Outcome, Refusal, Step, Told, added, asked_by, asked_of, done, edit_of, integer_of, number_in, outcome, predicate_in, remove_if, removed_at, tell_if, tell_of, telling, then_done, told_at}

module _ (size : ℕ) where
  -- ---- faults

  abbrev FaultPlaced : Option Fault → Type 0
  FaultPlaced None = Unit {0}
  FaultPlaced (Some f) = f.1 ≤ size

  first_placed : (f g : Option Fault) → FaultPlaced f → FaultPlaced g → FaultPlaced (first_of f g)
  first_placed None g h k = k
  first_placed (Some f) g h k = h

  if_placed : (b : Bool) (f g : Option Fault) → FaultPlaced f → FaultPlaced g → FaultPlaced (if b then f else g)
  if_placed true f g h k = h
  if_placed false f g h k = k

  variables_placed : (at : ℕ) (xs : List ℕ) → at ≤ size → FaultPlaced (variables_fault at xs)
  variables_placed at xs le = if_placed (nat_lt MOST_VARIABLES (length (firsts xs))) (Some (kind.ManyVariables, at)) None le tt

  named_head_placed : (text : List ℕ) (n at : ℕ) → at ≤ size → FaultPlaced (named_head_fault text n at)
  named_head_placed text n at le =
      if_placed (is_reserved text n) (Some (kind.BadHead, at)) (if nat_lt MOST_ARGUMENTS n then Some (kind.Arity, at) else None) le
      (if_placed (nat_lt MOST_ARGUMENTS n) (Some (kind.Arity, at)) None le tt)

  place_placed : (t : Tree) → IsPlaced size t → place t ≤ size
  place_placed (tree at s) h = h.0

  module _ (names : List (List ℕ)) where
    head_placed : (t : Tree) → IsPlaced size t → FaultPlaced (head_fault names t)
    head_placed (tree at (Var x)) h = h.0
    head_placed (tree at (Int n)) h = h.0
    head_placed (tree at (Fun f ts)) h = named_head_placed (name_text names f) (arity ts) at h.0

    -- a body's first fault is that of a query
    body_at : (t : Tree) → IsPlaced size t → (o : Option Fault) → query_fault (query_goals names t) ≡ o → FaultPlaced o
    body_at t h None is = tt
    body_at t h (Some f) is =
        let variables = variables_fault (place t) (occurrences t) in
        query_form_placed size names (empty_program names) (record { term = t; vars = 0 }) f h
        (subst (λ (o : Option Fault). query_of names (empty_program names) (query_calls (query_goals names t)) (first_of o variables) ≡ Err f) (sym is) refl)

    body_placed : (t : Tree) → IsPlaced size t → FaultPlaced (query_fault (query_goals names t))
    body_placed t h = body_at t h (query_fault (query_goals names t)) refl

    -- ---- clauses

    parts_placed : (t : Tree) (p : Parted) → IsPlaced size t → PartsPlaced size p → FaultPlaced (parts_fault names t p)
    parts_placed t (no_clause k) h l = place_placed t h
    parts_placed t (fact a) h l =
        first_placed (head_fault names a) (variables_fault (place t) (occurrences t)) (head_placed a l) (variables_placed (place t) (occurrences t) (place_placed t h))
    parts_placed t (rule a b) h l =
        let variables = variables_fault (place t) (occurrences t) in
        first_placed (head_fault names a) (first_of (query_fault (query_goals names b)) variables) (head_placed a l.0)
        (first_placed (query_fault (query_goals names b)) variables (body_placed b l.1) (variables_placed (place t) (occurrences t) (place_placed t h)))

    added_placed : (n : ℕ) (c : Clause) → IsPlaced size c.term → FaultPlaced (added_fault names n c)
    added_placed n c h =
        let many : Option Fault = if nat_le MOST_TEXT_CLAUSES n then Some (kind.ManyClauses, place c.term) else None in
        first_placed (parted_fault names c) many (parts_placed c.term (parted names c.term) h (parted_placed size names c.term h))
        (if_placed (nat_le MOST_TEXT_CLAUSES n) (Some (kind.ManyClauses, place c.term)) None (place_placed c.term h) tt)

    -- ---- edits

    abbrev EditPlaced : Edit → Type 0
    EditPlaced (add c) = IsPlaced size c.term
    EditPlaced e = Unit {0}

    if_edit : (b : Bool) (e f : Edit) → EditPlaced e → EditPlaced f → EditPlaced (if b then e else f)
    if_edit true e f h k = h
    if_edit false e f h k = k

    tell_if_placed : (n : Option ℕ) (a : Option ℤ) → EditPlaced (tell_if n a)
    tell_if_placed (Some n) (Some a) = tt
    tell_if_placed (Some n) None = tt
    tell_if_placed None a = tt

    tell_placed : (p : Option (ℕ × List Tree)) → EditPlaced (tell_of names p)
    tell_placed None = tt
    tell_placed (Some (f, [])) = tt
    tell_placed (Some (f, n ∷ [])) = tt
    tell_placed (Some (f, n ∷ a ∷ [])) = if_edit (same (name_text names f) (codes "/")) (tell_if (atom_of (parts_of n)) (integer_of a)) no_edit (tell_if_placed (atom_of (parts_of n)) (integer_of a)) tt
    tell_placed (Some (f, n ∷ a ∷ b ∷ ts)) = tt

    remove_placed : (n : Option ℤ) → EditPlaced (remove_if n)
    remove_placed (Some n) = tt
    remove_placed None = tt

    asked_placed : (vars : ℕ) (text : List ℕ) (t : Tree) → IsPlaced size t → EditPlaced (asked_by names vars text t)
    asked_placed vars text t h =
        let silent : Edit = if is_silent_goal names t then nothing else no_edit in
        let modes : Edit = if same text (codes "modes") then tell_of names (parts_of t) else no_edit in
        let del : Edit = if same text (codes "del") then remove_if (integer_of t) else modes in
        let new : Edit = add (record { term = t; vars = vars }) in
        if_edit (same text (codes ":-")) silent (if same text (codes "add") then new else del) (if_edit (is_silent_goal names t) nothing no_edit tt tt)
        (if_edit (same text (codes "add")) new del h
        (if_edit (same text (codes "del")) (remove_if (integer_of t)) modes (remove_placed (integer_of t))
        (if_edit (same text (codes "modes")) (tell_of names (parts_of t)) no_edit (tell_placed (parts_of t)) tt)))

    of_parts : (vars : ℕ) (f : ℕ) (ts : List Tree) → AllByRecursion (IsPlaced size) ts → EditPlaced (asked_of names vars (Some (f, ts)))
    of_parts vars f [] all = tt
    of_parts vars f (t ∷ []) all = asked_placed vars (name_text names f) t all.0
    of_parts vars f (t ∷ u ∷ ts) all = tt

    term_placed : (vars : ℕ) (t : Tree) → IsPlaced size t → EditPlaced (asked_of names vars (parts_of t))
    term_placed vars (tree at (Var x)) h = tt
    term_placed vars (tree at (Int n)) h = tt
    term_placed vars (tree at (Fun f ts)) h = of_parts vars f (list_of ts) (each_placed size ts h.1)

    -- ---- what edits do

    abbrev StepPlaced : Step → Type 0
    StepPlaced (Ok s) = Unit {0}
    StepPlaced (Err r) = r.1 ≤ size

    added_step : (cs : List Clause) (c : Clause) (f : Option Fault) → FaultPlaced f → StepPlaced (added cs c f)
    added_step cs c None h = tt
    added_step cs c (Some f) h = h

    removed_step : (cs : List Clause) (at : ℕ) (k : Option ℕ) → at ≤ size → StepPlaced (removed_at cs at k)
    removed_step cs at None le = le
    removed_step cs at (Some k) le = tt

    told_step : (cs : List Clause) (at : ℕ) (q : Option ℕ) → at ≤ size → StepPlaced (told_at cs at q)
    told_step cs at None le = le
    told_step cs at (Some q) le = tt

    done_placed : (cs : List Clause) (at : ℕ) (e : Edit) → at ≤ size → EditPlaced e → StepPlaced (done names cs at e)
    done_placed cs at nothing le h = tt
    done_placed cs at (add c) le h = added_step cs c (added_fault names (length cs) c) (added_placed (length cs) c h)
    done_placed cs at (remove n) le h = removed_step cs at (number_in (length cs) n) le
    done_placed cs at (tell n a) le h = told_step cs at (predicate_in (program_of names cs) n a) le
    done_placed cs at no_edit le h = le

    told_err : (ts : List Told) (o : Outcome) (r : Refusal) → telling ts o ≡ Err r → o ≡ Err r
    told_err ts (Ok more) r e = cc
    told_err ts (Err q) r e = e

    err_placed : (q r : Refusal) → ◌≡◌ {A = Outcome} (Err q) (Err r) → q.1 ≤ size → r.1 ≤ size
    err_placed q r e le = let same : q ≡ r = cc in subst (λ (x : Refusal). x.1 ≤ size) same le

    then_placed : (s : Step) (rest : List Clause → Outcome) (r : Refusal) → StepPlaced s → ((ds : List Clause) → rest ds ≡ Err r → r.1 ≤ size) → then_done s rest ≡ Err r → r.1 ≤ size
    then_placed (Ok s) rest r h later e = later s.0 (told_err s.1 (rest s.0) r e)
    then_placed (Err q) rest r h later e = err_placed q r e h

    pub outcome_placed : (cs es : List Clause) (r : Refusal) → ArePlacedClauses size es → outcome names cs es ≡ Err r → r.1 ≤ size
    outcome_placed cs [] r h e = cc
    outcome_placed cs (x ∷ es) r h e =
        then_placed (done names cs (place x.term) (edit_of names x)) (λ ds. outcome names ds es) r
        (done_placed cs (place x.term) (edit_of names x) (place_placed x.term h.0) (term_placed x.vars x.term h.0)) (λ ds k. outcome_placed ds es r h.1 k) e
