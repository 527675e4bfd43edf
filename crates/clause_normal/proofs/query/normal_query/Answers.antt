use Rattle.std.proofs.Common.{◌≡◌, ◌<◌, ◌∙◌, ℕ, [], List, Some, None, Ok, Err, length, map, sym, ap, subst, arith, position, if◌then◌else◌, IsTrue}
use Rattle.std.specs.List.{AllByRecursion}
use Rattle.cti_terms.specs.Listing.{IsAtom}
use Rattle.cti_terms.specs.Tree.{Tree as Term, is_below}
use Rattle.cti_terms.specs.declared.atom_list.Atom.{Atom}
use Rattle.cti_terms.specs.declared.derivation.Goal.{Goal as Query}
use Rattle.cti_terms.specs.declared.predicates.Pred.{Pred}
use Rattle.prolog_terms.specs.Clauses.{place}
use Rattle.prolog_reader.specs.Names.{Extends}
use Rattle.prolog_terms.specs.Terms.{tree_of, clause_of}
use Rattle.prolog_reader.proofs.NameLemmas.{extends_self}
use Rattle.prolog_reader.proofs.ViewLemmas.{tree_of_parts}
use Rattle.clause_normal.specs.declared.rule.Call.{Call as CodeCall}
use Rattle.clause_normal.specs.NormalForm.{variables_fault}
use Rattle.clause_normal.specs.Numbering.{arithmetic_of, is_equality, with_equality_clause, atoms_after, with_calls, call_variables}
use Rattle.clause_normal.specs.Query.{query_goals, query_fault, query_calls, query_form, with_query, query_goal, new_equality}
use Rattle.clause_normal.specs.RuleViews.{call_of, CallIsFit, IsNamed}
use Rattle.clause_variables.specs.Terms.{occurrences, firsts}
use Rattle.clause_normal.proofs.NumberingLemmas.{all_among, atoms_below, are_atoms}
use Rattle.clause_normal.proofs.QueryLemmas.{if_fault_map, query_err, query_bad, query_many, query_well}
use Rattle.clause_normal.proofs.query.normal_query.Goals as goal

pub returns-in-Err-clause-exact : goal.returns-in-Err-clause-exact
returns-in-Err-clause-exact c =
    let names = c.args.names.now in
    let p = c.args.program.now in
    let t = tree_of c.args.query.now.term in
    let gs = query_goals names t in
    query_err _ p c.in-Err.fault
    (if_fault_map c.in-Err.fault (λ f. query_fault gs ≡ Some f) (λ f. query_form names p (clause_of c.args.query.now) ≡ Err f)
    (λ f e. query_bad names p (query_calls gs) (query_fault gs) (variables_fault (place t) (occurrences t)) f e) c.in-Err.ensures.fault)

pub returns-in-Err-check_term-clause-exact : goal.returns-in-Err-check_term-clause-exact
returns-in-Err-check_term-clause-exact c =
    let names = c.args.names.now in
    let p = c.args.program.now in
    let t = c.args.query.now.term in
    let gs = query_goals names (tree_of t) in
    let v = variables_fault (place (tree_of t)) (occurrences (tree_of t)) in
    let at : place (tree_of t) ≡ t.at = ap place (tree_of_parts t) in
    let same : v ≡ variables_fault t.at (occurrences (tree_of t)) = ap (λ (n : ℕ). variables_fault n (occurrences (tree_of t))) at in
    query_err _ p c.in-Err-check_term.fault
    (if_fault_map c.in-Err-check_term.fault (λ f. variables_fault t.at (occurrences (tree_of t)) ≡ Some f) (λ f. query_form names p (clause_of c.args.query.now) ≡ Err f)
    (λ f e. query_many names p (query_calls gs) (query_fault gs) v f c.in-Ok.ensures.fault (same ∙ e)) c.in-Err-check_term.ensures)

pub add_atoms-requires-clause-fit : goal.add_atoms-requires-clause-fit
add_atoms-requires-clause-fit c = subst (λ (cs : List CodeCall). AllByRecursion (CallIsFit (length c.args.names.now)) cs) (sym c.deref-3.ensures.value) c.in-Ok.ensures.fit

pub add_new_equality-requires-clause-arithmetic : goal.add_new_equality-requires-clause-arithmetic
add_new_equality-requires-clause-arithmetic c =
    let p = c.args.program.now in
    let named = subst (λ (cs : List CodeCall). AllByRecursion (λ (k : CodeCall). IsNamed k.functor) cs) (sym c.deref-3.ensures.value) c.in-Ok.ensures.named in
    let same : c.add_atoms.new.names ≡ c.args.names.now = c.in_ok-atoms.ensures.named named in
    let there : p.arithmetic ≡ arithmetic_of c.add_atoms.new.names p.preds = c.requires.arithmetic ∙ ap (λ (ns : List (List ℕ)). arithmetic_of ns p.preds) (sym same) in
    c.in_ok-atoms.ensures.arithmetic c.add_atoms.new.names (extends_self c.add_atoms.new.names) there

pub returns-clause-arithmetic : goal.returns-clause-arithmetic
returns-clause-arithmetic c =
    let p = c.args.program.now in
    let later = c.add_atoms.new.names in
    let named = subst (λ (cs : List CodeCall). AllByRecursion (λ (k : CodeCall). IsNamed k.functor) cs) (sym c.deref-3.ensures.value) c.in-Ok.ensures.named in
    let same : later ≡ c.args.names.now = c.in_ok-atoms.ensures.named named in
    let there : p.arithmetic ≡ arithmetic_of later p.preds = c.requires.arithmetic ∙ ap (λ (ns : List (List ℕ)). arithmetic_of ns p.preds) (sym same) in
    c.in_ok-add_new_equality.ensures.arithmetic ∙ c.in_ok-atoms.ensures.arithmetic later (extends_self later) there ∙ ap (arithmetic_of later) (sym c.in_ok-add_new_equality.ensures.preds)

pub returns-clause-exact : goal.returns-clause-exact
returns-clause-exact c =
    let names = c.args.names.now in
    let p = c.args.program.now in
    let t = c.args.query.now.term in
    let gs = query_goals names (tree_of t) in
    let v = variables_fault (place (tree_of t)) (occurrences (tree_of t)) in
    let none : query_fault gs ≡ None = c.in-Ok.ensures.fault in
    let at : place (tree_of t) ≡ t.at = ap place (tree_of_parts t) in
    let few : v ≡ None = ap (λ (n : ℕ). variables_fault n (occurrences (tree_of t))) at ∙ c.in-Ok-check_term.ensures in
    let cs = query_calls gs in
    let calls : map call_of c.in-Ok.calls.items ≡ cs = c.in-Ok.ensures.calls in
    let here : map call_of c.deref-3.result.now ≡ cs = ap (λ (cs : List CodeCall). map call_of cs) c.deref-3.ensures.value ∙ calls in
    let h = rw c.in-Some.is at c.in_ok-order.ensures in
    let order : c.in-Some.order.items ≡ firsts (call_variables cs) =
    h.0 ∙ ap firsts (c.deref-2.ensures.value ∙ c.in_ok-occurrences.ensures ∙ ap (λ (cs : List CodeCall). call_variables (map call_of cs)) c.deref.ensures.value ∙ ap call_variables calls) in
    let named = subst (λ (cs : List CodeCall). AllByRecursion (λ (k : CodeCall). IsNamed k.functor) cs) (sym c.deref-3.ensures.value) c.in-Ok.ensures.named in
    let same : c.add_atoms.new.names ≡ names = c.in_ok-atoms.ensures.named named in
    let ext : Extends c.add_atoms.new.names names = subst (λ (ns : List (List ℕ)). Extends c.add_atoms.new.names ns) same (extends_self c.add_atoms.new.names) in
    let atoms : c.in_ok-atoms.atoms ≡ atoms_after names (firsts (call_variables cs)) p.preds cs =
    c.in_ok-atoms.ensures.atoms names ext ∙ (λ i. atoms_after names ((c.deref-4.ensures.value ∙ order) i) p.preds (here i)) in
    let preds : c.add_atoms.new.program.preds ≡ with_calls names p.preds cs = c.in_ok-atoms.ensures.preds names ext ∙ ap (with_calls names p.preds) here in
    let known = c.has_equality-known.ensures in
    let clauses : c.add_new_equality.new.program.clauses ≡ with_equality_clause (new_equality names p.preds (with_calls names p.preds cs)) p.clauses =
    c.in_ok-add_new_equality.ensures.clauses
    ∙ (λ i. with_equality_clause (if known i then None else position (is_equality (same i)) (preds i)) (c.in_ok-atoms.ensures.clauses i)) in
    let all : c.add_new_equality.new.program.preds ≡ with_calls names p.preds cs = c.in_ok-add_new_equality.ensures.preds ∙ preds in
    let there : p.arithmetic ≡ arithmetic_of c.add_atoms.new.names p.preds = c.requires.arithmetic ∙ ap (λ (ns : List (List ℕ)). arithmetic_of ns p.preds) (sym same) in
    let arithmetic : c.add_new_equality.new.program.arithmetic ≡ arithmetic_of names (with_calls names p.preds cs) =
    c.in_ok-add_new_equality.ensures.arithmetic ∙ c.in_ok-atoms.ensures.arithmetic c.add_atoms.new.names (extends_self c.add_atoms.new.names) there ∙ (λ i. arithmetic_of (same i) (preds i)) in
    let listing : c.add_new_equality.new.program ≡ with_query names p cs = λ i. record { preds = all i; clauses = clauses i; arithmetic = arithmetic i } in
    let fresh : c.len.result ≡ length (firsts (call_variables cs)) = omega (arith, c.len.ensures, c.in-Some.order.ok.0, ap (λ (xs : List ℕ). length xs) order) in
    let made : Query = record { atoms = c.in_ok-atoms.atoms; fresh = c.len.result } in
    let query : made ≡ query_goal names p cs = λ i. record { atoms = atoms i; fresh = fresh i } in
    query_well names p cs (query_fault gs) v none few ∙ (λ i. Ok (sym listing i, sym query i))

pub returns-clause-known : goal.returns-clause-known
returns-clause-known c =
    subst (λ (ps : List Pred). AllByRecursion (λ (q : Pred). q.name.0 < length c.add_atoms.new.names) ps) (sym c.in_ok-add_new_equality.ensures.preds) (c.in_ok-atoms.ensures.known c.requires.known)

pub returns-clause-goal : goal.returns-clause-goal
returns-clause-goal c =
    let names = c.args.names.now in
    let p = c.args.program.now in
    let t = c.args.query.now.term in
    let cs = query_calls (query_goals names (tree_of t)) in
    let order = firsts (call_variables cs) in
    let calls : map call_of c.in-Ok.calls.items ≡ cs = c.in-Ok.ensures.calls in
    let here : map call_of c.deref-3.result.now ≡ cs = ap (λ (cs : List CodeCall). map call_of cs) c.deref-3.ensures.value ∙ calls in
    let h = rw c.in-Some.is at c.in_ok-order.ensures in
    let ordered : c.in-Some.order.items ≡ order =
    h.0 ∙ ap firsts (c.deref-2.ensures.value ∙ c.in_ok-occurrences.ensures ∙ ap (λ (cs : List CodeCall). call_variables (map call_of cs)) c.deref.ensures.value ∙ ap call_variables calls) in
    let named = subst (λ (cs : List CodeCall). AllByRecursion (λ (k : CodeCall). IsNamed k.functor) cs) (sym c.deref-3.ensures.value) c.in-Ok.ensures.named in
    let same : c.add_atoms.new.names ≡ names = c.in_ok-atoms.ensures.named named in
    let ext : Extends c.add_atoms.new.names names = subst (λ (ns : List (List ℕ)). Extends c.add_atoms.new.names ns) same (extends_self c.add_atoms.new.names) in
    let atoms : c.in_ok-atoms.atoms ≡ atoms_after names order p.preds cs =
    c.in_ok-atoms.ensures.atoms names ext ∙ (λ i. atoms_after names ((c.deref-4.ensures.value ∙ ordered) i) p.preds (here i)) in
    let fresh : c.len.result ≡ length order = omega (arith, c.len.ensures, c.in-Some.order.ok.0, ap (λ (xs : List ℕ). length xs) ordered) in
    let Below : List Atom → Type 0 = λ xs. AllByRecursion (λ (a : Atom). AllByRecursion (λ (t : Term). IsTrue (is_below (length order) t)) a.args) xs in
    let below = subst Below (sym atoms) (atoms_below order names p.preds cs (all_among [] (call_variables cs))) in
    let all = are_atoms c.add_atoms.new.program.preds (length order) c.in_ok-atoms.atoms c.in_ok-atoms.ensures.arity below in
    let counted = subst (λ (n : ℕ). AllByRecursion (IsAtom c.add_atoms.new.program.preds n) c.in_ok-atoms.atoms) (sym fresh) all in
    subst (λ (ps : List Pred). AllByRecursion (IsAtom ps c.len.result) c.in_ok-atoms.atoms) (sym c.in_ok-add_new_equality.ensures.preds) counted
