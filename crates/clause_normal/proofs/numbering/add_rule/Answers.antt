use Rattle.std.proofs.Common.{◌≡◌, ◌∙◌, ◌++◌, ◌∷◌, [], ℕ, true, IsTrue, List, length, map, sym, ap, subst, arith}
use Rattle.std.specs.List.{AllByRecursion}
use Rattle.cti_terms.specs.Arithmetic.{Arithmetic, kind_of}
use Rattle.cti_terms.specs.Listing.{with_pred, IsAtom}
use Rattle.cti_terms.specs.Tree.{Tree as Term, is_below}
use Rattle.cti_terms.specs.declared.atom_list.Atom.{Atom}
use Rattle.cti_terms.specs.declared.clauses.Clause.{Clause}
use Rattle.cti_terms.specs.declared.predicates.Pred.{Pred}
use Rattle.prolog_reader.specs.Names.{Extends}
use Rattle.prolog_reader.proofs.NameLemmas.{extends_trans, extends_self}
use Rattle.clause_normal.specs.declared.rule.Call.{Call as CodeCall}
use Rattle.clause_normal.specs.Numbering.{arithmetic_of, atom_after, atoms_after, with_calls, pred_of, order_of, call_variables}
use Rattle.clause_normal.specs.RuleViews.{call_of, rule_of}
use Rattle.clause_variables.specs.Terms.{firsts, is_among, list_variables}
use Rattle.clause_variables.proofs.ListLemmas.{all_front, all_back}
use Rattle.clause_normal.proofs.NumberingLemmas.{all_among, list_below, atoms_below, are_atoms, arity_still}
use Rattle.clause_normal.proofs.KindLemmas.{ordinary_none, ordinary_still}
use Rattle.prolog_reader.specs.Naming.{with_names}
use Rattle.clause_normal.specs.ChoiceNames.{functor_texts, call_texts}
use Rattle.prolog_reader.proofs.NamingLemmas.{names_then}
use Rattle.clause_normal.proofs.numbering.add_rule.Goals as goal

-- the order of the variables
order_is : (c : goal.After-len-2) → c.in-Some.order.items ≡ order_of (rule_of c.args.rule.now)
order_is c = let h = rw c.in-Some.is at c.in_ok-order.ensures in h.0 ∙ ap firsts (c.deref.ensures.value ∙ c.in_ok-variables.ensures)

vars_are : (c : goal.After-len-2) → c.len-2.result ≡ length (order_of (rule_of c.args.rule.now))
vars_are c = omega (arith, c.len-2.ensures, c.in-Some.order.ok.0, ap (λ (xs : List ℕ). length xs) (order_is c))

-- the atoms, whatever names come later
head_is : (c : goal.After-len-2) (later : List (List ℕ)) → Extends c.add_atoms.new.names later
    → c.in_ok-head.head ≡ atom_after later (order_of (rule_of c.args.rule.now)) c.args.program.now.preds (call_of c.args.rule.now.head)
head_is c later ext =
    let before = extends_trans c.add_atom.new.names c.add_atoms.new.names later c.in_ok-body.ensures.kept ext in
    c.in_ok-head.ensures.atom later before
    ∙ ap (λ (o : List ℕ). atom_after later o c.args.program.now.preds (call_of c.args.rule.now.head)) (c.deref-2.ensures.value ∙ order_is c)

preds_are : (c : goal.After-len-2) (later : List (List ℕ)) → Extends c.add_atoms.new.names later → c.add_atom.new.program.preds ≡ with_pred c.args.program.now.preds (pred_of later (call_of c.args.rule.now.head))
preds_are c later ext = c.in_ok-head.ensures.preds later (extends_trans c.add_atom.new.names c.add_atoms.new.names later c.in_ok-body.ensures.kept ext)

body_is : (c : goal.After-len-2) (later : List (List ℕ)) → Extends c.add_atoms.new.names later
    → c.in_ok-body.body ≡ atoms_after later (order_of (rule_of c.args.rule.now)) (with_pred c.args.program.now.preds (pred_of later (call_of c.args.rule.now.head))) (map call_of c.args.rule.now.body.items)
body_is c later ext =
    let r = rule_of c.args.rule.now in
    c.in_ok-body.ensures.atoms later ext
    ∙ ap (λ (o : List ℕ). atoms_after later o c.add_atom.new.program.preds (map call_of c.deref-3.result.now)) (c.deref-4.ensures.value ∙ order_is c)
    ∙ ap (λ (ps : List Pred). atoms_after later (order_of r) ps (map call_of c.deref-3.result.now)) (preds_are c later ext)
    ∙ ap (λ (cs : List CodeCall). atoms_after later (order_of r) (with_pred c.args.program.now.preds (pred_of later (call_of c.args.rule.now.head))) (map call_of cs)) c.deref-3.ensures.value

pub add_clause-requires-clause-sound : goal.add_clause-requires-clause-sound
add_clause-requires-clause-sound c =
    let r = rule_of c.args.rule.now in
    let order = order_of r in
    let names = c.add_atoms.new.names in
    let self = extends_self names in
    let preds = c.add_atoms.new.program.preds in
    let P : ℕ → Type 0 = λ x. is_among order x ≡ true in
    let all = all_among [] (call_variables (r.head ∷ r.body)) in
    let front = all_front P (list_variables r.head.args) (call_variables r.body) all in
    let back = all_back P (list_variables r.head.args) (call_variables r.body) all in
    let B : ℕ → List Term → Type 0 = λ n ts. AllByRecursion (λ (t : Term). IsTrue (is_below n t)) ts in
    let head_below : B (length order) c.in_ok-head.head.args = subst (λ (a : Atom). B (length order) a.args) (sym (head_is c names self)) (list_below order r.head.args front) in
    let body_below : AllByRecursion (λ (a : Atom). B (length order) a.args) c.in_ok-body.body =
    subst (λ (xs : List Atom). AllByRecursion (λ (a : Atom). B (length order) a.args) xs) (sym (body_is c names self))
    (atoms_below order names (with_pred c.args.program.now.preds (pred_of names r.head)) r.body back) in
    let h = rw c.in-Some.is at c.in_ok-order.ensures in
    record {
      head = record {
        arity = arity_still c.add_atom.new.program.preds preds c.in_ok-body.ensures.still c.in_ok-head.head c.in_ok-head.ensures.arity;
        below = subst (λ (n : ℕ). B n c.in_ok-head.head.args) (sym (vars_are c)) head_below;
      };
      body = subst (λ (n : ℕ). AllByRecursion (IsAtom preds n) c.in_ok-body.body) (sym (vars_are c)) (are_atoms preds (length order) c.in_ok-body.body c.in_ok-body.ensures.arity body_below);
      few = omega (arith, h.1, c.len-2.ensures, c.in-Some.order.ok.0);
      small = omega (arith, c.in_ok-head.ensures.nodes, c.in_ok-body.ensures.nodes);
      short = omega (arith, c.in_ok-body.ensures.count, c.deref-3.ensures.len, c.len.ensures, c.if-len.false);
    }

-- what is built in, whatever names come later
arithmetic_is : (c : goal.After-len-2) (later : List (List ℕ)) → Extends c.add_atoms.new.names later → c.add_atoms.new.program.arithmetic ≡ arithmetic_of later c.add_atoms.new.program.preds
arithmetic_is c later ext =
    let after_head = extends_trans c.add_atom.new.names c.add_atoms.new.names later c.in_ok-body.ensures.kept ext in
    let before = extends_trans c.args.names.now c.add_atom.new.names later c.in_ok-head.ensures.kept after_head in
    c.in_ok-body.ensures.arithmetic later ext (c.in_ok-head.ensures.arithmetic later after_head (c.requires.arithmetic later before))

pub add_clause-requires-clause-ordinary : goal.add_clause-requires-clause-ordinary
add_clause-requires-clause-ordinary c =
    let names = c.add_atoms.new.names in
    let preds = c.add_atoms.new.program.preds in
    let q = c.in_ok-head.head.pred.0 in
    let there = ordinary_still c.add_atom.new.names names c.add_atom.new.program.preds preds c.in_ok-body.ensures.kept c.in_ok-body.ensures.still c.in_ok-head.head (c.in_ok-head.ensures.ordinary c.requires.ordinary) in
    ap (λ (ar : Arithmetic). kind_of ar q) (arithmetic_is c names (extends_self names)) ∙ ordinary_none names q preds there

-- the same at the end
order_is_after : (c : goal.After-drop-variables-2) → c.in-Some.order.items ≡ order_of (rule_of c.args.rule.now)
order_is_after c = let h = rw c.in-Some.is at c.in_ok-order.ensures in h.0 ∙ ap firsts (c.deref.ensures.value ∙ c.in_ok-variables.ensures)

vars_are_after : (c : goal.After-drop-variables-2) → c.len-2.result ≡ length (order_of (rule_of c.args.rule.now))
vars_are_after c = omega (arith, c.len-2.ensures, c.in-Some.order.ok.0, ap (λ (xs : List ℕ). length xs) (order_is_after c))

head_is_after : (c : goal.After-drop-variables-2) (later : List (List ℕ)) → Extends c.add_atoms.new.names later
    → c.in_ok-head.head ≡ atom_after later (order_of (rule_of c.args.rule.now)) c.args.program.now.preds (call_of c.args.rule.now.head)
head_is_after c later ext =
    let before = extends_trans c.add_atom.new.names c.add_atoms.new.names later c.in_ok-body.ensures.kept ext in
    c.in_ok-head.ensures.atom later before
    ∙ ap (λ (o : List ℕ). atom_after later o c.args.program.now.preds (call_of c.args.rule.now.head)) (c.deref-2.ensures.value ∙ order_is_after c)

preds_are_after : (c : goal.After-drop-variables-2) (later : List (List ℕ)) → Extends c.add_atoms.new.names later → c.add_atom.new.program.preds ≡ with_pred c.args.program.now.preds (pred_of later (call_of c.args.rule.now.head))
preds_are_after c later ext = c.in_ok-head.ensures.preds later (extends_trans c.add_atom.new.names c.add_atoms.new.names later c.in_ok-body.ensures.kept ext)

body_is_after : (c : goal.After-drop-variables-2) (later : List (List ℕ)) → Extends c.add_atoms.new.names later
    → c.in_ok-body.body ≡ atoms_after later (order_of (rule_of c.args.rule.now)) (with_pred c.args.program.now.preds (pred_of later (call_of c.args.rule.now.head))) (map call_of c.args.rule.now.body.items)
body_is_after c later ext =
    let r = rule_of c.args.rule.now in
    c.in_ok-body.ensures.atoms later ext
    ∙ ap (λ (o : List ℕ). atoms_after later o c.add_atom.new.program.preds (map call_of c.deref-3.result.now)) (c.deref-4.ensures.value ∙ order_is_after c)
    ∙ ap (λ (ps : List Pred). atoms_after later (order_of r) ps (map call_of c.deref-3.result.now)) (preds_are_after c later ext)
    ∙ ap (λ (cs : List CodeCall). atoms_after later (order_of r) (with_pred c.args.program.now.preds (pred_of later (call_of c.args.rule.now.head))) (map call_of cs)) c.deref-3.ensures.value

arithmetic_is_after : (c : goal.After-drop-variables-2) (later : List (List ℕ)) → Extends c.add_atoms.new.names later → c.add_clause.new.self.arithmetic ≡ arithmetic_of later c.add_clause.new.self.preds
arithmetic_is_after c later ext =
    let after_head = extends_trans c.add_atom.new.names c.add_atoms.new.names later c.in_ok-body.ensures.kept ext in
    let before = extends_trans c.args.names.now c.add_atom.new.names later c.in_ok-head.ensures.kept after_head in
    c.in_ok-add_clause.ensures.arithmetic ∙ c.in_ok-body.ensures.arithmetic later ext (c.in_ok-head.ensures.arithmetic later after_head (c.requires.arithmetic later before))
    ∙ ap (arithmetic_of later) (sym c.in_ok-add_clause.ensures.preds)

pub returns-clause-arithmetic : goal.returns-clause-arithmetic
returns-clause-arithmetic c = arithmetic_is_after c

pub returns-clause-program : goal.returns-clause-program
returns-clause-program c = λ later ext.
    let r = rule_of c.args.rule.now in
    let old = c.args.program.now in
    let clause : Clause = record { head = c.in_ok-head.head; body = c.in_ok-body.body; vars = c.len-2.result } in
    let made : Clause = record {
      head = atom_after later (order_of r) old.preds r.head;
      body = atoms_after later (order_of r) (with_pred old.preds (pred_of later r.head)) r.body;
      vars = length (order_of r);
    } in
    let same : clause ≡ made = λ i. record { head = head_is_after c later ext i; body = body_is_after c later ext i; vars = vars_are_after c i } in
    let preds : c.add_clause.new.self.preds ≡ with_calls later old.preds (r.head ∷ r.body) =
    c.in_ok-add_clause.ensures.preds ∙ c.in_ok-body.ensures.preds later ext
    ∙ ap (λ (ps : List Pred). with_calls later ps (map call_of c.deref-3.result.now)) (preds_are_after c later ext)
    ∙ ap (λ (cs : List CodeCall). with_calls later (with_pred old.preds (pred_of later r.head)) (map call_of cs)) c.deref-3.ensures.value in
    let clauses : c.add_clause.new.self.clauses ≡ old.clauses ++ made ∷ [] =
    c.in_ok-add_clause.ensures.clauses ∙ ap (λ (cs : List Clause). cs ++ clause ∷ []) (c.in_ok-body.ensures.clauses ∙ c.in_ok-head.ensures.clauses) ∙ ap (λ (k : Clause). old.clauses ++ k ∷ []) same in
    let arithmetic : c.add_clause.new.self.arithmetic ≡ arithmetic_of later (with_calls later old.preds (r.head ∷ r.body)) =
    arithmetic_is_after c later ext ∙ ap (arithmetic_of later) preds in
    λ i. record { preds = preds i; clauses = clauses i; arithmetic = arithmetic i }

pub returns-clause-added : goal.returns-clause-added
returns-clause-added c =
    names_then c.args.names.now c.add_atom.new.names c.add_atoms.new.names (functor_texts (call_of c.args.rule.now.head).functor) (call_texts (map call_of c.args.rule.now.body.items)) c.in_ok-head.ensures.added
    (c.in_ok-body.ensures.added ∙ ap (λ (cs : List CodeCall). with_names c.add_atom.new.names (call_texts (map call_of cs))) c.deref-3.ensures.value)
