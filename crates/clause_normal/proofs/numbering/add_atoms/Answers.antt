use Rattle.std.proofs.Common.{◌≡◌, ◌∙◌, ◌+◌, ◌++◌, ◌∷◌, [], ℕ, List, length, map, drop, get_or, sum_by, sym, ap, subst, arith, append_assoc, length-append}
use Rattle.std.proofs.lemmas.List.{at_drop_more, drop_all}
use Rattle.std.proofs.lemmas.List.Sums.{sum_by-cons, sum_by-append}
use Rattle.cti_terms.specs.Listing.{atom_nodes}
use Rattle.cti_terms.specs.declared.atom_list.Atom.{Atom}
use Rattle.cti_terms.specs.declared.predicates.Pred.{Pred}
use Rattle.prolog_reader.proofs.NameLemmas.{extends_trans}
use Rattle.clause_normal.specs.declared.rule.Call.{Call as CodeCall}
use Rattle.prolog_reader.specs.Naming.{with_names}
use Rattle.prolog_reader.proofs.NamingLemmas.{names_none, names_more}
use Rattle.clause_normal.specs.ChoiceNames.{functor_texts, call_texts}
use Rattle.clause_normal.specs.Numbering.{atom_after, atoms_after, with_calls, HasArity}
use Rattle.clause_normal.specs.Rules.{Call}
use Rattle.clause_normal.specs.RuleViews.{call_of, IsNamed}
use Rattle.clause_variables.proofs.ListLemmas.{all_push, all_at}
use Rattle.clause_normal.proofs.NumberingLemmas.{arities_still}
use Rattle.clause_normal.proofs.numbering.add_atoms.Goals as goal

pub calls-preserved : goal.calls-preserved
calls-preserved c =
    let items = c.args.calls.now in
    let i = c.calls.call-index in
    let it = c.call-item.result in
    let inv = c.calls.invariant in
    let add = c.in_ok-atom.ensures in
    let atom = c.in_ok-atom.atom in
    let old = c.calls.program.preds in
    let new = c.add_atom.new.program.preds in
    let pushed : c.push.new.self ≡ c.calls.atoms ++ atom ∷ [] = c.in_ok-push.ensures.ok in
    let rest : List Call = map call_of (drop (i + 1) items) in
    let there : get_or items i it ≡ it = sym c.call-item.is in
    let left : map call_of (drop i items) ≡ call_of it ∷ rest = at_drop_more (map call_of) items i it c.calls-test.true ∙ ap (λ (t : CodeCall). call_of t ∷ rest) there in
    record {
      kept = extends_trans c.args.names.now c.calls.names c.add_atom.new.names inv.kept add.kept;
      atoms = λ later ext.
          let order = c.args.order.now in
          let before = extends_trans c.calls.names c.add_atom.new.names later add.kept ext in
          ap (λ (xs : List Atom). xs ++ atoms_after later order new rest) pushed
          ∙ append_assoc c.calls.atoms (atom ∷ []) (atoms_after later order new rest)
          ∙ ap (λ (a : Atom). c.calls.atoms ++ a ∷ atoms_after later order new rest) (add.atom later ext)
          ∙ ap (λ (ps : List Pred). c.calls.atoms ++ atom_after later order old (call_of it) ∷ atoms_after later order ps rest) (add.preds later ext)
          ∙ ap (λ (cs : List Call). c.calls.atoms ++ atoms_after later order old cs) (sym left)
          ∙ inv.atoms later before;
      preds = λ later ext.
          ap (λ (ps : List Pred). with_calls later ps rest) (add.preds later ext) ∙ ap (with_calls later old) (sym left)
          ∙ inv.preds later (extends_trans c.calls.names c.add_atom.new.names later add.kept ext);
      clauses = add.clauses ∙ inv.clauses;
      arithmetic = λ later ext h. add.arithmetic later ext (inv.arithmetic later (extends_trans c.calls.names c.add_atom.new.names later add.kept ext) h);
      nodes = omega (arith, inv.nodes, add.nodes, ap (λ (xs : List Atom). sum_by atom_nodes xs) pushed, sum_by-append atom_nodes c.calls.atoms (atom ∷ []), sum_by-cons atom_nodes atom []);
      added =
          ap (λ (n : List (List ℕ)). with_names n (call_texts rest)) add.added ∙ sym (names_more c.calls.names (functor_texts (call_of it).functor) (call_texts rest))
          ∙ ap (λ (cs : List Call). with_names c.calls.names (call_texts cs)) (sym left) ∙ inv.added;
      named = λ h. add.named (subst (λ (k : CodeCall). IsNamed k.functor) there (all_at (λ (k : CodeCall). IsNamed k.functor) items i it h c.calls-test.true)) ∙ inv.named h;
      count = omega (arith, inv.count, ap (λ (xs : List Atom). length xs) pushed, length-append c.calls.atoms (atom ∷ []));
      more = omega (arith, inv.more, add.more);
      still = λ k h. add.still k (omega (arith, h, inv.more)) ∙ inv.still k h;
      arity = all_push (HasArity new) c.calls.atoms c.push.new.self atom pushed (arities_still old new add.still c.calls.atoms inv.arity) add.arity;
      known = λ h. add.known (inv.known h);
    }

pub returns-clause-added : goal.returns-clause-added
returns-clause-added c =
    let none : drop c.calls.call-index c.args.calls.now ≡ [] = drop_all c.calls.call-index c.args.calls.now (omega arith) in
    sym (names_none c.calls.names) ∙ ap (λ (cs : List CodeCall). with_names c.calls.names (call_texts (map call_of cs))) (sym none) ∙ c.calls.invariant.added
