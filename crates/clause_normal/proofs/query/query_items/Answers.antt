use Rattle.std.proofs.Common.{◌∙◌, ◌++◌, ◌∷◌, [], List, length, map, sym, ap, Bor, IsTrue}
use Rattle.prolog_terms.specs.declared.term.ReadTerm.{ReadTerm}
use Rattle.prolog_terms.specs.Clauses.{is_known}
use Rattle.prolog_terms.specs.Terms.{tree_of}
use Rattle.clause_normal.specs.Bodies.{Goal}
use Rattle.clause_normal.specs.Views.{item_goal, ItemIsFit}
use Rattle.clause_variables.proofs.ListLemmas.{all_push, all_pop}
use Rattle.clause_normal.proofs.BodyLemmas.{some_node, off_smaller, sides_on}
use Rattle.clause_normal.proofs.QueryLemmas.{queries_both, queries_nothing, queries_item}
use Rattle.clause_normal.proofs.query.query_items.Goals as goal

pub parts-smaller-in-Continue-branch-3 : goal.parts-smaller-in-Continue-branch-3
parts-smaller-in-Continue-branch-3 c =
    sides_on c.parts.stack.items c.pop.new.self.items c.push-in-Both-2.new.self.items c.in-Some.term c.in-Both.left c.in-Both.right c.in-Some.ensures.items
    (c.in_ok-push-in-Both-2.ensures.items ∙ ap (λ ts. ts ++ c.in-Both.left ∷ []) c.in_ok-push-in-Both.ensures.items) c.in-Both.ensures.smaller

pub parts-preserved-in-Continue-branch-3 : goal.parts-preserved-in-Continue-branch-3
parts-preserved-in-Continue-branch-3 c =
    let i = c.parts.invariant in
    record {
      goals =
          ap (λ (gs : List Goal). map item_goal c.parts.items.items ++ gs)
          (
          queries_both c.args.names.now c.parts.stack.items c.pop.new.self.items c.push-in-Both-2.new.self.items c.in-Some.term c.in-Both.left c.in-Both.right c.in-Some.ensures.items
          (c.in_ok-push-in-Both-2.ensures.items ∙ ap (λ ts. ts ++ c.in-Both.left ∷ []) c.in_ok-push-in-Both.ensures.items) c.in-Both.ensures.query
          )
          ∙ i.goals;
      fit = i.fit;
      stack_fit =
          let P = λ (t : Bor ReadTerm). IsTrue (is_known (length c.args.names.now) (tree_of t.now)) in
          let off = all_pop P c.parts.stack.items c.pop.new.self.items c.in-Some.term c.in-Some.ensures.items i.stack_fit in
          let sides = c.in-Both.ensures.fit in
          all_push P c.push-in-Both.new.self.items c.push-in-Both-2.new.self.items c.in-Both.left c.in_ok-push-in-Both-2.ensures.items
          (all_push P c.pop.new.self.items c.push-in-Both.new.self.items c.in-Both.right c.in_ok-push-in-Both.ensures.items off.0 sides.1) sides.0;
    }

pub atom_item-item-requires : goal.atom_item-item-requires
atom_item-item-requires c =
    let P = λ (t : Bor ReadTerm). IsTrue (is_known (length c.args.names.now) (tree_of t.now)) in
    (all_pop P c.parts.stack.items c.pop.new.self.items c.in-Some.term c.in-Some.ensures.items c.parts.invariant.stack_fit).1

pub parts-smaller-in-Continue-branch-4 : goal.parts-smaller-in-Continue-branch-4
parts-smaller-in-Continue-branch-4 c = off_smaller c.parts.stack.items c.pop.new.self.items c.in-Some.term c.in-Some.ensures.items (some_node (tree_of c.in-Some.term.now))

pub parts-preserved-in-Continue-branch-4 : goal.parts-preserved-in-Continue-branch-4
parts-preserved-in-Continue-branch-4 c =
    let i = c.parts.invariant in
    record {
      goals = queries_item c.args.names.now c.parts.stack.items c.pop.new.self.items c.in-Some.term c.parts.items.items c.push-in-Either.new.self.items c.atom_item-item.result c.in-Some.ensures.items c.in_ok-push-in-Either.ensures.items (c.in-Either.ensures.query ∙ ap (λ (g : Goal). g ∷ []) (sym c.atom_item-item.ensures.goal)) ∙ i.goals;
      fit =
          let P = λ (t : Bor ReadTerm). IsTrue (is_known (length c.args.names.now) (tree_of t.now)) in
          let off = all_pop P c.parts.stack.items c.pop.new.self.items c.in-Some.term c.in-Some.ensures.items i.stack_fit in
          all_push (ItemIsFit (length c.args.names.now)) c.parts.items.items c.push-in-Either.new.self.items c.atom_item-item.result c.in_ok-push-in-Either.ensures.items i.fit c.atom_item-item.ensures.fit;
      stack_fit =
          let P = λ (t : Bor ReadTerm). IsTrue (is_known (length c.args.names.now) (tree_of t.now)) in
          (all_pop P c.parts.stack.items c.pop.new.self.items c.in-Some.term c.in-Some.ensures.items i.stack_fit).0;
    }

pub parts-smaller-in-Nothing : goal.parts-smaller-in-Nothing
parts-smaller-in-Nothing c = off_smaller c.parts.stack.items c.pop.new.self.items c.in-Some.term c.in-Some.ensures.items (some_node (tree_of c.in-Some.term.now))

pub parts-preserved-in-Nothing : goal.parts-preserved-in-Nothing
parts-preserved-in-Nothing c =
    let i = c.parts.invariant in
    record {
      goals =
          ap (λ (gs : List Goal). map item_goal c.parts.items.items ++ gs)
          (queries_nothing c.args.names.now c.parts.stack.items c.pop.new.self.items c.in-Some.term c.in-Some.ensures.items c.in-Nothing.ensures.query)
          ∙ i.goals;
      fit = i.fit;
      stack_fit =
          let P = λ (t : Bor ReadTerm). IsTrue (is_known (length c.args.names.now) (tree_of t.now)) in
          (all_pop P c.parts.stack.items c.pop.new.self.items c.in-Some.term c.in-Some.ensures.items i.stack_fit).0;
    }

pub parts-smaller : goal.parts-smaller
parts-smaller c = off_smaller c.parts.stack.items c.pop.new.self.items c.in-Some.term c.in-Some.ensures.items (some_node (tree_of c.in-Some.term.now))

pub parts-preserved : goal.parts-preserved
parts-preserved c =
    let i = c.parts.invariant in
    record {
      goals = queries_item c.args.names.now c.parts.stack.items c.pop.new.self.items c.in-Some.term c.parts.items.items c.push-in-Goal.new.self.items c.in-Goal.item c.in-Some.ensures.items c.in_ok-push-in-Goal.ensures.items c.in-Goal.ensures.query ∙ i.goals;
      fit =
          let P = λ (t : Bor ReadTerm). IsTrue (is_known (length c.args.names.now) (tree_of t.now)) in
          let off = all_pop P c.parts.stack.items c.pop.new.self.items c.in-Some.term c.in-Some.ensures.items i.stack_fit in
          all_push (ItemIsFit (length c.args.names.now)) c.parts.items.items c.push-in-Goal.new.self.items c.in-Goal.item c.in_ok-push-in-Goal.ensures.items i.fit c.in-Goal.ensures.fit;
      stack_fit =
          let P = λ (t : Bor ReadTerm). IsTrue (is_known (length c.args.names.now) (tree_of t.now)) in
          (all_pop P c.parts.stack.items c.pop.new.self.items c.in-Some.term c.in-Some.ensures.items i.stack_fit).0;
    }
