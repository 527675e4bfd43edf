use Rattle.std.proofs.Common.{◌≡◌, ◌∙◌, ◌∷◌, ◌++◌, ◌<◌, ◌≤◌, ◌+◌, [], ℕ, List, Some, length, slice_get, length-append, inl, inr, refl, sym, ap, subst, arith}
use Rattle.std.proofs.lemmas.Bool.{cases_eq}
use Rattle.cti_terms.specs.declared.predicates.Pred.{Pred}
use Rattle.termination_model.proofs.Lists.{by_places, place_below, there}
use Rattle.number_columns.specs.ColumnLists.{kinds_at}
use Rattle.number_columns.specs.Links.{NoPair, node_of}
use Rattle.number_columns.specs.Meeting.{AreKindsOf, IsKindOf, IsLinkedUp, RowsKnown}
use Rattle.number_columns.specs.Numeric.{IsNumeric}
use Rattle.number_columns.specs.declared.kind.Kind.{Kind}
use Rattle.number_columns.specs.declared.kind.Kind.TheVariants.{Number, Size}
use Rattle.number_columns.proofs.KindLaws.{exact_at, few_at, kinds_back, row_before, row_known, row_last}
use Rattle.number_columns.proofs.LinkLaws.{links_then}
use Rattle.number_columns.proofs.finding.program_kinds.Goals as goal

pub loop-q-preserved : goal.loop-q-preserved
loop-q-preserved c =
    let p = c.args.p.now in
    let begin = c.in_ok-links.links.parents.items in
    let a = c.loop-q.links.parents.items in
    let all = c.loop-q.all in
    let q = c.loop-q.q in
    let inv = c.loop-q.invariant in
    let row = c.in_ok-kinds_of.field-0 in
    let made = c.in_ok-kinds_of.ensures in
    let new = c.push.new.self in
    let is : new ≡ all ++ row ∷ [] = c.in_ok-push.ensures.ok in
    let before : (r : ℕ) → r < q → kinds_at new r ≡ kinds_at all r = λ r lt. ap (λ (rows : List (List Kind)). kinds_at rows r) is ∙ row_before all row [] r (omega (arith, lt, inv.rows.each)) in
    let last : (r : ℕ) → r ≡ q → kinds_at new r ≡ row = λ r e. ap (λ (rows : List (List Kind)). kinds_at rows r) is ∙ ap (kinds_at (all ++ row ∷ [])) (e ∙ sym inv.rows.each) ∙ row_last all row [] in
    record {
      links = links_then NoPair NoPair NoPair begin a c.kinds_of.new.links.parents.items (λ n m x. x) (λ n m x. x) inv.links made.links;
      rows = record {
        each = ap length is ∙ omega (arith, length-append all (row ∷ []), inv.rows.each);
        arity = λ r pred lt at. elim (cases_eq r q) [
          | inl same ↦ (
              let own : c.pred.result.now ≡ pred = (let e : Some c.pred.result.now ≡ Some pred = sym c.pred.ensures ∙ ap (slice_get p.preds) (sym same) ∙ at in cc) in
              ap length (last r same) ∙ made.length ∙ ap (λ (x : Pred). x.arity) own
              )
          | inr ne ↦ ap length (before r (omega (arith, lt, ne))) ∙ inv.rows.arity r pred (omega (arith, lt, ne)) at
        ];
        kinds = λ r lt. elim (cases_eq r q) [
          | inl same ↦ subst (AreKindsOf begin r) (sym (last r same)) (subst (λ (n : ℕ). AreKindsOf begin n row) (sym same) (kinds_back begin a inv.links q row made.each))
          | inr ne ↦ subst (AreKindsOf begin r) (sym (before r (omega (arith, lt, ne)))) (inv.rows.kinds r (omega (arith, lt, ne)))
        ];
      };
    }

pub returns : goal.returns
returns c =
    let p = c.args.p.now in
    let begin = c.in_ok-links.links.parents.items in
    let all = c.loop-q.all in
    let inv = c.loop-q.invariant in
    let linked : IsLinkedUp p begin = c.in_ok-links.ensures in
    let sound = c.preds-q-end.ensures.sound in
    let done : c.loop-q.q ≡ length p.preds = omega (arith, c.preds-q-end.ensures.count) in
    record {
      have = record { each = inv.rows.each ∙ done; arity = λ q pred at. inv.rows.arity q pred (omega (arith, done, place_below p.preds q pred at)) at };
      exact = λ q i k at.
          let known : q < c.loop-q.q = omega (arith, row_known all q i k at, inv.rows.each) in
          let few = few_at p begin linked sound c.loop-q.q all inv.rows done q i k at in
          exact_at p begin linked q i few k (inv.rows.kinds q known i k at);
    }
