use Rattle.std.proofs.Common.{◌≡◌, ◌∙◌, ◌∷◌, ◌++◌, [], ℕ, List, Some, length, slice_get, length-append, sym, ap, subst, arith}
use Rattle.number_columns.specs.Links.{NoPair, node_of}
use Rattle.number_columns.specs.Meeting.{IsKindOf}
use Rattle.number_columns.specs.declared.kind.Kind.{Kind}
use Rattle.number_columns.proofs.KindLaws.{kind_back, pushed}
use Rattle.number_columns.proofs.LinkLaws.{links_then}
use Rattle.number_columns.proofs.finding.kinds_of.Goals as goal

pub loop-i-preserved : goal.loop-i-preserved
loop-i-preserved c =
    let old = c.args.links.now.parents.items in
    let a = c.loop-i.links.parents.items in
    let q = c.args.pred.0 in
    let inv = c.loop-i.invariant in
    let kinds = c.loop-i.kinds in
    let kind = c.kind_of.result in
    let node : c.node_of.result ≡ node_of q (length kinds) = c.node_of.ensures ∙ ap (node_of q) (sym inv.length) in
    let here : IsKindOf old (node_of q (length kinds)) kind = subst (λ (n : ℕ). IsKindOf old n kind) node (kind_back old a inv.links c.node_of.result kind c.kind_of.ensures.kind) in
    record {
      links = links_then NoPair NoPair NoPair old a c.kind_of.new.links.parents.items (λ n m p. p) (λ n m p. p) inv.links c.kind_of.ensures.links;
      length = ap length c.in_ok-push.ensures.ok ∙ omega (arith, length-append kinds (kind ∷ []), inv.length);
      each = λ j k at. pushed (λ (i : ℕ) (x : Kind). IsKindOf old (node_of q i) x) kinds kind inv.each here j k (ap (λ (ks : List Kind). slice_get ks j) (sym c.in_ok-push.ensures.ok) ∙ at);
    }
