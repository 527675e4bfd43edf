use Rattle.std.proofs.Common.{◌≡◌, ◌∙◌, ℕ, None, ap, replicate}
use Rattle.solved_program.proofs.Empty.{is_nothing, none_kept}
use Rattle.kept_program.proofs.NothingLaws.{nothing_kept}
use Rattle.kept_program.proofs.resolving.solve.Goals as goal

pub resolve-requires-clause-edit : goal.resolve-requires-clause-edit
resolve-requires-clause-edit c =
    let items : c.in_ok-kept.kept.items ≡ replicate c.clauses.result None = c.in_ok-kept.ensures.items_if_clones_equal (is_nothing _ (λ x h. h)) in
    record {
      components_before = c.in_ok-none.ensures;
      components = c.requires;
      kept = none_kept c.new-empty.result c.args.p.now c.as_slice.result.now (c.as_slice.ensures.value ∙ items ∙ ap (λ (n : ℕ). replicate n None) c.clauses.ensures.count);
    }

pub resolve-requires-clause-old : goal.resolve-requires-clause-old
resolve-requires-clause-old c = nothing_kept c.new-empty.result c.in_ok-none.none c.args.table.now c.nothing.result c.in_ok-none.ensures c.new-empty.ensures.preds c.new-empty.ensures.clauses c.nothing.ensures
