use Rattle.std.proofs.Common.{◌≡◌, List, reverse, length, sym, subst, arith}
use Rattle.call_components.specs.Search.{IsSearch}
use Rattle.call_components.specs.declared.search.Segment.{Segment}
use Rattle.call_components.proofs.Numberings.{none_open, from_nothing, all_closed, numbered}
use Rattle.call_components.proofs.numbering.component_numbers.Goals as goal

pub follow-requires-clause-following : goal.follow-requires-clause-following
follow-requires-clause-following c =
    let s = c.loop-root.search in
    let idle = subst (λ (ss : List Segment). IsSearch c.args.table.now (λ _. ⊥) s.marks s.open s.waiting (reverse ss) s.count) c.loop-root.invariant.empty c.loop-root.invariant.idle in
    record {
      search = subst (λ (ss : List Segment). IsSearch c.args.table.now (λ a. a ≡ c.loop-root.root) s.marks s.open s.waiting (reverse ss) s.count) (sym c.loop-root.invariant.empty)
          (from_nothing c.args.table.now s.marks s.open s.waiting s.count idle c.loop-root.root);
      lead = λ a i e. absurd (none_open c.args.table.now s.marks s.open s.waiting s.count idle a i e);
    }

pub numbers-requires : goal.numbers-requires
numbers-requires c =
    let s = c.loop-root.search in
    let idle = subst (λ (ss : List Segment). IsSearch c.args.table.now (λ _. ⊥) s.marks s.open s.waiting (reverse ss) s.count) c.loop-root.invariant.empty c.loop-root.invariant.idle in
    let each : length s.marks ≡ length c.args.table.now = idle.each in
    all_closed c.args.table.now s.marks s.open s.waiting s.count idle c.loop-root.root c.loop-root.invariant.seen (omega arith)

pub returns : goal.returns
returns c =
    let s = c.loop-root.search in
    let idle = subst (λ (ss : List Segment). IsSearch c.args.table.now (λ _. ⊥) s.marks s.open s.waiting (reverse ss) s.count) c.loop-root.invariant.empty c.loop-root.invariant.idle in
    numbered c.args.table.now s.marks s.open s.waiting s.count idle c.in_ok-numbers.field-0.items c.in_ok-numbers.ensures
