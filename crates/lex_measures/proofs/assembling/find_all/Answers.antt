use Rattle.std.proofs.Common.{◌≡◌, ◌+◌, ℕ, List, ap, arith, length, slice_get, subst, sym, inl, inr, ◌∙◌}
use Rattle.std.proofs.lemmas.List.{length_push}
use Rattle.cert_assembly.proofs.PlaceLaws.{none_listed, pushed}
use Rattle.component_clauses.proofs.OwnClauses.{its_clauses}
use Rattle.lex_turns.specs.FoundLists.{AreFoundLists}
use Rattle.lex_turns.specs.declared.found_lists.FoundLists.{FoundLists}
use Rattle.term_size.specs.AnyNorm.{any_row}
use Rattle.termination_model.specs.sizes.Sizes.{rows_of}
use Rattle.lex_measures.proofs.assembling.find_all.Goals as goal

pub loop-c-init : goal.loop-c-init
loop-c-init c = (
  ap length c.new-found.ensures,
  λ i f e r. absurd (none_listed c.new-found.result c.new-found.ensures i f e),
)

pub find-requires-clause-clauses : goal.find-requires-clause-clauses
find-requires-clause-clauses c =
    its_clauses _ c.in_ok-own.own.items c.requires.components c.in_ok-own.ensures (omega (arith, c.count-c-end.ensures, c.loop-c-test.true, c.loop-c.auto.c-end)) c.index.result.now (sym (c.as_slice.ensures ∙ c.index.ensures))

pub loop-c-preserved : goal.loop-c-preserved
loop-c-preserved c =
    let p = c.args.measured.now.p.now in
    let comps = c.args.measured.now.comps.now in
    let rows = rows_of c.args.sizes.now.rows in
    let n = c.args.measured.now.norm in
    let x = c.in_ok-find.field-0 in
    let found = c.loop-c.found in
    let new = c.in_ok-push.ensures.ok in (
      ap length new ∙ length_push found x ∙ ap (λ k. k + 1) c.loop-c.invariant.0,
      λ i f e r. elim (pushed found x i f (ap (λ (xs : List FoundLists). slice_get xs i) (sym new) ∙ e)) [
        | inl before ↦ c.loop-c.invariant.1 i f before r
        | inr (last, same) ↦
            let place : i ≡ c.loop-c.c = last ∙ c.loop-c.invariant.0 in
            subst (λ (g : FoundLists). AreFoundLists (any_row n) p comps rows i g) same
            (subst (λ (k : ℕ). AreFoundLists (any_row n) p comps rows k x) (sym place) (c.in_ok-find.ensures (ap (slice_get comps.recursive) (sym place) ∙ r)))
      ],
    )

pub returns : goal.returns
returns c = record { each = let count = c.loop-c.invariant.0 in omega arith; are = c.loop-c.invariant.1 }
