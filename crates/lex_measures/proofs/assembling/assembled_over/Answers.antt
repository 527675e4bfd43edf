use Rattle.std.proofs.Common.{◌≡◌, ◌++◌, List, map, ap, subst, sym, ◌∙◌}
use Rattle.std.specs.List.{flat_map}
use Rattle.cert_assembly.specs.ChainNotes.{chain_notes}
use Rattle.cert_assembly.specs.Sizing.{IsSolvedChain}
use Rattle.lex_turns.specs.declared.found_lists.FoundLists.{FoundLists}
use Rattle.numeric_model.specs.States.{plain_step}
use Rattle.term_size.specs.AnyNorm.{any_row, any_truth}
use Rattle.term_size.specs.declared.any_norm.AnyNorm.{AnyNorm}
use Rattle.lex_measures.proofs.AssembledLists.{assembled}
use Rattle.lex_measures.specs.Assembly.{AreFound, ArePartsOf}
use Rattle.lex_measures.specs.Exact.{component_notes, noted}
use Rattle.lex_measures.specs.Lists.{found_of}
use Rattle.lex_measures.proofs.assembling.assembled_over.Goals as goal

pub returns : goal.returns
returns c =
    let p = c.args.measured.now.p.now in
    let names = c.args.names.now in
    let comps = c.args.measured.now.comps.now in
    let norm = c.args.measured.now.norm in
    let found = c.in_ok-found.found in
    let parts = c.in_ok-parts.parts in
    let steps = c.into_parts-steps.result.0 in
    let sizes = c.into_parts-steps.result.1 in
    let is = c.into_parts-steps.ensures in
    let same : c.args.chain ≡ record { steps = steps; sizes = sizes } = λ i. record { steps = sym is.0 i; sizes = sym is.1 i } in
    let chain = subst (IsSolvedChain (any_row norm) p comps) same c.requires.chain in
    let solved = subst (λ (n : AnyNorm). IsSolvedChain (any_row n) p comps (record { steps = steps; sizes = sizes })) c.requires.norm chain in
    let founds = subst (λ (n : AnyNorm). AreFound (any_row n) p comps sizes.rows found) c.requires.norm c.in_ok-found.ensures in
    let own = subst (λ (fs : List FoundLists). ArePartsOf (any_truth norm) p comps sizes fs parts) c.as_slice.ensures c.in_ok-parts.ensures in
    let are = subst (λ (n : AnyNorm). ArePartsOf (any_truth n) p comps sizes found parts) c.requires.norm own in
    let notes = c.in_ok-notes.ensures ∙ ap (λ fs. flat_map noted (chain_notes p names (map plain_step steps)) ++ component_notes p names comps (found_of fs)) c.as_slice-2.ensures in
    assembled p names comps sizes found parts c.in_ok-notes.notes steps c.preds-program.ensures.sound c.requires.components solved.legal solved.sizes solved.proofs solved.fits founds are c.are_bounded.ensures notes
