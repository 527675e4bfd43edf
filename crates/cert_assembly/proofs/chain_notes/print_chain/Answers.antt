use Rattle.std.proofs.Common.{◌≡◌, ◌∙◌, ◌+◌, ◌++◌, ◌∷◌, suc, length, map, ap, arith}
use Rattle.std.proofs.lemmas.Grind.{flat_map-append}
use Rattle.std.specs.Vec.Iter.{into_iter_items}
use Rattle.certificate.specs.Text.{fact_text, text_of}
use Rattle.cert_structure.specs.Numbered.{facts_from}
use Rattle.numeric_model.specs.States.{plain_step}
use Rattle.cert_assembly.specs.ChainNotes.{step_notes}
use Rattle.cert_assembly.proofs.NoteLaws.{added}
use Rattle.cert_assembly.proofs.chain_notes.print_chain.Goals as goal

pub loop-step-preserved : goal.loop-step-preserved
loop-step-preserved c =
    let f = step_notes c.args.p.now c.args.names.now in
    let at = c.loop-step in
    let x = c.in-Some.step in
    let rest = into_iter_items c.next.new.self in
    let steps : into_iter_items at.step-iterator ≡ x ∷ rest = c.in-Some.ensures.steps.0 in
    let n = at.number + 1 in
    let next : suc n ≡ n + 1 = omega arith in
    let later = facts_from (n + 1) f (map plain_step rest) in
    let ahead : text_of (facts_from n f (map plain_step (into_iter_items at.step-iterator))) ≡ text_of (f n (plain_step x)) ++ text_of later =
    ap (λ ys. text_of (facts_from n f (map plain_step ys))) steps ∙ ap (λ k. text_of (f n (plain_step x) ++ facts_from k f (map plain_step rest))) next
    ∙ flat_map-append fact_text (f n (plain_step x)) later in
    let short = ap length steps in
    let was = at.invariant.1 in (
      added _ _ (text_of (f n (plain_step x))) (text_of later) (text_of (facts_from n f (map plain_step (into_iter_items at.step-iterator)))) _ c.in_ok-print_step.ensures ahead at.invariant.0,
      omega arith,
    )
