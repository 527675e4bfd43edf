use Rattle.std.proofs.Common.{◌≡◌, ◌∙◌, ◌∷◌, List, ℕ, length, map, ap, arith, subst}
use Rattle.std.specs.Vec.Iter.{into_iter_items}
use Rattle.prolog_terms.specs.Clauses.{place}
use Rattle.prolog_terms.specs.Terms.{clause_of}
use Rattle.prolog_terms.specs.declared.clause.ReadClause.{ReadClause}
use Rattle.edit_texts.specs.Edits.{done, edit_of}
use Rattle.edit_texts.specs.Playing.{HasDone, HasPlayed, clauses_in}
use Rattle.edit_texts.proofs.PlayLemmas.{played_next}
use Rattle.edit_texts.proofs.playing.play_all.Goals as goal

pub loop-edit-preserved : goal.loop-edit-preserved
loop-edit-preserved c =
    let at = c.loop-edit in
    let names = c.args.names.now in
    let all = map clause_of c.args.edits.items in
    let x = c.in-Some.edit in
    let e = clause_of x in
    let rest = into_iter_items c.next.new.self in
    let steps : into_iter_items at.edit-iterator ≡ x ∷ rest = c.in-Some.ensures.steps.0 in
    let so_far : HasPlayed names all (e ∷ map clause_of rest) at.playing = subst (λ (l : List ReadClause). HasPlayed names all (map clause_of l) at.playing) steps at.invariant.1 in
    let step = subst (λ (ns : List (List ℕ)). HasDone ns at.playing c.play.new.self (done ns (clauses_in at.playing) (place e.term) (edit_of ns e))) at.invariant.0 c.in_ok-play.ensures.step in (
      c.in_ok-play.ensures.names ∙ at.invariant.0,
      played_next names all e (map clause_of rest) at.playing c.play.new.self so_far step c.in_ok-play.ensures.small,
      let gone = c.in-Some.ensures.steps.1 in
          let short = ap length steps in
          let was = at.invariant.2 in
          omega arith,
    )
