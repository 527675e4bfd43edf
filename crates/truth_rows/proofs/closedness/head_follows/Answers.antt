use Rattle.std.proofs.Common.{◌≡◌, ◌↔◌, ◌<◌, ℕ, zero, suc, Bool, false, IsTrue, List, [], ◌∷◌, length, map, slice_get, slice_index_or, Some, refl, sym, subst, ◌∙◌, arith}
use Rattle.bool_diagrams.proofs.CallerLemmas.{holds_later, known_later}
use Rattle.bool_diagrams.specs.Cubes.{truth_rows, values_of}
use Rattle.bool_diagrams.specs.Rows.{holds}
use Rattle.bool_diagrams.specs.declared.diagram.Diagram.{Diagram}
use Rattle.cti_terms.specs.Tree.{Tree}
use Rattle.termination_model.specs.grounds.Grounds.{truth_row}
use Rattle.termination_model.proofs.Lists.{indexed, mapped_place, there}
use Rattle.truth_rows.specs.Ready.{HasAtom, HasAtoms}
use Rattle.truth_rows.proofs.ClauseLaws.{atoms_agree}
use Rattle.truth_rows.proofs.RowLaws.{if_ok_then}
use Rattle.truth_rows.proofs.SetLaws.{none}
use Rattle.truth_rows.proofs.closedness.head_follows.Goals as goal

some_place : {X : Type 0} (xs : List X) (j : ℕ) → j < length xs → (x : X) × (slice_get xs j ≡ Some x)
some_place [] j lt = absurd (omega (arith, lt))
some_place (x ∷ xs) zero lt = (x, refl)
some_place (x ∷ xs) (suc j) lt = some_place xs j (omega (arith, lt))

pub is_inside-requires-clause-outer : goal.is_inside-requires-clause-outer
is_inside-requires-clause-outer g c =
    let sets = c.args.sets.now in
    let q = c.args.clause.now.head.pred.0 in
    let d = slice_index_or sets q none in
    known_later c.args.table.now c.rows_of_clause.new.table d c.rows_of_clause.ensures.keeps (c.requires.head.known d (there sets q none c.requires.head.there)).0

pub returns-clause-follows : goal.returns-clause-follows
returns-clause-follows g c =
    let truth = g.N.Norm.truth c.args.norm.now in
    let old = c.args.table.now in
    let new = c.rows_of_clause.new.table in
    let sets = c.args.sets.now in
    let k = c.args.clause.now in
    let q = k.head.pred.0 in
    let ts = k.head.args in
    let d = slice_index_or sets q none in
    let at = there sets q none c.requires.head.there in
    let ready = c.requires.head.known d at in
    let later : (row : ℕ → Bool) → holds new d row ≡ holds old d row = holds_later old new d c.rows_of_clause.ensures.keeps ready.0 in
    let row_of : (ℕ → Bool) → ℕ → Bool = λ v. values_of (truth_row truth v k.head) in
    let is_at : (v : ℕ → Bool) (j : ℕ) (t : Tree) → slice_get ts j ≡ Some t → row_of v j ≡ truth v t = λ v j t e. indexed (map (truth v) ts) j (truth v t) false (mapped_place (truth v) ts j t e) in
    if_ok_then {Q = λ follows. IsTrue follows ↔ ((v : ℕ → Bool) → HasAtoms (g.N.Norm.truth c.args.norm.now) c.args.table.now c.args.sets.now v c.args.clause.now.body (length c.args.clause.now.body) → HasAtom (g.N.Norm.truth c.args.norm.now) c.args.table.now c.args.sets.now v c.args.clause.now.head)} _ c.is_inside.ensures.rows
    (λ x h. (
      λ t v body e f.
          let same : d ≡ e = cc in
          let given = c.in_ok-given.ensures.all v (row_of v)
          (λ w agree. atoms_agree (g.N.Norm.size c.args.norm.now) truth (g.N.Norm.expression c.args.norm.now) (g.met.N.Norm.laws c.args.norm.now) old sets k c.requires v w agree body)
          (λ j u lt i. is_at v j u i) in
          subst (λ (y : Diagram). IsTrue (truth_rows old y (truth_row truth v k.head))) same (sym (later (row_of v)) ∙ h.0 t (row_of v) given),
      λ f. h.1 (λ row t.
          let s = c.in_ok-given.ensures.some row t in
          let agree : (j : ℕ) → j < length ts → row j ≡ row_of s.0 j = λ j lt. let u = some_place ts j lt in s.2 j u.0 lt u.1 ∙ sym (is_at s.0 j u.0 u.1) in
          later row ∙ ready.1 row (row_of s.0) agree ∙ f s.0 s.1 d at),
    ))
