use Rattle.std.proofs.Common.{◌≡◌, ◌<◌, ◌^◌, ◌∙◌, sym, subst, refl, ap, arith, List, ℤ, length, map, slice_get, Some, None, false, [], ◌∷◌, ◌++◌}
use Rattle.linear_rows.specs.Plain.{plain_row, plain_rows}
use Rattle.linear_rows.specs.declared.row.Row.{Row}
use Rattle.linear_rows.specs.declared.multipliers.Multipliers.{Multipliers}
use Rattle.linear_rows.specs.Members.{In}
use Rattle.termination_model.specs.chains.ChainRows.{bottom_row}
use Rattle.std.proofs.lemmas.List.{length-map}
use Rattle.termination_model.specs.declared.how.How.TheVariants.{None as Nought}
use Rattle.size_chains.specs.declared.filled.Filled.TheVariants.{Bottom}
use Rattle.size_chains.specs.Stepping.{IsStep, IsBottomAt}
use Rattle.polyhedra.specs.Making.{arity_of}
use Rattle.size_chains.proofs.Branches.{nought_kept, begins_weakly, shown_length}
use Rattle.size_chains.proofs.stepping.begun_weakly.Goals as goal

pub proof_at-requires : goal.proof_at-requires
proof_at-requires g c =
    let kept = c.in_ok-kept.ensures.rows in
    let l = shown_length g.D.Domain.width g.D.Domain.listed g.D.Domain.speaks c.args.system.now c.requires.system c.args.pass (g.D.Domain.listed c.args.old.now) (g.D.Domain.listed c.args.image.now.value) (g.D.Domain.listed c.in_ok-kept.kept.value) c.in_ok-kept.kept.by kept.shown in
    let items : List Row = c.as_slice.result.now in
    let same : map plain_row items ≡ g.D.Domain.listed c.in_ok-kept.kept.value = ap plain_rows c.as_slice.ensures ∙ c.rows.ensures.rows in
    let long : length (map plain_row items) ≡ length items = length-map items plain_row in
    let count : length (map plain_row items) ≡ length (g.D.Domain.listed c.in_ok-kept.kept.value) = ap length same in
    let lt : c.in-Some.place < length items = c.in-Some.ensures.found in
    omega (arith, l, long, count, lt)

pub returns-in_ok-push-in-Some : goal.returns-in_ok-push-in-Some
returns-in_ok-push-in-Some g c =
    let old = g.D.Domain.listed c.args.old.now in
    let image = g.D.Domain.listed c.args.image.now.value in
    let rows = g.D.Domain.listed c.in_ok-kept.kept.value in
    let items : List Row = c.as_slice.result.now in
    let same : map plain_row items ≡ rows = ap plain_rows c.as_slice.ensures ∙ c.rows.ensures.rows in
    let bottom : IsBottomAt (map plain_row items) c.in-Some.place = c.in-Some.ensures.bottom in
    let at : slice_get rows c.in-Some.place ≡ Some (bottom_row bottom.0) = ap (λ (rs : List (List ℤ)). slice_get rs c.in-Some.place) (sym same) ∙ bottom.1 in
    let step = nought_kept g.D.Domain.width g.D.Domain.listed g.D.Domain.speaks c.args.system.now c.requires.system c.args.pass old image
    (g.met.D.Domain.laws.0) c.args.image.now.weak c.requires.image c.requires.filled rows c.in_ok-kept.kept.failed c.in_ok-kept.kept.weak c.in_ok-kept.kept.by c.in_ok-kept.ensures.rows c.in-Some.place bottom.0 at c.proof_at.result c.proof_at.ensures in
    let by : c.push.new.self ≡ c.proof_at.result ∷ [] = c.in_ok-push-in-Some.ensures.ok ∙ ap (λ (xs : List Multipliers). xs ++ c.proof_at.result ∷ []) c.new-by.ensures in
    subst (λ (b : List Multipliers). IsStep g.D.Domain.width g.D.Domain.listed g.D.Domain.speaks c.args.system.now c.args.pass old image Bottom (record { how = Nought; weak = false; next = None; filled = Bottom; by = b })) (sym by) step

pub returns-in-None : goal.returns-in-None
returns-in-None g c =
    let n = arity_of c.args.system.now in
    let old = g.D.Domain.listed c.args.old.now in
    let image = g.D.Domain.listed c.args.image.now.value in
    let rows = g.D.Domain.listed c.in_ok-kept.kept.value in
    let items : List Row = c.as_slice.result.now in
    let same : map plain_row items ≡ rows = ap plain_rows c.as_slice.ensures ∙ c.rows.ensures.rows in
    let few : length rows < 2 ^ 64 = omega (arith, c.count-few.ensures, c.count-few.type_inv) in
    begins_weakly g.D.Domain.width g.D.Domain.listed g.D.Domain.speaks c.args.system.now c.requires.system c.args.pass old image c.requires.filled c.requires.blown rows c.in_ok-kept.kept.failed c.in_ok-kept.kept.weak c.in_ok-kept.kept.by c.in_ok-kept.ensures.rows
    (subst (λ (rs : List (List ℤ)). In (bottom_row n) rs → ⊥) same (c.in-None.ensures.none refl n)) c.in_ok-kept.kept.value refl (c.in_ok-kept.ensures.arity ∙ c.requires.image_width) few
