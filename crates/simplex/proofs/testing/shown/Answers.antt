use Rattle.std.proofs.Common.{rules, ◌≡◌, suc, ◌+◌, ◌∙◌, sym, subst, ap, arith, List, ℤ, pos, take, length}
use Rattle.std.specs.Int.{w128}
use Rattle.std.specs.Prelude.{FitsSigned, ◌≤ℤ◌, All}
use Rattle.std.proofs.lemmas.Int.{to_z-of_z, ints}
use Rattle.std.proofs.lemmas.List.{length-map}
use Rattle.exact128.specs.Sums.{entry}
use Rattle.linear_rows.specs.Plain.{plain_row, plain_rows}
use Rattle.linear_rows.specs.Proves.{Proves}
use Rattle.linear_rows.specs.Verdict.{Says, FirstSays}
use Rattle.linear_rows.specs.Solving.Solution.{Refuted}
use Rattle.linear_rows.specs.Irredundant.{EndsBlown, IsWide}
use Rattle.linear_rows.specs.declared.multipliers.Proof.TheVariants.{Holds, Fails, Wide}
use Rattle.linear_rows.specs.Showing.{Shows}
use Rattle.simplex.proofs.TestLaws.{Proving, refutes_proves}
use Rattle.simplex.proofs.WideTests.{fits_same}
use Rattle.simplex.proofs.RowLists.{long_rows}
use Rattle.simplex.proofs.testing.shown.Goals as goal

pub returns-in-Holds : goal.returns-in-Holds
returns-in-Holds c =
    let f : FitsSigned w128 c.entry-scale.result = search rules in
    let rows = plain_rows c.args.rows.now.list in
    let row = plain_row c.args.target.now in
    let ms = c.args.by.list in
    let many : c.len-many.result ≡ length rows = c.len-many.ensures ∙ sym (length-map c.args.rows.now.list plain_row) in
    let p : Proving rows row ms (length rows) = refutes_proves c.args.rows.now.width rows row ms (long_rows c.args.rows.now.width c.args.rows.now.list c.requires.width) (ap suc c.requires.target) c.requires.refutes in
    let items : take (length rows) ms ≡ c.from_vec.result = sym (c.from_vec.ensures ∙ c.truncate.ensures.items ∙ (λ i. take (many i) (c.into_vec-items.ensures i))) in
    let scale : entry ms (suc (length rows)) ≡ c.entry-scale.result = let up : c.len-many.result + 1 ≡ suc (length rows) = omega (arith, many) in ap (entry ms) (sym up) ∙ sym c.entry-scale.ensures in
    let says = simp to_z-of_z at c.in-Holds.ensures.says in
    let slice : c.as_slice.result.now ≡ c.from_vec.result = c.as_slice.ensures.value ∙ sym c.from_vec.ensures in
    let told : Says rows c.from_vec.result row c.entry-scale.result Holds = subst (λ (xs : List ℤ). Says rows xs row c.entry-scale.result Holds) slice says in
    let result : Shows rows row (record { scale = c.entry-scale.result; list = c.from_vec.result }) = record {
      multipliers = record {
        each = subst (λ (xs : List ℤ). length xs ≡ length rows) items p.long;
        naturals = subst (λ (xs : List ℤ). All (λ m. pos 0 ≤ℤ m) xs) items p.naturals;
        scale = subst (λ (z : ℤ). pos 0 ≤ℤ z) scale p.scale;
      };
      shown = record {
        target_fits = fits_same row ∙ c.requires.fits;
        proves = λ k l. (told k l).1;
        numbers_fit = λ k l. (told k l).0;
      };
    } in
    simp to_z-of_z result

-- a column that fails is none: the multipliers prove the target
never_fails : (rows : List (List ℤ)) (xs row : List ℤ) (d : ℤ) → Proves rows xs row d → FirstSays rows xs row d Fails → ⊥
never_fails rows xs row d p (k, lt, before, says) =
    let low = says.1 in let high = p k lt in omega (arith, ints)

pub returns-in-Fails : goal.returns-in-Fails
returns-in-Fails c =
    let f : FitsSigned w128 c.entry-scale.result = search rules in
    let rows = plain_rows c.args.rows.now.list in
    let row = plain_row c.args.target.now in
    let ms = c.args.by.list in
    let many : c.len-many.result ≡ length rows = c.len-many.ensures ∙ sym (length-map c.args.rows.now.list plain_row) in
    let p : Proving rows row ms (length rows) = refutes_proves c.args.rows.now.width rows row ms (long_rows c.args.rows.now.width c.args.rows.now.list c.requires.width) (ap suc c.requires.target) c.requires.refutes in
    let items : take (length rows) ms ≡ c.as_slice.result.now = sym (c.as_slice.ensures.value ∙ c.truncate.ensures.items ∙ (λ i. take (many i) (c.into_vec-items.ensures i))) in
    let scale : entry ms (suc (length rows)) ≡ c.entry-scale.result = let up : c.len-many.result + 1 ≡ suc (length rows) = omega (arith, many) in ap (entry ms) (sym up) ∙ sym c.entry-scale.ensures in
    let says = simp to_z-of_z at c.in-Fails.ensures.says in
    absurd (never_fails rows c.as_slice.result.now row c.entry-scale.result (subst (Proves rows c.as_slice.result.now row) scale (subst (λ (xs : List ℤ). Proves rows xs row (entry ms (suc (length rows)))) items p.proves)) says)

pub returns-in-Wide : goal.returns-in-Wide
returns-in-Wide c =
    let f : FitsSigned w128 c.entry-scale.result = search rules in
    let rows = plain_rows c.args.rows.now.list in
    let row = plain_row c.args.target.now in
    let ms = c.args.by.list in
    let many : c.len-many.result ≡ length rows = c.len-many.ensures ∙ sym (length-map c.args.rows.now.list plain_row) in
    let items : take (length rows) ms ≡ c.as_slice.result.now = sym (c.as_slice.ensures.value ∙ c.truncate.ensures.items ∙ (λ i. take (many i) (c.into_vec-items.ensures i))) in
    let scale : entry ms (suc (length rows)) ≡ c.entry-scale.result = let up : c.len-many.result + 1 ≡ suc (length rows) = omega (arith, many) in ap (entry ms) (sym up) ∙ sym c.entry-scale.ensures in
    let says = simp to_z-of_z at c.in-Wide.ensures.says in
    let wide : IsWide rows c.as_slice.result.now row c.entry-scale.result = first_wide rows c.as_slice.result.now row c.entry-scale.result says in
    let ends : EndsBlown rows row (Refuted ms) = subst (λ (z : ℤ). IsWide rows (take (length rows) ms) row z) (sym scale) (subst (λ (xs : List ℤ). IsWide rows xs row c.entry-scale.result) (sym items) wide) in
    ends
  where
    first_wide : (rows : List (List ℤ)) (xs row : List ℤ) (d : ℤ) → FirstSays rows xs row d Wide → IsWide rows xs row d
    first_wide rows xs row d (k, lt, before, says) = (k, lt, λ j l. (before j l).0, says)
