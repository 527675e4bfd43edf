-- How long the rows of a support's system are.
use Rattle.std.proofs.Common.{◌≡◌, ℕ, suc, ◌+◌, ℤ, List, [], ◌∷◌, ◌++◌, length, inl, inr, subst, arith}
use Rattle.std.specs.Prelude.{◌-ℤ◌, All, neg_ℤ}
use Rattle.std.proofs.lemmas.List.{length-append, length-map}
use Rattle.exact128.specs.Sums.{entry}
use Rattle.cti_terms.specs.Tree.{Tree}
use Rattle.linear_rows.proofs.Members.{of-append, of-map, to_All}
use Rattle.linear_rows.specs.Members.{In}
use Rattle.linear_rows.specs.Solving.{zeros}
use Rattle.linear_rows.specs.Step.{columns}
use Rattle.simplex.proofs.RowLists.{length-zeros}
use Rattle.termination_model.specs.mappings.OwnCalls.{OwnCall, Position, call_sizes, head_sizes, rows_before}
use Rattle.termination_model.specs.mappings.SupportSystem.{call_row, call_rows, multiplier_entries, offset_entries, offset_share, position_entries, row_count, rows_from, share, support_rows, unknowns}

module _ (expression : ℕ → Tree → List ℤ) (ps : List Position) (ms : List ℕ) where
  row_long : (before after : ℕ) (o : OwnCall) (x : ℕ) → length (call_row expression ps ms before after o x) ≡ suc (length ps + (length ms + (before + (length (rows_before expression o) + after))))
  row_long before after o x =
      let a = position_entries expression ps ms o x in
      let b = offset_entries expression ps ms o x in
      let d = multiplier_entries expression ps ms o x in
      let la : length a ≡ length ps = length-map ps (λ p. share o.rule.member (head_sizes expression o) x p -ℤ share o.member (call_sizes expression o) x p) in
      let lb : length b ≡ length ms = length-map ms (λ m. offset_share o.rule.member x m -ℤ offset_share o.member x m) in
      let ld : length d ≡ length (rows_before expression o) = length-map (rows_before expression o) (λ r. neg_ℤ (entry r x)) in
      omega (arith, la, lb, ld, length-zeros before, length-zeros after, length-append a (b ++ (zeros before ++ (d ++ zeros after))), length-append b (zeros before ++ (d ++ zeros after)), length-append (zeros before) (d ++ zeros after), length-append d (zeros after))

  rows_long : (before total : ℕ) (os : List OwnCall) → before + row_count expression ps ms os ≡ total → (r : List ℤ) → In r (rows_from expression ps ms before os) → length r ≡ suc (length ps + (length ms + total))
  rows_long before total [] e r i = absurd i
  rows_long before total (o ∷ os) e r i = elim (of-append (call_rows expression ps ms before (row_count expression ps ms os) o) (rows_from expression ps ms (before + length (rows_before expression o)) os) r i) [
    | inl here ↦
        let w = of-map (call_row expression ps ms before (row_count expression ps ms os) o) (columns 0 (suc o.rule.vars)) r here in
        let long = row_long before (row_count expression ps ms os) o w.0 in
        subst (λ (y : List ℤ). length y ≡ suc (length ps + (length ms + total))) w.2 (omega (arith, e, long))
    | inr later ↦ rows_long (before + length (rows_before expression o)) total os (omega (arith, e)) r later
  ]

  pub support_wide : (os : List OwnCall) → All (λ r. length r ≡ unknowns expression ps ms os + 1) (support_rows expression ps ms os)
  support_wide os =
      to_All (λ r. length r ≡ unknowns expression ps ms os + 1) (support_rows expression ps ms os) (λ r i. let long = rows_long 0 (row_count expression ps ms os) os (omega arith) r i in omega (arith, long))
