-- Lemmas on reading all parts, one kind after the other.
use Rattle.std.proofs.Common.{◌≡◌, ℕ, List, [], length, Option, Ok, Err, refl}
use Rattle.bool_diagrams.specs.declared.cube.Cell.{Cell}
use Rattle.call_components.specs.Partition.{Partition}
use Rattle.certificate.specs.declared.fact.Fact.{Fact}
use Rattle.certificate.specs.declared.norm.CertNorm.{CertNorm}
use Rattle.cti_terms.specs.Listing.{Listing}
use Rattle.linear_rows.specs.declared.multipliers.Multipliers.{Multipliers}
use Rattle.linear_rows.specs.declared.row.Rows.{Rows}
use Rattle.number_tests.specs.declared.level_part.LevelPart.{LevelPart}
use Rattle.number_tests.specs.declared.refutation.Refutation.{Refutation}
use Rattle.cert_structure.specs.Walk.{read_modes, read_rows, read_proofs, read_grounds, read_levels, read_falls, read_pre, read_refutation, read_sections}
use Rattle.fact_reading.specs.Walk.{Wrong, read_each}

-- The counts of the code and its copies of rows and levels are the program's and those that were read.
module _ (p : Listing) (names : List (List ℕ)) (comps : Partition) (norm : Option CertNorm) (s : List Fact) (n k : ℕ) (preds : n ≡ length p.preds)
    (clauses : k ≡ length p.clauses) where
  pub modes_err : (w : Wrong) → read_each (read_modes p names) 0 n s ≡ Err w → read_sections p names comps norm s ≡ Err w
  unfolding read_sections
  modes_err w bad =
      let bad' = rw (preds) at bad in
      rw (bad') refl

  module _ (modes : List (List (List ℕ))) (s1 : List Fact) (e1 : read_each (read_modes p names) 0 n s ≡ Ok (modes, s1)) where
    pub rows_err : (w : Wrong) → read_each (read_rows p names) 0 n s1 ≡ Err w → read_sections p names comps norm s ≡ Err w
    unfolding read_sections
    rows_err w bad =
        let e1' = rw (preds) at e1 in
        let bad' = rw (preds) at bad in
        rw (e1', bad') refl

    module _ (own rows : List Rows) (s2 : List Fact) (e2 : read_each (read_rows p names) 0 n s1 ≡ Ok (own, s2)) (same : rows ≡ own) where
      pub proofs_err : (w : Wrong) → read_each (read_proofs p rows) 0 k s2 ≡ Err w → read_sections p names comps norm s ≡ Err w
      unfolding read_sections
      proofs_err w bad =
          let e1' = rw (preds) at e1 in
          let e2' = rw (preds) at e2 in
          let bad' = rw (same, clauses) at bad in
          rw (e1', e2', bad') refl

      module _ (proofs : List (List Multipliers)) (s3 : List Fact) (e3 : read_each (read_proofs p rows) 0 k s2 ≡ Ok (proofs, s3)) where
        pub grounds_err : (w : Wrong) → read_each (read_grounds p names) 0 n s3 ≡ Err w → read_sections p names comps norm s ≡ Err w
        unfolding read_sections
        grounds_err w bad =
            let e1' = rw (preds) at e1 in
            let e2' = rw (preds) at e2 in
            let e3' = rw (same, clauses) at e3 in
            let bad' = rw (preds) at bad in
            rw (e1', e2', e3', bad') refl

        module _ (grounds : List (List (List Cell))) (s4 : List Fact) (e4 : read_each (read_grounds p names) 0 n s3 ≡ Ok (grounds, s4)) where
          pub levels_err : (w : Wrong) → read_levels p names comps [] 0 (length p.preds) s4 ≡ Err w → read_sections p names comps norm s ≡ Err w
          unfolding read_sections
          levels_err w bad =
              let e1' = rw (preds) at e1 in
              let e2' = rw (preds) at e2 in
              let e3' = rw (same, clauses) at e3 in
              let e4' = rw (preds) at e4 in
              let bad' = bad in
              rw (e1', e2', e3', e4', bad') refl

          module _ (levels shown : List (List LevelPart)) (s5 : List Fact) (e5 : read_levels p names comps [] 0 (length p.preds) s4 ≡ Ok (levels, s5)) (alike : shown ≡ levels) where
            pub falls_err : (w : Wrong) → read_each (read_falls p comps rows shown) 0 k s5 ≡ Err w → read_sections p names comps norm s ≡ Err w
            unfolding read_sections
            falls_err w bad =
                let e1' = rw (preds) at e1 in
                let e2' = rw (preds) at e2 in
                let e3' = rw (same, clauses) at e3 in
                let e4' = rw (preds) at e4 in
                let e5' = e5 in
                let bad' = rw (same, alike, clauses) at bad in
                rw (e1', e2', e3', e4', e5', bad') refl

            module _ (falls : List (List (List Multipliers))) (s6 : List Fact) (e6 : read_each (read_falls p comps rows shown) 0 k s5 ≡ Ok (falls, s6)) where
              pub cubes_err : (w : Wrong) → read_each (read_pre p names shown) 0 n s6 ≡ Err w → read_sections p names comps norm s ≡ Err w
              unfolding read_sections
              cubes_err w bad =
                  let e1' = rw (preds) at e1 in
                  let e2' = rw (preds) at e2 in
                  let e3' = rw (same, clauses) at e3 in
                  let e4' = rw (preds) at e4 in
                  let e5' = e5 in
                  let e6' = rw (same, alike, clauses) at e6 in
                  let bad' = rw (alike, preds) at bad in
                  rw (e1', e2', e3', e4', e5', e6', bad') refl

              module _ (cubes : List (List (List (List Cell)))) (s7 : List Fact) (e7 : read_each (read_pre p names shown) 0 n s6 ≡ Ok (cubes, s7)) where
                pub refutations_err : (w : Wrong) → read_each (read_refutation p names comps shown) 0 n s7 ≡ Err w → read_sections p names comps norm s ≡ Err w
                unfolding read_sections
                refutations_err w bad =
                    let e1' = rw (preds) at e1 in
                    let e2' = rw (preds) at e2 in
                    let e3' = rw (same, clauses) at e3 in
                    let e4' = rw (preds) at e4 in
                    let e5' = e5 in
                    let e6' = rw (same, alike, clauses) at e6 in
                    let e7' = rw (alike, preds) at e7 in
                    let bad' = rw (alike, preds) at bad in
                    rw (e1', e2', e3', e4', e5', e6', e7', bad') refl

                module _ (refutations : List (Option Refutation)) (s8 : List Fact) (e8 : read_each (read_refutation p names comps shown) 0 n s7 ≡ Ok (refutations, s8)) where
                  pub all_read : read_sections p names comps norm s ≡ Ok (record { norm = norm; modes = modes; rows = rows; row_proofs = proofs; grounds = grounds; levels = levels; falls = falls; preconditions = cubes; refutations = refutations }, s8)
                  unfolding read_sections
                  all_read =
                      let e1' = rw (preds) at e1 in
                      let e2' = rw (preds) at e2 in
                      let e3' = rw (same, clauses) at e3 in
                      let e4' = rw (preds) at e4 in
                      let e5' = e5 in
                      let e6' = rw (same, alike, clauses) at e6 in
                      let e7' = rw (alike, preds) at e7 in
                      let e8' = rw (alike, preds) at e8 in
                      rw (e1', e2', e3', e4', e5', e6', e7', e8', same) refl
