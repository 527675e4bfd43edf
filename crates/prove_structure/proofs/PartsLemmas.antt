-- Lemmas on reading the sections of a certificate one after the other.
use Rattle.std.proofs.Common.{◌≡◌, ℕ, List, [], length, Bool, Option, Ok, Err, refl}
use Rattle.bool_diagrams.specs.declared.cube.Cell.{Cell}
use Rattle.call_components.specs.Partition.{Partition}
use Rattle.cti_terms.specs.Listing.{Listing}
use Rattle.fact_reading.specs.Walk.{Wrong, read_each}
use Rattle.linear_rows.specs.declared.multipliers.Multipliers.{Multipliers}
use Rattle.linear_rows.specs.declared.row.Rows.{Rows}
use Rattle.number_tests.specs.declared.level_part.LevelPart.{LevelPart}
use Rattle.prove_certificate.specs.declared.fact.ProveFact.{ProveFact}
use Rattle.prove_certificate.specs.declared.kind.CertKind.{CertKind}
use Rattle.prove_parts.specs.declared.stuck.StuckSet.{StuckSet}
use Rattle.prove_structure.specs.Walk.{read_modes, read_kinds, read_fails, read_rows, read_proofs, read_grounds, read_levels, read_drops, read_floors, read_claims, read_model, read_descent, read_ends, read_pre, read_stuck}

-- The counts of the code and its copies of lists are the program's and those that were read.
module _ (p : Listing) (names : List (List ℕ)) (s : List ProveFact) (n : ℕ) (preds : n ≡ length p.preds) (modes : List (List (List ℕ))) (s1 : List ProveFact)
    (e1 : read_each (read_modes p names) 0 n s ≡ Ok (modes, s1)) where
  pub kinds_err : (w : Wrong) → read_each (read_kinds p names) 0 n s1 ≡ Err w → read_claims p names s ≡ Err w
  unfolding read_claims
  kinds_err w bad =
      let e1' = rw preds at e1 in
      let bad' = rw preds at bad in
      rw (e1', bad') refl

  module _ (kinds : List (List CertKind)) (s2 : List ProveFact) (e2 : read_each (read_kinds p names) 0 n s1 ≡ Ok (kinds, s2)) where
    pub fails_err : (w : Wrong) → read_each (read_fails p names) 0 n s2 ≡ Err w → read_claims p names s ≡ Err w
    unfolding read_claims
    fails_err w bad =
        let e1' = rw preds at e1 in
        let e2' = rw preds at e2 in
        let bad' = rw preds at bad in
        rw (e1', e2', bad') refl

    pub claims_read : (fails : List Bool) (s3 : List ProveFact) → read_each (read_fails p names) 0 n s2 ≡ Ok (fails, s3) → read_claims p names s ≡ Ok ((modes, kinds, fails), s3)
    unfolding read_claims
    claims_read fails s3 e3 =
        let e1' = rw preds at e1 in
        let e2' = rw preds at e2 in
        let e3' = rw preds at e3 in
        rw (e1', e2', e3') refl

module _ (p : Listing) (names : List (List ℕ)) (kinds : List (List CertKind)) (s : List ProveFact) (n k : ℕ) (preds : n ≡ length p.preds) (clauses : k ≡ length p.clauses)
    (rows : List Rows) (s1 : List ProveFact) (e1 : read_each (read_rows p names kinds) 0 n s ≡ Ok (rows, s1)) where
  pub proofs_err : (w : Wrong) → read_each (read_proofs p rows) 0 k s1 ≡ Err w → read_model p names kinds s ≡ Err w
  unfolding read_model
  proofs_err w bad =
      let e1' = rw preds at e1 in
      let bad' = rw clauses at bad in
      rw (e1', bad') refl

  module _ (proofs : List (List Multipliers)) (s2 : List ProveFact) (e2 : read_each (read_proofs p rows) 0 k s1 ≡ Ok (proofs, s2)) where
    pub grounds_err : (w : Wrong) → read_each (read_grounds p names) 0 n s2 ≡ Err w → read_model p names kinds s ≡ Err w
    unfolding read_model
    grounds_err w bad =
        let e1' = rw preds at e1 in
        let e2' = rw clauses at e2 in
        let bad' = rw preds at bad in
        rw (e1', e2', bad') refl

    pub model_read : (grounds : List (List (List Cell))) (s3 : List ProveFact) → read_each (read_grounds p names) 0 n s2 ≡ Ok (grounds, s3)
        → read_model p names kinds s ≡ Ok ((rows, proofs, grounds), s3)
    unfolding read_model
    model_read grounds s3 e3 =
        let e1' = rw preds at e1 in
        let e2' = rw clauses at e2 in
        let e3' = rw preds at e3 in
        rw (e1', e2', e3') refl

module _ (p : Listing) (names : List (List ℕ)) (comps : Partition) (kinds : List (List CertKind)) (rows : List Rows) (s : List ProveFact) (k : ℕ) (clauses : k ≡ length p.clauses)
    (lists shown : List (List (List LevelPart))) (s1 : List ProveFact) (e1 : read_levels p names comps kinds [] 0 (length p.preds) s ≡ Ok (lists, s1)) (alike : shown ≡ lists) where
  pub drops_err : (w : Wrong) → read_each (read_drops p comps rows shown) 0 k s1 ≡ Err w → read_descent p names comps kinds rows s ≡ Err w
  unfolding read_descent
  drops_err w bad =
      let bad' = rw (alike, clauses) at bad in
      rw (e1, bad') refl

  module _ (drops : List (List (List (List Multipliers)))) (s2 : List ProveFact) (e2 : read_each (read_drops p comps rows shown) 0 k s1 ≡ Ok (drops, s2)) where
    pub floors_err : (w : Wrong) → read_each (read_floors p comps rows shown) 0 k s2 ≡ Err w → read_descent p names comps kinds rows s ≡ Err w
    unfolding read_descent
    floors_err w bad =
        let e2' = rw (alike, clauses) at e2 in
        let bad' = rw (alike, clauses) at bad in
        rw (e1, e2', bad') refl

    pub descent_read : (floors : List (List (List Multipliers))) (s3 : List ProveFact) → read_each (read_floors p comps rows shown) 0 k s2 ≡ Ok (floors, s3)
        → read_descent p names comps kinds rows s ≡ Ok ((lists, drops, floors), s3)
    unfolding read_descent
    descent_read floors s3 e3 =
        let e2' = rw (alike, clauses) at e2 in
        let e3' = rw (alike, clauses) at e3 in
        rw (e1, e2', e3') refl

module _ (p : Listing) (names : List (List ℕ)) (comps : Partition) (lists : List (List (List LevelPart))) (s : List ProveFact) (n : ℕ) (preds : n ≡ length p.preds)
    (cubes : List (List (List (List Cell)))) (s1 : List ProveFact) (e1 : read_each (read_pre p names lists) 0 n s ≡ Ok (cubes, s1)) where
  pub stuck_err : (w : Wrong) → read_each (read_stuck p names comps lists) 0 n s1 ≡ Err w → read_ends p names comps lists s ≡ Err w
  unfolding read_ends
  stuck_err w bad =
      let e1' = rw preds at e1 in
      let bad' = rw preds at bad in
      rw (e1', bad') refl

  pub ends_read : (stuck : List (Option StuckSet)) (s2 : List ProveFact) → read_each (read_stuck p names comps lists) 0 n s1 ≡ Ok (stuck, s2)
      → read_ends p names comps lists s ≡ Ok ((cubes, stuck), s2)
  unfolding read_ends
  ends_read stuck s2 e2 =
      let e1' = rw preds at e1 in
      let e2' = rw preds at e2 in
      rw (e1', e2') refl
