-- Rows cut to their first columns, where the others are eliminated.
use Rattle.std.proofs.Common.{◌≡◌, ℕ, zero, suc, ◌+◌, ◌<◌, ◌≤◌, ℤ, pos, ◌+ℤ◌, List, [], ◌∷◌, ◌++◌, map, take, length, ap, sym, subst, ◌∙◌, arith}
use Rattle.std.specs.Prelude.{◌≤ℤ◌, ◌↔◌}
use Rattle.std.proofs.lemmas.Int.{ints}
use Rattle.std.proofs.lemmas.List.{length-map}
use Rattle.exact128.specs.Sums.{dot, entry}
use Rattle.linear_rows.specs.Rows.{Holds, AllHold, HoldsOn}
use Rattle.linear_rows.specs.Members.{In}
use Rattle.linear_rows.specs.Step.{all_eliminated, columns, HasFloor, Within}
use Rattle.linear_rows.specs.Solving.{zeros}
use Rattle.linear_rows.proofs.Members.{from_All, to_All, in-map, of-map}
use Rattle.linear_rows.proofs.Sequence.{all_kept_on, all_back_on}
use Rattle.linear_rows.proofs.Origins.{all_gone}
use Rattle.linear_rows.proofs.Starts.{dot-zeros, entry-zeros}
use Rattle.termination_model.proofs.ImageLaw.{dot_append, map-append, in_columns, of_columns, distinct_columns, short_value, split_at, naught, length-naught, length_append}

module _ (a v : ℕ) (rows : List (List ℤ)) (r : List ℤ) (long : length r ≡ suc a) where
  abbrev ks : List ℕ
  ks = columns (suc a) v

  abbrev q : List ℤ
  q = r ++ zeros v

  within : Within (a + v) ks
  within k i = let c = in_columns (suc a) v k i in (omega (arith, c.0), omega (arith, c.1))

  entry_past : (r : List ℤ) (n j : ℕ) → length r ≤ j → entry (r ++ zeros n) j ≡ pos 0
  entry_past [] n j l = entry-zeros n j
  entry_past (x ∷ r) n zero l = absurd (omega arith)
  entry_past (x ∷ r) n (suc j) l = entry_past r n j (omega arith)

  q_gone : (k : ℕ) → In k ks → entry q k ≡ pos 0
  q_gone k i = let c = in_columns (suc a) v k i in let l = c.0 in entry_past r v k (omega arith)

  pub q_value : (t : ℕ) (x w : List ℕ) → length x ≡ a → dot q (pos t ∷ map pos (x ++ w)) ≡ dot r (pos t ∷ map pos x)
  q_value t x w l = ap (λ (ps : List ℤ). dot q (pos t ∷ ps)) (map-append x w) ∙ dot_append r (zeros v) (pos t ∷ map pos x) (map pos w) (omega (arith, long, length-map x pos)) ∙ rest
    where
      rest : dot r (pos t ∷ map pos x) +ℤ dot (zeros v) (map pos w) ≡ dot r (pos t ∷ map pos x)
      rest = let z = dot-zeros v (map pos w) in omega (arith, ints, z)

  -- on the rows left, cut to the arguments: exactly where the longer row holds on them
  on_left : HoldsOn (suc a) (map (take (suc a)) (all_eliminated (a + v) ks rows)) r ↔ HoldsOn (suc (a + v)) (all_eliminated (a + v) ks rows) q
  on_left = (there, back)
    where
      left : List (List ℤ)
      left = all_eliminated (a + v) ks rows

      gone : (y : List ℤ) → In y left → (j : ℕ) → suc a ≤ j → j < suc a + v → entry y j ≡ pos 0
      gone y i j l m = all_gone (a + v) ks j rows (λ k c. (within k c).1) (of_columns (suc a) v j l m) y i

      cut_value : (y : List ℤ) → In y left → (t : ℕ) (x w : List ℕ) → length x ≡ a → length w ≡ v → dot y (pos t ∷ map pos (x ++ w)) ≡ dot (take (suc a) y) (pos t ∷ map pos x)
      cut_value y i t x w lx lw = ap (λ (ps : List ℤ). dot y (pos t ∷ ps)) (map-append x w)
          ∙ short_value (suc a) y (pos t ∷ map pos x) (map pos w) (ap suc (length-map x pos ∙ lx)) (λ j l m. gone y i j l (let k = length-map w pos in omega arith))

      there : HoldsOn (suc a) (map (take (suc a)) (all_eliminated (a + v) ks rows)) r → HoldsOn (suc (a + v)) left q
      there h t ps some lp hold =
          let s = split_at a v ps (omega arith) in
          let x = s.0 in
          let w = s.1 in
          let whole : AllHold left t (x ++ w) = subst (λ (l : List ℕ). AllHold left t l) s.2 hold in
          let cut : AllHold (map (take (suc a)) (all_eliminated (a + v) ks rows)) t x = to_All (λ (z : List ℤ). Holds z t x) (map (take (suc a)) (all_eliminated (a + v) ks rows)) (λ z i.
          let m = of-map (take (suc a)) left z i in
          let e = cut_value m.0 m.1 t x w s.3 s.4 in
          subst (λ (y : List ℤ). Holds y t x) m.2 (subst (λ (n : ℤ). pos 0 ≤ℤ n) e (from_All (λ (y : List ℤ). Holds y t (x ++ w)) left m.0 whole m.1))) in
          let is = h t x some (let l = s.3 in omega arith) cut in
          subst (λ (l : List ℕ). pos 0 ≤ℤ dot q (pos t ∷ map pos l)) (sym s.2) (subst (λ (n : ℤ). pos 0 ≤ℤ n) (sym (q_value t x w s.3)) is)

      back : HoldsOn (suc (a + v)) left q → HoldsOn (suc a) (map (take (suc a)) (all_eliminated (a + v) ks rows)) r
      back h t x some lx cut =
          let w = naught v in
          let lw = length-naught v in
          let l : length x ≡ a = omega arith in
          let whole : AllHold left t (x ++ w) = to_All (λ (y : List ℤ). Holds y t (x ++ w)) left (λ y i.
          let e = cut_value y i t x w l lw in
          subst (λ (n : ℤ). pos 0 ≤ℤ n) (sym e) (from_All (λ (z : List ℤ). Holds z t x) (map (take (suc a)) (all_eliminated (a + v) ks rows)) (take (suc a) y) cut (in-map (take (suc a)) left y i))) in
          let is = h t (x ++ w) some (let k = length_append x w in omega (arith, k, l, lw)) whole in
          subst (λ (n : ℤ). pos 0 ≤ℤ n) (q_value t x w l) is

  -- a row over the first columns holds on the rows cut to them exactly where it holds on the rows
  pub cut_same : ((k : ℕ) → In k ks → HasFloor (a + v) k rows) → HoldsOn (suc a) (map (take (suc a)) (all_eliminated (a + v) ks rows)) r ↔ HoldsOn (suc (a + v)) rows q
  cut_same floors =
      let up : a + v + 1 ≡ suc (a + v) = omega arith in
      let Two : ℕ → Type 0 = λ n. HoldsOn n (all_eliminated (a + v) ks rows) q ↔ HoldsOn n rows q in
      let same : Two (suc (a + v)) = subst Two up (all_back_on (a + v) ks rows q within, all_kept_on (a + v) ks rows q (distinct_columns (suc a) v) within floors q_gone) in
      (λ h. same.0 (on_left.0 h), λ h. on_left.1 (same.1 h))
