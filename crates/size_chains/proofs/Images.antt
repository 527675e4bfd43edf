-- What an image says of its clause, and its points.
use Rattle.std.proofs.Common.{◌≡◌, ℕ, suc, ℤ, pos, Bool, true, false, List, [], ◌∷◌, map, length, refl, ap, sym, subst, ◌∙◌, arith}
use Rattle.std.specs.Prelude.{All, ◌≤ℤ◌, unsigned_abs}
use Rattle.std.proofs.lemmas.List.{length-map}
use Rattle.std.proofs.lemmas.List.Elements.{All-nil}
use Rattle.exact128.specs.Sums.{dot}
use Rattle.linear_rows.specs.Rows.{Holds, AllHold, HoldsOn, AreEmpty}
use Rattle.linear_rows.specs.Plain.{plain_rows}
use Rattle.linear_rows.specs.declared.system.System.{System}
use Rattle.linear_rows.proofs.Members.{from_All, to_All}
use Rattle.linear_rows.specs.declared.point.Point.{Point}
use Rattle.termination_model.specs.chains.ChainRows.{bottom_row, HasPoint}
use Rattle.termination_model.proofs.ChainHeads.{dot_substituted, bottom_fails}
use Rattle.simplex.proofs.RowLists.{length-zeros}
use Rattle.termination_model.proofs.ChainSieves.{of_all}
use Rattle.polyhedra.specs.Telling.{HasNaturalHead, FailsOn, at_head}
use Rattle.polyhedra.specs.Making.{arity_of, HoldsFor, SaysImage}
use Rattle.termination_model.proofs.ImageLaw.{dot_natural, of_abs}

abbrev sizes_at : List (List ℤ) → ℕ → List ℕ → List ℕ
sizes_at es t w = map (λ e. unsigned_abs (dot e (pos t ∷ map pos w))) es

sizes_are : (es : List (List ℤ)) → All (λ r. All (λ x. pos 0 ≤ℤ x) r) es → (t : ℕ) (w : List ℕ) → map (λ e. dot e (pos t ∷ map pos w)) es ≡ map pos (sizes_at es t w)
sizes_are [] h t w = refl
sizes_are (e ∷ es) h t w =
    let here = of_abs (dot e (pos t ∷ map pos w)) (dot_natural e (t ∷ w) (h 0 e (omega arith))) in
    let more = sizes_are es (λ k d l. h (suc k) d (omega arith)) t w in
    λ i. here i ∷ more i

module _ (speaks : List ℤ → Bool) (s : System) (natural : HasNaturalHead s) where
  abbrev heads : List (List ℤ)
  heads = plain_rows s.head.list

  -- a row over the head's arguments at a point of the clause is the row at their sizes there
  at_sizes : (r : List ℤ) (t : ℕ) (w : List ℕ) → dot (at_head s r) (pos t ∷ map pos w) ≡ dot r (pos t ∷ map pos (sizes_at heads t w))
  at_sizes r t w = dot_substituted s.variables heads r (map pos w) (pos t) ∙ ap (λ (xs : List ℤ). dot r (pos t ∷ xs)) (sizes_are heads natural t w)

  everywhere : (r : List ℤ) → HoldsOn (suc (arity_of s)) [] r → HoldsFor s r
  everywhere r h t w some long all =
      let there = h t (sizes_at heads t w) some (omega (arith, length-map heads (λ e. unsigned_abs (dot e (pos t ∷ map pos w))))) (All-nil (λ (row : List ℤ). Holds row t (sizes_at heads t w))) in
      subst (λ (z : ℤ). pos 0 ≤ℤ z) (sym (at_sizes r t w)) there

  pub on_image : (image : List (List ℤ)) (weak : Bool) → SaysImage speaks s image weak → (r : List ℤ) → length r ≡ suc (arity_of s) → speaks r ≡ true → HoldsOn (suc (arity_of s)) image r → HoldsFor s r
  on_image image false i r long spoken h = (i.same r long spoken).0 h
  on_image image true i r long spoken h = everywhere r (subst (λ (rs : List (List ℤ)). HoldsOn (suc (arity_of s)) rs r) i.1 h)

  pub empty_point : (image : List (List ℤ)) → image ≡ [] → HasPoint (arity_of s) image
  empty_point image e = record {
    t = 1;
    w = sizes_at heads 1 [];
    some = omega arith;
    long = length-map heads (λ e. unsigned_abs (dot e (pos 1 ∷ map pos [])));
    hold = subst (λ (rs : List (List ℤ)). AllHold rs 1 (sizes_at heads 1 [])) (sym e) (All-nil (λ (row : List ℤ). Holds row 1 (sizes_at heads 1 [])));
  }

  -- a point of the clause gives one of the image
  pub image_point : (image : List (List ℤ)) (weak : Bool) → SaysImage speaks s image weak → (row : List ℤ) (p : Point) → FailsOn s row p → HasPoint (arity_of s) image
  image_point image true i row p f = empty_point image i.1
  image_point image false i row p f = record {
    t = f.point.t;
    w = sizes_at heads f.point.t f.point.w;
    some = f.point.some;
    long = length-map heads (λ e. unsigned_abs (dot e (pos f.point.t ∷ map pos f.point.w)));
    hold = to_All (λ (r : List ℤ). Holds r f.point.t (sizes_at heads f.point.t f.point.w)) image (λ r j.
        let spoken = of_all (λ (r : List ℤ). (length r ≡ suc (arity_of s)) × (speaks r ≡ true)) image r i.spoken j in
        let on : HoldsOn (suc (arity_of s)) image r = λ t w some long all. from_All (λ (row : List ℤ). Holds row t w) image r all j in
        let here = (i.same r spoken.0 spoken.1).0 on f.point.t f.point.w f.point.some (omega (arith, f.point.long)) f.point.hold in
        subst (λ (z : ℤ). pos 0 ≤ℤ z) (at_sizes r f.point.t f.point.w) here);
  }

  -- where the clause's system is empty, so is an image that is not weak
  pub image_empty : (image : List (List ℤ)) → SaysImage speaks s image false → speaks (bottom_row (arity_of s)) ≡ true → HoldsFor s (bottom_row (arity_of s)) → AreEmpty (suc (arity_of s)) image
  image_empty image i spoken h t w some long all =
      bottom_fails (arity_of s) t w some ((i.same (bottom_row (arity_of s)) (ap suc (length-zeros (arity_of s))) spoken).1 h t w some long all)
