-- The falls that the code finds are falls of the mapping at the pairs of its component.
use Rattle.std.proofs.Common.{◌≡◌, ℕ, ◌-◌, ℤ, pos, Bool, true, if◌then◌else◌, List, [], ◌∷◌, map, take, length, slice_get, Some, inl, inr, refl, ap, sym, subst, ◌∙◌}
use Rattle.std.specs.List.{AllByRecursion}
use Rattle.std.proofs.lemmas.List.{length-map}
use Rattle.cti_terms.specs.Listing.{Listing}
use Rattle.cti_terms.specs.Tree.{Tree}
use Rattle.cti_terms.specs.declared.atom_list.Atom.{Atom}
use Rattle.cti_terms.specs.declared.clauses.Clause.{Clause}
use Rattle.linear_rows.specs.Members.{In}
use Rattle.linear_rows.specs.Plain.{plain_row, plain_rows}
use Rattle.linear_rows.specs.Replacing.{over_columns, row_fits}
use Rattle.linear_rows.specs.Showing.{AreMultipliers, IsShown}
use Rattle.number_tests.specs.Proved.{fall_of}
use Rattle.number_tests.specs.Shape.{row_count}
use Rattle.number_tests.specs.Targets.{fall_weights}
use Rattle.number_tests.specs.declared.level_part.LevelPart.{LevelPart}
use Rattle.number_tests.proofs.FallTargets.{fall_target}
use Rattle.term_size.specs.Norm.{IsNorm}
use Rattle.termination_model.specs.sizes.Systems.{system}
use Rattle.termination_model.specs.sizes.ShortSystems.{short_row, short_system}
use Rattle.termination_model.proofs.Lists.{one_element}
use Rattle.level_systems.specs.Falling.{AreFallsOf, ShowFalls, ShowsFall, values_after}
use Rattle.level_systems.specs.Held.{IsHeld, numbers_of_call}
use Rattle.level_systems.specs.Mappings.{IsFall, level_in}
use Rattle.level_systems.specs.Pairs.{call_at, clause_at}
use Rattle.level_systems.specs.declared.fall.Fall.{Fall}
use Rattle.level_systems.specs.declared.measure.Measure.{Measure}
use Rattle.level_systems.specs.declared.own_call.OwnCall.{OwnCall}
use Rattle.number_tests.proofs.RowSteps.{length-system}

short_is : (r : List ℤ) → row_fits r ≡ true → short_row r ≡ r
short_is r e = λ i. if e i then r else map (λ _. pos 0) r

pub short_same : (rs : List (List ℤ)) → ((r : List ℤ) → In r rs → row_fits r ≡ true) → map short_row rs ≡ rs
short_same [] h = refl
short_same (r ∷ rs) h = let here = short_is r (h r (inl refl)) in let rest = short_same rs (λ x i. h x (inr i)) in λ i. here i ∷ rest i

pub pairs_are : (owns : List OwnCall) (values : List ℤ) (fs : List Fall) → AreFallsOf owns values fs → map (λ (f : Fall). (f.clause, f.call)) fs ≡ map numbers_of_call owns
pairs_are [] values [] h = refl
pairs_are [] values (f ∷ fs) h = absurd h
pairs_are (own ∷ owns) values [] h = absurd h
pairs_are (own ∷ owns) values (f ∷ fs) h =
    let first = h.0 in
    let clause = first.0 in
    let call = first.1 in
    let rest = pairs_are owns (values_after own.empty (length own.rows.list) values) fs h.1 in
    λ i. (clause i, call i) ∷ rest i

module _ (size : (ℕ → ℕ) → Tree → ℕ) (truth : (ℕ → Bool) → Tree → Bool) (expression : ℕ → Tree → List ℤ) (norm : IsNorm size truth expression) (p : Listing) (rows : ℕ → List (List ℤ)) (ms : List Measure) where
  rows_same : (own : OwnCall) → (h : IsHeld expression p rows own)
      → plain_rows own.rows.list ≡ short_system expression rows (clause_at p own.clause).vars (take (own.call - 1) (clause_at p own.clause).body)
  rows_same own h =
      let rs = system expression rows (clause_at p own.clause).vars (take (own.call - 1) (clause_at p own.clause).body) in
      h.before ∙ sym (short_same rs (λ r i. h.fit r (subst (In r) (sym h.before) i)))

  -- the call by its clause and atom
  one_fall : (own : OwnCall) (f : Fall) → IsHeld expression p rows own → f.clause ≡ own.clause → f.call ≡ own.call → AreMultipliers (length own.rows.list) f.by → ShowsFall ms own f.by
      → ((head : LevelPart) → level_in ms (clause_at p own.clause).head.pred.0 ≡ Some head → length head.coeffs ≡ length (clause_at p own.clause).head.args) → IsFall expression p rows ms f
  one_fall own f h same_clause same_call by shows wide k b head call ek eb eh ec =
      let hk : k ≡ clause_at p own.clause = one_element p.clauses (own.clause - 1) k (clause_at p own.clause) (subst (λ (n : ℕ). slice_get p.clauses (n - 1) ≡ Some k) same_clause ek) h.there in
      let hb : b ≡ call_at p own.clause own.call =
      one_element (clause_at p own.clause).body (own.call - 1) b (call_at p own.clause own.call) (subst (λ (x : Clause). slice_get x.body (own.call - 1) ≡ Some b) hk (subst (λ (n : ℕ). slice_get k.body (n - 1) ≡ Some b) same_call eb)) h.at in
      go f.call hk hb same_call
    where
      go : (n : ℕ) → k ≡ clause_at p own.clause → b ≡ call_at p own.clause own.call → n ≡ own.call
          → AreMultipliers (row_count rows (take (n - 1) k.body)) f.by × IsShown (short_system expression rows k.vars (take (n - 1) k.body)) (fall_of expression k b head call) f.by
      go n hk hb hn =
          let K = clause_at p own.clause in
          let B = call_at p own.clause own.call in
          let head_there : level_in ms K.head.pred.0 ≡ Some head = subst (λ (x : Clause). level_in ms x.head.pred.0 ≡ Some head) hk eh in
          let call_there : level_in ms B.pred.0 ≡ Some call = subst (λ (x : Atom). level_in ms x.pred.0 ≡ Some call) hb ec in
          let shown = shows head call (ap (level_in ms) h.caller ∙ head_there) (ap (level_in ms) h.callee ∙ call_there) in
          let target = fall_target size truth expression norm K B head call own.columns.items (wide head head_there) h.columns in
          let there : IsShown (short_system expression rows K.vars (take (own.call - 1) K.body)) (fall_of expression K B head call) f.by =
          subst (λ (z : List ℤ). IsShown (short_system expression rows K.vars (take (own.call - 1) K.body)) z f.by) target
          (subst (λ (rs : List (List ℤ)). IsShown rs (over_columns own.columns.items (fall_weights head call)) f.by) (rows_same own h) shown) in
          let count : length own.rows.list ≡ row_count rows (take (own.call - 1) K.body) =
          sym (length-map own.rows.list plain_row) ∙ ap length h.before ∙ length-system expression rows K.vars (take (own.call - 1) K.body) in
          let many : AreMultipliers (row_count rows (take (own.call - 1) K.body)) f.by = subst (λ (m : ℕ). AreMultipliers m f.by) count by in (
            subst (λ (m : ℕ). AreMultipliers (row_count rows (take (m - 1) k.body)) f.by) (sym hn) (subst (λ (x : Clause). AreMultipliers (row_count rows (take (own.call - 1) x.body)) f.by) (sym hk) many),
            subst (λ (m : ℕ). IsShown (short_system expression rows k.vars (take (m - 1) k.body)) (fall_of expression k b head call) f.by) (sym hn)
                (subst (λ (x : Clause). IsShown (short_system expression rows x.vars (take (own.call - 1) x.body)) (fall_of expression x b head call) f.by) (sym hk)
                (subst (λ (y : Atom). IsShown (short_system expression rows K.vars (take (own.call - 1) K.body)) (fall_of expression K y head call) f.by) (sym hb) there)),
          )

  pub falls_are : (owns : List OwnCall) (values : List ℤ) (fs : List Fall) → AllByRecursion (IsHeld expression p rows) owns
      → AllByRecursion (λ (own : OwnCall). (head : LevelPart) → level_in ms (clause_at p own.clause).head.pred.0 ≡ Some head → length head.coeffs ≡ length (clause_at p own.clause).head.args) owns
      → ShowFalls ms owns values → AreFallsOf owns values fs → AllByRecursion (IsFall expression p rows ms) fs
  falls_are [] values [] held wide shows falls = tt
  falls_are [] values (f ∷ fs) held wide shows falls = absurd falls
  falls_are (own ∷ owns) values [] held wide shows falls = absurd falls
  falls_are (own ∷ owns) values (f ∷ fs) held wide shows falls =
      let first = falls.0 in (
        one_fall own f held.0 first.0 first.1 first.3 (subst (ShowsFall ms own) (sym first.2) shows.0) wide.0,
        falls_are owns (values_after own.empty (length own.rows.list) values) fs held.1 wide.1 shows.1 falls.1,
      )
