-- An irredundant part of what elimination leaves is an image, or a join.
use Rattle.std.proofs.Common.{◌≡◌, ℕ, zero, suc, ◌+◌, ℤ, pos, Bool, true, false, inl, inr, List, [], ◌∷◌, map, take, length, None, sym, subst, arith}
use Rattle.std.specs.Prelude.{All, ◌↔◌}
use Rattle.std.proofs.lemmas.Int.{ints}
use Rattle.exact128.specs.Fits.{fits}
use Rattle.exact128.specs.Sums.{dot}
use Rattle.linear_rows.specs.Blown.{all_of, blown_step}
use Rattle.linear_rows.specs.Rows.{Holds, HoldsOn, AreEmpty}
use Rattle.linear_rows.specs.Step.{all_eliminated, columns}
use Rattle.linear_rows.specs.Plain.{plain_rows}
use Rattle.linear_rows.specs.Systems.{image_rows, image_blown, image_left, join_rows, join_blown, join_left}
use Rattle.linear_rows.specs.declared.row.Row.{Row}
use Rattle.linear_rows.specs.declared.row.Rows.{Rows}
use Rattle.linear_rows.specs.declared.system.System.{System}
use Rattle.linear_rows.proofs.Members.{from_All, to_All}
use Rattle.linear_rows.proofs.Starts.{dot-zeros}
use Rattle.termination_model.specs.chains.ChainRows.{HasSublist, HasPoint, AreSpoken, IsBlown, bottom_row}
use Rattle.redundant_rows.specs.Choosing.{IsCore}
use Rattle.polyhedra.specs.Making.{arity_of, IsImageOf, ImageIsBlown, IsJoinOf, SaysImage, SaysJoin}
use Rattle.polyhedra.specs.PolyLaws.{HaveFit}
use Rattle.redundant_rows.specs.Projecting.{IsCut, left_of}
use Rattle.polyhedra.specs.Telling.{HasNaturalHead}
use Rattle.redundant_rows.proofs.Sweeps.{part_in}
use Rattle.termination_model.proofs.ImageLaw.{image_same}
use Rattle.termination_model.proofs.JoinLaw.{join_same}

-- the same rows hold on a core as on all
pub core_same : (n : ℕ) (all rows : List (List ℤ)) (r : List ℤ) → IsCore n all rows → HoldsOn (suc n) rows r ↔ HoldsOn (suc n) all r
core_same n all rows r core = (
  λ h t w some long hold. h t w some long (to_All (λ (y : List ℤ). Holds y t w) rows (λ y i. from_All (λ (y : List ℤ). Holds y t w) all y hold (part_in all rows core.part y i))),
  λ h t w some long hold. h t w some long (to_All (λ (y : List ℤ). Holds y t w) all (λ y i. core.covers y i t w some long hold)),
)

pub part_spoken : (n : ℕ) (xs ys : List (List ℤ)) → HasSublist xs ys → AreSpoken (all_of fits) n xs → AreSpoken (all_of fits) n ys
part_spoken n [] ys p a = subst (AreSpoken (all_of fits) n) (sym p) tt
part_spoken n (x ∷ xs) ys (inl (_, zs, e, more)) a = subst (AreSpoken (all_of fits) n) (sym e) (a.0, part_spoken n xs zs more a.1)
part_spoken n (x ∷ xs) ys (inr (_, more)) a = part_spoken n xs ys more a.1

pub image_of : (s : System) → HasNaturalHead s → s.wide ≡ false
    → image_blown s.variables (plain_rows s.head.list) (plain_rows s.rows.list) ≡ None
    → AreSpoken (all_of fits) (arity_of s) (image_left s.variables (plain_rows s.head.list) (plain_rows s.rows.list))
    → (rows : List (List ℤ)) → IsCore (arity_of s) (image_left s.variables (plain_rows s.head.list) (plain_rows s.rows.list)) rows
    → IsImageOf (all_of fits) s rows
image_of s natural narrow decided spoken rows core = record {
  narrow = narrow;
  decided = decided;
  part = core.part;
  irredundant = core.irredundant;
  spoken = part_spoken (arity_of s) (image_left s.variables (plain_rows s.head.list) (plain_rows s.rows.list)) rows core.part spoken;
  same = λ r long sp.
      let one = core_same (arity_of s) (image_left s.variables (plain_rows s.head.list) (plain_rows s.rows.list)) rows r core in
      let two = image_same s.variables (plain_rows s.head.list) (plain_rows s.rows.list) natural r long in
      (λ h. two.0 (one.0 h), λ h. one.1 (two.1 h));
}

pub join_of : (n : ℕ) (first second : List (List ℤ)) → All (λ r. length r ≡ suc n) first → All (λ r. length r ≡ suc n) second
    → HasPoint n first → HasPoint n second → join_blown n first second ≡ None
    → AreSpoken (all_of fits) n (join_left n first second)
    → (rows : List (List ℤ)) → IsCore n (join_left n first second) rows → IsJoinOf (all_of fits) n first second rows
join_of n first second lf ls pf ps decided spoken rows core =
    let same : (r : List ℤ) → length r ≡ suc n → all_of fits r ≡ true → HoldsOn (suc n) rows r ↔ (HoldsOn (suc n) first r × HoldsOn (suc n) second r) =
    λ r long sp.
    let one = core_same n (join_left n first second) rows r core in
    let two = join_same n first second lf ls pf ps r long in
    (λ h. two.0 (one.0 h), λ h. one.1 (two.1 h)) in
    let said : AreSpoken (all_of fits) n rows = part_spoken n (join_left n first second) rows core.part spoken in
    record {
      same = same;
      spoken = said;
      listed = λ _ _. record { decided = decided; part = core.part; irredundant = core.irredundant; spoken = said; same = same };
    }

-- ---- what a projection gives
pub fit_of_spoken : (n : ℕ) (rows : List Row) → AreSpoken (all_of fits) n (plain_rows rows) → HaveFit rows
fit_of_spoken n [] a k d l = absurd (omega arith)
fit_of_spoken n (r ∷ rows) a zero d l = a.0.1
fit_of_spoken n (r ∷ rows) a (suc k) d l = fit_of_spoken n rows a.1 k d (omega arith)

pub image_of_cut : (s : System) → HasNaturalHead s → s.wide ≡ false → (a v : ℕ) → a ≡ arity_of s → v ≡ s.variables
    → (rows : List (List ℤ)) → rows ≡ image_rows s.variables (plain_rows s.head.list) (plain_rows s.rows.list)
    → (r : Rows) → IsCut a v rows r → IsImageOf (all_of fits) s (plain_rows r.list)
image_of_cut s natural narrow a v ea ev rows er r cut =
    let moved : IsCut (arity_of s) s.variables (image_rows s.variables (plain_rows s.head.list) (plain_rows s.rows.list)) r =
    subst (λ (k : ℕ). IsCut k s.variables (image_rows s.variables (plain_rows s.head.list) (plain_rows s.rows.list)) r) ea
    (subst (λ (k : ℕ). IsCut a k (image_rows s.variables (plain_rows s.head.list) (plain_rows s.rows.list)) r) ev
    (subst (λ (rs : List (List ℤ)). IsCut a v rs r) er cut)) in
    image_of s natural narrow moved.decided moved.spoken (plain_rows r.list) moved.core

pub image_blown_of : (s : System) (a v : ℕ) → a ≡ arity_of s → v ≡ s.variables
    → (rows : List (List ℤ)) → rows ≡ image_rows s.variables (plain_rows s.head.list) (plain_rows s.rows.list)
    → IsBlown (blown_step (a + v) (columns (suc a) v) rows) → ImageIsBlown s
image_blown_of s a v ea ev rows er blown =
    inr (subst (λ (k : ℕ). IsBlown (blown_step (k + s.variables) (columns (suc k) s.variables) (image_rows s.variables (plain_rows s.head.list) (plain_rows s.rows.list)))) ea
    (subst (λ (k : ℕ). IsBlown (blown_step (a + k) (columns (suc a) k) (image_rows s.variables (plain_rows s.head.list) (plain_rows s.rows.list)))) ev
    (subst (λ (rs : List (List ℤ)). IsBlown (blown_step (a + v) (columns (suc a) v) rs)) er blown)))

module _ (n c : ℕ) (count : c ≡ n + 1) (first second rows : List (List ℤ)) (is : rows ≡ join_rows n first second) where
  long : n + c ≡ n + n + 1
  long = omega arith

  pub join_of_cut : All (λ r. length r ≡ suc n) first → All (λ r. length r ≡ suc n) second → HasPoint n first → HasPoint n second
      → (r : Rows) → IsCut n c rows r → IsJoinOf (all_of fits) n first second (plain_rows r.list)
  join_of_cut lf ls pf ps r cut =
      let left : left_of n c rows ≡ join_left n first second =
      (λ i. map (take (suc n)) (all_eliminated (long i) (columns (suc n) (count i)) (is i))) in
      let decided : join_blown n first second ≡ None =
      subst (λ (rs : List (List ℤ)). blown_step (n + n + 1) (columns (suc n) (n + 1)) rs ≡ None) is
      (subst (λ (k : ℕ). blown_step (n + n + 1) (columns (suc n) k) rows ≡ None) count
      (subst (λ (k : ℕ). blown_step k (columns (suc n) c) rows ≡ None) long cut.decided)) in
      join_of n first second lf ls pf ps decided (subst (AreSpoken (all_of fits) n) left cut.spoken) (plain_rows r.list) (subst (λ (all : List (List ℤ)). IsCore n all (plain_rows r.list)) left cut.core)

  pub join_blown_of : IsBlown (blown_step (n + c) (columns (suc n) c) rows) → IsBlown (join_blown n first second)
  join_blown_of blown =
      subst (λ (rs : List (List ℤ)). IsBlown (blown_step (n + n + 1) (columns (suc n) (n + 1)) rs)) is
      (subst (λ (k : ℕ). IsBlown (blown_step (n + n + 1) (columns (suc n) k) rows)) count
      (subst (λ (k : ℕ). IsBlown (blown_step k (columns (suc n) c) rows)) long blown))

-- ---- joins with an empty list
pub bottom_empty : (n : ℕ) (rows : List (List ℤ)) → HoldsOn (suc n) rows (bottom_row n) → AreEmpty (suc n) rows
unfolding dot
bottom_empty n rows h t w some long hold = let v = h t w some long hold in let z = dot-zeros n (map pos w) in absurd (omega (arith, ints, z))

pub first_empty : (n : ℕ) (first second : List (List ℤ)) → AreEmpty (suc n) first → AreSpoken (all_of fits) n second → IsJoinOf (all_of fits) n first second second
first_empty n first second empty spoken = record {
  same = λ r long sp. (λ h. (λ t w some l hold. absurd (empty t w some l hold), h), λ p. p.1);
  spoken = spoken;
  listed = λ p q. absurd (empty p.t p.w p.some (let l = p.long in omega arith) p.hold);
}

pub second_empty : (n : ℕ) (first second : List (List ℤ)) → AreEmpty (suc n) second → AreSpoken (all_of fits) n first → IsJoinOf (all_of fits) n first second first
second_empty n first second empty spoken = record {
  same = λ r long sp. (λ h. (h, λ t w some l hold. absurd (empty t w some l hold)), λ p. p.0);
  spoken = spoken;
  listed = λ p q. absurd (empty q.t q.w q.some (let l = q.long in omega arith) q.hold);
}

-- ---- the answers that are not weak
pub said_image : (s : System) (made rows : Rows) (weak : Bool) → made ≡ rows → weak ≡ false → IsImageOf (all_of fits) s (plain_rows rows.list) → SaysImage (all_of fits) s (plain_rows made.list) weak
said_image s made rows weak e w h = subst (SaysImage (all_of fits) s (plain_rows made.list)) (sym w) (subst (λ (r : Rows). IsImageOf (all_of fits) s (plain_rows r.list)) (sym e) h)

pub said_join : (n : ℕ) (first second : List (List ℤ)) (made rows : Rows) (weak : Bool) → made ≡ rows → weak ≡ false → IsJoinOf (all_of fits) n first second (plain_rows rows.list) → SaysJoin (all_of fits) n first second (plain_rows made.list) weak
said_join n first second made rows weak e w h = subst (SaysJoin (all_of fits) n first second (plain_rows made.list)) (sym w) (subst (λ (r : Rows). IsJoinOf (all_of fits) n first second (plain_rows r.list)) (sym e) h)
