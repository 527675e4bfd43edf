-- The number that an old predicate has in a new program, by its name and arity.
use Rattle.std.proofs.Common.{◌≡◌, ℕ, zero, suc, ◌==◌, ◌&&◌, Bool, true, false, if◌then◌else◌, List, [], ◌∷◌, slice_get, Option, None, Some, refl, ap, sym, ◌∙◌, eq-eqb, eqb-true}
use Rattle.cti_terms.specs.Listing.{Listing, IsProgram, is_pred}
use Rattle.cti_terms.specs.declared.predicates.Pred.{Pred}
use Rattle.component_laws.specs.Untouched.{FindsByName}
use Rattle.component_laws.proofs.UntouchedLaws.{one_number}

-- ---- places by name and arity
abbrev pub place_among : Pred → List Pred → ℕ
place_among x [] = 0
place_among x (y ∷ ys) = if is_pred x.name.0 x.arity y then 0 else suc (place_among x ys)

abbrev pub place_or_none : Option Pred → List Pred → ℕ
place_or_none None ys = 0
place_or_none (Some x) ys = place_among x ys

abbrev pub new_number : List Pred → List Pred → ℕ → ℕ
new_number preds new_preds q = place_or_none (slice_get preds q) new_preds

same_of_test : (x y : Pred) → is_pred x.name.0 x.arity y ≡ true → y ≡ x
same_of_test x y e = go (x.name.0 == y.name.0) (x.arity == y.arity) refl refl e
  where
    go : (a b : Bool) → (x.name.0 == y.name.0) ≡ a → (x.arity == y.arity) ≡ b → (a && b) ≡ true → y ≡ x
    go true true s t e =
        let n = eqb-true x.name.0 y.name.0 s in
        let m = eqb-true x.arity y.arity t in
        λ i. record { name = record { 0 = sym n i }; arity = sym m i }
    go true false s t e = cc
    go false b s t e = cc

test_of_same : (x : Pred) → is_pred x.name.0 x.arity x ≡ true
test_of_same x = λ i. eq-eqb x.name.0 x.name.0 refl i && eq-eqb x.arity x.arity refl i

placed_at : (x : Pred) (ys : List Pred) (r : ℕ) → slice_get ys r ≡ Some x → slice_get ys (place_among x ys) ≡ Some x
placed_at x [] r e = cc
placed_at x (y ∷ ys) zero e =
    let is : y ≡ x = cc in
    let on_ : is_pred x.name.0 x.arity y ≡ true = ap (is_pred x.name.0 x.arity) is ∙ test_of_same x in
    ap (λ (b : Bool). slice_get (y ∷ ys) (if b then 0 else suc (place_among x ys))) on_ ∙ ap Some is
placed_at x (y ∷ ys) (suc r) e = go (is_pred x.name.0 x.arity y) refl (placed_at x ys r e)
  where
    go : (b : Bool) → is_pred x.name.0 x.arity y ≡ b → slice_get ys (place_among x ys) ≡ Some x → slice_get (y ∷ ys) (if b then 0 else suc (place_among x ys)) ≡ Some x
    go true t more = ap Some (same_of_test x y t)
    go false t more = more

pub finds_number : (p new : Listing) → IsProgram new → FindsByName p new (new_number p.preds new.preds)
finds_number p new prog q r x e f =
    one_number new.preds prog.distinct (new_number p.preds new.preds q) r x (ap (λ (o : Option Pred). slice_get new.preds (place_or_none o new.preds)) e ∙ placed_at x new.preds r f) f
