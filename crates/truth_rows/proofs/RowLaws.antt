-- Laws of rows: what each operation on diagrams does to what their rows say.
use Rattle.std.proofs.Common.{◌≡◌, ℕ, zero, suc, ◌<◌, ◌==◌, Bool, true, false, ◌&&◌, ◌||◌, if◌then◌else◌, IsTrue, List, [], ◌∷◌, length, refl, ap, sym, ◌∙◌, arith, Result, IfOk}
use Rattle.std.proofs.lemmas.Bool.{eq-eqb}
use Rattle.std.proofs.lemmas.Bool.Decides.{nat_tests}
use Rattle.std.proofs.lemmas.Result.{IfOk-weaker}
use Rattle.bool_diagrams.specs.Cubes.{values_of}
use Rattle.bool_diagrams.specs.Tree.{with_value}
use Rattle.bool_diagrams.specs.Rows.{iff}

pub both : (a b : Bool) → a ≡ true → b ≡ true → (a && b) ≡ true
both true b p q = q
both false b p q = p

pub iff_same : (a b : Bool) → iff a b ≡ true → a ≡ b
iff_same true true h = refl
iff_same true false h = sym h
iff_same false true h = cc
iff_same false false h = refl

pub iff_true : (a b : Bool) → a ≡ b → iff a b ≡ true
iff_true true b e = sym e
iff_true false true e = e
iff_true false false e = refl

-- a value for a variable that another value decides is that value
pub decided : (f : Bool → Bool) (b : Bool) → ((f false && iff false b) || (f true && iff true b)) ≡ f b
decided f true = go (f false) (f true)
  where
    go : (a c : Bool) → ((a && false) || (c && true)) ≡ c
    go true true = refl
    go true false = refl
    go false true = refl
    go false false = refl
decided f false = go (f false) (f true)
  where
    go : (a c : Bool) → ((a && true) || (c && false)) ≡ a
    go true true = refl
    go true false = refl
    go false true = refl
    go false false = refl

pub with_same : (row : ℕ → Bool) (k : ℕ) (b : Bool) → with_value row k b k ≡ b
with_same row k b = let e = eq-eqb k k refl in rw e refl

pub with_other : (row : ℕ → Bool) (k : ℕ) (b : Bool) (x : ℕ) → ((x ≡ k) → ⊥) → with_value row k b x ≡ row x
with_other row k b x ne = let e : (x == k) ≡ false = grind (arith, nat_tests) in rw e refl

pub or_false : (a b : Bool) → (a || b) ≡ false → (a ≡ false) × (b ≡ false)
or_false true b h = cc
or_false false b h = (refl, h)

pub same_bool : (a b : Bool) → (IsTrue a → IsTrue b) → (IsTrue b → IsTrue a) → a ≡ b
same_bool true b f g = sym (f refl)
same_bool false true f g = g refl
same_bool false false f g = refl

-- the first values of a row
pub first_row : ℕ → (ℕ → Bool) → List Bool
first_row zero row = []
first_row (suc n) row = row 0 ∷ first_row n (λ v. row (suc v))

pub length-first : (n : ℕ) (row : ℕ → Bool) → length (first_row n row) ≡ n
unfolding first_row
length-first zero row = refl
length-first (suc n) row = ap suc (length-first n (λ v. row (suc v)))

pub first_values : (n : ℕ) (row : ℕ → Bool) (v : ℕ) → v < n → values_of (first_row n row) v ≡ row v
unfolding first_row
first_values zero row v lt = absurd (omega arith)
first_values (suc n) row zero lt = refl
first_values (suc n) row (suc v) lt = first_values n (λ u. row (suc u)) v (omega arith)

-- a set where one variable is true, whatever that variable is
pub raised_value : (old set rigid with_it : (ℕ → Bool) → Bool) (k : ℕ) (row : ℕ → Bool) → ((r : ℕ → Bool) → set r ≡ old r) → ((r : ℕ → Bool) → rigid r ≡ r k) → ((r : ℕ → Bool) → with_it r ≡ (set r && rigid r))
    → (with_it (with_value row k false) || with_it (with_value row k true)) ≡ old (with_value row k true)
raised_value old set rigid with_it k row same own both_are = (λ i. part false i || part true i) ∙ go (old (with_value row k false)) (old (with_value row k true))
  where
    part : (b : Bool) → with_it (with_value row k b) ≡ (old (with_value row k b) && b)
    part b = both_are (with_value row k b) ∙ (λ i. same (with_value row k b) i && (own (with_value row k b) ∙ with_same row k b) i)

    go : (a b : Bool) → ((a && false) || (b && true)) ≡ b
    go true true = refl
    go true false = refl
    go false true = refl
    go false false = refl

pub with_agree : (row other : ℕ → Bool) (k : ℕ) (b : Bool) (v : ℕ) → row v ≡ other v → with_value row k b v ≡ with_value other k b v
with_agree row other k b v e = ap (λ x. if v == k then b else x) e

-- what follows from the last call's value follows from its result
pub if_ok_then : {X E : Type 0} {P Q : X → Type 0} (r : Result X E) → IfOk r P → ((x : X) → P x → Q x) → IfOk r Q
if_ok_then {P} {Q} r h f = IfOk-weaker r P Q f h
