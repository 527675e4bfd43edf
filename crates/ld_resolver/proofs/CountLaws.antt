-- With a budget of at least the number of a goal's nodes a run is finished, and has met that many.
use Rattle.std.proofs.Common.{◌≡◌, ℕ, zero, suc, ◌+◌, ◌<◌, ◌≤◌, List, [], ◌∷◌, take, length, inl, inr, refl, ap, sym, ◌∙◌, arith}
use Rattle.cti_terms.specs.declared.derivation.Goal.{Goal}
use Rattle.cti_terms.specs.Listing.{Listing}
use Rattle.cti_terms.specs.Derive.{IsDerivation, Bounded}
use Rattle.cti_terms.specs.Nodes.{nodes, first_nodes, HasMoreNodes}
use Rattle.ld_resolver.specs.Count.{HasNodes}
use Rattle.ld_resolver.proofs.OrderLaws.{much_deeper, settled_from, no_more}
use Rattle.ld_resolver.proofs.FirstLaws.{short_or_long, shallow, others_later, no_more_than}

-- no more are taken than asked for, and all where there are no more
few_taken : {X : Type 0} (n : ℕ) (xs : List X) → length (take n xs) ≤ n
few_taken zero xs = omega arith
few_taken (suc n) [] = omega arith
few_taken (suc n) (x ∷ xs) = let l = few_taken n xs in omega (arith, l)

all_taken : {X : Type 0} (n : ℕ) (xs : List X) → length xs ≤ n → length (take n xs) ≡ length xs
all_taken zero [] l = refl
all_taken zero (x ∷ xs) l = absurd (omega (arith, l))
all_taken (suc n) [] l = refl
all_taken (suc n) (x ∷ xs) l = ap suc (all_taken n xs (omega (arith, l)))

module _ (p : Listing) (g : Goal) where
  -- where there are no more than n nodes, no derivation has more than n steps
  short : (n : ℕ) → (HasMoreNodes p g n → ⊥) → (ks : List ℕ) → IsDerivation p g ks → suc (length ks) ≤ suc n
  short n none [] is = omega arith
  short n none (k ∷ ks) is =
      elim (others_later p g n (k ∷ ks) (λ e. cc) is) [
        | inl i ↦ let l = shallow p (suc n) n g (k ∷ ks) i in omega (arith, l)
        | inr more ↦ absurd (none more.0)
      ]

  -- and they are all met
  pub counted : (n : ℕ) → (HasMoreNodes p g n → ⊥) → HasNodes p g (length (first_nodes p g n))
  counted n none = record { depth = suc n; all = sym same; most = most }
    where
      few : length (nodes p (suc n) g) ≤ n
      few = elim (short_or_long (length (nodes p (suc n) g)) n) [ inl l ↦ l | inr more ↦ absurd (none more) ]

      same : length (first_nodes p g n) ≡ length (nodes p (suc n) g)
      same = all_taken n (nodes p (suc n) g) few

      most : (d : ℕ) → length (nodes p d g) ≤ length (first_nodes p g n)
      most d =
          let settled = ap (λ (m : ℕ). length (nodes p m g)) (let s : d + suc n ≡ suc n + d = omega arith in s) ∙ ap length (settled_from p (suc n) d g (short n none)) in
          let more = much_deeper p d (suc n) g in
          omega (arith, settled, more, same)

  pub some_number : Bounded p g → (n : ℕ) × HasNodes p g n
  some_number b = let f = no_more p g b in (length (first_nodes p g f.0), counted f.0 (f.1 f.0 (omega arith)))

  pub enough : (n : ℕ) → HasNodes p g n → (budget : ℕ) → n ≤ budget → HasMoreNodes p g budget → ⊥
  enough n has budget l = no_more_than p g n has.most budget l

  pub all_met : (n : ℕ) → HasNodes p g n → (budget : ℕ) → n ≤ budget → length (first_nodes p g budget) ≡ n
  all_met n has budget l =
      let c = counted budget (enough n has budget l) in
      let a = has.most c.depth in
      let b = c.most has.depth in
      omega (arith, a, b, has.all, c.all)

  pub too_few : (n : ℕ) → HasNodes p g n → (budget : ℕ) → budget < n → HasMoreNodes p g budget
  too_few n has budget l =
      elim (short_or_long (length (nodes p (suc budget) g)) budget) [
        | inl few ↦
            let c = counted budget (λ more. omega (arith, few, more)) in
            let a = c.most has.depth in
            absurd (omega (arith, a, has.all, l, few_taken budget (nodes p (suc budget) g)))
        | inr more ↦ more
      ]
