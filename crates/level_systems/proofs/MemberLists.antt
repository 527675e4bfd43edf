-- The members of a component by their clauses are those of its view.
use Rattle.std.proofs.Common.{◌≡◌, ℕ, zero, suc, ◌+◌, ◌-◌, ◌<◌, arith, ℤ, ◌==◌, ◌||◌, Bool, true, false, if◌then◌else◌, List, [], ◌∷◌, ◌++◌, map, filter, refl, ap, sym, ◌∙◌}
use Rattle.std.specs.List.{list_any}
use Rattle.cti_terms.specs.Listing.{Listing}
use Rattle.cti_terms.specs.Tree.{Tree}
use Rattle.cti_terms.specs.declared.clauses.Clause.{Clause}
use Rattle.call_components.specs.Partition.{Partition}
use Rattle.termination_model.specs.claims.Claims.{Claims}
use Rattle.termination_model.specs.mappings.ComponentViews.{component_view, rank_in, size_claims}
use Rattle.termination_model.specs.mappings.OwnCalls.{first_rules, members_of, Position}
use Rattle.linear_rows.specs.Step.{columns}
use Rattle.termination_model.specs.mappings.Ready.{itself}
use Rattle.termination_model.specs.mappings.View.{Rule, rule_of}
use Rattle.termination_model.proofs.Lists.{append_assoc}
use Rattle.level_systems.specs.Ordered.{arguments_from, members_by_clauses, with_member}

append_none : {X : Type 0} (xs : List X) → xs ++ [] ≡ xs
append_none [] = refl
append_none (x ∷ xs) = ap (λ s. x ∷ s) (append_none xs)

pub any_mapped : {X Y : Type 0} (f : Y → Bool) (g : X → Y) (xs : List X) → list_any f (map g xs) ≡ list_any (λ x. f (g x)) xs
any_mapped f g [] = refl
any_mapped f g (x ∷ xs) = ap (λ b. f (g x) || b) (any_mapped f g xs)

or_last : (a b : Bool) → (a || (b || false)) ≡ (b || a)
or_last true true = refl
or_last true false = refl
or_last false true = refl
or_last false false = refl

or_more : (a b d : Bool) → (a || (b || d)) ≡ ((a || b) || d)
or_more true b d = refl
or_more false b d = refl

any_append : {X : Type 0} (f : X → Bool) (xs ys : List X) → list_any f (xs ++ ys) ≡ (list_any f xs || list_any f ys)
any_append f [] ys = refl
any_append f (x ∷ xs) ys = ap (λ b. f x || b) (any_append f xs ys) ∙ or_more (f x) (list_any f xs) (list_any f ys)

-- ---- one more member
module _ (comps : Partition) (c : ℕ) (ms : List ℕ) (q : ℕ) where
  pub skip_other : (rank_in comps q == c) ≡ false → with_member comps c ms q ≡ ms
  skip_other e = λ i. if e i then (if list_any (λ m. m == q) ms then ms else ms ++ q ∷ []) else ms

  pub skip_listed : list_any (λ m. m == q) ms ≡ true → with_member comps c ms q ≡ ms
  skip_listed e = (λ i. if rank_in comps q == c then (if e i then ms else ms ++ q ∷ []) else ms) ∙ either (rank_in comps q == c)
    where
      either : (b : Bool) → (if b then ms else ms) ≡ ms
      either true = refl
      either false = refl

  pub push_member : (rank_in comps q == c) ≡ true → list_any (λ m. m == q) ms ≡ false → with_member comps c ms q ≡ ms ++ q ∷ []
  push_member e n = λ i. if e i then (if n i then ms else ms ++ q ∷ []) else ms

pub arguments_are : (q a n : ℕ) → arguments_from q a n ≡ map (λ b. (q, b)) (columns a n)
arguments_are q a zero = refl
arguments_are q a (suc n) = ap (λ (s : List Position). (q, a) ∷ s) (arguments_are q (suc a) n)

pub arguments_step : (before : List Position) (q a n : ℕ) → a < n → (before ++ (q, a) ∷ []) ++ arguments_from q (a + 1) (n - (a + 1)) ≡ before ++ arguments_from q a (n - a)
arguments_step before q a n lt =
    let next : a + 1 ≡ suc a = omega arith in
    let less : suc (n - (a + 1)) ≡ n - a = omega (arith, lt) in
    append_assoc before ((q, a) ∷ []) (arguments_from q (a + 1) (n - (a + 1))) ∙ ap (λ k. before ++ (q, a) ∷ arguments_from q k (n - (a + 1))) next ∙ ap (λ k. before ++ arguments_from q a k) less

module _ (expression : ℕ → Tree → List ℤ) (p : Listing) (comps : Partition) (rows : ℕ → List (List ℤ)) (c : ℕ) where
  abbrev claims : Claims
  claims = size_claims expression p comps rows

  abbrev own : Clause → Bool
  own k = rank_in comps k.head.pred.0 == c

  abbrev listed : List ℕ → List Clause → List ℕ
  listed seen ks = map (λ (k : Rule). k.member) (first_rules seen (map (rule_of claims c itself) (filter own ks)))

  same_any : (seen ms : List ℕ) (q : ℕ) → ((r : ℕ) → list_any (λ m. m == r) ms ≡ list_any (λ m. m == r) seen) → (r : ℕ) → list_any (λ m. m == r) (ms ++ q ∷ []) ≡ list_any (λ m. m == r) (q ∷ seen)
  same_any seen ms q h r =
      any_append (λ m. m == r) ms (q ∷ []) ∙ or_last (list_any (λ m. m == r) ms) (q == r) ∙ ap (λ b. (q == r) || b) (h r)

  member_case : (b d e : Bool) (seen ms : List ℕ) (k : Clause) (ks : List Clause) → e ≡ d
      → members_by_clauses comps c ms ks ≡ ms ++ listed seen ks
      → members_by_clauses comps c (ms ++ k.head.pred.0 ∷ []) ks ≡ (ms ++ k.head.pred.0 ∷ []) ++ listed (k.head.pred.0 ∷ seen) ks
      → members_by_clauses comps c (if b then (if e then ms else ms ++ k.head.pred.0 ∷ []) else ms) ks
      ≡ ms ++ map (λ (x : Rule). x.member) (if b then (if d then first_rules seen (map (rule_of claims c itself) (filter own ks)) else rule_of claims c itself k ∷ first_rules (k.head.pred.0 ∷ seen) (map (rule_of claims c itself) (filter own ks))) else first_rules seen (map (rule_of claims c itself) (filter own ks)))
  member_case false d e seen ms k ks same here more = here
  member_case true true true seen ms k ks same here more = here
  member_case true true false seen ms k ks same here more = cc
  member_case true false true seen ms k ks same here more = cc
  member_case true false false seen ms k ks same here more = more ∙ append_assoc ms (k.head.pred.0 ∷ []) (listed (k.head.pred.0 ∷ seen) ks)

  rules_case : (b : Bool) (seen : List ℕ) (k : Clause) (ks : List Clause)
      → first_rules seen (map (rule_of claims c itself) (if b then k ∷ filter own ks else filter own ks))
      ≡ (if b then (if list_any (λ q. q == k.head.pred.0) seen then first_rules seen (map (rule_of claims c itself) (filter own ks)) else rule_of claims c itself k ∷ first_rules (k.head.pred.0 ∷ seen) (map (rule_of claims c itself) (filter own ks))) else first_rules seen (map (rule_of claims c itself) (filter own ks)))
  rules_case true seen k ks = refl
  rules_case false seen k ks = refl

  members_same : (seen ms : List ℕ) (ks : List Clause) → ((r : ℕ) → list_any (λ m. m == r) ms ≡ list_any (λ m. m == r) seen) → members_by_clauses comps c ms ks ≡ ms ++ listed seen ks
  members_same seen ms [] h = sym (append_none ms)
  members_same seen ms (k ∷ ks) h =
      member_case (own k) (list_any (λ q. q == k.head.pred.0) seen) (list_any (λ q. q == k.head.pred.0) ms) seen ms k ks (h k.head.pred.0) (members_same seen ms ks h)
      (members_same (k.head.pred.0 ∷ seen) (ms ++ k.head.pred.0 ∷ []) ks (same_any seen ms k.head.pred.0 h))
      ∙ ap (λ (rs : List Rule). ms ++ map (λ (x : Rule). x.member) rs) (sym (rules_case (own k) seen k ks))

  pub members_are : members_by_clauses comps c [] p.clauses ≡ members_of (component_view expression p comps rows c)
  members_are = members_same [] [] p.clauses (λ r. refl)
