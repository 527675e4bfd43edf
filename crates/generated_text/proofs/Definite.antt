-- Each clause of a generated predicate leaves the operators as they are, and is definite.
use Rattle.std.proofs.Common.{◌≡◌, ℕ, zero, suc, ◌+◌, ◌-◌, ◌<◌, ◌≤◌, false, List, [], ◌∷◌, ◌++◌, codes, decimal, length, Option, None, refl, ◌∙◌, ap, arith}
use Rattle.std.specs.Str.Parse.{AllDigits}
use Rattle.std.proofs.lemmas.Fmt.{decimal_is_IsNumeral}
use Rattle.std.proofs.lemmas.Str.Parse.{digit_from_value}
use Rattle.cti_terms.specs.Tree.{Tree as Term}
use Rattle.prolog_grammar.specs.Placed.{part_tree}
use Rattle.prolog_grammar.specs.Walk.{walk}
use Rattle.prolog_operators.specs.Names.{name_text}
use Rattle.prolog_operators.specs.Table.{standard}
use Rattle.prolog_reader.specs.Words.{words_of}
use Rattle.prolog_reader.specs.Directive.{sets, effect}
use Rattle.clause_normal.specs.NormalForm.{Fault, named_head_fault}
use Rattle.clause_normal.specs.Bodies.{call, named_goal}
use Rattle.clause_normal.specs.Words.{is_impure, builtin_named, connective_of, neck_of}
use Rattle.clause_normal.specs.Definite.{parted_fault}
use Rattle.generated_text.proofs.Signs.{name_of}
use Rattle.generated_text.proofs.Shapes.{Shape, append_none, append_more, reverse_none, reverse_more, repeat, base, part}

-- a text of p and a digit
pub record Digits (text : List ℕ) : Type 0 where
  pub first : ℕ
  pub rest : List ℕ
  pub is : text ≡ first ∷ rest
  pub low : 48 ≤ first
  pub high : first ≤ 57

digits_first : (ds : List ℕ) → 0 < length ds → AllDigits 10 ds → Digits ds
digits_first [] some h = absurd (omega arith)
digits_first (d ∷ ds) some h =
    let r = digit_from_value d h.0 in
    record { first = d; rest = ds; is = refl; low = omega (arith, r); high = omega (arith, r) }

decimal_digits : (k : ℕ) → k < 1000 → Digits (decimal k)
decimal_digits k few = let n = decimal_is_IsNumeral k (omega (arith, few)) in digits_first (decimal k) n.0.0 n.0.1

-- no impure name is p and a digit
module _ (ds : List ℕ) where
  impure_two : (i : ℕ) → i < 10 → is_impure (112 ∷ (48 + i) ∷ ds) 2 ≡ false
  unfolding is_impure
  impure_two zero h = refl
  impure_two (suc zero) h = refl
  impure_two (suc (suc zero)) h = refl
  impure_two (suc (suc (suc zero))) h = refl
  impure_two (suc (suc (suc (suc zero)))) h = refl
  impure_two (suc (suc (suc (suc (suc zero))))) h = refl
  impure_two (suc (suc (suc (suc (suc (suc zero)))))) h = refl
  impure_two (suc (suc (suc (suc (suc (suc (suc zero))))))) h = refl
  impure_two (suc (suc (suc (suc (suc (suc (suc (suc zero)))))))) h = refl
  impure_two (suc (suc (suc (suc (suc (suc (suc (suc (suc zero))))))))) h = refl
  impure_two (suc (suc (suc (suc (suc (suc (suc (suc (suc (suc i)))))))))) h = absurd (omega arith)

  impure_three : (i : ℕ) → i < 10 → is_impure (112 ∷ (48 + i) ∷ ds) 3 ≡ false
  unfolding is_impure
  impure_three zero h = refl
  impure_three (suc zero) h = refl
  impure_three (suc (suc zero)) h = refl
  impure_three (suc (suc (suc zero))) h = refl
  impure_three (suc (suc (suc (suc zero)))) h = refl
  impure_three (suc (suc (suc (suc (suc zero))))) h = refl
  impure_three (suc (suc (suc (suc (suc (suc zero)))))) h = refl
  impure_three (suc (suc (suc (suc (suc (suc (suc zero))))))) h = refl
  impure_three (suc (suc (suc (suc (suc (suc (suc (suc zero)))))))) h = refl
  impure_three (suc (suc (suc (suc (suc (suc (suc (suc (suc zero))))))))) h = refl
  impure_three (suc (suc (suc (suc (suc (suc (suc (suc (suc (suc i)))))))))) h = absurd (omega arith)

module _ (d : ℕ) (ds : List ℕ) (low : 48 ≤ d) (high : d ≤ 57) where
  not_impure_two : is_impure (112 ∷ d ∷ ds) 2 ≡ false
  not_impure_two =
      let same : d ≡ 48 + (d - 48) = omega arith in
      ap (λ (x : ℕ). is_impure (112 ∷ x ∷ ds) 2) same ∙ impure_two ds (d - 48) (omega arith)

  not_impure_three : is_impure (112 ∷ d ∷ ds) 3 ≡ false
  not_impure_three =
      let same : d ≡ 48 + (d - 48) = omega arith in
      ap (λ (x : ℕ). is_impure (112 ∷ x ∷ ds) 3) same ∙ impure_three ds (d - 48) (omega arith)

  head_two : (at : ℕ) → named_head_fault (112 ∷ d ∷ ds) 2 at ≡ None
  unfolding builtin_named
  head_two at = rw not_impure_two refl

  head_three : (at : ℕ) → named_head_fault (112 ∷ d ∷ ds) 3 at ≡ None
  unfolding builtin_named
  head_three at = rw not_impure_three refl

  goal_two : (f at : ℕ) (t u : Term) → named_goal (112 ∷ d ∷ ds) f (t ∷ u ∷ []) at ≡ call f (t ∷ u ∷ [])
  goal_two f at t u = rw not_impure_two refl

  goal_three : (f at : ℕ) (t u v : Term) → named_goal (112 ∷ d ∷ ds) f (t ∷ u ∷ v ∷ []) at ≡ call f (t ∷ u ∷ v ∷ [])
  goal_three f at t u v = rw not_impure_three refl

  neck_two : neck_of (112 ∷ d ∷ ds) 2 ≡ neck_of (codes "x") 2
  unfolding neck_of
  neck_two = refl

  neck_three : neck_of (112 ∷ d ∷ ds) 3 ≡ neck_of (codes "x") 3
  unfolding neck_of
  neck_three = refl

  other_two : connective_of (112 ∷ d ∷ ds) 2 ≡ connective_of (codes "x") 2
  unfolding connective_of
  other_two = refl

  other_three : connective_of (112 ∷ d ∷ ds) 3 ≡ connective_of (codes "x") 3
  unfolding connective_of
  other_three = refl

-- the name of a predicate has its text
abbrev pub IsNamed : List (List ℕ) → (ℕ → ℕ) → ℕ → Type 0
IsNamed names w k = (k < 1000) × (name_text names (w k) ≡ name_of k)

-- so have all names of a clause
abbrev pub AreNamed : List (List ℕ) → (ℕ → ℕ) → Shape → Type 0
AreNamed names w (append_none k) = IsNamed names w k
AreNamed names w (append_more k) = IsNamed names w k
AreNamed names w (reverse_none k) = IsNamed names w k
AreNamed names w (reverse_more k j) = IsNamed names w k × IsNamed names w j
AreNamed names w (repeat k j) = IsNamed names w k × IsNamed names w j

-- what such a name means in a clause
record NamedSo (names : List (List ℕ)) (n : ℕ) : Type 0 where
  neck_two : neck_of (name_text names n) 2 ≡ neck_of (codes "x") 2
  neck_three : neck_of (name_text names n) 3 ≡ neck_of (codes "x") 3
  other_two : connective_of (name_text names n) 2 ≡ connective_of (codes "x") 2
  other_three : connective_of (name_text names n) 3 ≡ connective_of (codes "x") 3
  head_two : (at : ℕ) → named_head_fault (name_text names n) 2 at ≡ None
  head_three : (at : ℕ) → named_head_fault (name_text names n) 3 at ≡ None
  goal_two : (f at : ℕ) (t u : Term) → named_goal (name_text names n) f (t ∷ u ∷ []) at ≡ call f (t ∷ u ∷ [])
  goal_three : (f at : ℕ) (t u v : Term) → named_goal (name_text names n) f (t ∷ u ∷ v ∷ []) at ≡ call f (t ∷ u ∷ v ∷ [])

named_so : (names : List (List ℕ)) (w : ℕ → ℕ) (k : ℕ) → IsNamed names w k → NamedSo names (w k)
named_so names w k h =
    let d = decimal_digits k h.0 in
    let is : name_text names (w k) ≡ 112 ∷ (d.first ∷ d.rest) = h.1 ∙ ap (λ (ds : List ℕ). 112 ∷ ds) d.is in
    record {
      neck_two = ap (λ (t : List ℕ). neck_of t 2) is ∙ neck_two d.first d.rest d.low d.high;
      neck_three = ap (λ (t : List ℕ). neck_of t 3) is ∙ neck_three d.first d.rest d.low d.high;
      other_two = ap (λ (t : List ℕ). connective_of t 2) is ∙ other_two d.first d.rest d.low d.high;
      other_three = ap (λ (t : List ℕ). connective_of t 3) is ∙ other_three d.first d.rest d.low d.high;
      head_two = λ at. ap (λ (t : List ℕ). named_head_fault t 2 at) is ∙ head_two d.first d.rest d.low d.high at;
      head_three = λ at. ap (λ (t : List ℕ). named_head_fault t 3 at) is ∙ head_three d.first d.rest d.low d.high at;
      goal_two = λ f at t u. ap (λ (x : List ℕ). named_goal x f (t ∷ u ∷ []) at) is ∙ goal_two d.first d.rest d.low d.high f at t u;
      goal_three = λ f at t u v. ap (λ (x : List ℕ). named_goal x f (t ∷ u ∷ v ∷ []) at) is ∙ goal_three d.first d.rest d.low d.high f at t u v;
    }

module _ (more : List (List ℕ)) (w : ℕ → ℕ) where
  pub effect_is : (s : Shape) (at : ℕ) → effect (words_of (base ++ more)) (standard (base ++ more)) (part_tree (part more w s at)) ≡ sets (standard (base ++ more))
  unfolding walk
  effect_is (append_none k) at = refl
  effect_is (append_more k) at = refl
  effect_is (reverse_none k) at = refl
  effect_is (reverse_more k j) at = refl
  effect_is (repeat k j) at = refl

  module _ (names : List (List ℕ)) (comma : name_text names 0 ≡ codes ",") (neck : name_text names 4 ≡ codes ":-") (vars at : ℕ) where
    abbrev Faultless : Shape → Type 0
    Faultless s = ◌≡◌ {A = Option Fault} (parted_fault names (record { term = part_tree (part more w s at); vars = vars })) None

    implies : neck_of (name_text names 4) 2 ≡ neck_of (codes ":-") 2
    implies = ap (λ (t : List ℕ). neck_of t 2) neck

    and : connective_of (name_text names 0) 2 ≡ connective_of (codes ",") 2
    and = ap (λ (t : List ℕ). connective_of t 2) comma

    none_definite : (k : ℕ) → NamedSo names (w k) → Faultless (append_none k)
    unfolding walk neck_of connective_of
    none_definite k h = rw (h.neck_three, h.head_three) refl

    more_definite : (k : ℕ) → NamedSo names (w k) → Faultless (append_more k)
    unfolding walk neck_of connective_of
    more_definite k h = rw (implies, h.head_three, h.other_three, h.goal_three) refl

    reverse_none_definite : (k : ℕ) → NamedSo names (w k) → Faultless (reverse_none k)
    unfolding walk neck_of connective_of
    reverse_none_definite k h = rw (h.neck_two, h.head_two) refl

    reverse_more_definite : (k j : ℕ) → NamedSo names (w k) → NamedSo names (w j) → Faultless (reverse_more k j)
    unfolding walk neck_of connective_of
    reverse_more_definite k j h g = rw (implies, h.head_two, and, h.other_two, h.goal_two, g.other_three, g.goal_three) refl

    repeat_definite : (k j : ℕ) → NamedSo names (w k) → NamedSo names (w j) → Faultless (repeat k j)
    unfolding walk neck_of connective_of
    repeat_definite k j h g = simp (implies, h.head_two, and, g.other_two, g.goal_two)

    pub definite : (s : Shape) → AreNamed names w s → Faultless s
    definite (append_none k) h = none_definite k (named_so names w k h)
    definite (append_more k) h = more_definite k (named_so names w k h)
    definite (reverse_none k) h = reverse_none_definite k (named_so names w k h)
    definite (reverse_more k j) h = reverse_more_definite k j (named_so names w k h.0) (named_so names w j h.1)
    definite (repeat k j) h = repeat_definite k j (named_so names w k h.0) (named_so names w j h.1)
