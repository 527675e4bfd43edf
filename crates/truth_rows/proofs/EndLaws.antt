-- Laws of ends: what is determined by what is still asked for, and sets that say enough of that.
use Rattle.std.proofs.Common.{◌≡◌, ◌↔◌, ◌⊎◌, inl, inr, ℕ, ◌<◌, ◌≤◌, Bool, true, false, ◌&&◌, ◌||◌, IsTrue, List, [], ◌∷◌, length, map, slice_get, slice_set, Some, All, Contains, refl, ap, sym, subst, ◌∙◌, arith}
use Rattle.std.specs.List.{AllByRecursion}
use Rattle.std.proofs.lemmas.Bool.{and_parts, cases_eq, or_cases, or_left, or_right}
use Rattle.std.proofs.lemmas.List.Elements.{All-contains_itself}
use Rattle.bool_diagrams.specs.Tree.{with_value}
use Rattle.cti_terms.specs.Tree.{Tree}
use Rattle.term_size.specs.Norm.{ListsRigid}
use Rattle.truth_rows.specs.Ends.{Agree, IsAsked, IsPlacedOrTold, IsTold, SaysAsked}
use Rattle.truth_rows.proofs.ListLaws.{set_elsewhere, set_there}
use Rattle.termination_model.proofs.Lists.{place_below}
use Rattle.truth_rows.proofs.RowLaws.{both, same_bool, with_other, with_same}

-- what is asked for later is asked for now
pub asked_before : (ends : List ℕ) (n m x : ℕ) → n ≤ m → IsAsked ends m x → IsAsked ends n x
asked_before ends n m x le asked e at = let lt = asked e at in omega arith

pub agree_later : (ends : List ℕ) (n m : ℕ) (v w : ℕ → Bool) → n ≤ m → Agree ends n v w → Agree ends m v w
agree_later ends n m v w le agree x asked = agree x (asked_before ends n m x le asked)

-- a variable without an end is asked for
pub asked_past : (ends : List ℕ) (n x : ℕ) → length ends ≤ x → IsAsked ends n x
asked_past ends n x le e at = absurd (omega (arith, place_below ends x e at))

-- an end that is put off
pub asked_set : (ends : List ℕ) (x end old : ℕ) → slice_get ends x ≡ Some old → old ≤ end → (n y : ℕ) → IsAsked ends n y → IsAsked (slice_set ends x end) n y
asked_set ends x end old at le n y asked e f = elim (cases_eq y x) [
  | inl same ↦
      let g : slice_get (slice_set ends x end) y ≡ Some end = ap (slice_get (slice_set ends x end)) same ∙ set_there ends x end (place_below ends x old at) in
      let is : end ≡ e = cc in
      let lt = asked old (ap (slice_get ends) same ∙ at) in
      omega arith
  | inr other ↦ asked e (sym (set_elsewhere ends x y end other) ∙ f)
]

pub asked_there : (ends : List ℕ) (x end : ℕ) → x < length ends → (n : ℕ) → n < end → IsAsked (slice_set ends x end) n x
asked_there ends x end lt n less e f =
    let g = set_there ends x end lt in
    let is : end ≡ e = cc in
    omega arith

pub asked_already : (ends : List ℕ) (x end old : ℕ) → slice_get ends x ≡ Some old → end ≤ old → (n : ℕ) → n < end → IsAsked ends n x
asked_already ends x end old at le n less e f = let is : old ≡ e = cc in omega arith

-- what was determined stays so where more is asked for
pub told_more : (truth : (ℕ → Bool) → Tree → Bool) (old new : List ℕ) (n : ℕ) (t : Tree) → ((x : ℕ) → IsAsked old n x → IsAsked new n x) → IsTold truth old n t → IsTold truth new n t
told_more truth old new n t more told v w agree = told v w (λ x asked. agree x (more x asked))

pub all_told_more : (truth : (ℕ → Bool) → Tree → Bool) (old new : List ℕ) (n : ℕ) (ts : List Tree) → ((x : ℕ) → IsAsked old n x → IsAsked new n x) → AllByRecursion (IsTold truth old n) ts → AllByRecursion (IsTold truth new n) ts
all_told_more truth old new n [] more told = tt
all_told_more truth old new n (t ∷ ts) more told = (told_more truth old new n t more told.0, all_told_more truth old new n ts more told.1)

pub placed_more : (truth : (ℕ → Bool) → Tree → Bool) (old new : List ℕ) (end : ℕ) (row : ℕ → Bool) (j : ℕ) (t : Tree) → ((n x : ℕ) → IsAsked old n x → IsAsked new n x) → IsPlacedOrTold truth old end row j t → IsPlacedOrTold truth new end row j t
placed_more truth old new end row j t more (inl e) = inl e
placed_more truth old new end row j t more (inr told) = inr (λ n less. told_more truth old new n t (more n) (told n less))

pub row_told : (truth : (ℕ → Bool) → Tree → Bool) (ends : List ℕ) (n : ℕ) (ts : List Tree) → AllByRecursion (IsTold truth ends n) ts → (v w : ℕ → Bool) → Agree ends n v w → map (truth v) ts ≡ map (truth w) ts
row_told truth ends n [] told v w agree = refl
row_told truth ends n (t ∷ ts) told v w agree =
    let first = told.0 v w agree in
    let rest = row_told truth ends n ts told.1 v w agree in
    λ i. first i ∷ rest i

-- a term is determined by the variables that its rigidity asks for
pub listed_told : (truth : (ℕ → Bool) → Tree → Bool) (t : Tree) (variables : List ℕ) (ends : List ℕ) (n : ℕ) → ListsRigid truth t variables → ((x : ℕ) → Contains variables x → IsAsked ends n x) → IsTold truth ends n t
listed_told truth t variables ends n lists asked v w agree =
    same_bool (truth v t) (truth w t) (λ h. (lists w).1 (over v w agree ((lists v).0 h))) (λ h. (lists v).1 (over w v (λ x a. sym (agree x a)) ((lists w).0 h)))
  where
    over : (v w : ℕ → Bool) → Agree ends n v w → All (λ x. IsTrue (v x)) variables → All (λ x. IsTrue (w x)) variables
    over v w agree all k d lt = sym (agree _ (asked _ (All-contains_itself variables k d lt))) ∙ all k d lt

-- sets that say enough
pub says_itself : (ends : List ℕ) (n : ℕ) (P : (ℕ → Bool) → Type 0) (set : (ℕ → Bool) → Bool) → ((v : ℕ → Bool) → IsTrue (set v) ↔ P v) → SaysAsked ends n P set
says_itself ends n P set same = record { all = λ v. (same v).1; some = λ row t. (row, λ x asked. refl, (same row).0 t) }

pub says_same : (ends : List ℕ) (n : ℕ) (P Q : (ℕ → Bool) → Type 0) (set : (ℕ → Bool) → Bool) → ((v : ℕ → Bool) → P v ↔ Q v) → SaysAsked ends n P set → SaysAsked ends n Q set
says_same ends n P Q set same says = record {
  all = λ v q. says.all v ((same v).1 q);
  some = λ row t. let s = says.some row t in (s.0, s.1, (same s.0).0 s.2);
}

pub says_onward : (ends : List ℕ) (n m : ℕ) (P : (ℕ → Bool) → Type 0) (set : (ℕ → Bool) → Bool) → n ≤ m → SaysAsked ends n P set → SaysAsked ends m P set
says_onward ends n m P set le says = record {
  all = says.all;
  some = λ row t. let s = says.some row t in (s.0, agree_later ends n m s.0 row le s.1, s.2);
}

pub says_later : (ends : List ℕ) (n m : ℕ) (P : (ℕ → Bool) → Type 0) (set now : (ℕ → Bool) → Bool) → n ≤ m → SaysAsked ends n P set → SaysAsked ends m (λ v. IsTrue (set v)) now → SaysAsked ends m P now
says_later ends n m P set now le says then = record {
  all = λ v p. then.all v (says.all v p);
  some = λ row t.
      let a = then.some row t in
      let b = says.some a.0 a.2 in
      (b.0, λ x asked. b.1 x (asked_before ends n m x le asked) ∙ a.1 x asked, b.2);
}

-- the rows that are in a further set too, which is determined by what is asked for
pub says_both : (ends : List ℕ) (n : ℕ) (P Q : (ℕ → Bool) → Type 0) (set here now : (ℕ → Bool) → Bool) → SaysAsked ends n P set → ((v : ℕ → Bool) → IsTrue (here v) ↔ Q v) → ((v w : ℕ → Bool) → Agree ends n v w → Q v → Q w)
    → ((v : ℕ → Bool) → now v ≡ (set v && here v)) → SaysAsked ends n (λ v. P v × Q v) now
says_both ends n P Q set here now says same told is = record {
  all = λ v h. is v ∙ both (set v) (here v) (says.all v h.0) ((same v).1 h.1);
  some = λ row t.
      let a = and_parts (set row) (here row) (sym (is row) ∙ t) in
      let s = says.some row a.0 in
      (s.0, s.1, (s.2, told row s.0 (λ x asked. sym (s.1 x asked)) ((same row).0 a.1)));
}

-- the same where being in the further set is said by a property
pub says_where : (ends : List ℕ) (n : ℕ) (P Q : (ℕ → Bool) → Type 0) (set now : (ℕ → Bool) → Bool) → SaysAsked ends n P set → ((v : ℕ → Bool) → IsTrue (now v) ↔ (IsTrue (set v) × Q v)) → ((v w : ℕ → Bool) → Agree ends n v w → Q v → Q w)
    → SaysAsked ends n (λ v. P v × Q v) now
says_where ends n P Q set now says is told = record {
  all = λ v h. (is v).1 (says.all v h.0, h.1);
  some = λ row t.
      let a = (is row).0 t in
      let s = says.some row a.0 in
      (s.0, s.1, (s.2, told row s.0 (λ x asked. sym (s.1 x asked)) a.1));
}

-- the rows of either of two sets
pub says_either : (ends : List ℕ) (n : ℕ) (P Q : (ℕ → Bool) → Type 0) (set other now : (ℕ → Bool) → Bool) → SaysAsked ends n P set → SaysAsked ends n Q other → ((v : ℕ → Bool) → now v ≡ (set v || other v))
    → SaysAsked ends n (λ v. P v ⊎ Q v) now
says_either ends n P Q set other now first second is = record {
  all = λ v h. elim h [
    | inl p ↦ is v ∙ or_left (set v) (other v) (first.all v p)
    | inr q ↦ is v ∙ or_right (set v) (other v) (second.all v q)
  ];
  some = λ row t. elim (or_cases (set row) (other row) (sym (is row) ∙ t)) [
    | inl l ↦ let s = first.some row l in (s.0, s.1, inl s.2)
    | inr r ↦ let s = second.some row r in (s.0, s.1, inr s.2)
  ];
}

-- the rows with any value of a variable that nothing asks for
pub says_without : (ends : List ℕ) (n x : ℕ) (P : (ℕ → Bool) → Type 0) (set now : (ℕ → Bool) → Bool) → (IsAsked ends n x → ⊥) → SaysAsked ends n P set
    → ((row : ℕ → Bool) → now row ≡ (set (with_value row x false) || set (with_value row x true))) → SaysAsked ends n P now
says_without ends n x P set now ended says is = record { all = put; some = found }
  where
    own : (v : ℕ → Bool) → with_value v x (v x) ≡ v
    own v = λ i u. at u i
      where
        at : (u : ℕ) → with_value v x (v x) u ≡ v u
        at u = elim (cases_eq u x) [
          | inl same ↦ ap (with_value v x (v x)) same ∙ with_same v x (v x) ∙ ap v (sym same)
          | inr other ↦ with_other v x (v x) u other
        ]

    one : (v : ℕ → Bool) (b : Bool) → IsTrue (set (with_value v x b)) → IsTrue (set (with_value v x false) || set (with_value v x true))
    one v false t = or_left (set (with_value v x false)) (set (with_value v x true)) t
    one v true t = or_right (set (with_value v x false)) (set (with_value v x true)) t

    put : (v : ℕ → Bool) → P v → IsTrue (now v)
    put v p = is v ∙ one v (v x) (ap set (own v) ∙ says.all v p)

    back : (row : ℕ → Bool) (b : Bool) → IsTrue (set (with_value row x b)) → (v : ℕ → Bool) × Agree ends n v row × P v
    back row b t =
        let s = says.some (with_value row x b) t in
        (s.0, λ y asked. s.1 y asked ∙ with_other row x b y (λ same. ended (subst (IsAsked ends n) same asked)), s.2)

    found : (row : ℕ → Bool) → IsTrue (now row) → (v : ℕ → Bool) × Agree ends n v row × P v
    found row t = elim (or_cases (set (with_value row x false)) (set (with_value row x true)) (sym (is row) ∙ t)) [
      | inl l ↦ back row false l
      | inr r ↦ back row true r
    ]
