use Rattle.std.proofs.Common.{◌≡◌, ◌∙◌, ◌∷◌, [], ℕ, List, Option, Some, None, slice_get, sym, ap, subst, arith}
use Rattle.std.specs.Prelude.{codes}
use Rattle.std.proofs.lemmas.Option.{slice_get_within}
use Rattle.cti_terms.specs.Numbers.{number_of, with_text}
use Rattle.cti_terms.specs.declared.naming.Name.{Name}
use Rattle.prolog_reader.specs.Names.{Extends}
use Rattle.prolog_reader.specs.Naming.{with_names}
use Rattle.prolog_reader.proofs.NameLemmas.{extends_trans, extends_with_text, number_kept}
use Rattle.clause_normal.proofs.operations.operations.Goals as goal

pub returns-clause-added : goal.returns-clause-added
unfolding with_names
returns-clause-added c =
    let two = c.in_ok-minus.ensures.added ∙ ap (λ (ns : List (List ℕ)). with_text ns (codes "-")) c.in_ok-plus.ensures.added in
    c.in_ok-times.ensures.added ∙ ap (λ (ns : List (List ℕ)). with_text ns (codes "*")) two

pub returns-clause-operations : goal.returns-clause-operations
returns-clause-operations c = λ later ext.
    let one = c.intern.new.self in
    let two = c.intern-2.new.self in
    let three = c.intern-3.new.self in
    let second : Extends one two = subst (λ (ns : List (List ℕ)). Extends one ns) (sym c.in_ok-minus.ensures.added) (extends_with_text one (codes "-")) in
    let third : Extends two three = subst (λ (ns : List (List ℕ)). Extends two ns) (sym c.in_ok-times.ensures.added) (extends_with_text two (codes "*")) in
    let after_two = extends_trans two three later third ext in
    let after_one = extends_trans one two later second after_two in
    let L : List (List ℕ) → Type 0 = λ ns. Extends ns later in
    let plus : number_of later (codes "+") ≡ c.in_ok-plus.plus.0 =
    number_kept c.args.names.now (codes "+") later (subst L c.in_ok-plus.ensures.added after_one) ∙ sym c.in_ok-plus.ensures.number in
    let minus : number_of later (codes "-") ≡ c.in_ok-minus.minus.0 = number_kept one (codes "-") later (subst L c.in_ok-minus.ensures.added after_two) ∙ sym c.in_ok-minus.ensures.number in
    let times : number_of later (codes "*") ≡ c.in_ok-times.times.0 = number_kept two (codes "*") later (subst L c.in_ok-times.ensures.added ext) ∙ sym c.in_ok-times.ensures.number in
    λ i. record { plus = record { 0 = plus i }; minus = record { 0 = minus i }; times = record { 0 = times i } }

-- the first byte of a text
first_byte : Option (List ℕ) → ℕ
first_byte None = 0
first_byte (Some []) = 0
first_byte (Some (b ∷ bs)) = b

pub returns-clause-three : goal.returns-clause-three
unfolding first_byte
returns-clause-three c =
    let one = c.intern.new.self in
    let two = c.intern-2.new.self in
    let three = c.intern-3.new.self in
    let plus = c.in_ok-plus.plus.0 in
    let minus = c.in_ok-minus.minus.0 in
    let times = c.in_ok-times.times.0 in
    let plus_two : slice_get two plus ≡ Some (codes "+") = c.in_ok-minus.ensures.kept plus (slice_get_within one plus (codes "+") c.in_ok-plus.ensures.spelled) ∙ c.in_ok-plus.ensures.spelled in
    let minus_two : slice_get two minus ≡ Some (codes "-") = c.in_ok-minus.ensures.spelled in
    let plus_three : slice_get three plus ≡ Some (codes "+") = c.in_ok-times.ensures.kept plus (slice_get_within two plus (codes "+") plus_two) ∙ plus_two in
    let minus_three : slice_get three minus ≡ Some (codes "-") = c.in_ok-times.ensures.kept minus (slice_get_within two minus (codes "-") minus_two) ∙ minus_two in
    let times_three : slice_get three times ≡ Some (codes "*") = c.in_ok-times.ensures.spelled in
    let at : Name → Option (List ℕ) = λ n. slice_get three n.0 in (
      λ e. let h : ◌≡◌ {A = ℕ} 43 45 = ap first_byte (sym plus_three ∙ ap at e ∙ minus_three) in omega (arith, h),
      λ e. let h : ◌≡◌ {A = ℕ} 43 42 = ap first_byte (sym plus_three ∙ ap at e ∙ times_three) in omega (arith, h),
      λ e. let h : ◌≡◌ {A = ℕ} 45 42 = ap first_byte (sym minus_three ∙ ap at e ∙ times_three) in omega (arith, h),
    )
